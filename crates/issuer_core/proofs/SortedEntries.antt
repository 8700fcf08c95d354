-- Decoys' digests beside their paths, sorted by the paths, and numbered.
use Rattle.std.proofs.Common.{◌≡◌, ◌≢◌, ℕ, zero, suc, ◌+◌, ◌<◌, List, [], ◌∷◌, ◌++◌, length, take, get_or, Bool, true, false, cond, not, ◌&&◌, Ordering, Less, Equal, Greater, Some, append_assoc, refl, sym, ap, ap₂, subst, ◌∙◌, arith}
use Rattle.std.specs.List.{filter}
use Rattle.std.specs.List.Sorted.{IsSortedBy, IsStableBy, ties}
use Rattle.std.specs.Prelude.{replicate}
use Rattle.std.specs.Ordering.{is_lt, ordering_reverse, ordering_then}
use Rattle.std.proofs.lemmas.Cmp.{tied_itself}
use Rattle.std.proofs.lemmas.List.{length-map, length-append}
use Rattle.std.proofs.Math.Seq.{take-length}
use Rattle.std.specs.List.{slice_get}
use Rattle.claim_tree.specs.Tree.{Text}
use Rattle.marked_tree.specs.Paths.{Path, same_path}
use Rattle.marked_tree.specs.Rests.{step_cmp, path_order, AreSorted}
use Rattle.marked_tree.proofs.StepOrder.{same_step}
use Rattle.marked_tree.proofs.PathOrder.{paths_total, are_sorted}
use Rattle.issuer_core.specs.Decoys.{decoys_at}
use Rattle.issuer_core.specs.Laying.{nth, digests_on_path, paths_in, digests_in}
use Rattle.claim_tree.proofs.SamePaths.{path_same, path_refl}

abbrev pub Entry : Type 0
Entry = Path × Text

abbrev pub lower : Entry → Entry → Bool
lower a b = is_lt (path_order a.0 b.0)

-- ---- paths that tie are the same

tied_paths : (p q : Path) → path_order p q ≡ Equal → p ≡ q
tied_paths [] [] e = refl
tied_paths [] (l ∷ q) e = cc
tied_paths (k ∷ p) [] e = cc
tied_paths (k ∷ p) (l ∷ q) e = go (step_cmp k l) refl e (λ f. tied_paths p q f)
  where
    go : (o : Ordering) → step_cmp k l ≡ o → ordering_then o (path_order p q) ≡ Equal → (path_order p q ≡ Equal → p ≡ q) → k ∷ p ≡ l ∷ q
    go Less c f ih = cc
    go Greater c f ih = cc
    go Equal c f ih = let a = same_step k l c in let b = ih f in cc

not_tied : (p q : Path) → path_order q p ≢ Equal → same_path p q ≡ false
not_tied p q n = go (same_path p q) refl
  where
    go : (b : Bool) → same_path p q ≡ b → b ≡ false
    go true e = absurd (n (subst (λ r. path_order q r ≡ Equal) (sym (path_same p q e)) (tied_itself paths_total q)))
    go false e = refl

tie_is : (q : Path) (e : Entry) → ties lower (q, []) e ≡ same_path e.0 q
tie_is q e = go (path_order q e.0) refl
  where
    go : (o : Ordering) → path_order q e.0 ≡ o → (not (is_lt o) && not (is_lt (path_order e.0 q))) ≡ same_path e.0 q
    go Less c = sym (not_tied e.0 q (λ f. let w : Less ≡ Equal = sym c ∙ f in cc))
    go Equal c = let same = tied_paths q e.0 c in
        let back : path_order e.0 q ≡ Equal = subst (λ r. path_order r q ≡ Equal) same (tied_itself paths_total q) in
        let alike : same_path e.0 q ≡ true = subst (λ r. same_path r q ≡ true) same (path_refl q q refl) in
        rw (back, alike) refl
    go Greater c =
        let back : path_order e.0 q ≡ Less = (paths_total).antisymm e.0 q ∙ ap ordering_reverse c in
        rw back (sym (not_tied e.0 q (λ f. let w : Greater ≡ Equal = sym c ∙ f in cc)))

-- ---- a stable sort

placed_filtered : (q : Path) (es : List Entry) → digests_on_path (paths_in es) (digests_in es) q ≡ digests_in (filter (ties lower (q, [])) es)
placed_filtered q [] = refl
placed_filtered q (e ∷ es) = rw (tie_is q e) (go (same_path e.0 q) (placed_filtered q es))
  where
    go : (b : Bool) → digests_on_path (paths_in es) (digests_in es) q ≡ digests_in (filter (ties lower (q, [])) es)
        → cond b (e.1 ∷ []) [] ++ digests_on_path (paths_in es) (digests_in es) q ≡ digests_in (cond b (e ∷ filter (ties lower (q, [])) es) (filter (ties lower (q, [])) es))
    go true ih = ap (λ (ds : List Text). e.1 ∷ ds) ih
    go false ih = ih

pub placed_sorted : (xs ys : List Entry) → IsStableBy lower xs ys → (q : Path) → digests_on_path (paths_in ys) (digests_in ys) q ≡ digests_on_path (paths_in xs) (digests_in xs) q
placed_sorted xs ys stable q = placed_filtered q ys ∙ (ap digests_in (stable (q, [])) ∙ sym (placed_filtered q xs))

path_at : (es : List Entry) (k : ℕ) (d : Path) (e : Entry) → k < length es → get_or (paths_in es) k d ≡ (get_or es k e).0
path_at [] k d e l = absurd (omega arith)
path_at (x ∷ es) zero d e l = refl
path_at (x ∷ es) (suc k) d e l = path_at es k d e (omega (arith, l))

pub paths_sorted : (es : List Entry) → IsSortedBy lower es → AreSorted (paths_in es)
paths_sorted es s = are_sorted (paths_in es) (λ k d l h.
    let e : Entry = (d, []) in
    let there : k + 1 < length es = omega (arith, h, length-map es (λ (e : Entry). e.0)) in
    let low : is_lt (path_order (get_or es (k + 1) e).0 (get_or es k e).0) ≡ false = s k e l there in
    rw (path_at es (k + 1) d e there, path_at es k d e (omega (arith, there))) low)

-- ---- one entry more

replicate_more : (n : ℕ) (at : Path) → replicate n at ++ at ∷ [] ≡ replicate (n + 1) at
replicate_more zero at = refl
replicate_more (suc n) at = let more : suc n + 1 ≡ suc (n + 1) = omega arith in rw more (ap (λ (ps : List Path). at ∷ ps) (replicate_more n at))

paths_pushed : (es : List Entry) (p : Path) (t : Text) → paths_in (es ++ (p, t) ∷ []) ≡ paths_in es ++ p ∷ []
paths_pushed [] p t = refl
paths_pushed (e ∷ es) p t = ap (λ (ps : List Path). e.0 ∷ ps) (paths_pushed es p t)

digests_pushed : (es : List Entry) (p : Path) (t : Text) → digests_in (es ++ (p, t) ∷ []) ≡ digests_in es ++ t ∷ []
digests_pushed [] p t = refl
digests_pushed (e ∷ es) p t = ap (λ (ds : List Text). e.1 ∷ ds) (digests_pushed es p t)

got_more : (ds : List Text) (i : ℕ) (t : Text) → Some t ≡ slice_get ds i → take i ds ++ t ∷ [] ≡ take (i + 1) ds
got_more [] i t e = cc
got_more (d ∷ ds) zero t e = let same : t ≡ d = cc in ap (λ (x : Text). x ∷ []) same
got_more (d ∷ ds) (suc i) t e = let more : suc i + 1 ≡ suc (i + 1) = omega arith in rw more (ap (λ (xs : List Text). d ∷ xs) (got_more ds i t e))

pub entry_more : (es new : List Entry) (p : Path) (t : Text) (olds : List Path) (n : ℕ) (at : Path) (digests : List Text) (m : ℕ) → new ≡ es ++ (p, t) ∷ [] → p ≡ at → Some t ≡ slice_get digests (length es)
    → paths_in es ≡ olds ++ replicate n at → digests_in es ≡ take (length es) digests → length es ≡ m + n
    → (paths_in new ≡ olds ++ replicate (n + 1) at) × (digests_in new ≡ take (length new) digests) × (length new ≡ m + (n + 1))
entry_more es new p t olds n at digests m is same got paths taken many =
    let long : length new ≡ length es + 1 = ap length is ∙ length-append es ((p, t) ∷ []) in
    let steps = ap paths_in is ∙ (paths_pushed es p t ∙ (ap₂ (λ (xs : List Path) (x : Path). xs ++ x ∷ []) paths same ∙ (append_assoc olds (replicate n at) (at ∷ []) ∙ ap (λ (xs : List Path). olds ++ xs) (replicate_more n at)))) in
    let texts = ap digests_in is ∙ (digests_pushed es p t ∙ (ap (λ (xs : List Text). xs ++ t ∷ []) taken ∙ (got_more digests (length es) t got ∙ ap (λ k. take k digests) (sym long)))) in
    (steps, texts, omega (arith, long, many))

-- all entries
pub all_entries : (es : List Entry) (digests : List Text) (ps : List Path) → paths_in es ≡ ps → digests_in es ≡ take (length es) digests → length digests ≡ length ps → digests_in es ≡ digests
all_entries es digests ps paths taken same =
    let long : length es ≡ length digests = sym (length-map es (λ (e : Entry). e.0)) ∙ (ap length paths ∙ sym same) in
    taken ∙ (ap (λ k. take k digests) long ∙ take-length digests)

-- ---- numbered

pub placed_numbered : (paths : List Path) (digests : List Text) (dg : ℕ → Text) (n : ℕ) → length digests ≡ length paths → ((k : ℕ) → k < length paths → nth digests k ≡ dg (n + k)) → (at : Path)
    → digests_on_path paths digests at ≡ decoys_at dg n paths at
placed_numbered [] digests dg n same each at = refl
placed_numbered (p ∷ ps) [] dg n same each at = absurd (omega (arith, same))
placed_numbered (p ∷ ps) (d ∷ ds) dg n same each at =
    let zeroth : n + 0 ≡ n = omega arith in
    let first : d ≡ dg n = each 0 (omega arith) ∙ ap dg zeroth in
    let rest = placed_numbered ps ds dg (suc n) (omega (arith, same)) (λ k l. each (suc k) (omega (arith, l)) ∙ ap dg (let e : n + suc k ≡ suc n + k = omega arith in e)) at in
    rw first (ap (λ (xs : List Text). cond (same_path p at) (dg n ∷ []) [] ++ xs) rest)
