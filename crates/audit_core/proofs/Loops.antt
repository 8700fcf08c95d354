-- Steps of the loops over sites and over entries of decoys.
use Rattle.std.proofs.Common.{◌≡◌, ℕ, zero, suc, ◌+◌, ◌<◌, ◌≤◌, List, [], ◌∷◌, ◌++◌, map, length, take, drop, get_or, replicate, Bool, true, false, ◌||◌, inl, inr, add-one, refl, sym, ap, ap₂, ◌∙◌, subst, arith, append_assoc, decimal}
use Rattle.std.specs.Prelude.{bytes_eq}
use Rattle.std.proofs.lemmas.List.{append-nil, length-map, take_all, drop_all, drop_more}
use Rattle.claim_tree.specs.Tree.{Text, elements_len}
use Rattle.sd_outside.specs.Lists.{In}
use Rattle.claim_tree.specs.ListViews.{elements_of}
use Rattle.claim_tree.specs.declared.tree.Tree as tree
use Rattle.sd_outside.proofs.Lists.{At-In, At-get_or}
use Rattle.digest_sites.specs.Given.{Given}
use Rattle.digest_sites.specs.GivenView.{given_of}
use Rattle.digest_sites.specs.declared.given.Given as given
use Rattle.digest_sites.specs.declared.site.Site.{Site}
use Rattle.digest_sites.specs.declared.site.SiteKind.TheVariants.{Element}
use Rattle.disclosure.specs.declared.digests.HashAlg.{HashAlg}
use Rattle.marked_tree.specs.Paths.{Path}
use Rattle.issuer_core.specs.declared.order.Decoy.{Decoy}
use Rattle.issuer_core.specs.Decoys.{decoy_paths}
use Rattle.audit_core.specs.Audited.{standing, is_given, IsDigestText}
use Rattle.audit_core.specs.AuditSteps.{standing_text}
use Rattle.audit_core.specs.Found.{AreDigests}
use Rattle.audit_core.specs.Wanted.{element_texts}

-- ---- what stands at a place of a list that is another, mapped

pub record IsThere {X Y : Type 0} (f : X → Y) (xs : List X) (k : ℕ) (item : Y) : Type 0 where
  pub x : X
  pub left : drop k xs ≡ x ∷ drop (k + 1) xs
  pub so_far : take (k + 1) xs ≡ take k xs ++ x ∷ []
  pub is : f x ≡ item

there_suc : {X Y : Type 0} (f : X → Y) (xs : List X) (k : ℕ) (item : Y) → k < length xs → item ≡ get_or (map f xs) k item
    → (x : X) × (drop k xs ≡ x ∷ drop (suc k) xs) × (take (suc k) xs ≡ take k xs ++ x ∷ []) × (f x ≡ item)
there_suc f [] k item l e = absurd (omega arith)
there_suc f (x ∷ xs) zero item l e = (x, refl, refl, sym e)
there_suc f (x ∷ xs) (suc k) item l e =
    let r = there_suc f xs k item (omega (arith, l)) e in
    (r.0, r.1, ap (λ ys. x ∷ ys) r.2, r.3)

pub there : {X Y : Type 0} (f : X → Y) (xs : List X) (items : List Y) (k : ℕ) (item : Y) → map f xs ≡ items → k < length items → item ≡ get_or items k item → IsThere f xs k item
there f xs items k item same l e =
    let long : k < length xs = subst (λ n. k < n) (length-map xs f) (subst (λ ys. k < length ys) (sym same) l) in
    let r = there_suc f xs k item long (subst (λ ys. item ≡ get_or ys k item) (sym same) e) in
    record {
      x = r.0;
      left = subst (λ n. drop k xs ≡ r.0 ∷ drop n xs) (sym (add-one k)) r.1;
      so_far = subst (λ n. take n xs ≡ take k xs ++ r.0 ∷ []) (sym (add-one k)) r.2;
      is = r.3;
    }

-- ---- sites

pub digests_more : (hash : HashAlg) (ss : List Site) (k : ℕ) (s : Site) → k < length ss → s ≡ get_or ss k s → IsDigestText hash s.digest
    → (AreDigests hash (drop k ss) → AreDigests hash ss) → AreDigests hash (drop (k + 1) ss) → AreDigests hash ss
digests_more hash ss k s l is form so_far rest = so_far (subst (AreDigests hash) (sym (drop_more ss k s l)) both)
  where
    both : (z : Site) → In z (get_or ss k s ∷ drop (k + 1) ss) → IsDigestText hash z.digest
    both z (inl e) = subst (λ (x : Site). IsDigestText hash x.digest) (is ∙ sym e) form
    both z (inr m) = rest z m

pub digests_end : (hash : HashAlg) (ss : List Site) (k : ℕ) → length ss ≤ k → (AreDigests hash (drop k ss) → AreDigests hash ss) → AreDigests hash ss
digests_end hash ss k l so_far = so_far (subst (AreDigests hash) (sym (drop_all k ss l)) (λ s m. absurd m))

pub digest_there : (hash : HashAlg) (ss : List Site) (k : ℕ) (s : Site) → k < length ss → s ≡ get_or ss k s → AreDigests hash ss → IsDigestText hash s.digest
digest_there hash ss k s l is all = subst (λ (x : Site). IsDigestText hash x.digest) (sym is) (all (get_or ss k s) (At-In ss k (get_or ss k s) (At-get_or ss k s l)))

-- ---- decoys

pub elements_more : (at : Path) (n first : ℕ) → element_texts at first (n + 1) ≡ element_texts at first n ++ standing_text (standing Element (at ++ decimal (first + n) ∷ [])) ∷ []
elements_more at zero first = ap (λ (k : ℕ). standing_text (standing Element (at ++ decimal k ∷ [])) ∷ []) (omega arith)
elements_more at (suc n) first =
    ap (element_texts at first) (let e : suc n + 1 ≡ suc (n + 1) = omega arith in e)
    ∙ ap (λ (xs : List Text). standing_text (standing Element (at ++ decimal first ∷ [])) ∷ xs)
    (elements_more at n (suc first) ∙ ap (λ (k : ℕ). element_texts at (suc first) n ++ standing_text (standing Element (at ++ decimal k ∷ [])) ∷ []) (omega arith))

pub list_length : (ts : List tree.Tree) (es : _) → elements_of ts ≡ es → length ts ≡ elements_len es
list_length ts es e = go ts ∙ ap elements_len e
  where
    go : (us : List tree.Tree) → length us ≡ elements_len (elements_of us)
    go [] = refl
    go (u ∷ us) = ap suc (go us)

pub record IsEntry (es : List Decoy) (i : ℕ) (e : Decoy) : Type 0 where
  pub left : decoy_paths (drop i es) ≡ replicate e.count e.at ++ decoy_paths (drop (i + 1) es)
  pub so_far : decoy_paths (take (i + 1) es) ≡ decoy_paths (take i es) ++ replicate e.count e.at

pub paths-append : (es fs : List Decoy) → decoy_paths (es ++ fs) ≡ decoy_paths es ++ decoy_paths fs
paths-append [] fs = refl
paths-append (e ∷ es) fs = ap (λ (ps : List Path). replicate e.count e.at ++ ps) (paths-append es fs) ∙ sym (append_assoc (replicate e.count e.at) (decoy_paths es) (decoy_paths fs))

pub entry : (es : List Decoy) (i : ℕ) (e : Decoy) → i < length es → e ≡ get_or es i e → IsEntry es i e
entry es i e l is =
    let w = there (λ (d : Decoy). d) es es i e (map_same es) l is in
    record {
      left = ap decoy_paths (w.left ∙ ap (λ (d : Decoy). d ∷ drop (i + 1) es) w.is);
      so_far = ap decoy_paths (w.so_far ∙ ap (λ (d : Decoy). take i es ++ d ∷ []) w.is) ∙ paths-append (take i es) (e ∷ []) ∙ ap (λ (ps : List Path). decoy_paths (take i es) ++ ps) (append-nil (replicate e.count e.at));
    }
  where
    map_same : (xs : List Decoy) → map (λ (d : Decoy). d) xs ≡ xs
    map_same [] = refl
    map_same (x ∷ xs) = ap (λ (ys : List Decoy). x ∷ ys) (map_same xs)

-- ---- the digests of disclosures

pub given_more : (items : List given.Given) (k : ℕ) (x : given.Given) (digest : Text) (before after : Bool) (put : Text) → k < length items → x ≡ get_or items k x → put ≡ x.digest
    → before ≡ is_given (map given_of (take k items)) digest → after ≡ (bytes_eq digest put || before) → after ≡ is_given (map given_of (take (k + 1) items)) digest
given_more items k x digest before after put l is same b a =
    let h = there (λ (y : given.Given). y) items items k x (map_id items) l is in
    let front = take k items in
    a ∙ ap₂ (λ (d : Text) (t : Bool). bytes_eq digest d || t) (same ∙ ap (λ (y : given.Given). y.digest) (sym h.is)) b
    ∙ sym (ap (λ (ys : List given.Given). is_given (map given_of ys) digest) h.so_far ∙ last_any front h.x digest)
  where
    map_id : (xs : List given.Given) → map (λ (y : given.Given). y) xs ≡ xs
    map_id [] = refl
    map_id (y ∷ ys) = ap (λ (zs : List given.Given). y ∷ zs) (map_id ys)

    or_move : (a b d : Bool) → (a || (b || d)) ≡ (b || (a || d))
    or_move true true d = refl
    or_move true false d = refl
    or_move false b d = refl

    last_any : (ys : List given.Given) (y : given.Given) (d : Text) → is_given (map given_of (ys ++ y ∷ [])) d ≡ (bytes_eq d y.digest || is_given (map given_of ys) d)
    last_any [] y d = refl
    last_any (z ∷ ys) y d = ap (λ (t : Bool). bytes_eq d z.digest || t) (last_any ys y d) ∙ or_move (bytes_eq d z.digest) (bytes_eq d y.digest) (is_given (map given_of ys) d)

pub given_all : (items : List given.Given) (gs : List Given) (k : ℕ) (digest : Text) → length items ≤ k → map given_of items ≡ gs → is_given (map given_of (take k items)) digest ≡ is_given gs digest
given_all items gs k digest l same = ap (λ (ys : List given.Given). is_given (map given_of ys) digest) (take_all k items l) ∙ ap (λ (ys : List Given). is_given ys digest) same
