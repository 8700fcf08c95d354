-- Where an order wants its decoys, entry by entry.
use Rattle.std.proofs.Common.{◌≡◌, ℕ, zero, suc, ◌+◌, ◌%◌, ◌^◌, ◌<◌, ◌≤◌, List, [], ◌∷◌, ◌++◌, map, length, take, drop, replicate, Bool, true, false, cond, Option, Some, None, refl, sym, ap, ap₂, ◌∙◌, subst, arith, decimal, append_assoc}
use Rattle.std.specs.Prelude.{if◌then◌else◌, bytes_eq, codes, unwrap_or}
use Rattle.std.proofs.Math.Nat.{mod-lt}
use Rattle.std.specs.Ordering.{nat_cmp, is_eq}
use Rattle.std.specs.Cmp.Lexicographic.{slice_cmp}
use Rattle.std.specs.BTreeMap.{BTreeMap, get}
use Rattle.std.proofs.lemmas.List.{map-append, length-append, append-nil, drop_all}
use Rattle.std.proofs.lemmas.List.{length-replicate}
use Rattle.std.proofs.lemmas.Bool.{ne_eqb}
use Rattle.std.proofs.lemmas.Fmt.{decimal_by_steps}
use Rattle.std.proofs.lemmas.Grind.{flat_map-append}
use Rattle.std.proofs.lemmas.Map.Text.{is_eq-slice_cmp}
use Rattle.sd_outside.specs.Limits.{count_max}
use Rattle.std.specs.Cmp.{both_ways}
use Rattle.claim_tree.specs.Tree.{Text, Tree, leaf, array, object, elements_len}
use Rattle.claim_tree.specs.Path.{escaped_byte, escaped, pointer_text, tree_at}
use Rattle.sd_outside.proofs.Lists.{bytes_same, bytes_refl}
use Rattle.claim_tree.proofs.PointerTexts.{pointer_text-injective}
use Rattle.digest_sites.specs.declared.site.SiteKind.TheVariants.{Member, Element}
use Rattle.marked_tree.specs.Paths.{Path, same_path}
use Rattle.claim_tree.proofs.SamePaths.{path_same, path_refl}
use Rattle.issuer_core.specs.declared.order.Decoy.{Decoy}
use Rattle.issuer_core.specs.Decoys.{decoy_paths, earlier}
use Rattle.audit_core.specs.Audited.{Standing, standing, decoy_standing, standings_from}
use Rattle.audit_core.specs.AuditSteps.{kind_letter, standing_text}
use Rattle.audit_core.specs.Wanted.{count_at, member_texts, element_texts, entry_texts}
use Rattle.audit_core.proofs.Loops.{IsEntry}

-- ---- how many came before

abbrev count_in : Path → List Path → ℕ
count_in p xs = earlier (length xs) p xs

before_parts : (p : Path) (front more : List Path) (n k : ℕ) → n ≡ length front + k → earlier n p (front ++ more) ≡ count_in p front + earlier k p more
before_parts p [] more n k e = let same : n ≡ k = omega (arith, e) in subst (λ j. earlier n p more ≡ 0 + earlier j p more) same (omega arith)
before_parts p (x ∷ front) more zero k e = absurd (omega (arith, e))
before_parts p (x ∷ front) more (suc n) k e = let ih = before_parts p front more n k (omega (arith, e)) in omega (arith, ih)

run_count : (p at : Path) (n : ℕ) (rest : List Path) → earlier n p (replicate n at ++ rest) ≡ (if same_path at p then n else 0)
run_count p at zero rest = go (same_path at p)
  where
    go : (b : Bool) → ◌≡◌ {A = ℕ} 0 (if b then 0 else 0)
    go true = refl
    go false = refl
run_count p at (suc n) rest = go (same_path at p) (run_count p at n rest)
  where
    go : (b : Bool) → earlier n p (replicate n at ++ rest) ≡ (if b then n else 0) → (if b then 1 else 0) + earlier n p (replicate n at ++ rest) ≡ (if b then suc n else 0)
    go true ih = omega (arith, ih)
    go false ih = omega (arith, ih)

within_run : (at : Path) (j n : ℕ) (rest : List Path) → j ≤ n → earlier j at (replicate n at ++ rest) ≡ j
within_run at zero n rest l = refl
within_run at (suc j) zero rest l = absurd (omega (arith, l))
within_run at (suc j) (suc n) rest l =
    let ih = within_run at j n rest (omega (arith, l)) in
    let same = path_refl at at refl in
    rw same (omega (arith, ih))

-- ---- one entry

abbrev entry_list : Path → ℕ → ℕ → Option Tree → List Standing
entry_list at before zero t = []
entry_list at before (suc n) t = decoy_standing at before t ++ entry_list at (suc before) n t

run_standings : (claims : Tree) (all : List Path) (at : Path) (rest : List Path) (n d before : ℕ) → ((j : ℕ) → j < n → earlier (d + j) at all ≡ before + j)
    → standings_from claims all d (replicate n at ++ rest) ≡ entry_list at before n (tree_at claims at) ++ standings_from claims all (d + n) rest
run_standings claims all at rest zero d before h = ap (λ k. standings_from claims all k rest) (omega arith)
run_standings claims all at rest (suc n) d before h =
    let first : earlier d at all ≡ before = subst (λ k. earlier k at all ≡ before) (omega arith) (h 0 (omega arith) ∙ omega arith) in
    let more = run_standings claims all at rest n (suc d) (suc before) (λ j l. subst (λ k. earlier k at all ≡ suc before + j) (omega arith) (h (suc j) (omega (arith, l)) ∙ omega arith)) in
    ap₂ (λ (b : ℕ) (xs : List Standing). decoy_standing at b (tree_at claims at) ++ xs) first (more ∙ ap (λ k. entry_list at (suc before) n (tree_at claims at) ++ standings_from claims all k rest) (omega arith))
    ∙ sym (append_assoc (decoy_standing at before (tree_at claims at)) (entry_list at (suc before) n (tree_at claims at)) (standings_from claims all (d + suc n) rest))

member_list : (at : Path) (before n : ℕ) (ms : _) → map standing_text (entry_list at before n (Some (object ms))) ≡ member_texts at n
member_list at before zero ms = refl
member_list at before (suc n) ms = ap (λ (xs : List Text). standing_text (standing Member at) ∷ xs) (member_list at (suc before) n ms)

element_list : (at : Path) (before n first : ℕ) (es : _) → first ≡ elements_len es + before → map standing_text (entry_list at before n (Some (array es))) ≡ element_texts at first n
element_list at before zero first es e = refl
element_list at before (suc n) first es e =
    ap₂ (λ (k : ℕ) (xs : List Text). standing_text (standing Element (at ++ decimal k ∷ [])) ∷ xs) (sym e) (element_list at (suc before) n (suc first) es (omega (arith, e)))

no_list : (at : Path) (before n : ℕ) → entry_list at before n None ≡ []
no_list at before zero = refl
no_list at before (suc n) = no_list at (suc before) n

leaf_list : (at : Path) (before n : ℕ) (l : _) → entry_list at before n (Some (leaf l)) ≡ []
leaf_list at before zero l = refl
leaf_list at before (suc n) l = leaf_list at (suc before) n l

entry_is : (at : Path) (before n : ℕ) (t : Option Tree) → map standing_text (entry_list at before n t) ≡ entry_texts at before n t
entry_is at before n None = ap (map standing_text) (no_list at before n)
entry_is at before n (Some (leaf l)) = ap (map standing_text) (leaf_list at before n l)
entry_is at before n (Some (array es)) = element_list at before n (elements_len es + before) es refl
entry_is at before n (Some (object ms)) = member_list at before n ms

-- the texts of some decoys, where the first has the number d
abbrev pub texts_of : Tree → List Path → ℕ → List Path → List Text
texts_of claims all d decoys = map standing_text (standings_from claims all d decoys)

pub entry_step : (claims : Tree) (front : List Path) (at : Path) (n : ℕ) (rest all : List Path) (d before : ℕ) → all ≡ front ++ (replicate n at ++ rest) → d ≡ length front → before ≡ earlier d at all
    → texts_of claims all d (replicate n at ++ rest) ≡ entry_texts at before n (tree_at claims at) ++ texts_of claims all (d + n) rest
entry_step claims front at n rest all d before whole long b =
    let start : before ≡ count_in at front = b ∙ ap (earlier d at) whole ∙ before_parts at front (replicate n at ++ rest) d 0 (omega (arith, long)) ∙ omega arith in
    let each : (j : ℕ) → j < n → earlier (d + j) at all ≡ before + j =
    λ j l. ap (earlier (d + j) at) whole ∙ before_parts at front (replicate n at ++ rest) (d + j) j (omega (arith, long))
    ∙ ap₂ ◌+◌ (sym start) (within_run at j n rest (omega (arith, l))) in
    ap (map standing_text) (run_standings claims all at rest n d before each)
    ∙ map-append standing_text (entry_list at before n (tree_at claims at)) (standings_from claims all (d + n) rest)
    ∙ ap (λ (xs : List Text). xs ++ texts_of claims all (d + n) rest) (entry_is at before n (tree_at claims at))

pub counts_step : (p at : Path) (front : List Path) (n : ℕ) (rest all : List Path) (d : ℕ) → all ≡ front ++ (replicate n at ++ rest) → d ≡ length front
    → earlier (d + n) p all ≡ (if same_path at p then n else 0) + earlier d p all
counts_step p at front n rest all d whole long =
    let more = replicate n at ++ rest in
    let later = ap (earlier (d + n) p) whole ∙ before_parts p front more (d + n) n (omega (arith, long)) ∙ ap (λ k. count_in p front + k) (run_count p at n rest) in
    let now = ap (earlier d p) whole ∙ before_parts p front more d 0 (omega (arith, long)) in
    omega (arith, later, now)

pub pointer_test : (p q : Path) → bytes_eq (pointer_text p) (pointer_text q) ≡ same_path p q
pointer_test p q =
    both_ways (bytes_eq (pointer_text p) (pointer_text q)) (same_path p q)
    (λ e. path_refl p q (pointer_text-injective p q (bytes_same (pointer_text p) (pointer_text q) e)))
    (λ e. bytes_refl (pointer_text p) (pointer_text q) (ap pointer_text (path_same p q e)))

pub earlier_within : (n : ℕ) (p : Path) (xs : List Path) → earlier n p xs ≤ n
earlier_within zero p xs = omega arith
earlier_within (suc n) p [] = omega arith
earlier_within (suc n) p (x ∷ xs) = go (same_path x p) (earlier_within n p xs)
  where
    go : (b : Bool) → earlier n p xs ≤ n → (if b then 1 else 0) + earlier n p xs ≤ suc n
    go true ih = omega (arith, ih)
    go false ih = omega (arith, ih)

-- ---- the text of an element's place

digit : (n : ℕ) → n < 10 → escaped ((48 + n) ∷ []) ≡ (48 + n) ∷ []
digit n l = rw (ne_eqb (48 + n) 126 (λ e. omega (arith, l, e)), ne_eqb (48 + n) 47 (λ e. omega (arith, l, e))) refl

-- the digits of a position need no escape
plain_decimal : (n : ℕ) → n < 2 ^ 64 → escaped (decimal n) ≡ decimal n
plain_decimal n fits = decimal_by_steps (λ k ds. escaped ds ≡ ds) digit more n fits
  where
    more : (k : ℕ) (ds : List ℕ) → 10 ≤ k → escaped ds ≡ ds → escaped (ds ++ ((48 + k % 10) ∷ [])) ≡ ds ++ ((48 + k % 10) ∷ [])
    more k ds big ih = flat_map-append escaped_byte ds ((48 + k % 10) ∷ []) ∙ ap₂ (λ (xs ys : List ℕ). xs ++ ys) ih (digit (k % 10) (mod-lt k (omega arith)))

pub element_place : (at : Path) (pointer : Text) (n : ℕ) → n < 2 ^ 64 → pointer ≡ pointer_text at → ((kind_letter Element ++ pointer) ++ codes "/") ++ decimal n ≡ standing_text (standing Element (at ++ decimal n ∷ []))
element_place at pointer n fits is =
    let step : pointer_text (decimal n ∷ []) ≡ codes "/" ++ decimal n = append-nil (codes "/" ++ escaped (decimal n)) ∙ ap (λ (x : List ℕ). codes "/" ++ x) (plain_decimal n fits) in
    append_assoc (kind_letter Element ++ pointer) (codes "/") (decimal n) ∙ append_assoc (kind_letter Element) pointer (codes "/" ++ decimal n)
    ∙ ap (λ (x : Text). kind_letter Element ++ x)
    (ap₂ (λ (x y : Text). x ++ y) is (sym step) ∙ sym (flat_map-append (λ (s : Text). codes "/" ++ escaped s) at (decimal n ∷ [])))

-- ---- the counts in a map

pub noted : (old new : BTreeMap Text ℕ) (pointer : Text) (before more : ℕ) → before ≡ count_at old pointer
    → ((q : Text) → get (slice_cmp nat_cmp) new q ≡ cond (is_eq (slice_cmp nat_cmp pointer q)) (Some (before + more)) (get (slice_cmp nat_cmp) old q))
    → (q : Text) → count_at new q ≡ (if bytes_eq pointer q then more else 0) + count_at old q
noted old new pointer before more b h q = ap (λ (o : Option ℕ). unwrap_or o 0) (h q) ∙ ap (λ (t : Bool). unwrap_or (cond t (Some (before + more)) (get (slice_cmp nat_cmp) old q)) 0) (is_eq-slice_cmp pointer q) ∙ go (bytes_eq pointer q) refl
  where
    go : (t : Bool) → bytes_eq pointer q ≡ t → unwrap_or (cond t (Some (before + more)) (get (slice_cmp nat_cmp) old q)) 0 ≡ (if t then more else 0) + count_at old q
    go true e = let same = b ∙ ap (count_at old) (bytes_same pointer q e) in omega (arith, same)
    go false e = omega arith

-- ---- the loop over entries

abbrev CountsTell : BTreeMap Text ℕ → List Decoy → ℕ → Type 0
CountsTell counts es i = (p : Path) → count_at counts (pointer_text p) ≡ earlier (length (decoy_paths (take i es))) p (decoy_paths es)

abbrev AreSplit : List Decoy → ℕ → Type 0
AreSplit es i = decoy_paths es ≡ decoy_paths (take i es) ++ decoy_paths (drop i es)

before_is : (es : List Decoy) (i : ℕ) (e : Decoy) (counts : BTreeMap Text ℕ) (pointer : Text) → CountsTell counts es i → pointer ≡ pointer_text e.at
    → count_at counts pointer ≡ earlier (length (decoy_paths (take i es))) e.at (decoy_paths es)
before_is es i e counts pointer tell is = ap (count_at counts) is ∙ tell e.at

pub few_before : (es all : List Decoy) (i : ℕ) (e : Decoy) (counts : BTreeMap Text ℕ) (pointer : Text) (before : ℕ) → IsEntry es i e → AreSplit es i → CountsTell counts es i → pointer ≡ pointer_text e.at
    → before ≡ count_at counts pointer → es ≡ all → length (decoy_paths all) ≤ count_max → before + e.count ≤ count_max
few_before es all i e counts pointer before h whole tell is counted same few =
    let b = before_is es i e counts pointer tell is in
    let low = earlier_within (length (decoy_paths (take i es))) e.at (decoy_paths es) in
    let long = ap (λ (ps : List Path). length ps) whole ∙ length-append (decoy_paths (take i es)) (decoy_paths (drop i es)) in
    let rest = ap (λ (ps : List Path). length ps) h.left ∙ length-append (replicate e.count e.at) (decoy_paths (drop (i + 1) es)) in
    let within = subst (λ (ds : List Decoy). length (decoy_paths ds) ≤ count_max) (sym same) few in
    omega (arith, b, low, long, rest, length-replicate e.count e.at, counted, within)

split_again : (es : List Decoy) (i : ℕ) (e : Decoy) → IsEntry es i e → AreSplit es i → decoy_paths es ≡ decoy_paths (take i es) ++ (replicate e.count e.at ++ decoy_paths (drop (i + 1) es))
split_again es i e h whole = whole ∙ ap (λ (ps : List Path). decoy_paths (take i es) ++ ps) h.left

pub whole_step : (es : List Decoy) (i : ℕ) (e : Decoy) → IsEntry es i e → AreSplit es i → AreSplit es (i + 1)
whole_step es i e h whole =
    split_again es i e h whole ∙ sym (append_assoc (decoy_paths (take i es)) (replicate e.count e.at) (decoy_paths (drop (i + 1) es)))
    ∙ ap (λ (ps : List Path). ps ++ decoy_paths (drop (i + 1) es)) (sym h.so_far)

next_length : (es : List Decoy) (i : ℕ) (e : Decoy) → IsEntry es i e → length (decoy_paths (take (i + 1) es)) ≡ length (decoy_paths (take i es)) + e.count
next_length es i e h =
    ap (λ (ps : List Path). length ps) h.so_far ∙ length-append (decoy_paths (take i es)) (replicate e.count e.at) ∙ ap (λ (n : ℕ). length (decoy_paths (take i es)) + n) (length-replicate e.count e.at)

pub counts_after : (es : List Decoy) (i : ℕ) (e : Decoy) (old new : BTreeMap Text ℕ) (pointer : Text) → IsEntry es i e → AreSplit es i → CountsTell old es i → pointer ≡ pointer_text e.at
    → ((q : Text) → count_at new q ≡ (if bytes_eq pointer q then e.count else 0) + count_at old q) → CountsTell new es (i + 1)
counts_after es i e old new pointer h whole tell is noted p =
    let d = length (decoy_paths (take i es)) in
    noted (pointer_text p)
    ∙ ap₂ (λ (t : Bool) (n : ℕ). (if t then e.count else 0) + n) (ap (λ (x : Text). bytes_eq x (pointer_text p)) is ∙ pointer_test e.at p) (tell p)
    ∙ sym (counts_step p e.at (decoy_paths (take i es)) e.count (decoy_paths (drop (i + 1) es)) (decoy_paths es) d (split_again es i e h whole) refl)
    ∙ ap (λ (n : ℕ). earlier n p (decoy_paths es)) (sym (next_length es i e h))

pub texts_after : (claims : Tree) (es : List Decoy) (i : ℕ) (e : Decoy) (counts : BTreeMap Text ℕ) (pointer : Text) (before : ℕ) → IsEntry es i e → AreSplit es i → CountsTell counts es i → pointer ≡ pointer_text e.at
    → before ≡ count_at counts pointer
    → texts_of claims (decoy_paths es) (length (decoy_paths (take i es))) (decoy_paths (drop i es))
    ≡ entry_texts e.at before e.count (tree_at claims e.at) ++ texts_of claims (decoy_paths es) (length (decoy_paths (take (i + 1) es))) (decoy_paths (drop (i + 1) es))
texts_after claims es i e counts pointer before h whole tell is b =
    let d = length (decoy_paths (take i es)) in
    ap (texts_of claims (decoy_paths es) d) h.left
    ∙ entry_step claims (decoy_paths (take i es)) e.at e.count (decoy_paths (drop (i + 1) es)) (decoy_paths es) d before (split_again es i e h whole) refl (b ∙ before_is es i e counts pointer tell is)
    ∙ ap (λ (n : ℕ). entry_texts e.at before e.count (tree_at claims e.at) ++ texts_of claims (decoy_paths es) n (decoy_paths (drop (i + 1) es))) (sym (next_length es i e h))

pub texts_end : (claims : Tree) (es : List Decoy) (i : ℕ) (items : List Text) → length es ≤ i
    → items ++ texts_of claims (decoy_paths es) (length (decoy_paths (take i es))) (decoy_paths (drop i es)) ≡ texts_of claims (decoy_paths es) 0 (decoy_paths es)
    → items ≡ texts_of claims (decoy_paths es) 0 (decoy_paths es)
texts_end claims es i items l inv =
    sym (append-nil items) ∙ ap (λ (ds : List Decoy). items ++ texts_of claims (decoy_paths es) (length (decoy_paths (take i es))) (decoy_paths ds)) (sym (drop_all i es l)) ∙ inv
