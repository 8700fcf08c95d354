-- Lists of standings are alike where their texts sort to one list.
use Rattle.std.proofs.Common.{◌≡◌, ℕ, zero, suc, ◌+◌, ◌≤◌, ◌⊎◌, inl, inr, List, [], ◌∷◌, ◌++◌, map, Bool, true, false, cond, Ordering, Less, Equal, Greater, refl, sym, ap, ap₂, ◌∙◌, subst, arith}
use Rattle.std.specs.Prelude.{bytes_eq, if◌then◌else◌}
use Rattle.std.specs.List.{count_by}
use Rattle.std.proofs.lemmas.Bool.{true≢false, false_from_ne_true, and_parts, and_from}
use Rattle.std.proofs.lemmas.List.Sums.{sum_by-cons}
use Rattle.std.specs.Ordering.{match_ordering, is_lt}
use Rattle.std.specs.Cmp.{both_ways}
use Rattle.claim_tree.specs.Tree.{Text}
use Rattle.sd_outside.specs.Lists.{In}
use Rattle.claim_tree.specs.Path.{pointer_text}
use Rattle.sd_outside.proofs.Lists.{bytes_refl, bytes_same, In-of_map}
use Rattle.claim_tree.proofs.MapPlaces.{cmp, same_name, before_after, after_before}
use Rattle.claim_tree.proofs.PointerTexts.{pointer_text-injective}
use Rattle.digest_sites.specs.declared.site.SiteKind.{SiteKind}
use Rattle.digest_sites.specs.declared.site.SiteKind.TheVariants.{Member, Element}
use Rattle.issuer_core.specs.Issued.{occurs}
use Rattle.issuer_core.specs.Laid.{sorted, sorted_with}
use Rattle.marked_tree.proofs.RisingTexts.{NoneBelow, Rising, less_then}
use Rattle.issuer_core.proofs.SortedDigests.{sorted_rising}
use Rattle.issuer_core.proofs.IssuedForgery.{is_there}
use Rattle.marked_tree.specs.Paths.{Path, same_path}
use Rattle.claim_tree.proofs.SamePaths.{path_refl, path_same}
use Rattle.audit_core.specs.Audited.{Standing, same_kind, same_standing, IsEachAsOften}
use Rattle.audit_core.specs.AuditSteps.{kind_letter, standing_text}

-- ---- sorting moves texts

abbrev one_for : Text → Text → ℕ
one_for other d = if bytes_eq other d then 1 else 0

occurs_with : (d x : Text) (xs : List Text) → occurs d (sorted_with x xs) ≡ one_for x d + occurs d xs
occurs_with d x [] = refl
occurs_with d x (y ∷ ys) = go (cmp x y) (occurs_with d x ys)
  where
    go : (o : Ordering) → occurs d (sorted_with x ys) ≡ one_for x d + occurs d ys
        → occurs d (match_ordering o (x ∷ y ∷ ys) (x ∷ y ∷ ys) (y ∷ sorted_with x ys)) ≡ one_for x d + (one_for y d + occurs d ys)
    go Less ih = refl
    go Equal ih = refl
    go Greater ih = omega (arith, ih)

pub occurs_sorted : (d : Text) (xs : List Text) → occurs d (sorted xs) ≡ occurs d xs
occurs_sorted d [] = refl
occurs_sorted d (x ∷ xs) = occurs_with d x (sorted xs) ∙ ap (λ (n : ℕ). one_for x d + n) (occurs_sorted d xs)

-- ---- one rising list

own : (x : Text) (xs : List Text) → 1 ≤ occurs x (x ∷ xs)
own x xs = rw (bytes_refl x x refl) (omega arith)

less_greater : Less ≡ Greater → ⊥
less_greater e = let w : true ≡ false = ap is_lt e in true≢false w

-- below all others it is none of them
absent : (x : Text) (ys : List Text) → ((y : Text) → In y ys → cmp x y ≡ Less) → occurs x ys ≡ 0
absent x [] low = refl
absent x (y ∷ ys) low =
    let other : bytes_eq y x ≡ false = false_from_ne_true (bytes_eq y x) (λ e. let s = bytes_same y x e in let l = low y (inl refl) in apart x (subst (λ z. cmp x z ≡ Less) s l)) in
    let rest = absent x ys (λ z h. low z (inr h)) in
    rw other (omega (arith, rest))
  where
    apart : (z : Text) → cmp z z ≡ Less → ⊥
    apart z l = less_greater (sym l ∙ after_before z z l)

above : (x y : Text) (ys : List Text) → cmp x y ≡ Less → NoneBelow y ys → (z : Text) → In z (y ∷ ys) → cmp x z ≡ Less
above x y ys l n z (inl e) = subst (λ w. cmp x w ≡ Less) (sym e) l
above x y [] l n z (inr h) = absurd h
above x y (w ∷ ys) l n z (inr (inl e)) = subst (λ v. cmp x v ≡ Less) (sym e) (less_then x y w l n.0)
above x y (w ∷ ys) l n z (inr (inr h)) = above x y ys l n.1 z (inr h)

pub one_order : (xs ys : List Text) → Rising xs → Rising ys → ((d : Text) → occurs d xs ≡ occurs d ys) → xs ≡ ys
one_order [] [] r s same = refl
one_order [] (y ∷ ys) r s same = let w = own y ys in absurd (omega (arith, w, same y))
one_order (x ∷ xs) [] r s same = let w = own x xs in absurd (omega (arith, w, same x))
one_order (x ∷ xs) (y ∷ ys) r s same = go (cmp x y) refl (one_order xs ys r.1 s.1)
  where
    rest : (u : Text) → u ≡ y → u ≡ x → (d : Text) → occurs d xs ≡ occurs d ys
    rest u e f d = let head : one_for x d ≡ one_for y d = ap (λ (z : Text). one_for z d) (sym f ∙ e) in omega (arith, same d, head)

    go : (o : Ordering) → cmp x y ≡ o → (((d : Text) → occurs d xs ≡ occurs d ys) → xs ≡ ys) → x ∷ xs ≡ y ∷ ys
    go Less c ih = let w = own x xs in let v = absent x (y ∷ ys) (above x y ys c s.0) in absurd (omega (arith, w, v, same x))
    go Greater c ih = let w = own y ys in let v = absent y (x ∷ xs) (above y x xs (before_after x y c) r.0) in absurd (omega (arith, w, v, same y))
    go Equal c ih = let e = same_name x y c in ap₂ (λ (z : Text) (zs : List Text). z ∷ zs) e (ih (rest x e refl))

-- ---- standings and their texts

kind_same : (a b : SiteKind) (p q : Text) → kind_letter a ++ p ≡ kind_letter b ++ q → (same_kind a b ≡ true) × (p ≡ q)
kind_same Member Member p q e = (refl, cc)
kind_same Element Element p q e = (refl, cc)
kind_same Member Element p q e = let n : ◌≡◌ {A = ℕ} 109 101 = cc in absurd (omega (arith, n))
kind_same Element Member p q e = let n : ◌≡◌ {A = ℕ} 101 109 = cc in absurd (omega (arith, n))

kind_is : (a b : SiteKind) → same_kind a b ≡ true → a ≡ b
kind_is Member Member e = refl
kind_is Element Element e = refl
kind_is Member Element e = let w : false ≡ true = e in cc
kind_is Element Member e = let w : false ≡ true = e in cc

text_same : (x y : Standing) → same_standing x y ≡ true → standing_text y ≡ standing_text x
text_same x y e =
    let w = and_parts (same_kind x.kind y.kind) (same_path x.at y.at) e in
    ap₂ (λ (k : SiteKind) (p : Path). kind_letter k ++ pointer_text p) (sym (kind_is x.kind y.kind w.0)) (sym (path_same x.at y.at w.1))

same_text : (x y : Standing) → standing_text y ≡ standing_text x → same_standing x y ≡ true
same_text x y e =
    let w = kind_same x.kind y.kind (pointer_text x.at) (pointer_text y.at) (sym e) in
    and_from (same_kind x.kind y.kind) (same_path x.at y.at) w.0 (path_refl x.at y.at (pointer_text-injective x.at y.at w.1))

tests : (x y : Standing) → same_standing x y ≡ bytes_eq (standing_text y) (standing_text x)
tests x y =
    both_ways (same_standing x y) (bytes_eq (standing_text y) (standing_text x))
    (λ e. bytes_refl (standing_text y) (standing_text x) (text_same x y e)) (λ e. same_text x y (bytes_same (standing_text y) (standing_text x) e))

counts : (x : Standing) (ys : List Standing) → count_by (same_standing x) ys ≡ occurs (standing_text x) (map standing_text ys)
counts x [] = refl
counts x (y ∷ ys) = sum_by-cons (λ (z : Standing). cond (same_standing x z) 1 0) y ys ∙ ap₂ (λ (b : Bool) (n : ℕ). cond b 1 0 + n) (tests x y) (counts x ys)

pub alike : (xs ys : List Standing) → sorted (map standing_text xs) ≡ sorted (map standing_text ys) → IsEachAsOften xs ys
alike xs ys e x =
    let d = standing_text x in
    counts x xs ∙ sym (occurs_sorted d (map standing_text xs)) ∙ ap (occurs d) e ∙ occurs_sorted d (map standing_text ys) ∙ sym (counts x ys)

some_or_none : (d : Text) (xs ys : List Standing) → IsEachAsOften xs ys → In d (map standing_text xs) ⊎ In d (map standing_text ys) → occurs d (map standing_text xs) ≡ occurs d (map standing_text ys)
some_or_none d xs ys h there =
    elim there [
      | inl w ↦ let v = In-of_map standing_text d xs w in for_text v.0 v.2
      | inr w ↦ let v = In-of_map standing_text d ys w in for_text v.0 v.2
    ]
  where
    for_text : (x : Standing) → d ≡ standing_text x → occurs d (map standing_text xs) ≡ occurs d (map standing_text ys)
    for_text x e = subst (λ f. occurs f (map standing_text xs) ≡ occurs f (map standing_text ys)) (sym e) (sym (counts x xs) ∙ h x ∙ counts x ys)

occurrences : (d : Text) (xs ys : List Standing) → IsEachAsOften xs ys → occurs d (map standing_text xs) ≡ occurs d (map standing_text ys)
occurrences d xs ys h = go (occurs d (map standing_text xs)) refl
  where
    back : (m : ℕ) → occurs d (map standing_text xs) ≡ 0 → occurs d (map standing_text ys) ≡ m → 0 ≡ occurs d (map standing_text ys)
    back zero e f = sym f
    back (suc m) e f = sym e ∙ some_or_none d xs ys h (inr (is_there d (map standing_text ys) (omega (arith, f))))

    go : (n : ℕ) → occurs d (map standing_text xs) ≡ n → occurs d (map standing_text xs) ≡ occurs d (map standing_text ys)
    go zero e = e ∙ back (occurs d (map standing_text ys)) e refl
    go (suc n) e = some_or_none d xs ys h (inl (is_there d (map standing_text xs) (omega (arith, e))))

pub sorted_alike : (xs ys : List Standing) → IsEachAsOften xs ys → sorted (map standing_text xs) ≡ sorted (map standing_text ys)
sorted_alike xs ys h =
    one_order (sorted (map standing_text xs)) (sorted (map standing_text ys)) (sorted_rising (map standing_text xs)) (sorted_rising (map standing_text ys))
    (λ d. occurs_sorted d (map standing_text xs) ∙ occurrences d xs ys h ∙ sym (occurs_sorted d (map standing_text ys)))
