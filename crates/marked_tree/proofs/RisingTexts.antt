-- Texts that do not fall: there is one such list of them.
use Rattle.std.proofs.Common.{◌≡◌, ◌≢◌, ℕ, suc, ◌<◌, ◌≤◌, List, [], ◌∷◌, length, get_or, Bool, true, false, cond, not, ◌&&◌, Ordering, Less, Equal, Greater, refl, sym, ap, subst, ◌∙◌, arith}
use Rattle.std.specs.Prelude.{bytes_eq}
use Rattle.std.specs.List.{filter}
use Rattle.std.specs.List.Sorted.{IsSortedBy, ties}
use Rattle.std.specs.Ordering.{is_lt}
use Rattle.std.proofs.lemmas.List.Sorted.{sorted_far, ranks_by}
use Rattle.claim_tree.specs.Tree.{Text}
use Rattle.sd_outside.proofs.Lists.{bytes_refl}
use Rattle.claim_tree.proofs.MapPlaces.{cmp, order, same_name, before_after, less_clash}
use Rattle.marked_tree.specs.Rests.{AfterNone, InOrder}
use Rattle.marked_tree.proofs.Names.{tie_turned}
use Rattle.marked_tree.proofs.Lookups.{apart, apart_back}

abbrev pub lower : Text → Text → Bool
lower x y = is_lt (cmp x y)

pub tie_is : (x y : Text) → ties lower x y ≡ bytes_eq y x
tie_is x y = go (cmp x y) refl
  where
    go : (o : Ordering) → cmp x y ≡ o → (not (is_lt o) && not (is_lt (cmp y x))) ≡ bytes_eq y x
    go Less e = sym (apart_back x y e)
    go Equal e = rw (tie_turned x y e) (sym (bytes_refl y x (sym (same_name x y e))))
    go Greater e = rw (before_after x y e) (sym (apart y x (before_after x y e)))

-- ---- texts that do not fall

abbrev pub NoneBelow : Text → List Text → Type 0
NoneBelow x xs = AfterNone cmp x xs

abbrev pub Rising : List Text → Type 0
Rising xs = InOrder cmp xs

none_below : (x : Text) (xs : List Text) → ((k : ℕ) (d : Text) → k < length xs → is_lt (cmp (get_or xs k d) x) ≡ false) → NoneBelow x xs
none_below x [] all = tt
none_below x (y ∷ ys) all = (λ g. less_clash (cmp y x) (before_after x y g) (all 0 y (omega arith)), none_below x ys (λ k d l. all (suc k) d (omega (arith, l))))

rising_pairs : (xs : List Text) → ((i j : ℕ) (d : Text) → i ≤ j → j < length xs → is_lt (cmp (get_or xs j d) (get_or xs i d)) ≡ false) → Rising xs
rising_pairs [] all = tt
rising_pairs (x ∷ xs) all = (none_below x xs (λ k d l. all 0 (suc k) d (omega arith) (omega (arith, l))), rising_pairs xs (λ i j d l h. all (suc i) (suc j) d (omega (arith, l)) (omega (arith, h))))

pub rising : (xs : List Text) → IsSortedBy lower xs → Rising xs
rising xs s = rising_pairs xs (sorted_far lower (ranks_by order (λ (x : Text). x)) xs s)

pub less_then : (x y z : Text) → cmp x y ≡ Less → cmp y z ≢ Greater → cmp x z ≡ Less
less_then x y z l n = go (cmp y z) refl
  where
    go : (o : Ordering) → cmp y z ≡ o → cmp x z ≡ Less
    go Less e = (order).trans x y z l e
    go Equal e = subst (λ w. cmp x w ≡ Less) (same_name y z e) l
    go Greater e = absurd (n e)

pub below_all : (d e : Text) (ds : List Text) → cmp d e ≢ Greater → NoneBelow e ds → NoneBelow d ds
below_all d e [] n all = tt
below_all d e (f ∷ ds) n all = (through (cmp d e) refl, below_all d e ds n all.1)
  where
    through : (o : Ordering) → cmp d e ≡ o → cmp d f ≢ Greater
    through Less c g = let w : Less ≡ Greater = sym (less_then d e f c all.0) ∙ g in cc
    through Equal c g = all.0 (subst (λ w. cmp w f ≡ Greater) (same_name d e c) g)
    through Greater c g = absurd (n c)

-- which of them are x
abbrev pub same_as : Text → List Text → List Text
same_as x ys = filter (ties lower x) ys

pub swapped : (b c : Bool) (d e : Text) (ds : List Text) → (b ≡ true → c ≡ true → d ≡ e) → cond c (e ∷ cond b (d ∷ ds) ds) (cond b (d ∷ ds) ds) ≡ cond b (d ∷ cond c (e ∷ ds) ds) (cond c (e ∷ ds) ds)
swapped true true d e ds same = let one = same refl refl in cc
swapped true false d e ds same = refl
swapped false true d e ds same = refl
swapped false false d e ds same = refl

-- ---- one rising list

-- x comes before each
abbrev Later : Text → List Text → Type 0
Later x [] = Unit {0}
Later x (y ∷ ys) = (cmp x y ≡ Less) × Later x ys

none_same : (x : Text) (ys : List Text) → Later x ys → same_as x ys ≡ []
none_same x [] l = refl
none_same x (y ∷ ys) l = rw (tie_is x y, apart_back x y l.0) (none_same x ys l.1)

later : (x y : Text) (ys : List Text) → cmp x y ≡ Less → NoneBelow y ys → Later x ys
later x y [] l all = tt
later x y (z ∷ ys) l all = (less_then x y z l all.0, later x y ys l all.1)

itself : (x : Text) (ys : List Text) → same_as x (x ∷ ys) ≡ x ∷ same_as x ys
itself x ys = rw (tie_is x x, bytes_refl x x refl) refl

tail_same : (b : Bool) (x : Text) (ys zs : List Text) → cond b (x ∷ ys) ys ≡ cond b (x ∷ zs) zs → ys ≡ zs
tail_same true x ys zs e = cc
tail_same false x ys zs e = e

pub one_rising : (ys zs : List Text) → Rising ys → Rising zs → ((x : Text) → same_as x ys ≡ same_as x zs) → ys ≡ zs
one_rising [] [] r s same = refl
one_rising [] (z ∷ zs) r s same = absurd (let w : [] ≡ z ∷ same_as z zs = same z ∙ itself z zs in cc)
one_rising (y ∷ ys) [] r s same = absurd (let w : y ∷ same_as y ys ≡ [] = sym (itself y ys) ∙ same y in cc)
one_rising (y ∷ ys) (z ∷ zs) r s same = go (cmp y z) refl (λ tails. one_rising ys zs r.1 s.1 tails)
  where
    go : (o : Ordering) → cmp y z ≡ o → (((x : Text) → same_as x ys ≡ same_as x zs) → ys ≡ zs) → y ∷ ys ≡ z ∷ zs
    go Less c ih = absurd (let w : y ∷ same_as y ys ≡ [] = sym (itself y ys) ∙ same y ∙ none_same y (z ∷ zs) (c, later y z zs c s.0) in cc)
    go Greater c ih = let d = before_after y z c in absurd (let w : z ∷ same_as z zs ≡ [] = sym (itself z zs) ∙ sym (same z) ∙ none_same z (y ∷ ys) (d, later z y ys d r.0) in cc)
    go Equal c ih =
        let one = same_name y z c in
        let tails : ys ≡ zs = ih (λ x. tail_same (ties lower x y) y (same_as x ys) (same_as x zs) (same x ∙ ap (λ (w : Text). cond (ties lower x w) (w ∷ same_as x zs) (same_as x zs)) (sym one))) in
        cc
