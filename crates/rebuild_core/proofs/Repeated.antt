-- Texts numbered in turn, and the first that repeats an earlier one.
use Rattle.std.proofs.Common.{◌≡◌, ℕ, zero, suc, ◌<◌, ◌≤◌, List, [], ◌∷◌, ◌++◌, map, length, get_or, take, Bool, true, false, cond, bytes_eq, inl, inr, refl, sym, ap, ◌∙◌, subst, arith}
use Rattle.claim_tree.specs.Tree.{Text}
use Rattle.sd_outside.specs.Lists.{StandsAt, In, Repeats}
use Rattle.sd_outside.proofs.Lists.{bytes_same, bytes_refl, At-In, At-below, At-same, At-map, take-At}
use Rattle.digest_index.specs.Index.{position_or_end, interned}
use Rattle.digest_index.proofs.Positions.{position_or_end-within}
use Rattle.digest_index.proofs.Interned.{interned-new}
use Rattle.digest_sites.specs.Given.{Given}
use Rattle.digest_sites.specs.GivenView.{given_of}
use Rattle.digest_sites.specs.declared.given.Given as code
use Rattle.rebuild_core.specs.Reached.{given_digests}
use Rattle.rebuild_core.proofs.GivenFacts.{item_at}
use Rattle.std.proofs.lemmas.List.{length-map, length-take-le}

-- ---- places of texts

pub place_there : (xs : List Text) (d : Text) → position_or_end d xs < length xs → StandsAt xs (position_or_end d xs) d
place_there [] d h = absurd (omega (arith, h))
place_there (x ∷ xs) d h = go (bytes_eq d x) refl h (place_there xs d)
  where
    go : (b : Bool) → bytes_eq d x ≡ b → cond b 0 (suc (position_or_end d xs)) < length (x ∷ xs) → (position_or_end d xs < length xs → StandsAt xs (position_or_end d xs) d)
        → StandsAt (x ∷ xs) (cond b 0 (suc (position_or_end d xs))) d
    go true e h ih = bytes_same d x e
    go false e h ih = ih (omega (arith, h))

pub place_absent : (xs : List Text) (d : Text) → length xs ≤ position_or_end d xs → In d xs → ⊥
place_absent (x ∷ xs) d h m = go (bytes_eq d x) refl h m (place_absent xs d)
  where
    go : (b : Bool) → bytes_eq d x ≡ b → length (x ∷ xs) ≤ cond b 0 (suc (position_or_end d xs)) → In d (x ∷ xs) → (length xs ≤ position_or_end d xs → In d xs → ⊥) → ⊥
    go true e h m ih = omega (arith, h)
    go false e h (inl s) ih = let t = bytes_refl d x s in cc
    go false e h (inr m) ih = ih (omega (arith, h)) m
place_absent [] d h m = elim m [ ]

-- ---- the first texts

At-take : {X : Type 0} (xs : List X) (i j : ℕ) (x : X) → StandsAt (take i xs) j x → StandsAt xs j x × (j < i)
At-take (y ∷ ys) (suc i) zero x h = (h, omega arith)
At-take (y ∷ ys) (suc i) (suc j) x h = let w = At-take ys i j x h in (w.0, omega (arith, w.1))
At-take (y ∷ ys) zero j x h = elim h [ ]
At-take [] zero j x h = elim h [ ]
At-take [] (suc i) j x h = elim h [ ]

take-one : {X : Type 0} (xs : List X) (i : ℕ) (x : X) → StandsAt xs i x → take (suc i) xs ≡ take i xs ++ x ∷ []
take-one (y ∷ ys) zero x h = ap (λ z. z ∷ []) (sym h)
take-one (y ∷ ys) (suc i) x h = ap (λ zs. y ∷ zs) (take-one ys i x h)
take-one [] i x h = elim h [ ]

-- text i has an earlier place, so it repeats
pub repeats_there : (ds : List Text) (i : ℕ) (d : Text) → StandsAt ds i d → position_or_end d (take i ds) < i → Repeats ds i
repeats_there ds i d a h =
    let n : length (take i ds) ≡ i = length-take-le i ds (omega (arith, At-below ds i d a)) in
    let b = At-take ds i (position_or_end d (take i ds)) d (place_there (take i ds) d (omega (arith, h, n))) in
    (d, a, position_or_end d (take i ds), b.1, b.0)

-- it has none, so it is new
pub repeats_new : (ds : List Text) (i : ℕ) (d : Text) → StandsAt ds i d → i ≤ position_or_end d (take i ds) → Repeats ds i → ⊥
repeats_new ds i d a h r =
    let n : length (take i ds) ≡ i = length-take-le i ds (omega (arith, At-below ds i d a)) in
    let same : r.0 ≡ d = At-same ds i r.0 d r.1 a in
    let b = take-At ds i r.2 d (subst (λ z. StandsAt ds r.2 z) same r.4) r.3 in
    place_absent (take i ds) d (omega (arith, h, n)) (At-In (take i ds) r.2 d b)

pub grows_new : (ds : List Text) (i : ℕ) (d : Text) → StandsAt ds i d → i ≤ position_or_end d (take i ds) → interned d (take i ds) ≡ take (suc i) ds
grows_new ds i d a h =
    let n : length (take i ds) ≡ i = length-take-le i ds (omega (arith, At-below ds i d a)) in
    let e : position_or_end d (take i ds) ≡ length (take i ds) = omega (arith, h, n, position_or_end-within d (take i ds)) in
    interned-new d (take i ds) e ∙ sym (take-one ds i d a)

-- ---- the digests of disclosures

pub at_given : (items : List code.Given) (given : List Given) (i : ℕ) (x : code.Given) → map given_of items ≡ given → i < length items → x ≡ get_or items i x → StandsAt (given_digests given) i x.digest
at_given items given i x e h s = At-map (λ (y : Given). y.digest) given i (given_of x) (item_at items given i x e h s)

pub length-digests : (given : List Given) → length (given_digests given) ≡ length given
length-digests [] = refl
length-digests (x ∷ given) = ap suc (length-digests given)

pub digests_past : (items : List code.Given) (given : List Given) (i : ℕ) (d : Text) → map given_of items ≡ given → StandsAt (given_digests given) i d → i < length items
digests_past items given i d e h =
    let few : length (map given_of items) ≡ length items = length-map items given_of in
    let all : length (map given_of items) ≡ length given = ap length e in
    omega (arith, few, all, length-digests given, At-below (given_digests given) i d h)
