-- Elements of lists and tests on them, by cases on the list.
use Rattle.std.proofs.Common.{◌≡◌, ℕ, zero, suc, ◌+◌, ◌<◌, List, [], ◌∷◌, ◌++◌, map, length, take, slice_get, get_or, Bool, true, ◌⊎◌, inl, inr, ⊎_elim, Option, Some, refl, sym, ap, ◌∙◌, subst, arith}
use Rattle.std.specs.Prelude.{bytes_eq}
use Rattle.std.specs.List.{list_any}
use Rattle.std.proofs.lemmas.Bool.{or_cases, or_left, or_right}
use Rattle.std.proofs.lemmas.Slice.Eq.{bytes_eq-Decides}
use Rattle.sd_outside.specs.Lists.{StandsAt, In, Repeats, AtNone, IsLeast}

pub bytes_same : (a b : List ℕ) → bytes_eq a b ≡ true → a ≡ b
bytes_same a b h = (bytes_eq-Decides a b).0 h

pub bytes_refl : (a b : List ℕ) → a ≡ b → bytes_eq a b ≡ true
bytes_refl a b h = (bytes_eq-Decides a b).1 h

-- one of two numbers is less, or they are one
pub compare_lt : (a b : ℕ) → (a < b) ⊎ ((a ≡ b) ⊎ (b < a))
compare_lt a b = grind arith

pub In-left : {X : Type 0} (x : X) (xs ys : List X) → In x xs → In x (xs ++ ys)
In-left x (z ∷ xs) ys (inl e) = inl e
In-left x (z ∷ xs) ys (inr h) = inr (In-left x xs ys h)
In-left x [] ys h = elim h [ ]

pub In-right : {X : Type 0} (x : X) (xs ys : List X) → In x ys → In x (xs ++ ys)
In-right x [] ys h = h
In-right x (z ∷ xs) ys h = inr (In-right x xs ys h)

pub In-append : {X : Type 0} (x : X) (xs ys : List X) → In x (xs ++ ys) → In x xs ⊎ In x ys
In-append x [] ys h = inr h
In-append x (z ∷ xs) ys (inl e) = inl (inl e)
In-append x (z ∷ xs) ys (inr h) = ⊎_elim (λ l. inl (inr l)) (λ r. inr r) (In-append x xs ys h)

pub In-map : {X Y : Type 0} (f : X → Y) (x : X) (xs : List X) → In x xs → In (f x) (map f xs)
In-map f x (z ∷ xs) (inl e) = inl (ap f e)
In-map f x (z ∷ xs) (inr h) = inr (In-map f x xs h)
In-map f x [] h = elim h [ ]

pub In-of_map : {X Y : Type 0} (f : X → Y) (y : Y) (xs : List X) → In y (map f xs) → (x : X) × In x xs × (y ≡ f x)
In-of_map f y (z ∷ xs) (inl e) = (z, inl refl, e)
In-of_map f y (z ∷ xs) (inr h) = let w = In-of_map f y xs h in (w.0, inr w.1, w.2)
In-of_map f y [] h = elim h [ ]

pub At-In : {X : Type 0} (xs : List X) (i : ℕ) (x : X) → StandsAt xs i x → In x xs
At-In (y ∷ ys) zero x h = inl h
At-In (y ∷ ys) (suc i) x h = inr (At-In ys i x h)
At-In [] i x h = elim h [ ]

pub In-At : {X : Type 0} (xs : List X) (x : X) → In x xs → (i : ℕ) × StandsAt xs i x
In-At (y ∷ ys) x (inl e) = (0, e)
In-At (y ∷ ys) x (inr h) = let w = In-At ys x h in (suc w.0, w.1)
In-At [] x h = elim h [ ]

-- what is read at a place stands there
pub got_stands : {X : Type 0} (xs : List X) (i : ℕ) (x : X) → slice_get xs i ≡ Some x → StandsAt xs i x
got_stands [] i x e = absurd (cc e)
got_stands (y ∷ xs) zero x e = let same : Some y ≡ Some x = e in sym (cc same)
got_stands (y ∷ xs) (suc i) x e = got_stands xs i x e

pub At-same : {X : Type 0} (xs : List X) (i : ℕ) (x y : X) → StandsAt xs i x → StandsAt xs i y → x ≡ y
At-same (z ∷ zs) zero x y h k = h ∙ sym k
At-same (z ∷ zs) (suc i) x y h k = At-same zs i x y h k
At-same [] i x y h k = elim h [ ]

pub At-map : {X Y : Type 0} (f : X → Y) (xs : List X) (i : ℕ) (x : X) → StandsAt xs i x → StandsAt (map f xs) i (f x)
At-map f (z ∷ zs) zero x h = ap f h
At-map f (z ∷ zs) (suc i) x h = At-map f zs i x h
At-map f [] i x h = elim h [ ]

pub At-below : {X : Type 0} (xs : List X) (i : ℕ) (x : X) → StandsAt xs i x → i < length xs
At-below (z ∷ zs) zero x h = omega arith
At-below (z ∷ zs) (suc i) x h = omega (arith, At-below zs i x h)
At-below [] i x h = elim h [ ]

pub At-get : {X : Type 0} (xs : List X) (i : ℕ) → i < length xs → (x : X) × StandsAt xs i x
At-get (z ∷ zs) zero h = (z, refl)
At-get (z ∷ zs) (suc i) h = At-get zs i (omega arith)
At-get [] i h = absurd (omega arith)

pub At-get_or : {X : Type 0} (xs : List X) (i : ℕ) (d : X) → i < length xs → StandsAt xs i (get_or xs i d)
At-get_or (z ∷ zs) zero d h = refl
At-get_or (z ∷ zs) (suc i) d h = At-get_or zs i d (omega arith)
At-get_or [] i d h = absurd (omega arith)

-- in a longer list, and in its front
pub At-left : {X : Type 0} (xs ys : List X) (i : ℕ) (x : X) → StandsAt xs i x → StandsAt (xs ++ ys) i x
At-left (z ∷ xs) ys zero x h = h
At-left (z ∷ xs) ys (suc i) x h = At-left xs ys i x h
At-left [] ys i x h = elim h [ ]

pub At-right : {X : Type 0} (xs ys : List X) (i : ℕ) (x : X) → StandsAt ys i x → StandsAt (xs ++ ys) (length xs + i) x
At-right [] ys i x h = let e : 0 + i ≡ i = omega arith in rw e h
At-right (z ∷ xs) ys i x h = let e : suc (length xs) + i ≡ suc (length xs + i) = omega arith in rw e (At-right xs ys i x h)

pub take-At : {X : Type 0} (xs : List X) (i j : ℕ) (x : X) → StandsAt xs j x → j < i → StandsAt (take i xs) j x
take-At (z ∷ zs) (suc i) zero x h l = h
take-At (z ∷ zs) (suc i) (suc j) x h l = take-At zs i j x h (omega arith)
take-At (z ∷ zs) zero j x h l = absurd (omega arith)
take-At [] i j x h l = elim h [ ]

-- an element of an image, and of two lists in a row
pub At-of_map : {X Y : Type 0} (f : X → Y) (xs : List X) (i : ℕ) (y : Y) → StandsAt (map f xs) i y → (x : X) × StandsAt xs i x × (y ≡ f x)
At-of_map f (z ∷ zs) zero y h = (z, refl, h)
At-of_map f (z ∷ zs) (suc i) y h = At-of_map f zs i y h
At-of_map f [] i y h = elim h [ ]

pub At-either : {X : Type 0} (xs ys : List X) (i : ℕ) (x : X) → StandsAt (xs ++ ys) i x → StandsAt xs i x ⊎ ((j : ℕ) × (i ≡ length xs + j) × StandsAt ys j x)
At-either [] ys i x h = inr (i, omega arith, h)
At-either (z ∷ xs) ys zero x h = inl h
At-either (z ∷ xs) ys (suc i) x h = ⊎_elim (λ a. inl a) (λ b. inr (b.0, omega (arith, b.1), b.2)) (At-either xs ys i x h)

-- where no element equals an earlier one, a value stands at one place
pub one_place : (ds : List (List ℕ)) → AtNone (Repeats ds) → (p q : ℕ) (d : List ℕ) → StandsAt ds p d → StandsAt ds q d → p ≡ q
one_place ds none p q d h k = go (compare_lt p q)
  where
    go : (p < q) ⊎ ((p ≡ q) ⊎ (q < p)) → p ≡ q
    go (inl l) = absurd (none q (d, k, p, l, h))
    go (inr (inl e)) = e
    go (inr (inr l)) = absurd (none p (d, h, q, l, k))

-- so two elements with one image are the same
pub same_by_image : {X : Type 0} (f : X → List ℕ) (xs : List X) → AtNone (Repeats (map f xs)) → (x y : X) → In x xs → In y xs → f x ≡ f y → x ≡ y
same_by_image f xs none x y h k e =
    let a = In-At xs x h in
    let b = In-At xs y k in
    let u = At-map f xs a.0 x a.1 in
    let v = At-map f xs b.0 y b.1 in
    let s = one_place (map f xs) none a.0 b.0 (f y) (subst (λ d. StandsAt (map f xs) a.0 d) e u) v in
    At-same xs b.0 x y (subst (λ i. StandsAt xs i x) s a.1) b.1

-- there is one least number
pub least_one : (Fails : ℕ → Type 0) (i j : ℕ) → IsLeast Fails i → IsLeast Fails j → i ≡ j
least_one Fails i j this other = go (compare_lt i j)
  where
    go : (i < j) ⊎ ((i ≡ j) ⊎ (j < i)) → i ≡ j
    go (inl less) = absurd (other.first i less this.fails)
    go (inr (inl same)) = same
    go (inr (inr more)) = absurd (this.first j more other.fails)

pub list_any-from : {X : Type 0} (p : X → Bool) (xs : List X) (x : X) → In x xs → p x ≡ true → list_any p xs ≡ true
list_any-from p (z ∷ xs) x (inl e) h = or_left (p z) (list_any p xs) (ap p (sym e) ∙ h)
list_any-from p (z ∷ xs) x (inr m) h = or_right (p z) (list_any p xs) (list_any-from p xs x m h)
list_any-from p [] x m h = elim m [ ]

pub list_any-In : {X : Type 0} (p : X → Bool) (xs : List X) → list_any p xs ≡ true → (x : X) × In x xs × (p x ≡ true)
list_any-In p [] h = cc
list_any-In p (z ∷ xs) h =
    ⊎_elim (λ l. (z, inl refl, l)) (λ r. let w = list_any-In p xs r in (w.0, inr w.1, w.2)) (or_cases (p z) (list_any p xs) h)

-- two pairs in one
pub pair_same : {X Y : Type 0} (a b : X) (c d : Y) → ◌≡◌ {A = Option (X × Y)} (Some (a, c)) (Some (b, d)) → (a ≡ b) × (c ≡ d)
pair_same {X} {Y} a b c d h =
    let e : ◌≡◌ {A = X × Y} (a, c) (b, d) = cc in
    (ap (λ (p : X × Y). p.0) e, ap (λ (p : X × Y). p.1) e)

-- what is so of the first of a list, and of one of the rest where it is so there, is so at each place
pub each_place : {X : Type 0} (R : List X → X → Type 0) → ((x : X) (xs : List X) → R (x ∷ xs) x) → ((y : X) (xs : List X) (x : X) → R xs x → R (y ∷ xs) x)
    → (xs : List X) (i : ℕ) (x : X) → i < length xs → x ≡ get_or xs i x → R xs x
each_place {X} R first later xs i x within is = subst (R xs) (sym is) (go xs i x within)
  where
    go : (xs : List X) (i : ℕ) (d : X) → i < length xs → R xs (get_or xs i d)
    go [] i d within = absurd (omega arith)
    go (x ∷ xs) zero d within = first x xs
    go (y ∷ xs) (suc i) d within = later y xs (get_or xs i d) (go xs i d (omega arith))
