-- Sums over lists, and over lists that have the same elements where it counts.
use Rattle.std.proofs.Common.{◌≡◌, ℕ, suc, ◌+◌, ◌≤◌, List, [], ◌∷◌, Bool, true, false, cond, ◌⊎◌, inl, inr, ⊎_elim, refl, sym, ap, ap₂, subst, arith}
use Rattle.std.specs.Prelude.{bytes_eq}
use Rattle.claim_tree.specs.Tree.{Text}
use Rattle.sd_outside.specs.Lists.{In, Repeats, AtNone}
use Rattle.sd_outside.proofs.Lists.{bytes_same, bytes_refl, In-At}
use Rattle.marked_tree.proofs.Sums.{sum_of}

pub sum_of-same : {X : Type 0} (f h : X → ℕ) (xs : List X) → ((x : X) → In x xs → f x ≡ h x) → sum_of f xs ≡ sum_of h xs
sum_of-same f h [] same = refl
sum_of-same f h (x ∷ xs) same = ap₂ (λ (a b : ℕ). a + b) (same x (inl refl)) (sum_of-same f h xs (λ y m. same y (inr m)))

pub sum_of-le : {X : Type 0} (f h k : X → ℕ) (xs : List X) → ((x : X) → In x xs → f x ≤ h x + k x) → sum_of f xs ≤ sum_of h xs + sum_of k xs
sum_of-le f h k [] le = omega arith
sum_of-le f h k (x ∷ xs) le = omega (arith, le x (inl refl), sum_of-le f h k xs (λ y m. le y (inr m)))

-- no element is there twice
abbrev pub Apart : List Text → Type 0
Apart [] = Unit {0}
Apart (d ∷ ds) = (In d ds → ⊥) × Apart ds

pub Apart-from : (ds : List Text) → AtNone (Repeats ds) → Apart ds
Apart-from [] h = tt
Apart-from (d ∷ ds) h = (
  (λ m. let w = In-At ds d m in h (suc w.0) (d, w.1, 0, omega arith, refl)),
  Apart-from ds (λ q r. h (suc q) (r.0, r.1, suc r.2, omega (arith, r.3), r.4)),
)

abbrev pub but : Text → (Text → ℕ) → Text → ℕ
but e f d = cond (bytes_eq d e) 0 (f d)

but_same : (e : Text) (f : Text → ℕ) → but e f e ≡ 0
but_same e f = ap (λ b. cond b 0 (f e)) (bytes_refl e e refl)

but_other : (e d : Text) (f : Text → ℕ) → (d ≡ e → ⊥) → but e f d ≡ f d
but_other e d f differ = go (bytes_eq d e) refl
  where
    go : (b : Bool) → bytes_eq d e ≡ b → cond b 0 (f d) ≡ f d
    go true h = absurd (differ (bytes_same d e h))
    go false h = refl

but_rest : (e : Text) (f : Text → ℕ) (ds : List Text) → (In e ds → ⊥) → sum_of (but e f) ds ≡ sum_of f ds
but_rest e f ds out = sum_of-same (but e f) f ds (λ d m. but_other e d f (λ q. out (subst (λ z. In z ds) q m)))

-- one element taken out of a sum
sum_split : (f : Text → ℕ) (e : Text) (ds : List Text) → Apart ds → In e ds → sum_of f ds ≡ f e + sum_of (but e f) ds
sum_split f e (d ∷ ds) a (inl q) =
    let out : In e ds → ⊥ = λ m. a.0 (subst (λ z. In z ds) q m) in
    omega (arith, but_rest e f ds out, ap f q, ap (but e f) q, but_same e f)
sum_split f e (d ∷ ds) a (inr m) =
    omega (arith, sum_split f e ds a.1 m, but_other e d f (λ q. a.0 (subst (λ z. In z ds) (sym q) m)))
sum_split f e [] a m = elim m [ ]

zero_sum : (f : Text → ℕ) (ds : List Text) → ((d : Text) → In d ds → f d ≡ 0) → sum_of f ds ≡ 0
zero_sum f [] h = refl
zero_sum f (d ∷ ds) h = omega (arith, h d (inl refl), zero_sum f ds (λ e m. h e (inr m)))

-- es has all the elements of ds that count, each once
pub same_sum : (f : Text → ℕ) (es ds : List Text) → Apart ds → Apart es → ((e : Text) → In e es → In e ds)
    → ((d : Text) → In d ds → (f d ≡ 0) ⊎ In d es) → sum_of f ds ≡ sum_of f es
same_sum f [] ds a b sub out = zero_sum f ds (λ d m. ⊎_elim (λ z. z) (λ z. absurd z) (out d m))
same_sum f (e ∷ es) ds a b sub out =
    omega (arith, sum_split f e ds a (sub e (inl refl)), same_sum (but e f) es ds a b.1 (λ d m. sub d (inr m)) rest, but_rest e f es b.0)
  where
    rest : (d : Text) → In d ds → (but e f d ≡ 0) ⊎ In d es
    rest d m = go (bytes_eq d e) refl
      where
        go : (t : Bool) → bytes_eq d e ≡ t → (cond t 0 (f d) ≡ 0) ⊎ In d es
        go true h = inl refl
        go false h = ⊎_elim (λ z. inl z) (λ z. ⊎_elim (λ q. absurd (clash q)) (λ k. inr k) z) (out d m)
          where
            clash : d ≡ e → ⊥
            clash q = let t : bytes_eq d e ≡ true = bytes_refl d e q in cc
