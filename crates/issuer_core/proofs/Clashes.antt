-- The first text that repeats an earlier one, and where it stands first.
use Rattle.std.proofs.Common.{◌≡◌, ℕ, zero, suc, ◌<◌, ◌≤◌, ◌⊎◌, inl, inr, List, [], ◌∷◌, length, take, Bool, true, false, cond, bytes_eq, refl, sym, subst, ◌∙◌, arith}
use Rattle.std.proofs.lemmas.List.{length-take-le}
use Rattle.std.proofs.lemmas.Bool.{cases_lt}
use Rattle.claim_tree.specs.Tree.{Text}
use Rattle.sd_outside.specs.Lists.{StandsAt, Repeats, AtNone}
use Rattle.sd_outside.proofs.Lists.{bytes_refl, At-below, At-get, At-same, take-At}
use Rattle.digest_index.specs.Index.{position_or_end}
use Rattle.rebuild_core.proofs.Repeated.{place_there, repeats_there, repeats_new}
use Rattle.issuer_core.specs.Clash.{IsFirstClash}

At-whole : {X : Type 0} (xs : List X) (j i : ℕ) (x : X) → StandsAt (take j xs) i x → StandsAt xs i x
At-whole (y ∷ ys) (suc j) zero x h = h
At-whole (y ∷ ys) (suc j) (suc i) x h = At-whole ys j i x h
At-whole (y ∷ ys) zero i x h = elim h [ ]
At-whole [] zero i x h = elim h [ ]
At-whole [] (suc j) i x h = elim h [ ]

-- no text stands before its place
place_least : (xs : List Text) (i : ℕ) (d : Text) → StandsAt xs i d → position_or_end d xs ≤ i
place_least [] i d h = elim h [ ]
place_least (x ∷ xs) i d h = go (bytes_eq d x) refl i h (place_least xs)
  where
    go : (b : Bool) → bytes_eq d x ≡ b → (i : ℕ) → StandsAt (x ∷ xs) i d → ((i : ℕ) (d : Text) → StandsAt xs i d → position_or_end d xs ≤ i) → cond b 0 (suc (position_or_end d xs)) ≤ i
    go true e i h ih = omega arith
    go false e zero h ih = let clash : false ≡ true = sym e ∙ bytes_refl d x h in cc clash
    go false e (suc i) h ih = omega (arith, ih i d h)

-- text j has a place among those before it, which is the first at which it stands
pub clash_at : (ds : List Text) (j i : ℕ) (d : Text) → StandsAt ds j d → i ≡ position_or_end d (take j ds) → i < j → ((q : ℕ) → q < j → Repeats ds q → ⊥) → IsFirstClash ds i j
clash_at ds j i d at is less none =
    let count : length (take j ds) ≡ j = length-take-le j ds (omega (arith, At-below ds j d at)) in
    let there : StandsAt (take j ds) (position_or_end d (take j ds)) d = place_there (take j ds) d (omega (arith, is, less, count)) in
    let here : StandsAt ds i d = subst (λ q. StandsAt ds q d) (sym is) (At-whole ds j (position_or_end d (take j ds)) d there) in
    record {
      later = record { fails = repeats_there ds j d at (omega (arith, is, less)); first = none };
      earlier = record {
        fails = record { before = less; text = d; here = here; again = at };
        first = λ q before equal.
            let same : equal.text ≡ d = At-same ds j equal.text d equal.again at in
            let stands_too : StandsAt ds q d = subst (λ t. StandsAt ds q t) same equal.here in
            omega (arith, is, before, place_least (take j ds) q d (take-At ds j q d stands_too (omega (arith, before, less))));
      };
    }

-- ---- where none is the first

one_further : (ds : List Text) → ((i j : ℕ) → IsFirstClash ds i j → ⊥) → (n : ℕ) (d : Text) → StandsAt ds n d → ((p : ℕ) → p < n → Repeats ds p → ⊥) → (q : ℕ) → q < suc n → Repeats ds q → ⊥
one_further ds none n d at before q less r = go (cases_lt (position_or_end d (take n ds)) n) (sooner q n less)
  where
    sooner : (a b : ℕ) → a < suc b → (a < b) ⊎ (a ≡ b)
    sooner a b l = grind arith

    go : (position_or_end d (take n ds) < n) ⊎ (n ≤ position_or_end d (take n ds)) → (q < n) ⊎ (q ≡ n) → ⊥
    go (inl below) s = none (position_or_end d (take n ds)) n (clash_at ds n (position_or_end d (take n ds)) d at refl below before)
    go (inr more) (inl s) = before q s r
    go (inr more) (inr e) = repeats_new ds n d at more (subst (Repeats ds) e r)

first_repeats : (ds : List Text) → ((i j : ℕ) → IsFirstClash ds i j → ⊥) → (n : ℕ) → n ≤ length ds → (q : ℕ) → q < n → Repeats ds q → ⊥
first_repeats ds none zero l q less r = omega (arith, less)
first_repeats ds none (suc n) l q less r =
    let there = At-get ds n (omega (arith, l)) in
    one_further ds none n there.0 there.1 (first_repeats ds none n (omega (arith, l))) q less r

-- where no text is the first that repeats an earlier one, none does
pub no_repeats : (ds : List Text) → ((i j : ℕ) → IsFirstClash ds i j → ⊥) → AtNone (Repeats ds)
no_repeats ds none q r = first_repeats ds none (length ds) (omega arith) q (At-below ds q r.0 r.1) r
