-- What is generated is the same in whatever order its members are put, and each number begins with a digit.
use Rattle.std.proofs.Common.{◌≡◌, ◌⊎◌, inl, inr, ℕ, zero, suc, ◌+◌, ◌*◌, ◌/◌, ◌%◌, ◌<◌, ◌≤◌, ◌^◌, refl, sym, ap, subst, ◌∙◌, drop, arith}
use Rattle.std.proofs.Math.Nat.{div-add-mod, mod-lt}
use Rattle.std.proofs.lemmas.Bool.{cases_lt}
use Rattle.std.proofs.lemmas.Fmt.{decimal_injective}
use Rattle.claim_tree.specs.Tree.{Members, no_members}
use Rattle.claim_tree.proofs.Insertions.{inserted-swap, inserted-again}
use Rattle.sdjwt_cli.specs.Generated.{member_name, member_value, members_below}
use Rattle.sdjwt_cli.specs.GeneratedSteps.{with_member, HasMember, completed, HasNoOther, cut, BeginsWith}

-- ---- members in any order

same_number : (i j : ℕ) → i < 2 ^ 64 → j < 2 ^ 64 → member_name i ≡ member_name j → i ≡ j
same_number i j l m e = decimal_injective i j l m (ap (drop 1) e)

swaps : (i j : ℕ) → i < j → j < 2 ^ 64 → (ms : Members) → with_member i (with_member j ms) ≡ with_member j (with_member i ms)
swaps i j l fits ms =
    inserted-swap (member_name j) (member_name i) (member_value j) (member_value i) ms
    (λ e. let same = same_number j i fits (omega (arith, l, fits)) e in absurd (omega (arith, l, same)))

commutes : (i j : ℕ) → i < 2 ^ 64 → j < 2 ^ 64 → (ms : Members) → with_member i (with_member j ms) ≡ with_member j (with_member i ms)
commutes i j l m ms =
    elim (cases_lt i j) [
      | inl low ↦ swaps i j low m ms
      | inr high ↦
          elim (cases_lt j i) [
            | inl above ↦ sym (swaps j i above l ms)
            | inr same ↦ let e : i ≡ j = omega (arith, high, same) in subst (λ k. with_member i (with_member k ms) ≡ with_member k (with_member i ms)) e refl
          ]
    ]

absorbed : (n i : ℕ) → i < n → n ≤ 2 ^ 64 → with_member i (members_below n) ≡ members_below n
absorbed zero i l fits = absurd (omega (arith, l))
absorbed (suc n) i l fits = go (cases_lt i n) (absorbed n i)
  where
    go : (i < n) ⊎ (n ≤ i) → (i < n → n ≤ 2 ^ 64 → with_member i (members_below n) ≡ members_below n) → with_member i (members_below (suc n)) ≡ members_below (suc n)
    go (inl low) ih = commutes i n (omega (arith, low, fits)) (omega (arith, fits)) (members_below n) ∙ ap (with_member n) (ih low (omega (arith, fits)))
    go (inr high) ih =
        let e : n ≡ i = omega (arith, l, high) in
        subst (λ k. with_member k (members_below (suc n)) ≡ members_below (suc n)) e (inserted-again (member_name n) (member_value n) (members_below n))

moved : (n i : ℕ) → n ≤ 2 ^ 64 → i < 2 ^ 64 → (ms : Members) → completed n (with_member i ms) ≡ with_member i (completed n ms)
moved zero i fits l ms = refl
moved (suc n) i fits l ms = ap (with_member n) (moved n i (omega (arith, fits)) l ms) ∙ commutes n i (omega (arith, fits)) l (completed n ms)

pub no_other_more : (n i : ℕ) → i < n → n ≤ 2 ^ 64 → (ms : Members) → HasNoOther n ms → HasNoOther n (with_member i ms)
no_other_more n i l fits ms h = moved n i fits (omega (arith, l, fits)) ms ∙ ap (with_member i) h ∙ absorbed n i l fits

pub no_other_yet : (n : ℕ) → HasNoOther n no_members
no_other_yet zero = refl
no_other_yet (suc n) = ap (with_member n) (no_other_yet n)

pub has_own : (i : ℕ) (ms : Members) → HasMember (with_member i ms) i
has_own i ms = inserted-again (member_name i) (member_value i) ms

pub has_still : (i j : ℕ) → i < 2 ^ 64 → j < 2 ^ 64 → (ms : Members) → HasMember ms i → HasMember (with_member j ms) i
has_still i j l m ms h = commutes i j l m ms ∙ ap (with_member j) h

complete : (n : ℕ) (ms : Members) → ((i : ℕ) → i < n → HasMember ms i) → completed n ms ≡ ms
complete zero ms all = refl
complete (suc n) ms all = ap (with_member n) (complete n ms (λ i l. all i (omega (arith, l)))) ∙ all n (omega arith)

-- ---- digits

cut_le : (k i : ℕ) → cut k i ≤ i
cut_le zero i = omega arith
cut_le (suc k) i = omega (arith, cut_le k i, div-add-mod (cut k i) 10)

cut_under : (k i : ℕ) → cut k (i / 10) ≡ cut k i / 10
cut_under zero i = refl
cut_under (suc k) i = ap (λ m. m / 10) (cut_under k i)

-- a number that begins with one that is not below the count is not below it either
pub not_below : (first n i : ℕ) → BeginsWith first i → n ≤ first → i < n → ⊥
not_below first n i b l m = let is = b.is in absurd (omega (arith, cut_le b.behind i, is, l, m))

pub record BeginsFurther (first i : ℕ) : Type 0 where
  pub digit : ℕ
  pub low : digit < 10
  pub begins : BeginsWith (10 * first + digit) i

-- it is the number itself, or has one more digit
pub further : (first i : ℕ) → BeginsWith first i → (i ≡ first) ⊎ BeginsFurther first i
further first i b = go b.behind b.is
  where
    go : (k : ℕ) → cut k i ≡ first → (i ≡ first) ⊎ BeginsFurther first i
    go zero e = inl e
    go (suc k) e =
        let m = cut k i in
        let parts = div-add-mod m 10 in
        let low : m % 10 < 10 = mod-lt m (omega arith) in
        inr (record { digit = m % 10; low = low; begins = record { behind = k; is = omega (arith, e, parts) } })

pub record HasDigit (i : ℕ) : Type 0 where
  pub digit : ℕ
  pub positive : 1 ≤ digit
  pub low : digit < 10
  pub begins : BeginsWith digit i

pub first_digit : (fuel i : ℕ) → i ≤ fuel → 1 ≤ i → HasDigit i
first_digit zero i l p = absurd (omega (arith, l, p))
first_digit (suc fuel) i l p = go (cases_lt i 10) (first_digit fuel (i / 10))
  where
    go : (i < 10) ⊎ (10 ≤ i) → (i / 10 ≤ fuel → 1 ≤ i / 10 → HasDigit (i / 10)) → HasDigit i
    go (inl low) ih = record { digit = i; positive = p; low = low; begins = record { behind = 0; is = refl } }
    go (inr high) ih =
        let parts = div-add-mod i 10 in
        let last : i % 10 < 10 = mod-lt i (omega arith) in
        let rest = ih (omega (arith, parts, l, high)) (omega (arith, parts, last, high)) in
        record { digit = rest.digit; positive = rest.positive; low = rest.low; begins = record { behind = suc rest.begins.behind; is = sym (cut_under rest.begins.behind i) ∙ rest.begins.is } }

-- ---- the steps

-- where those that begin with the number were put, up to a next digit
pub record PutsBehind (n first digit : ℕ) (old ms : Members) : Type 0 where
  pub no_other : HasNoOther n ms
  pub kept : (i : ℕ) → i < n → HasMember old i → HasMember ms i
  pub own : HasMember ms first
  pub behind : (i r : ℕ) → i < n → r < digit → BeginsWith (10 * first + r) i → HasMember ms i

pub puts_own : (n first : ℕ) → first < n → n ≤ 2 ^ 64 → (ms : Members) → HasNoOther n ms → PutsBehind n first 0 ms (with_member first ms)
puts_own n first l fits ms h = record {
  no_other = no_other_more n first l fits ms h;
  kept = λ i m has. has_still i first (omega (arith, m, fits)) (omega (arith, l, fits)) ms has;
  own = has_own first ms;
  behind = λ i r m none b. absurd (omega (arith, none));
}

pub puts_next : (n first digit : ℕ) (old ms later : Members) → first < n → PutsBehind n first digit old ms → HasNoOther n later → ((i : ℕ) → i < n → HasMember ms i → HasMember later i)
    → ((i : ℕ) → i < n → BeginsWith (10 * first + digit) i → HasMember later i) → PutsBehind n first (digit + 1) old later
puts_next n first digit old ms later l so none kept put = record {
  no_other = none;
  kept = λ i m has. kept i m (so.kept i m has);
  own = kept first l so.own;
  behind = λ i r m low b. go i r m b (cases_lt r digit) low;
}
  where
    go : (i r : ℕ) → i < n → BeginsWith (10 * first + r) i → (r < digit) ⊎ (digit ≤ r) → r < digit + 1 → HasMember later i
    go i r m b (inl low) s = kept i m (so.behind i r m low b)
    go i r m b (inr high) s = let e : r ≡ digit = omega (arith, high, s) in put i m (subst (λ d. BeginsWith (10 * first + d) i) e b)

pub puts_all : (n first : ℕ) (old ms : Members) → PutsBehind n first 10 old ms → (i : ℕ) → i < n → BeginsWith first i → HasMember ms i
puts_all n first old ms so i l b = go (further first i b)
  where
    go : (i ≡ first) ⊎ BeginsFurther first i → HasMember ms i
    go (inl e) = subst (λ k. HasMember ms k) (sym e) so.own
    go (inr f) = so.behind i f.digit l f.low f.begins

-- where the member 0 was put, and those that begin with a digit below
pub record PutsDigits (n digit : ℕ) (ms : Members) : Type 0 where
  pub no_other : HasNoOther n ms
  pub own : HasMember ms 0
  pub behind : (i d : ℕ) → i < n → d < digit → 1 ≤ d → BeginsWith d i → HasMember ms i

pub digits_begin : (n : ℕ) → 0 < n → n ≤ 2 ^ 64 → PutsDigits n 1 (with_member 0 no_members)
digits_begin n l fits = record {
  no_other = no_other_more n 0 l fits no_members (no_other_yet n);
  own = has_own 0 no_members;
  behind = λ i d m low p b. absurd (omega (arith, low, p));
}

pub digits_more : (n digit : ℕ) (ms later : Members) → 0 < n → PutsDigits n digit ms → HasNoOther n later → ((i : ℕ) → i < n → HasMember ms i → HasMember later i)
    → ((i : ℕ) → i < n → BeginsWith digit i → HasMember later i) → PutsDigits n (digit + 1) later
digits_more n digit ms later l so none kept put = record {
  no_other = none;
  own = kept 0 l so.own;
  behind = λ i d m low p b. go i d m p b (cases_lt d digit) low;
}
  where
    go : (i d : ℕ) → i < n → 1 ≤ d → BeginsWith d i → (d < digit) ⊎ (digit ≤ d) → d < digit + 1 → HasMember later i
    go i d m p b (inl low) s = kept i m (so.behind i d m low p b)
    go i d m p b (inr high) s = let e : d ≡ digit = omega (arith, high, s) in put i m (subst (λ k. BeginsWith k i) e b)

pub digits_end : (n : ℕ) (ms : Members) → PutsDigits n 10 ms → ms ≡ members_below n
digits_end n ms so = sym (complete n ms all) ∙ so.no_other
  where
    all : (i : ℕ) → i < n → HasMember ms i
    all zero l = so.own
    all (suc i) l = let d = first_digit (suc i) (suc i) (omega arith) (omega arith) in so.behind (suc i) d.digit l d.low d.positive d.begins
