-- How many paths begin with which step.
use Rattle.std.proofs.Common.{◌≡◌, ℕ, zero, suc, ◌+◌, ◌<◌, ◌≤◌, ◌^◌, List, [], ◌∷◌, length, Bool, true, false, refl, sym, ap, subst, arith, decimal}
use Rattle.std.specs.Prelude.{bytes_eq}
use Rattle.std.proofs.lemmas.Fmt.{decimal_injective}
use Rattle.claim_tree.specs.Tree.{Text, Members, no_members, member, names, IsBeforeAll, MembersOrdered}
use Rattle.sd_outside.proofs.Lists.{bytes_same}
use Rattle.marked_tree.specs.Paths.{Path, one_if, is_among}
use Rattle.marked_tree.specs.Rests.{headed, inner}
use Rattle.marked_tree.proofs.Names.{Ascend}
use Rattle.marked_tree.proofs.Lookups.{apart}

-- how many of the steps the step is
abbrev pub occ : List Text → Text → ℕ
occ [] k = 0
occ (s ∷ ss) k = one_if (bytes_eq k s) + occ ss k

abbrev Distinct : List Text → Type 0
Distinct [] = Unit {0}
Distinct (s ∷ ss) = (occ ss s ≡ 0) × Distinct ss

occ_le : (ss : List Text) (k : Text) → Distinct ss → occ ss k ≤ 1
occ_le [] k d = omega arith
occ_le (s ∷ ss) k d = go (bytes_eq k s) refl (occ_le ss k d.1)
  where
    go : (b : Bool) → bytes_eq k s ≡ b → occ ss k ≤ 1 → one_if b + occ ss k ≤ 1
    go true e l = let none : occ ss k ≡ 0 = subst (λ x. occ ss x ≡ 0) (sym (bytes_same k s e)) d.0 in omega (arith, none)
    go false e l = omega (arith, l)

abbrev taken_head : List Text → Path → ℕ
taken_head ss [] = 0
taken_head ss (k ∷ p) = occ ss k

-- how many paths begin with one of the steps
abbrev pub taken : List Text → List Path → ℕ
taken ss [] = 0
taken ss (p ∷ ps) = taken_head ss p + taken ss ps

taken_le : (ss : List Text) → Distinct ss → (ps : List Path) → taken ss ps ≤ inner ps
taken_le ss d [] = omega arith
taken_le ss d ([] ∷ ps) = omega (arith, taken_le ss d ps)
taken_le ss d ((k ∷ p) ∷ ps) = omega (arith, taken_le ss d ps, occ_le ss k d)

pub taken_more : (s : Text) (ss : List Text) (ps : List Path) → taken (s ∷ ss) ps ≡ headed s ps + taken ss ps
taken_more s ss [] = refl
taken_more s ss ([] ∷ ps) = omega (arith, taken_more s ss ps)
taken_more s ss ((k ∷ p) ∷ ps) = omega (arith, taken_more s ss ps)

-- ---- positions

abbrev pub decimals : ℕ → List Text
decimals zero = []
decimals (suc n) = decimal n ∷ decimals n

other_decimal : (i j : ℕ) → i < j → j < 2 ^ 64 → bytes_eq (decimal j) (decimal i) ≡ false
other_decimal i j l fits = go (bytes_eq (decimal j) (decimal i)) refl
  where
    go : (b : Bool) → bytes_eq (decimal j) (decimal i) ≡ b → b ≡ false
    go true e = let same : j ≡ i = decimal_injective j i fits (omega (arith, l, fits)) (bytes_same (decimal j) (decimal i) e) in absurd (omega (arith, l, same))
    go false e = refl

absent : (n j : ℕ) → n ≤ j → j < 2 ^ 64 → occ (decimals n) (decimal j) ≡ 0
absent zero j l fits = refl
absent (suc n) j l fits = let other = other_decimal n j (omega arith) fits in omega (arith, ap one_if other, absent n j (omega arith) fits)

distinct_decimals : (n : ℕ) → n ≤ 2 ^ 64 → Distinct (decimals n)
distinct_decimals zero l = tt
distinct_decimals (suc n) l = (absent n n (omega arith) (omega (arith, l)), distinct_decimals n (omega (arith, l)))

pub decimals_more : (n : ℕ) (ps : List Path) → taken (decimals (suc n)) ps ≡ headed (decimal n) ps + taken (decimals n) ps
decimals_more n ps = taken_more (decimal n) (decimals n) ps

pub decimals_le : (n : ℕ) (ps : List Path) → n ≤ 2 ^ 64 → taken (decimals n) ps ≤ inner ps
decimals_le n ps l = taken_le (decimals n) (distinct_decimals n l) ps

-- ---- names

absent_name : (k : Text) (ns : List Text) → IsBeforeAll k ns → occ ns k ≡ 0
absent_name k [] all = refl
absent_name k (n ∷ ns) all = omega (arith, ap one_if (apart k n all.0), absent_name k ns all.1)

distinct_names : (ns : List Text) → Ascend ns → Distinct ns
distinct_names [] o = tt
distinct_names (n ∷ ns) o = (absent_name n ns o.0, distinct_names ns o.1)

pub names_le : (ms : Members) (ps : List Path) → MembersOrdered ms → taken (names ms) ps ≤ inner ps
names_le ms ps o = taken_le (names ms) (distinct_names (names ms) (ascending ms o)) ps
  where
    ascending : (us : Members) → MembersOrdered us → Ascend (names us)
    ascending no_members q = tt
    ascending (member k t us) q = (q.0, ascending us q.2)

-- ---- paths that end

pub ends_le : (ps : List Path) → one_if (is_among ps []) + inner ps ≤ length ps
ends_le [] = omega arith
ends_le ([] ∷ ps) = omega (arith, inner_le ps)
  where
    inner_le : (qs : List Path) → inner qs ≤ length qs
    inner_le [] = omega arith
    inner_le ([] ∷ qs) = omega (arith, inner_le qs)
    inner_le ((k ∷ q) ∷ qs) = omega (arith, inner_le qs)
ends_le ((k ∷ p) ∷ ps) = omega (arith, ends_le ps)

pub inner_le : (ps : List Path) → inner ps ≤ length ps
inner_le ps = let all = ends_le ps in omega (arith, all)
