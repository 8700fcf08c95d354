-- The choice by wanted paths is closed, and the least that keeps the way to each.
use Rattle.std.proofs.Common.{◌≡◌, ℕ, ◌<◌, ◌≤◌, List, [], ◌∷◌, Bool, true, false, eqb, ◌&&◌, ◌||◌, refl, sym, ap, ap₂, ◌∙◌, subst, arith, eqb-true, eq-eqb}
use Rattle.std.specs.List.{list_any}
use Rattle.std.proofs.lemmas.Bool.Decides.{nat_tests}
use Rattle.std.proofs.lemmas.Bool.{and_parts, and_from}
use Rattle.claim_tree.specs.Tree.{Tree}
use Rattle.sd_outside.specs.Lists.{In}
use Rattle.sd_outside.proofs.Lists.{list_any-In, list_any-from}
use Rattle.claim_tree.specs.Path.{is_front}
use Rattle.marked_tree.specs.Choice.{is_on_way, IsUnmixed, IsLeastChoice}
use Rattle.marked_tree.specs.Closed.{IsClosed, KeepsTheWay}
use Rattle.marked_tree.specs.Laws.{Choice, HasEachMarkOnce}
use Rattle.marked_tree.specs.Marked.{Marked}
use Rattle.marked_tree.specs.Ways.{only}
use Rattle.marked_tree.specs.Paths.{Path, Spot, spots, mark, hidden_count, chosen}
use Rattle.marked_tree.proofs.MarkFacts.{up_to, up_to_le, marks_once_holds}
use Rattle.marked_tree.proofs.Spots.{at_least_one, spots_weigh, same_spot, leads_through, spots_above}

module _ (m : Marked) (want : List Path) where
  pub choose : (s : Spot) → In s (spots m) → (p : Path) → In p want → is_front s.at p ≡ true → chosen m want s.mark ≡ true
  choose s n p o l =
      list_any-from (λ z. eqb z.mark s.mark && list_any (is_front z.at) want) (spots m) s n
      (and_from (eqb s.mark s.mark) (list_any (is_front s.at) want) (eq-eqb s.mark s.mark refl) (list_any-from (is_front s.at) want p o l))

  pub is_wanted : (i : ℕ) → chosen m want i ≡ true → (s : Spot) × In s (spots m) × (s.mark ≡ i) × (p : Path) × In p want × (is_front s.at p ≡ true)
  is_wanted i h =
      let a = list_any-In (λ z. eqb z.mark i && list_any (is_front z.at) want) (spots m) h in
      let b = and_parts (eqb a.0.mark i) (list_any (is_front a.0.at) want) a.2 in
      let c = list_any-In (is_front a.0.at) want b.1 in
      (a.0, a.1, eqb-true a.0.mark i b.0, c.0, c.1, c.2)

  keeps_way : KeepsTheWay m want (chosen m want)
  keeps_way s n p o l = (
    choose s n p o l,
    (λ j h. let v = spots_above m s n j h in subst (λ z. chosen m want z ≡ true) v.is (choose v.spot v.there p o (leads_through v.spot.at s.at p v.before l))),
  )

  is_closed : IsUnmixed m → IsClosed m (chosen m want)
  is_closed once node n t j h =
      let b = is_wanted node.mark t in
      let same = same_spot node.mark (spots m) node b.0 (omega (arith, once node.mark, spots_weigh (only node.mark) m)) n b.1 refl b.2 in
      let k : In j b.0.above = subst (λ (z : Spot). In j z.above) same h in
      (keeps_way b.0 b.1 b.3 b.4 b.5).1 j k

  pub least_choice : IsUnmixed m → IsLeastChoice m want (chosen m want)
  least_choice once = record {
    closed = is_closed once;
    keeps = keeps_way;
    least = λ s keeps i h. let b = is_wanted i h in subst (λ z. s z ≡ true) b.2 (keeps b.0 b.1 b.3 b.4 b.5).0;
  }

pub choice_holds : Choice
choice_holds m want once = least_choice m want once

-- a set with the same marks
pub least_same : (m : Marked) (want : List Path) (s t : ℕ → Bool) → ((i : ℕ) → s i ≡ t i) → IsLeastChoice m want t → IsLeastChoice m want s
least_same m want s t same least = record {
  closed = λ node n e j h. same j ∙ least.closed node n (sym (same node.mark) ∙ e) j h;
  keeps = λ node n p o l. let k = least.keeps node n p o l in (same node.mark ∙ k.0, λ j h. same j ∙ k.1 j h);
  least = λ other keeps i e. least.least other keeps i (sym (same i) ∙ e);
}

-- ---- the chosen marks are those on the way to a wanted path

and_none : (i : ℕ) (ss : List Spot) → list_any (λ s. eqb s.mark i && false) ss ≡ false
and_none i [] = refl
and_none i (s ∷ ss) = ap₂ (λ a b. a || b) (no_and (eqb s.mark i)) (and_none i ss)
  where
    no_and : (b : Bool) → (b && false) ≡ false
    no_and true = refl
    no_and false = refl

spread : (a b c x y : Bool) → ((a && (b || c)) || (x || y)) ≡ (((a && b) || x) || ((a && c) || y))
spread true true c x y = refl
spread true false true x y = sym (yes_or x (true || y))
  where
    yes_or : (x z : Bool) → (x || true) ≡ true
    yes_or true z = refl
    yes_or false z = refl
spread true false false x y = refl
spread false b c x y = refl

both_ways : (i : ℕ) (p : Path) (want : List Path) (ss : List Spot)
    → list_any (λ s. eqb s.mark i && (is_front s.at p || list_any (is_front s.at) want)) ss
    ≡ (list_any (λ s. eqb s.mark i && is_front s.at p) ss || list_any (λ s. eqb s.mark i && list_any (is_front s.at) want) ss)
both_ways i p want [] = refl
both_ways i p want (s ∷ ss) =
    ap (λ b. (eqb s.mark i && (is_front s.at p || list_any (is_front s.at) want)) || b) (both_ways i p want ss)
    ∙ spread (eqb s.mark i) (is_front s.at p) (list_any (is_front s.at) want) (list_any (λ s. eqb s.mark i && is_front s.at p) ss) (list_any (λ s. eqb s.mark i && list_any (is_front s.at) want) ss)

pub chosen_by_ways : (m : Marked) (want : List Path) (i : ℕ) → chosen m want i ≡ list_any (λ p. is_on_way m p i) want
chosen_by_ways m [] i = and_none i (spots m)
chosen_by_ways m (p ∷ want) i = both_ways i p want (spots m) ∙ ap (λ b. is_on_way m p i || b) (chosen_by_ways m want i)

-- ---- where each number below a count marks one node

pub unmixed_once : (m : Marked) (n : ℕ) → HasEachMarkOnce m n → IsUnmixed m
unmixed_once m n once i = omega (arith, once i, up_to_le i n)

pub unmixed_mark : (t : Tree) (hide : List Path) → IsUnmixed (mark t hide)
unmixed_mark t hide = unmixed_once (mark t hide) (hidden_count t hide) (marks_once_holds t hide)

-- what is chosen is one of these numbers
pub chosen_below : (m : Marked) (n : ℕ) → HasEachMarkOnce m n → (want : List Path) (i : ℕ) → chosen m want i ≡ true → i < n
chosen_below m n once want i h =
    let a = list_any-In (λ z. eqb z.mark i && list_any (is_front z.at) want) (spots m) h in
    let b = and_parts (eqb a.0.mark i) (list_any (is_front a.0.at) want) a.2 in
    below_if i n (omega (arith, once i, spots_weigh (only i) m, at_least_one i (spots m) a.0 a.1 (eqb-true a.0.mark i b.0)))
  where
    below_if : (i n : ℕ) → 1 ≤ up_to i n → i < n
    below_if i n l = grind (arith, nat_tests)
