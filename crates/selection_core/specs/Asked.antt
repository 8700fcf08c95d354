-- For private functions: what was asked for on a walk, and what is refused so far.
use Rattle.std.specs.Prelude.{◌≡◌, ℕ, ◌⊎◌, List, [], ◌∷◌, ◌++◌, map, ltb, Bool, true, false, Option, Some, None}
use Rattle.sd_outside.specs.Lists.{In}
use Rattle.marked_tree.specs.Paths.{Path, Spot}
use Rattle.marked_tree.specs.Numbers.{has}
use Rattle.selection_core.specs.Consent.{RuleAnswers, Allows}
use Rattle.selection_core.specs.declared.allowing.Asking.{Asking}
use Rattle.selection_core.specs.declared.allowing.Walk.{Walk}

-- a mark and its place
abbrev pub SeenMark : Type 0
SeenMark = ℕ × Path

abbrev pub own_seen : Option ℕ → Path → List SeenMark
own_seen None at = []
own_seen (Some i) at = (i, at) ∷ []

-- the spots inside a node at the place
abbrev pub seen_from : Path → List Spot → List SeenMark
seen_from at ss = map (λ s. (s.mark, at ++ s.at)) ss

-- the mark is smaller than the one that is refused, if any
abbrev pub is_below : ℕ → Option ℕ → Bool
is_below i None = true
is_below i (Some j) = ltb i j

-- from the least mark that was refused before to that after: of the marks of the set that were
-- seen, the rule allowed each one below it
pub record IsAskedOnWalk {F : Type 0} (answers : RuleAnswers F) (rule : F) (s : ℕ → Bool)
    (seen : List SeenMark) (before after : Option ℕ) : Type 0 where
  pub allowed : (x : SeenMark) → In x seen → s x.0 ≡ true → is_below x.0 after ≡ true
      → Allows answers rule x.1 true
  pub falls : (i : ℕ) → is_below i after ≡ true → is_below i before ≡ true
  pub refused : (after ≡ before)
      ⊎ ((x : SeenMark) × In x seen × (s x.0 ≡ true) × (after ≡ Some x.0)
      × Allows answers rule x.1 false)

-- so of a walk on which these marks were seen
abbrev pub AsksOnWalk : {F : Type 0} → RuleAnswers F → Asking F → List SeenMark → Walk → Walk
    → Type 0
AsksOnWalk answers asking seen before after =
    IsAskedOnWalk answers asking.consent.now (has asking.chosen.now) seen before.refused
    after.refused
