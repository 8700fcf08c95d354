-- What a rule of consent may answer, and what follows for the places of marks.
use Rattle.std.specs.Prelude.{◌≡◌, ℕ, ◌<◌, Bool, true, false, Some}
use Rattle.std.specs.Fn.{FnReturnsAt, Shared}
use denote.Ref.{Bor}
use Rattle.marked_tree.specs.Marked.{Marked}
use Rattle.marked_tree.specs.Paths.{Path, mark_path}

-- which answers the calls of a closure over paths may give
abbrev pub RuleAnswers : Type 0 → Type 1
RuleAnswers F = Shared F (Bor Path × Unit {0}) Bool

-- the rule may give this answer at the place
abbrev pub Allows : {F : Type 0} → RuleAnswers F → F → Path → Bool → Type 0
Allows answers rule at answer = FnReturnsAt answers rule at answer

-- the rule may allow the place of each mark of s
abbrev pub AllAllowed : {F : Type 0} → RuleAnswers F → F → Marked → (ℕ → Bool) → Type 0
AllAllowed answers rule m s =
    (i : ℕ) (at : Path) → s i ≡ true → mark_path m i ≡ Some at → Allows answers rule at true

-- the rule can't refuse the place of a mark of s
abbrev pub NoneRefused : {F : Type 0} → RuleAnswers F → F → Marked → (ℕ → Bool) → Type 0
NoneRefused answers rule m s =
    (i : ℕ) (at : Path) → s i ≡ true → mark_path m i ≡ Some at → Allows answers rule at false → ⊥

-- mark i is one of s whose place the rule may refuse, and it may allow that of each smaller one
pub record IsRefusedAt {F : Type 0} (answers : RuleAnswers F) (rule : F) (m : Marked) (s : ℕ → Bool)
    (i : ℕ) : Type 0 where
  pub chosen : s i ≡ true
  pub at : Path
  pub stands : mark_path m i ≡ Some at
  pub refused : Allows answers rule at false
  pub smaller : (j : ℕ) (there : Path) → j < i → s j ≡ true → mark_path m j ≡ Some there
      → Allows answers rule there true
