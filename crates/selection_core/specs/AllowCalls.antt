-- Not needed to believe the program's promises: why a choice is not allowed.
use Rattle.std.specs.Prelude.{ℕ, Bool, true, false}
use Rattle.marked_tree.specs.Marked.{Marked}
use Rattle.selection_core.specs.declared.errors.AllowError.{AllowError}
use Rattle.selection_core.specs.declared.errors.AllowError.TheVariants.{Memory, Refused}
use Rattle.selection_core.specs.Consent.{IsRefusedAt, RuleAnswers, Allows}
use Rattle.marked_tree.specs.Paths.{Path}

-- the least mark that the rule refused; want of memory says nothing
abbrev pub IsAllowRefused : {F : Type 0} → RuleAnswers F → F → Marked → (ℕ → Bool) → AllowError
    → Type 0
IsAllowRefused answers rule m s Memory = Unit {0}
IsAllowRefused answers rule m s (Refused i) = IsRefusedAt answers rule m s i

-- the rule does not both allow and refuse a place
abbrev pub IsDecided : {F : Type 0} → RuleAnswers F → F → Type 0
IsDecided answers rule =
    (at : Path) → Allows answers rule at true → Allows answers rule at false → ⊥
