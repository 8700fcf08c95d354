-- Not needed to believe the program's promises: why an order is refused.
use Rattle.issuer_core.specs.declared.errors.IssueError.{IssueError}
use Rattle.issuer_core.specs.declared.errors.IssueError.TheVariants.{Memory}
use Rattle.issuer_core.specs.Order.{Order}
use Rattle.issuer_core.specs.OrderRefusals.{AppliesToOrder, IsLowestRefusal}

-- why an order is refused; want of memory says nothing
abbrev pub IsOrderRefused : Order → IssueError → Type 0
IsOrderRefused o Memory = Unit {0}
IsOrderRefused o error = IsLowestRefusal (AppliesToOrder o) error
