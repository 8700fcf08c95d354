-- For private functions: the tests by which an order is judged.
use Rattle.std.specs.Prelude.{◌≤◌, ℕ, [], ◌∷◌, Bool, true, false, Option, Some, bytes_eq, is_none}
use Rattle.std.specs.List.{list_any}
use Rattle.claim_tree.specs.Tree.{Tree, array, object}
use Rattle.claim_tree.specs.Path.{tree_at}
use Rattle.marked_tree.specs.Paths.{Path}
use Rattle.issuer_core.specs.declared.order.Decoy.{Decoy}
use Rattle.issuer_core.specs.declared.errors.IssueError.{IssueError}
use Rattle.issuer_core.specs.Order.{Order}
use Rattle.issuer_core.specs.OrderRefusals.{AppliesToOrder, protected_names, issue_number}

abbrev pub is_root : Path → Bool
is_root [] = true
is_root (step ∷ path) = false

abbrev pub is_nowhere : Tree → Path → Bool
is_nowhere claims path = is_none (tree_at claims path)

abbrev pub is_protected : Path → Bool
is_protected [] = false
is_protected (step ∷ path) = list_any (bytes_eq step) protected_names

abbrev pub is_no_holder : Option Tree → Bool
is_no_holder (Some (array es)) = false
is_no_holder (Some (object ms)) = false
is_no_holder _ = true

abbrev pub is_misplaced : Tree → Decoy → Bool
is_misplaced claims entry = is_no_holder (tree_at claims entry.at)

-- no refusal below the number applies
abbrev pub PassesBelow : ℕ → Order → Type 0
PassesBelow number o = (error : IssueError) → AppliesToOrder o error → number ≤ issue_number error
