-- Not needed to believe the program's promises: what calls on trees answer.
use Rattle.std.specs.Prelude.{ℕ, zero, suc, Option, Some, None}
use Rattle.claim_tree.specs.Tree.{Elements, Members, Text, Tree, element, member, no_elements, no_members}

-- one element more, at the end
abbrev pub pushed : Elements → Tree → Elements
pushed no_elements t = element t no_elements
pushed (element u es) t = element u (pushed es t)

abbrev pub member_at : Members → ℕ → Option (Text × Tree)
member_at no_members i = None
member_at (member name t ms) zero = Some (name, t)
member_at (member name t ms) (suc i) = member_at ms i
