-- Not needed to believe the program's promises: lists that 64 bits number, a
-- premise of a law over parts.
use Rattle.std.specs.Prelude.{◌<◌, ◌^◌}
use Rattle.claim_tree.specs.Everywhere.{Everywhere}
use Rattle.claim_tree.specs.Tree.{Tree, elements_len}

-- each list has fewer than 2 ^ 64 elements: as far a step of a path, `decimal`,
-- is that of one position
abbrev pub HasShortLists : Tree → Type 0
HasShortLists t = Everywhere (λ _. Unit {0}) (λ es. elements_len es < 2 ^ 64) (λ _ _. Unit {0}) t
