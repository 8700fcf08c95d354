-- Not needed to believe the program's promises: the seed by which the digests
-- of a token are hashed.
use Rattle.std.specs.Prelude.{ℕ, List}
use Rattle.std.specs.List.{fold}
use Rattle.std.specs.Hash.DefaultHasher.{initial, write, finish}
use Rattle.claim_tree.specs.Tree.{Text}

-- SipHash-1-3 of a signature with these digests behind it
abbrev pub seed_over : Text → List Text → ℕ
seed_over signature digests = finish (fold write (write initial signature) digests)
