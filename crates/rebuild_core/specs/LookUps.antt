-- Not needed to believe the program's promises: how many digests are looked up.
use Rattle.std.specs.Prelude.{ℕ, ◌+◌, ◌-◌, ◌^◌, ◌≤◌, min, List, length, sum_by}
use Rattle.claim_tree.specs.Tree.{Tree}
use Rattle.digest_sites.specs.Sites.{sites}
use Rattle.digest_sites.specs.Given.{Given}

-- how often the index of digests is asked: once for each site of the payload
-- and of every value, and once for each disclosure
abbrev pub look_ups : Tree → List Given → ℕ
look_ups p given = length (sites p) + (sum_by (λ x. length (sites x.value)) given + length given)

-- a count after so many look-ups, short of the last value of a `u64`
abbrev pub counted : ℕ → ℕ → ℕ
counted steps many = min (steps + many) (2 ^ 64 - 1)

-- a count never falls, and rises by no more than so many
abbrev pub RoseWithin : ℕ → ℕ → ℕ → Type 0
RoseWithin many old new = (old ≤ new) × (new ≤ old + many)
