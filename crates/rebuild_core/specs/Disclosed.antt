-- For private functions: the names that are disclosed in each object.
use Rattle.std.specs.Prelude.{ℕ, Bool, eqb, ◌&&◌, bytes_eq}
use Rattle.std.specs.List.{list_any}
use Rattle.std.specs.HashSet.{HashSet}
use Rattle.claim_tree.specs.Tree.{Text}
use Rattle.digest_index.specs.declared.seeded.Seeded.{Seeded}
use Rattle.rebuild_core.specs.declared.names.Disclosed.{Disclosed}

abbrev pub is_disclosed : ℕ → Text → Disclosed → Bool
is_disclosed object name d = eqb object d.object && bytes_eq name d.name.now

-- the name is disclosed in the object with this number
abbrev pub is_name_disclosed : HashSet Disclosed Seeded → ℕ → Text → Bool
is_name_disclosed disclosed object name = list_any (is_disclosed object name) disclosed.keys
