-- Decoy digests, RFC 9901 section 4.2.5: where they stand.
use Rattle.std.specs.Prelude.{ℕ, zero, suc, ◌+◌, List, [], ◌∷◌, ◌++◌, replicate, if◌then◌else◌}
use Rattle.claim_tree.specs.Tree.{Text}
use Rattle.marked_tree.specs.Paths.{Path, same_path}
use Rattle.issuer_core.specs.declared.order.Decoy.{Decoy}
use Rattle.issuer_core.specs.Order.{Order}

-- the place of each decoy: those of the entries in their order, each as often as its count
abbrev pub decoy_paths : List Decoy → List Path
decoy_paths [] = []
decoy_paths (entry ∷ entries) = replicate entry.count entry.at ++ decoy_paths entries

abbrev pub decoys_of : Order → List Path
decoys_of o = decoy_paths o.decoys

-- how many of the first `many` decoys have this place
abbrev pub earlier : ℕ → Path → List Path → ℕ
earlier zero at decoys = 0
earlier (suc many) at [] = 0
earlier (suc many) at (other ∷ decoys) =
    (if same_path other at then 1 else 0) + earlier many at decoys

-- the digests of the decoys with this place, where dg has the digests, and the
-- first decoy has the number k
abbrev pub decoys_at : (ℕ → Text) → ℕ → List Path → Path → List Text
decoys_at dg k [] at = []
decoys_at dg k (other ∷ decoys) at =
    (if same_path other at then dg k ∷ [] else []) ++ decoys_at dg (suc k) decoys at
