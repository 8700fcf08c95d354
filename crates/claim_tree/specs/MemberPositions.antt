-- For private functions: where a name stands among ascending members.
use Rattle.std.specs.Prelude.{◌≡◌, ◌<◌, ◌≤◌, ℕ, List, length, slice_index_or}
use Rattle.std.specs.Ordering.{nat_cmp}
use Rattle.std.specs.Cmp.Lexicographic.{slice_cmp}
use Rattle.std.specs.declared.cmp.Ordering.TheVariants.{Less, Equal, Greater}
use Rattle.claim_tree.specs.Tree.{Text}
use Rattle.claim_tree.specs.declared.tree.Tree.{Tree}

-- the member at i has the name
pub record IsPosition (ms : List (Text × Tree)) (name : Text) (i : ℕ) : Type 0 where
  pub within : i < length ms
  pub named : (d : Text × Tree) → slice_cmp nat_cmp (slice_index_or ms i d).0 name ≡ Equal

-- the names before i come before the name, and the others after it
pub record IsGap (ms : List (Text × Tree)) (name : Text) (i : ℕ) : Type 0 where
  pub within : i ≤ length ms
  pub before : (k : ℕ) (d : Text × Tree) → k < i
      → slice_cmp nat_cmp (slice_index_or ms k d).0 name ≡ Less
  pub after : (k : ℕ) (d : Text × Tree) → i ≤ k → k < length ms
      → slice_cmp nat_cmp (slice_index_or ms k d).0 name ≡ Greater
