-- What refusals 51, 52, 53 and 57 ask of an order, and what is so of every
-- payload that a machine holds.
use Rattle.std.specs.Prelude.{◌<◌, ◌≤◌, ◌^◌, Option, Some, IfSome}
use Rattle.std.specs.Str.{IsUtf8}
use Rattle.sd_outside.specs.Limits.{depth_max}
use Rattle.claim_tree.specs.Everywhere.{LeafIsUtf8, Everywhere}
use Rattle.claim_tree.specs.Tree.{Text, Leaf, text, Tree, array, object, depth, elements_len, IsOrdered, IsRanged}
use Rattle.sd_outside.specs.Lists.{In}
use Rattle.claim_tree.specs.Path.{tree_at}
use Rattle.rebuild_core.specs.Free.{HasNoReserved}
use Rattle.issuer_core.specs.declared.order.Decoy.{Decoy}
use Rattle.issuer_core.specs.Order.{Order}

abbrev pub IsObject : Tree → Type 0
IsObject (object ms) = Unit {0}
IsObject _ = ⊥

-- there is a tree, an object or a list
abbrev pub HoldsOthers : Option Tree → Type 0
HoldsOthers (Some (object ms)) = Unit {0}
HoldsOthers (Some (array es)) = Unit {0}
HoldsOthers _ = ⊥

pub record IsGoodOrder (o : Order) : Type 0 where
  -- 51
  pub is_object : IsObject o.payload
  -- 52
  pub no_reserved : HasNoReserved o.payload
  -- 53
  pub shallow : depth o.payload ≤ depth_max
  -- 57
  pub decoys_held : (entry : Decoy) → In entry o.decoys → HoldsOthers (tree_at o.payload entry.at)
  pub ordered : IsOrdered o.payload

-- what is so of every tree that a machine holds: each list has fewer than 2 ^
-- 64 elements, and each text and each name is UTF-8
abbrev pub FitsMachine : Tree → Type 0
FitsMachine t = Everywhere LeafIsUtf8 (λ es. elements_len es < 2 ^ 64) (λ name _. IsUtf8 name) t

-- a leaf that is a text has this property
abbrev pub TextIs : (Text → Type 0) → Leaf → Type 0
TextIs P (text s) = P s
TextIs P _ = Unit {0}

-- each text and each name of a tree has this property, however deep they stand
abbrev pub EachText : (Text → Type 0) → Tree → Type 0
EachText P t = Everywhere (TextIs P) (λ _. Unit {0}) (λ name _. P name) t

-- a good order as a machine holds it, with numbers of 64 bits: what is written for it is read again
pub record IsWritable (o : Order) : Type 0 where
  pub good : IsGoodOrder o
  pub held : FitsMachine o.payload
  pub ranged : IsRanged o.payload
  pub kid : IfSome o.kid IsUtf8
  pub typ : IfSome o.typ IsUtf8
