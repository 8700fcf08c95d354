-- Trees in which no member has a reserved name.
use Rattle.std.specs.Prelude.{◌≡◌, false, bytes_eq}
use Rattle.claim_tree.specs.Tree.{Text, Tree}
use Rattle.claim_tree.specs.Everywhere.{EachMember}
use Rattle.digest_sites.specs.Reserved.{sd_name, dots_name}
use Rattle.rebuild_core.specs.Payload.{alg_name}

-- the name is neither `_sd` nor `...` nor `_sd_alg`
abbrev pub IsFree : Text → Type 0
IsFree name =
    (bytes_eq name sd_name ≡ false) × (bytes_eq name dots_name ≡ false)
    × (bytes_eq name alg_name ≡ false)

-- no member of any object has a reserved name
abbrev pub HasNoReserved : Tree → Type 0
HasNoReserved t = EachMember (λ name _. IsFree name) t
