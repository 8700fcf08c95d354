-- Names of algorithms that sign.
use Rattle.std.specs.Prelude.{◌≡◌, ◌⊎◌, [], codes}
use Rattle.claim_tree.specs.Tree.{Text}

-- nobody signs by an algorithm of this name: it is empty, or `none`, the name of an unsecured JWS
-- (RFC 7515 section 4.1.1, RFC 7518 section 3.6)
abbrev pub IsNoAlgName : Text → Type 0
IsNoAlgName name = (name ≡ []) ⊎ (name ≡ codes "none")
