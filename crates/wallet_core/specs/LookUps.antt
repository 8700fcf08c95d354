-- Not needed to believe the program's promises: how many digests are looked up
-- over all credentials.
use Rattle.std.specs.Prelude.{◌≤◌, ℕ, List, sum}
use Rattle.std.specs.List.{AllZip}
use Rattle.claim_tree.specs.Tree.{Text, Tree}
use Rattle.refusals.specs.Passing.{Passes}
use Rattle.digest_sites.specs.Given.{Given}
use Rattle.hmac_sign.specs.declared.key_set.NamedKey.{NamedKey}
use Rattle.holder_core.specs.Asked.{held_rules}
use Rattle.json_form.specs.Token.{IsToken}
use Rattle.json_form.specs.declared.token.Token.{Token}
use Rattle.rebuild_core.specs.LookUps.{look_ups, RoseWithin}
use Rattle.verifier_core.specs.Verdict.{TokenFails, HasContent}

-- where the text is a token that passes the conditions 1 to 13, no more than so
-- many digests are looked up in it
abbrev pub IsBound : List NamedKey → Text → ℕ → Type 0
IsBound keys content bound =
    (token : Token) (payload : Tree) (given : List Given) → IsToken content token
    → Passes 14 (TokenFails token (held_rules keys)) → HasContent token payload given
    → look_ups payload given ≤ bound

-- the count rose by no more than the sum of such numbers, one for each text
abbrev pub RoseWithinSum : List NamedKey → List Text → ℕ → ℕ → Type 0
RoseWithinSum keys held old new =
    (bounds : List ℕ) → AllZip (IsBound keys) held bounds → RoseWithin (sum bounds) old new
