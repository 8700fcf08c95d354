-- A text that a holder has, which can be presented.
use Rattle.std.specs.Prelude.{◌≡◌, List, None}
use Rattle.claim_tree.specs.Tree.{Text}
use Rattle.hmac_sign.specs.declared.key_set.NamedKey.{NamedKey}
use Rattle.json_form.specs.Token.{IsToken}
use Rattle.json_form.specs.declared.token.Token.{Token}
use Rattle.marked_tree.specs.Marked.{Marked}
use Rattle.holder_core.specs.Asked.{held_rules}
use Rattle.verifier_core.specs.Verdict.{IsChecked}

-- the text is this token, which has no key binding token and fails none of the conditions 5 to 21,
-- where one of these keys may have signed it, and processes to this payload
pub record IsUsable (content : Text) (keys : List NamedKey) (token : Token) (marked : Marked)
    : Type 0 where
  pub is_token : IsToken content token
  pub unbound : token.parts.binding ≡ None
  pub checked : IsChecked token (held_rules keys) marked
