-- The parts of a JWS that are JSON (RFC 7515 section 2): base64url texts of JSON objects.
use Rattle.std.specs.Prelude.{◌≡◌}
use Rattle.b64url_text.specs.Base64url.{Decodes}
use Rattle.claim_tree.specs.Tree.{Text, Tree, object, Members}
use Rattle.claim_tree.specs.JsonText.{Reads}

-- the text decodes to a JSON text that reads to the tree, so each of its numbers is whole
pub record Carries (part : Text) (t : Tree) : Type 0 where
  pub bytes : Text
  pub decodes : Decodes part bytes
  pub reads : Reads bytes t

-- the text carries an object, which is the tree
pub record IsBody (part : Text) (t : Tree) : Type 0 where
  pub members : Members
  pub is_object : t ≡ object members
  pub carried : Carries part t

-- the text carries no object
abbrev pub IsNoObject : Text → Type 0
IsNoObject part = (ms : Members) → Carries part (object ms) → ⊥
