-- The text of a key in a file, RFC 7518 section 6.4.1: the base64url text of its bytes.
use Rattle.std.specs.Prelude.{◌≡◌, ◌≤◌, ℕ, List, length}
use Rattle.sd_outside.specs.Limits.{key_min}
use Rattle.b64url_text.specs.Base64url.{Decodes}
use Rattle.claim_tree.specs.Tree.{Text, text, Tree, leaf}
use Rattle.hmac_sign.specs.Hmac.{key_block}
use Rattle.hmac_sign.specs.declared.alg.Alg.{Alg}

-- the tree is the base64url text of these bytes, of which there are at least 32
pub record IsKeyBytes (t : Tree) (bytes : List ℕ) : Type 0 where
  pub code : Text
  pub is : t ≡ leaf (text code)
  pub decodes : Decodes code bytes
  pub enough : key_min ≤ length bytes

-- and this is the block of their key for HS256
pub record IsKeyText (t : Tree) (key : List ℕ) : Type 0 where
  pub bytes : List ℕ
  pub are : IsKeyBytes t bytes
  pub key_is : key ≡ key_block Alg.Hs256 bytes
