-- What a key binding token is judged by, and what is read of it.
use Rattle.std.specs.Prelude.{◌≡◌, ℕ, List, Option, Some, codes, option_and_then}
use Rattle.claim_tree.specs.Tree.{Text, Tree, no_members, get}
use Rattle.compact_form.specs.declared.parts.JwtParts.{JwtParts}
use Rattle.disclosure.specs.declared.digests.HashAlg.{HashAlg}
use Rattle.hmac_sign.specs.declared.key_set.NamedKey.{NamedKey}
use Rattle.hmac_sign.specs.Keys.{key_named, text_under}
use Rattle.jws_part.specs.declared.header.Header.{Header}
use Rattle.jws_part.specs.Header.{IsHeader, text_tree}
use Rattle.jws_part.specs.Part.{IsBody}
use Rattle.jws_part.specs.Times.{IsMoment}
use Rattle.key_binding.specs.Binding.{Claims}
use Rattle.key_binding.specs.Caller.{Caller}
use Rattle.key_binding.specs.declared.policy.BindingPolicy.{BindingPolicy}

-- who may sign a key binding token: the holder whose key the processed payload names, with HS256,
-- or whom a caller says that checks signatures itself
pub data Holders : Type 0 where
  of_keys : List NamedKey → Holders
  of_caller : Caller → Holders

-- what is asked of a key binding token
pub record BindingRules : Type 0 where
  pub holders : Holders
  -- the audiences of which it is to be for one, and the nonce
  pub aud : List Text
  pub nonce : Text
  -- how old it may be, in seconds
  pub max_age : ℕ

-- the rules of a policy
abbrev pub binding_rules : BindingPolicy → BindingRules
binding_rules policy =
    record {
      holders = of_keys policy.keys;
      aud = policy.aud;
      nonce = policy.nonce;
      max_age = policy.max_age;
    }

-- a key binding token, and what it is judged by
pub record Judged : Type 0 where
  pub token : JwtParts
  -- the processed payload of the token that it is sent with
  pub payload : Tree
  pub rules : BindingRules
  -- by how many seconds clocks may differ
  pub skew : ℕ
  -- the hash of the token that it is sent with, and its text up to and with the last tilde
  pub hash : HashAlg
  pub hashed : Text
  -- in seconds since 1970
  pub now : ℕ

abbrev pub judged : JwtParts → Tree → BindingRules → ℕ → HashAlg → Text → ℕ → Judged
judged token payload rules skew hash hashed now =
    record {
      token = token;
      payload = payload;
      rules = rules;
      skew = skew;
      hash = hash;
      hashed = hashed;
      now = now;
    }

-- the name of the holder's key: the text `kid` of the object `cnf` (RFC 7800 section 3.4)
abbrev pub holder_kid : Tree → Option Text
holder_kid payload =
    option_and_then (λ cnf. text_under cnf (codes "kid")) (get payload (codes "cnf"))

-- the holder's key, where the set has it
abbrev pub holder_key : List NamedKey → Tree → Option (List ℕ)
holder_key keys payload = option_and_then (key_named keys) (holder_kid payload)

-- the header is read, and says this; there is no unprotected one
abbrev pub HasBindingHeader : JwtParts → Header → Type 0
HasBindingHeader token header = IsHeader token.protected no_members header

-- the payload says this, whatever else it says
pub record PayloadSays (body : Tree) (claims : Claims) : Type 0 where
  pub aud : get body (codes "aud") ≡ Some (text_tree claims.aud)
  pub iat : IsMoment body (codes "iat") claims.iat
  pub nonce : get body (codes "nonce") ≡ Some (text_tree claims.nonce)
  pub sd_hash : get body (codes "sd_hash") ≡ Some (text_tree claims.sd_hash)

-- the payload is read, and says this
pub record HasClaims (token : JwtParts) (claims : Claims) : Type 0 where
  pub body : Tree
  pub is_body : IsBody token.payload body
  pub says : PayloadSays body claims
