-- What a caller says of signatures that it checks itself, and which algorithms it takes.
use Rattle.std.specs.Prelude.{◌≡◌, ℕ, ◌⊎◌, List, Option, Some}
use Rattle.b64url_text.specs.Base64url.{Decodes}
use Rattle.claim_tree.specs.Tree.{Text}
use Rattle.hmac_sign.specs.AlgNames.{IsNoAlgName}
use Rattle.sd_outside.specs.Lists.{In}
use Rattle.key_binding.specs.declared.caller.SignatureAnswer.{SignatureAnswer}

-- the algorithms that are taken, and what is said of the signature, where it was asked
pub record Caller : Type 0 where
  pub algs : List Text
  pub answer : Option SignatureAnswer

-- signatures of the algorithm are not taken; one of a shared key is, just where
-- the caller's own list names it (RFC 8725 section 3.1)
abbrev pub IsAlgUntaken : Caller → Text → Type 0
IsAlgUntaken caller alg = IsNoAlgName alg ⊎ (In alg caller.algs → ⊥)

-- no bytes have this text as their base64url text
abbrev pub IsNoSignature : Text → Type 0
IsNoSignature text = (signature : List ℕ) → Decodes text signature → ⊥

-- the text is that of a signature, and this was said of it
abbrev pub IsAnswered : Caller → SignatureAnswer → Text → Type 0
IsAnswered caller answer text = (IsNoSignature text → ⊥) × (caller.answer ≡ Some answer)

-- there is no key for it
abbrev pub IsUnknownTo : Caller → Text → Type 0
IsUnknownTo caller text = IsAnswered caller SignatureAnswer.Unknown text

-- it is not good
abbrev pub IsBadTo : Caller → Text → Type 0
IsBadTo caller text = IsAnswered caller SignatureAnswer.Good text → ⊥
