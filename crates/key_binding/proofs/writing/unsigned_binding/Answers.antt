use Rattle.std.proofs.Common.{sym, subst}
use Rattle.b64url_text.specs.Base64url.{IsWord}
use Rattle.jws_part.specs.Header.{header_members}
use Rattle.key_binding.specs.Binding.{binding_header, claim_members, claims_for}
use Rattle.key_binding.proofs.Bindings.{object_word}
use Rattle.key_binding.proofs.writing.unsigned_binding.Goals as goal

pub returns-clause-words : goal.returns-clause-words
returns-clause-words c = (
  subst IsWord (sym c.in_ok-protected.ensures.text) (object_word (header_members (binding_header c.args.alg.now))),
  subst IsWord (sym c.in_ok-payload.ensures.text) (object_word (claim_members (claims_for c.args.hash c.args.hashed.now c.args.aud.now c.args.nonce.now c.args.iat))),
)
