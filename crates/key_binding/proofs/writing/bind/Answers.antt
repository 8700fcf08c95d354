use Rattle.std.proofs.Common.{sym, subst}
use Rattle.b64url_text.specs.Base64url.{IsWord}
use Rattle.b64url_text.proofs.Codes.{IsWord-b64}
use Rattle.key_binding.proofs.writing.bind.Goals as goal

pub returns-in-Ok-sign-clause-words : goal.returns-in-Ok-sign-clause-words
returns-in-Ok-sign-clause-words g c =
    let signed = c.in-Ok-sign.ensures.signed in
    record {
      protected = subst IsWord (sym signed.with_it.protected) c.in-Ok.ensures.words.0;
      payload = subst IsWord (sym signed.with_it.payload) c.in-Ok.ensures.words.1;
      signature = subst IsWord (sym signed.with_it.signature_text) (IsWord-b64 signed.signature signed.some);
    }
