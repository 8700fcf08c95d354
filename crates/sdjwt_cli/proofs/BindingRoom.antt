-- A key binding token fits behind what is issued, where audience, nonce, header and signature are short.
use Rattle.std.proofs.Common.{ℕ, ◌<◌, ◌≤◌, ◌∷◌, ◌++◌, length, length-append, None, Some, sym, ap, subst, arith}
use Rattle.b64url_text.proofs.Codes.{IsWord-b64}
use Rattle.b64url_text.proofs.Lengths.{length-b64}
use Rattle.claim_tree.specs.JsonText.{json_text}
use Rattle.claim_tree.specs.Tree.{Text, object}
use Rattle.jws_part.specs.Header.{header_members}
use Rattle.key_binding.specs.Binding.{binding_header, claim_members, claims_for}
use Rattle.key_binding.proofs.Bindings.{claims_short, header_short}
use Rattle.sdjwt_cli.specs.AnySigner.{AnySigner, HasShortHeader, ShortFits}

pub short_name : (alg : Text) → length alg ≤ 100 → HasShortHeader alg
short_name alg short = omega (arith, header_short alg 100 short)

pub short_fits : (holder : AnySigner) → ShortFits holder
short_fits holder None now signs small in_range = tt
short_fits holder (Some ask) now signs small in_range = λ hash text token is.
    let size = signs.signature token.protected token.payload is.signature is.signed in
    let header = json_text (object (header_members (binding_header holder.alg))) in
    let claims = json_text (object (claim_members (claims_for hash text ask.aud ask.nonce now))) in
    let word = IsWord-b64 is.signature size.0 in
    record {
      some = subst (λ (t : Text). 0 < length t) (sym is.signature_text) word.some;
      short = omega (
        arith,
        claims_short hash text ask.aud ask.nonce now small.0 small.1 in_range,
        size.1,
        signs.header,
        ap length is.protected,
        ap length is.payload,
        ap length is.signature_text,
        length-b64 header,
        length-b64 claims,
        length-b64 is.signature,
        length-append token.protected (46 ∷ (token.payload ++ 46 ∷ token.signature)),
        length-append token.payload (46 ∷ token.signature),
      );
    }
