use Rattle.std.proofs.Common.{◌≡◌, sym, ap, ◌∙◌}
use Rattle.std.proofs.lemmas.Result.{err_from_is_err_and}
use Rattle.b64url_text.specs.Base64url.{Decodes}
use Rattle.jws_part.specs.declared.body.BodyError.{BodyError}
use Rattle.jws_part.specs.BodySteps.{body_unread}
use Rattle.jws_part.proofs.Parts.{no_text, other_tree}
use Rattle.jws_part.proofs.body.read_object.Goals as goal

pub returns-in_err-members-clause-unreadable : goal.returns-in_err-members-clause-unreadable
returns-in_err-members-clause-unreadable c unreadable =
    let handed = err_from_is_err_and c.from_residual-in_err-members.result c.from_residual-in_err-members.ensures.1 in
    let error : body_unread c.in_err-members.field-0.0 ≡ BodyError.Unreadable = let both = sym handed.1 ∙ unreadable in cc (both, handed.2) in
    let decoded : Decodes c.args.part.now c.bytes-2.result.now = rw (← c.as_bytes.ensures.value, c.bytes-2.ensures) c.in_ok-bytes.ensures.ok in
    no_text c.args.part.now c.bytes-2.result.now c.in_err-members.field-0.0 decoded c.in_err-members.ensures.unread
    (λ memory. let clash : BodyError.Memory ≡ BodyError.Unreadable = ap body_unread (sym memory) ∙ error in cc clash)

pub returns : goal.returns
returns c =
    let decoded : Decodes c.args.part.now c.bytes-2.result.now = rw (← c.as_bytes.ensures.value, c.bytes-2.ensures) c.in_ok-bytes.ensures.ok in
    record {
      ok = tt;
      ordered = tt;
      depth = tt;
      unreadable = λ _. other_tree c.args.part.now c.bytes-2.result.now c.in_ok-members.field-0 decoded c.in_ok-members.ensures.ok c.in_default.not-Object;
    }
