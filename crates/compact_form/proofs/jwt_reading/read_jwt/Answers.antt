use Rattle.std.proofs.Common.{◌≡◌, Some, None, true, false, sym, ◌∙◌}
use Rattle.compact_form.specs.declared.view.JwtView.{JwtView}
use Rattle.compact_form.specs.Views.{jwt_of}
use Rattle.compact_form.proofs.JwtTexts.{first_cut, second_cut, same_words}
use Rattle.compact_form.proofs.jwt_reading.read_jwt.Goals as goal

pub returns-in_err-protected-clause-none : goal.returns-in_err-protected-clause-none
returns-in_err-protected-clause-none c = rw c.from_residual.ensures (λ j is. first_cut j c.args.text.now None is c.in_err-protected.ensures.cases)

pub returns-in_err-payload-clause-none : goal.returns-in_err-payload-clause-none
returns-in_err-payload-clause-none c = rw c.from_residual-in_err-payload.ensures (λ j is.
    let first = first_cut j c.args.text.now (Some (c.in_ok-protected.protected, c.in_ok-protected.rest)) is c.in_ok-protected.ensures.cases in
    second_cut j c.args.text.now c.in_ok-protected.rest.now None is first.1 c.in_err-payload.ensures.cases)

pub returns-else-has_words-clause-none : goal.returns-else-has_words-clause-none
returns-else-has_words-clause-none c j is =
    let first = first_cut j c.args.text.now (Some (c.in_ok-protected.protected, c.in_ok-protected.rest)) is c.in_ok-protected.ensures.cases in
    let second = second_cut j c.args.text.now c.in_ok-protected.rest.now (Some (c.in_ok-payload.payload, c.in_ok-payload.signature)) is first.1 c.in_ok-payload.ensures.cases in
    let view : JwtView = record { protected = c.in_ok-protected.protected; payload = c.in_ok-payload.payload; signature = c.in_ok-payload.signature } in
    let words = same_words (jwt_of view) j first.0 second.0 second.1 is.words in
    let clash : false ≡ true = sym c.if-has_words.false ∙ c.has_words.ensures.1 words in
    cc clash
