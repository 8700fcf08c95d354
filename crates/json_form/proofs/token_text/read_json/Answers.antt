use Rattle.std.proofs.Common.{◌≡◌, ◌≤◌, true, length, Err, IfSome, sym, ap, subst, ◌∙◌, arith}
use Rattle.std.specs.Prelude.{IfNone}
use Rattle.std.proofs.lemmas.Result.{err_from_is_err_and}
use Rattle.sd_outside.specs.Limits.{file_max}
use Rattle.refusals.specs.declared.condition.Condition.{Condition}
use Rattle.refusals.specs.Faults.{unplaced}
use Rattle.compact_form.specs.Trim.{trimmed, is_json}
use Rattle.json_form.specs.declared.token.TokenError.{TokenError}
use Rattle.json_form.specs.Json.{IsJson}
use Rattle.json_form.specs.JsonPlaces.{IsJsonPlace}
use Rattle.json_form.specs.Token.{IsTooMuch}
use Rattle.json_form.proofs.Tokens.{refused_long, refused_misformed, refused_much, read_json, same_fault}
use Rattle.json_form.proofs.token_text.read_json.Goals as goal

pub returns-in_err-token-clause-refused : goal.returns-in_err-token-clause-refused
returns-in_err-token-clause-refused c fault is =
    let text = c.args.text.now in
    let json : is_json (trimmed text) ≡ true = ap is_json (sym c.requires.between) ∙ c.requires.json in
    let short : length text ≤ file_max = omega (arith, c.if-text-gt-FILE_MAX.false) in
    let handed = err_from_is_err_and c.from_residual.result c.from_residual.ensures.1 in
    let both : Err handed.0 ≡ Err (TokenError.Fault fault) = sym handed.1 ∙ is in
    let error : handed.0 ≡ TokenError.Fault fault = cc both in
    refused_misformed text fault c.in_err-token.field-0.0 (sym handed.2 ∙ error) json short (λ place named. subst (λ bytes. IsJsonPlace bytes place) c.requires.between (c.in_err-token.ensures.fault place (ap Err named)))

pub returns-then-text-gt-FILE_MAX-clause-refused : goal.returns-then-text-gt-FILE_MAX-clause-refused
returns-then-text-gt-FILE_MAX-clause-refused c fault is =
    let named = same_fault fault c.fault.result (cc is) ∙ c.fault.ensures in
    refused_long c.args.text.now fault named (omega (arith, c.if-text-gt-FILE_MAX.true))

pub returns-in-Some-clause-ok : goal.returns-in-Some-clause-ok
returns-in-Some-clause-ok c =
    let text = c.args.text.now in
    let token = c.in_ok-token.token in
    let json : is_json (trimmed text) ≡ true = ap is_json (sym c.requires.between) ∙ c.requires.json in
    let short : length text ≤ file_max = omega (arith, c.if-text-gt-FILE_MAX.false) in
    let few : IsTooMuch token.parts → ⊥ = subst (λ compact. IfSome compact (λ _. IsTooMuch token.parts → ⊥)) c.in-Some.is c.in_ok-compact.ensures.few in
    read_json text token json short (subst (IsJson token) c.requires.between c.in_ok-token.ensures.ok) few

pub returns-clause-refused : goal.returns-clause-refused
returns-clause-refused c fault is =
    let text = c.args.text.now in
    let token = c.in_ok-token.token in
    let json : is_json (trimmed text) ≡ true = ap is_json (sym c.requires.between) ∙ c.requires.json in
    let short : length text ≤ file_max = omega (arith, c.if-text-gt-FILE_MAX.false) in
    let named = same_fault fault (unplaced Condition.TooMuch) (cc is) in
    let much : IsTooMuch token.parts = subst (λ compact. IfNone compact (IsTooMuch token.parts)) c.in-None.is c.in_ok-compact.ensures.much in
    refused_much text fault token named json short (subst (IsJson token) c.requires.between c.in_ok-token.ensures.ok) much
