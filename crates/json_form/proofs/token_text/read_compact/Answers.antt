use Rattle.std.proofs.Common.{◌≡◌, Err, sym, subst, ◌∙◌}
use Rattle.std.proofs.lemmas.Result.{err_from_is_err_and}
use Rattle.compact_form.specs.CompactToken as plain
use Rattle.json_form.specs.declared.token.Token.{Token}
use Rattle.json_form.specs.declared.token.TokenError.{TokenError}
use Rattle.json_form.proofs.Tokens.{refused_plainly, read_plainly}
use Rattle.json_form.proofs.token_text.read_compact.Goals as goal

pub returns-in_err-view-clause-refused : goal.returns-in_err-view-clause-refused
returns-in_err-view-clause-refused c fault is =
    let handed = err_from_is_err_and c.from_residual.result c.from_residual.ensures.1 in
    let both : Err handed.0 ≡ Err (TokenError.Fault fault) = sym handed.1 ∙ is in
    let error : handed.0 ≡ TokenError.Fault fault = cc both in
    let faults : TokenError.Fault c.in_err-view.field-0.0 ≡ TokenError.Fault fault = sym handed.2 ∙ error in
    let same : c.in_err-view.field-0.0 ≡ fault = cc faults in
    refused_plainly c.args.text.now fault c.requires.plain (subst (plain.IsCompactRefused c.args.text.now) same c.in_err-view.ensures.err)

pub returns-clause-ok : goal.returns-clause-ok
returns-clause-ok c =
    let token : Token = record { parts = c.in_ok-view.view; outer = c.new.result } in
    read_plainly c.args.text.now token c.requires.plain c.in_ok-view.ensures.ok c.new.ensures
