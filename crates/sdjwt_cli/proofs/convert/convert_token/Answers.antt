use Rattle.std.proofs.Common.{◌≡◌, ◌<◌, length, string_bytes, ap, ◌∙◌, arith}
use Rattle.sd_outside.specs.Limits.{file_max}
use Rattle.cli_parts.specs.Lines.{line}
use Rattle.sdjwt_cli.specs.Converting.{IsConvertRefused, written, too_much}
use Rattle.cli_parts.proofs.Stopped.{of_fault}
use Rattle.sdjwt_cli.proofs.Converted.{converts}
use Rattle.sdjwt_cli.proofs.convert.convert_token.Goals as goal

pub returns-clause-refuses : goal.returns-clause-refuses
returns-clause-refuses c file reads =
    let token = c.args.token in
    let form = c.args.form in
    let whole : string_bytes c.in_ok-text.text ≡ line (written form token) = c.in_ok-text.ensures ∙ ap line c.in_ok-write_as.ensures.text in
    let long : file_max < length (line (written form token)) = omega (arith, c.len.ensures, c.if-len-le-FILE_MAX.false, ap length whole) in
    of_fault (IsConvertRefused form file) c.fault.result (too_much token reads long c.fault.ensures) c.refused.result c.refused.ensures.line

pub returns-then-len-le-FILE_MAX-clause-converts : goal.returns-then-len-le-FILE_MAX-clause-converts
returns-then-len-le-FILE_MAX-clause-converts c file reads =
    converts c.args.form file c.args.token c.in_ok-write_as.field-0 (string_bytes c.in_ok-text.text) reads c.requires.printable c.in_ok-write_as.ensures.text c.in_ok-write_as.ensures.back
    c.in_ok-text.ensures (omega (arith, c.len.ensures, c.if-len-le-FILE_MAX.true))
