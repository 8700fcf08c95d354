use Rattle.std.proofs.Common.{sym, ◌∙◌, subst}
use Rattle.compact_form.specs.Compact.{compact}
use Rattle.compact_form.specs.JwtCalls.{IsUpToLastTilde}
use Rattle.compact_form.proofs.Printed.{is_compact, hashed_is_front}
use Rattle.compact_form.proofs.spelling.hashed_text.Goals as goal

pub returns-clause-front : goal.returns-clause-front
returns-clause-front c =
    let parts = c.args.parts.now in
    let is = c.from_string.ensures ∙ c.in_ok-front.ensures in
    subst (IsUpToLastTilde (compact parts)) (sym is) (hashed_is_front parts (compact parts) (is_compact parts c.requires.words))
