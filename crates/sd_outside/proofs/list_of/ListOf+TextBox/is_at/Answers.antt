use Rattle.std.proofs.Common.{bytes_eq, sym, ap, ◌∙◌}
use Rattle.std.specs.Option.{option_copied}
use Rattle.sd_outside.proofs.Membership.{at_told, none_told}
use Rattle.sd_outside.proofs.list_of.ListOf+TextBox.is_at.Goals as goal

pub returns-in-Some : goal.returns-in-Some
returns-in-Some c =
    at_told c.args.self.now c.args.i c.in-Some.other.now c.args.text.now (sym c.at.ensures ∙ ap option_copied c.in-Some.is) c.eq.result (c.eq.ensures ∙ ap (λ t. bytes_eq t c.args.text.now) c.as_str.ensures)

pub returns-in-None : goal.returns-in-None
returns-in-None c = none_told c.args.self.now c.args.i c.args.text.now (sym c.at.ensures ∙ ap option_copied c.in-None.is)
