use Rattle.std.proofs.Common.{◌∙◌, ap, sym}
use Rattle.json_form.specs.declared.token.TokenError.TheVariants.{Fault}
use Rattle.json_form.specs.MembersRead.{misformed}
use Rattle.json_form.proofs.token.TokenErrorFromJsonFormError.from.Goals as goal

pub returns-in-Fault : goal.returns-in-Fault
returns-in-Fault c = ap Fault c.fault_at.ensures ∙ ap misformed (sym c.in-Fault.is)
