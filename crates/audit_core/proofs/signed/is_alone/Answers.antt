use Rattle.std.proofs.Common.{◌∙◌, eq-eqb}
use Rattle.audit_core.proofs.Parts.{no_members_empty}
use Rattle.audit_core.proofs.signed.is_alone.Goals as goal

pub returns-then-is_none-clause-alone : goal.returns-then-is_none-clause-alone
returns-then-is_none-clause-alone c = λ b o. c.is_empty.ensures ∙ eq-eqb _ 0 (no_members_empty c.members.result.now (c.members.ensures.value ∙ c.outer.ensures ∙ o))
