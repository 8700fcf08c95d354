-- For private functions: the numbers of the parts that an audit judges.
use Rattle.std.specs.Prelude.{ℕ}
use Rattle.audit_core.specs.declared.part.AuditPart.{AuditPart}

abbrev pub number_of_part : AuditPart → ℕ
number_of_part AuditPart.Signed = 1
number_of_part AuditPart.Written = 2
number_of_part AuditPart.Claims = 3
number_of_part AuditPart.Digests = 4
number_of_part AuditPart.Decoys = 5
number_of_part AuditPart.SdOrder = 6
