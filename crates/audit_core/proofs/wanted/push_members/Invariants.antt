use Rattle.std.proofs.Common.{◌≡◌, ◌++◌, replicate}
use Rattle.digest_sites.specs.declared.site.SiteKind.TheVariants.{Member}
use Rattle.audit_core.specs.AuditSteps.{kind_letter}
use Rattle.audit_core.proofs.wanted.push_members.Given as goal

abbrev pub invariant-loop : goal.invariant-loop
invariant-loop l = l.wanted.items ≡ l.fn.wanted.items ++ replicate l.counter (kind_letter Member ++ l.pointer)
