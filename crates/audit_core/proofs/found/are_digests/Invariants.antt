use Rattle.std.proofs.Common.{drop}
use Rattle.audit_core.specs.Found.{AreDigests}
use Rattle.audit_core.proofs.found.are_digests.Given as goal

abbrev pub invariant-loop-site : goal.invariant-loop-site
invariant-loop-site l = AreDigests l.hash (drop l.site-index l.sites) → AreDigests l.hash l.sites
