use Rattle.std.proofs.Common.{◌≡◌, ◌++◌, map, drop}
use Rattle.audit_core.specs.Found.{site_text}
use Rattle.audit_core.proofs.found.standings_of.Given as goal

abbrev pub invariant-loop-site : goal.invariant-loop-site
invariant-loop-site l = l.standings.items ++ map site_text (drop l.site-index l.sites) ≡ map site_text l.sites
