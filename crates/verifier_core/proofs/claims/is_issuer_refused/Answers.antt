use Rattle.std.proofs.Common.{sym, ap, ◌∙◌}
use Rattle.std.specs.Option.{option_copied}
use Rattle.verifier_core.specs.Verdict.{Demands}
use Rattle.verifier_core.proofs.CheckTests.{issuer_told}
use Rattle.verifier_core.proofs.claims.is_issuer_refused.Goals as goal

pub returns-in-Some : goal.returns-in-Some
returns-in-Some c = issuer_told c.args.demands.now.iss c.in-Some.issuers.now _ (ap (λ (d : Demands). d.iss) (sym c.demands.view_is) ∙ ap option_copied c.in-Some.is) c.has_issuer.result c.has_issuer.ensures
