use Rattle.std.proofs.Common.{sym, ap, ◌∙◌}
use Rattle.std.specs.Option.{option_map, is_some}
use Rattle.key_binding.specs.JudgedSteps.{rules_seen}
use Rattle.verifier_core.specs.Verdict.{Demands}
use Rattle.verifier_core.proofs.CheckTests.{missing_told, some_seen}
use Rattle.verifier_core.proofs.check_shown.is_binding_missing.Goals as goal

pub returns : goal.returns
returns c =
    missing_told c.args.demands.now c.args.token.now.parts _ (ap (λ (d : Demands). d.binding) (sym c.demands.view_is) ∙ ap (option_map rules_seen) c.in-Some.is) c.is_none.result (ap is_some (sym c.binding.ensures) ∙ (some_seen c.binding.result ∙ c.is_none.ensures))
