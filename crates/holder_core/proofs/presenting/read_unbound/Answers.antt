use Rattle.std.proofs.Common.{sym, ap, ◌∙◌}
use Rattle.json_form.specs.declared.token.Token.{Token}
use Rattle.verifier_core.proofs.Verdicts.{few}
use Rattle.holder_core.proofs.Steps.{is_unbound}
use Rattle.holder_core.proofs.presenting.read_unbound.Goals as goal

pub returns-clause-unbound : goal.returns-clause-unbound
returns-clause-unbound c = record {
  few = few c.args.text.now c.in-Ok.token c.in-Ok.ensures.ok;
  words = c.in-Ok.ensures.printable.words;
  unbound = ap (λ (t : Token). t.parts.binding) (sym c.view.ensures) ∙ is_unbound c.binding.result c.view.result.parts.binding c.binding.ensures (sym c.is_some.ensures ∙ c.if-is_some.false);
}
