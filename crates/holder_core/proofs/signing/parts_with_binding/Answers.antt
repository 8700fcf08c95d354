use Rattle.std.proofs.Common.{Some, refl}
use Rattle.compact_form.specs.declared.parts.Parts.{Parts}
use Rattle.std.proofs.lemmas.Result.{IfErr-weaker}
use Rattle.holder_core.proofs.signing.parts_with_binding.Goals as goal

pub returns-clause-long : goal.returns-clause-long
returns-clause-long c =
    let bound : Parts = record { signed = c.args.unbound.signed; disclosures = c.args.unbound.disclosures; binding = Some c.args.token } in
    IfErr-weaker c.short_parts.result _ _ (λ e h. (h.0, bound, (refl, refl, refl), h.1)) c.short_parts.ensures.long
