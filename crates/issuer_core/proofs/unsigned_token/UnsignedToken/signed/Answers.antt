use Rattle.std.proofs.Common.{refl, sym, subst, ◌∙◌}
use Rattle.std.proofs.lemmas.Result.{IfOk-weaker}
use Rattle.compact_form.specs.Compact.{AreWords}
use Rattle.issuer_core.proofs.FromLaid.{signed_words}
use Rattle.issuer_core.proofs.unsigned_token.UnsignedToken.signed.Goals as goal

pub returns-clause-words : goal.returns-clause-words
returns-clause-words c words =
    let own = signed_words c.args.self c.args.signature.now _ words c.in-Ok.ensures.some (record { jwt = c.in-Ok.ensures.signed; disclosures = refl; unbound = refl }) in
    IfOk-weaker c.within_limit.result _ _ (λ same h. subst AreWords (sym (h.0 ∙ c.token_of.ensures)) own) c.within_limit.ensures.short
