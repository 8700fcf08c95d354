use Rattle.std.proofs.Common.{◌≢◌, ℕ, List, Err, ap, subst, rules, codes}
use Rattle.hmac_sign.specs.Hmac.{hs256_key, IsGood}
use Rattle.holder_core.specs.Asked.{asked_by}
use Rattle.holder_core.specs.Present.{IsNotPresented}
use Rattle.holder_core.specs.declared.errors.PresentError.TheVariants.{Memory}
use Rattle.holder_core.proofs.OtherRules.{not_presented_by}
use Rattle.sdjwt_lib.proofs.EndToEnd.{never}
use Rattle.sdjwt_lib.proofs.end_to_end.presented.Goals as goal

pub unreachable-requires : goal.unreachable-requires
unreachable-requires g c =
    let h = c.args.holder.now in
    let good = IsGood (hs256_key c.args.key) in
    let error = c.in-Err.field-0 in
    let memory : error ≢ Memory = search rules in
    let refused = not_presented_by c.as_bytes.result.now (asked_by h.ask) (codes "HS256") good c.args.now (Err error) c.in-Err.ensures.refused g.F.Fn h.consent (λ at b a. record { shown = a.shown; shows = a.shows; says = a.says }) in
    c.requires.unrefused error memory (λ is. never (c.in-Err.ensures.failed (ap Err is)))
    (subst (λ (token : List ℕ). IsNotPresented g.F.Fn h.consent token (asked_by h.ask) (codes "HS256") good c.args.now error) c.as_bytes.ensures.value refused)
