use Rattle.std.proofs.Common.{◌≡◌, true, false, is_some, sym, ap, ◌∙◌}
use Rattle.verifier_core.proofs.Judgements.{judged_good}
use Rattle.verifier_core.proofs.asking.accepted.Goals as goal

pub returns-in_default : goal.returns-in_default
returns-in_default c =
    let k = c.args.case in
    judged_good k.text.now k.policy.now k.binding_algs.now k.now k.answers c.args.token.now c.args.payload c.requires.token c.requires.signed c.requires.accepted
    (λ answer same none. c.in_default.not-Holder answer same)

pub returns : goal.returns
returns c =
    let k = c.args.case in
    judged_good k.text.now k.policy.now k.binding_algs.now k.now k.answers c.args.token.now c.args.payload c.requires.token c.requires.signed c.requires.accepted
    (λ answer same none. let clash : false ≡ true = sym (ap is_some none) ∙ c.if-is_none.ensures in cc clash)
