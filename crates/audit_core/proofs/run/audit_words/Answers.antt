use Rattle.std.proofs.Common.{[], ◌∷◌}
use Rattle.audit_core.proofs.Answering.{three_words}
use Rattle.audit_core.proofs.run.audit_words.Goals as goal

pub returns-in-len3-clause-some : goal.returns-in-len3-clause-some
returns-in-len3-clause-some c =
    three_words c.args.words.now c.name-item.result c.order-item.result c.token-item.result c.as_str.result.now c.as_str-in-len3.result.now c.as_str-in-len3-2.result.now (97 ∷ 117 ∷ 100 ∷ 105 ∷ 116 ∷ []) c.eq.result
    c.in-len3.len_at_least c.in-len3.len_below c.name-item.is c.order-item.is c.token-item.is c.as_str.ensures.value c.if-eq.true c.eq.ensures c.as_str-in-len3.ensures.value c.as_str-in-len3-2.ensures.value
