use Rattle.std.proofs.lemmas.Result.{IfOk-weaker, IfErr-weaker}
use Rattle.issuer_core.proofs.FromLaid.{signed_is_issued_holds, signed_words, unmade_refused}
use Rattle.issuer_core.proofs.issuing.issue_owned.Goals as goal

pub returns-clause-issued : goal.returns-clause-issued
returns-clause-issued g c =
    let to_sign = rw c.alg_name.ensures at c.in-Ok.ensures.to_sign in
    IfOk-weaker c.sign.result _ _ (λ parts is_by. (signed_is_issued_holds _ _ _ _ c.in-Ok.token is_by.signature parts c.in-Ok.ensures.writable to_sign is_by.with_it is_by.signed).0) c.sign.ensures.signed

pub returns-clause-words : goal.returns-clause-words
returns-clause-words g c = IfOk-weaker c.sign.result _ _ (λ parts is_by. signed_words c.in-Ok.token is_by.signature parts c.in-Ok.ensures.words is_by.some is_by.with_it) c.sign.ensures.signed

pub returns-clause-refused : goal.returns-clause-refused
returns-clause-refused g c =
    let to_sign = rw c.alg_name.ensures at c.in-Ok.ensures.to_sign in
    IfErr-weaker c.sign.result _ _ (unmade_refused _ _ _ _ (record { passes = c.in-Ok.ensures.passes; differ = c.in-Ok.ensures.differ }) c.in-Ok.token to_sign) c.sign.ensures.refused
