-- What is asked for an algorithm that has a name is handed over.
use Rattle.std.proofs.Common.{List, ℕ, subst}
use Rattle.sdjwt_c.specs.Handed.{HandsBy}
use Rattle.sdjwt_c.specs.Signing.{AreNoAlgName, AsksToSign}
use Rattle.sdjwt_c.proofs.Handing.{handed}
use Rattle.sdjwt_c.proofs.signing.sdjwt_issue_ask.Goals as goal

pub returns-in-Some : goal.returns-in-Some
returns-in-Some c =
    let Named : List ℕ → Type 0 = λ alg. HandsBy (AreNoAlgName c.args.alg.now) (AsksToSign c.args.order.now alg c.args.seed.now) c.args.room.now c.hand.new.room c.hand.new.len c.number.result in
    subst Named c.in-Some.ensures.named
    (handed (AreNoAlgName c.args.alg.now) c.in-Some.ensures.a_name (AsksToSign c.args.order.now c.in-Some.alg c.args.seed.now) c.args.room.now c.hand.new.room c.hand.new.len c.number.result c.hand.result c.number.ensures
    c.asked_text.result c.asked_text.ensures.asks c.asked_text.ensures.refuses c.asked_text.ensures.unreadable c.asked_text.ensures.read c.hand.ensures)
