-- A policy that is read has no more to tell.
use Rattle.std.proofs.Common.{Err, refl}
use Rattle.sdjwt_c.specs.Policies.{PolicyAnswers}
use Rattle.sdjwt_c.proofs.Handing.{handed, empty}
use Rattle.sdjwt_c.proofs.policy.sdjwt_policy_new.Goals as goal

pub returns-in-Ok-clause-answers : goal.returns-in-Ok-clause-answers
returns-in-Ok-clause-answers c =
    empty ⊥ (λ m. m) (λ reply. PolicyAnswers c.args.policy.now reply) c.args.room.now c.args.room.now c.leave.new.len c.number.result c.leave.result c.number.ensures
    (record { policy = c.in-Ok.kept.value; is_policy = c.in-Ok.ensures.policy; empty = refl }) c.leave.ensures.status (record { len_is = c.leave.ensures.len; room_is = refl })

pub returns-in-Err-clause-answers : goal.returns-in-Err-clause-answers
returns-in-Err-clause-answers c =
    handed ⊥ (λ m. m) (λ reply. PolicyAnswers c.args.policy.now reply) c.args.room.now c.hand.new.room c.hand.new.len c.number-in-Err.result c.hand.result c.number-in-Err.ensures
    (Err c.in-Err.stop) tt c.in-Err.ensures.fit c.in-Err.ensures.unreadable c.in-Err.ensures.read c.hand.ensures
