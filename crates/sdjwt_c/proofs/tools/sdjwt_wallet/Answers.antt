-- Of tokens that have their lengths the answer is handed over.
use Rattle.std.proofs.Common.{List, ℕ, refl, ap, ◌∙◌, subst}
use Rattle.sd_outside.specs.Status.{status_number}
use Rattle.sd_outside.specs.declared.status.Status.TheVariants.{Memory}
use Rattle.cli_parts.proofs.Finished.{reply_more}
use Rattle.cli_parts.specs.Replies.{Reply}
use Rattle.wallet_core.specs.WalletRun.{WalletAnswers}
use Rattle.sdjwt_c.specs.Handed.{HandsBy}
use Rattle.sdjwt_c.specs.Tokens.{AreLengths}
use Rattle.sdjwt_c.proofs.Handing.{handed_reply}
use Rattle.sdjwt_c.proofs.tools.sdjwt_wallet.Goals as goal

pub returns-in-Ok : goal.returns-in-Ok
returns-in-Ok c =
    let Fit : Type 0 = AreLengths c.args.lengths.now c.args.tokens.now in
    let Is : List (List ℕ) → Reply → Type 0 = λ held reply. Fit × WalletAnswers c.args.query.now held reply in
    let Over : List (List ℕ) → Type 0 = λ held. HandsBy (Fit → ⊥) (Is held) c.args.room.now c.hand.new.room c.hand.new.len c.number-in-Ok.result in
    let held = c.in-Ok.held in
    let fit : Fit = c.are_lengths.ensures.0 c.if-not-are_lengths.false in
    let kept : (Fit → ⊥) → ⊥ = λ misused. misused fit in
    let replies = reply_more (WalletAnswers c.args.query.now held) (Is held) (λ reply h. (fit, h)) c.answer_files.result c.answer_files.ensures.replies in
    subst Over c.in-Ok.ensures
    (handed_reply (Fit → ⊥) kept (Is held) c.args.room.now c.hand.new.room c.hand.new.len c.number-in-Ok.result c.hand.result c.number-in-Ok.ensures c.answer_files.result replies c.answer_files.ensures.read c.hand.ensures)

pub returns-in-Err : goal.returns-in-Err
returns-in-Err c =
    let fit = c.are_lengths.ensures.0 c.if-not-are_lengths.false in
    record {
      status = Memory;
      number_is = c.number-in-Err.ensures ∙ ap status_number c.leave-in-Err.ensures.status;
      hands = record { len_is = c.leave-in-Err.ensures.len; room_is = refl };
      misuse = λ misused. absurd (misused fit);
    }
