-- With a signature of some bytes, where something is said of the issuer's, what is presented is handed over.
use Rattle.std.specs.Prelude.{◌==◌}
use Rattle.std.proofs.Common.{◌≡◌, ◌⊎◌, ⊎_elim, List, ℕ, [], Option, None, Some, length, true, false, sym, ◌∙◌, subst}
use Rattle.key_binding.specs.declared.caller.SignatureAnswer.{SignatureAnswer}
use Rattle.sdjwt_c.specs.Handed.{HandsBy}
use Rattle.sdjwt_c.specs.Presenting.{SignsPresented}
use Rattle.sdjwt_c.proofs.Handing.{handed}
use Rattle.sdjwt_c.proofs.presenting.sdjwt_present_sign.Goals as goal

pub returns-in-Some : goal.returns-in-Some
returns-in-Some c =
    let order = c.args.order.now in let token = c.args.token.now in let now = c.args.now in let signature = c.args.signature.now in let word = c.in-Some.word in
    let Said : Option SignatureAnswer → Type 0 = λ said. HandsBy ((signature ≡ []) ⊎ (said ≡ None)) (SignsPresented order token now said signature) c.args.room.now c.hand.new.room c.hand.new.len c.number-in-Some.result in
    let some : (length signature == 0) ≡ false = sym c.is_empty.ensures ∙ c.if-is_empty.false in
    let none : signature ≡ [] → ⊥ = λ empty. let both : true ≡ false = subst (λ (bytes : List ℕ). (length bytes == 0) ≡ false) empty some in cc both in
    let kept : (signature ≡ []) ⊎ (Some word ≡ None) → ⊥ = ⊎_elim none (λ (unsaid : Some word ≡ None). cc unsaid) in
    subst Said c.in-Some.ensures
    (handed ((signature ≡ []) ⊎ (Some word ≡ None)) kept (SignsPresented order token now (Some word) signature) c.args.room.now c.hand.new.room c.hand.new.len c.number-in-Some.result c.hand.result c.number-in-Some.ensures
    c.presented.result c.presented.ensures.gives c.presented.ensures.refuses c.presented.ensures.unreadable c.presented.ensures.read c.hand.ensures)
