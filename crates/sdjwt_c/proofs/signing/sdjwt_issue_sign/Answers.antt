-- The token with a signature of some bytes, by an algorithm that has a name, is handed over.
use Rattle.std.specs.Prelude.{◌==◌}
use Rattle.std.proofs.Common.{◌≡◌, ◌⊎◌, ⊎_elim, List, ℕ, [], length, true, false, sym, ◌∙◌, subst}
use Rattle.sdjwt_c.specs.Handed.{HandsBy}
use Rattle.sdjwt_c.specs.Signing.{AreNoAlgName, SignsToken}
use Rattle.sdjwt_c.proofs.Handing.{handed}
use Rattle.sdjwt_c.proofs.signing.sdjwt_issue_sign.Goals as goal

pub returns-in-Some : goal.returns-in-Some
returns-in-Some c =
    let Misused : Type 0 = (c.args.signature.now ≡ []) ⊎ AreNoAlgName c.args.alg.now in
    let Named : List ℕ → Type 0 = λ alg. HandsBy Misused (SignsToken c.args.order.now alg c.args.seed.now c.args.signature.now) c.args.room.now c.hand.new.room c.hand.new.len c.number-in-Some.result in
    let some : (length c.args.signature.now == 0) ≡ false = sym c.is_empty.ensures ∙ c.if-is_empty.false in
    let none : c.args.signature.now ≡ [] → ⊥ = λ empty. let both : true ≡ false = subst (λ (bytes : List ℕ). (length bytes == 0) ≡ false) empty some in cc both in
    let kept : Misused → ⊥ = ⊎_elim none c.in-Some.ensures.a_name in
    subst Named c.in-Some.ensures.named
    (handed Misused kept (SignsToken c.args.order.now c.in-Some.alg c.args.seed.now c.args.signature.now) c.args.room.now c.hand.new.room c.hand.new.len c.number-in-Some.result c.hand.result c.number-in-Some.ensures
    c.signed_token.result c.signed_token.ensures.gives c.signed_token.ensures.refuses c.signed_token.ensures.unreadable c.signed_token.ensures.read c.hand.ensures)
