-- What a key of HMAC presents in two steps is what it presents at once.
use Rattle.std.proofs.Common.{◌≡◌, ℕ, List, sym, subst, ◌∙◌}
use Rattle.claim_tree.specs.Tree.{Text}
use Rattle.compact_form.specs.declared.parts.Parts.{Parts}
use Rattle.hmac_sign.specs.Algs.{alg_text}
use Rattle.hmac_sign.specs.Hmac.{AlgKey, IsGood}
use Rattle.json_form.proofs.Tokens as tokens
use Rattle.json_form.specs.declared.token.Token.{Token}
use Rattle.selection_core.specs.Consent.{RuleAnswers}
use Rattle.holder_core.specs.Asked.{Asked, AskTheSame}
use Rattle.holder_core.specs.Present.{IsAnswer, IsPresented}
use Rattle.holder_core.specs.ToSign.{IsSentBy, IsToPresent}
use Rattle.holder_core.specs.declared.signing.UnsignedPresentation.{UnsignedPresentation}
use Rattle.holder_core.proofs.OnePresentation.{same_answer}
use Rattle.holder_core.proofs.SignedLater.{sent_answer}

pub same_in_two_steps : {F : Type 0} (answers : RuleAnswers F) (rule : F) (key : AlgKey) (text : Text) (asked other : Asked) (now : ℕ) (unsigned : UnsignedPresentation) (answer sent : Parts) → AskTheSame asked other
    → IsPresented answers rule text asked (alg_text key.alg) (IsGood key) now answer → IsToPresent answers rule text other (alg_text key.alg) now unsigned → IsSentBy unsigned (IsGood key) sent → answer ≡ sent
same_in_two_steps answers rule key text asked other now unsigned answer sent same is to by =
    let one = tokens.one text is.token to.token is.is_token to.is_token in
    let at = subst (λ (t : Token). IsAnswer answers rule t asked (alg_text key.alg) (IsGood key) now answer) one is.is_answer in
    let later = sent_answer answers rule to.token other (alg_text key.alg) now (IsGood key) unsigned to.is_to_sign sent by in
    same_answer answers rule answers rule to.token asked other same (alg_text key.alg) (IsGood key) (λ head body x y p q. p ∙ sym q) now answer sent at later
