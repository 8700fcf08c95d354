-- What is presented of an issued token is accepted by the meanings of the signatures, and so by a caller whose answers are true.
use Rattle.std.proofs.Common.{◌≡◌, ℕ, List, Option, None, Some, sym, ap, subst, ◌∙◌}
use Rattle.claim_tree.specs.Tree.{Text, Tree}
use Rattle.compact_form.specs.declared.parts.JwtParts.{JwtParts}
use Rattle.compact_form.specs.declared.parts.Parts.{Parts}
use Rattle.compact_form.specs.Compact.{hashed}
use Rattle.hmac_sign.specs.Agreement.{IsOfBytes}
use Rattle.json_form.specs.Alone.{alone}
use Rattle.json_form.specs.Token.{IsToken}
use Rattle.json_form.specs.declared.token.Token.{Token}
use Rattle.json_form.proofs.Tokens as tokens
use Rattle.key_binding.specs.declared.caller.SignatureAnswer.{SignatureAnswer}
use Rattle.marked_tree.proofs.LeftOut.{chosen_is_left}
use Rattle.selection_core.specs.Consent.{RuleAnswers}
use Rattle.verifier_core.specs.Asking.{caller_demands, IsAcceptedForAs}
use Rattle.verifier_core.specs.Meanings.{Meanings, IsGoodBy, IsSentWith, IsTrueOf, AreTrue, IsAcceptedUnder}
use Rattle.verifier_core.specs.Verdict.{Opens}
use Rattle.verifier_core.specs.declared.policy.Policy.{Policy}
use Rattle.verifier_core.proofs.ByMeaning.{one_acceptance}
use Rattle.issuer_core.specs.Order.{Order}
use Rattle.holder_core.specs.Asked.{Asked, BindingAsked}
use Rattle.holder_core.specs.Present.{IsBoundWith}
use Rattle.sdjwt_cli.specs.AnySigner.{AnySigner}
use Rattle.sdjwt_cli.specs.PresentedValues.{IsJudgedWith, AreMeant, PresentedToCaller, said_good}
use Rattle.sdjwt_cli.specs.Suits.{claims_for}
use Rattle.sdjwt_cli.proofs.HeldIssued.{IsTokenOf, token_of}
use Rattle.sdjwt_cli.proofs.NothingRefused.{is_presented_of}
use Rattle.sdjwt_cli.proofs.PresentedAccepted.{IsPresentedOf, carries_answer, answer_opens}
use Rattle.sdjwt_cli.proofs.PresentedValues.{presented_by_anyone}

-- what is good is told by the answer that says so
told_good : (answer : SignatureAnswer) → Some SignatureAnswer.Good ≡ Some answer → SignatureAnswer.Good ≡ answer
told_good answer is = cc is

module _ (seed : List ℕ) (o : Order) (issuer : AnySigner) (parts : Parts) (is : IsTokenOf seed o issuer parts)
    (asked : Asked) (holder : AnySigner) (now : ℕ) (answer : Parts) (presented : IsPresentedOf o asked holder parts now answer)
    (by : Meanings) (meant : AreMeant issuer holder by (claims_for o asked.want)) (text : List ℕ) (is_text : IsToken text (alone answer)) where
  one : (token : Token) → IsToken text token → token ≡ alone answer
  one token there = tokens.one text token (alone answer) there is_text

  issuer_good : IsOfBytes issuer.good → (token : Token) → IsToken text token → IsGoodBy by.issuer token.parts.signed
  issuer_good bytes token there =
      let carries = carries_answer seed o issuer parts is asked holder now answer presented in
      let head = answer.signed.protected in
      let body = answer.signed.payload in
      subst (λ (t : Token). IsGoodBy by.issuer t.parts.signed) (sym (one token there))
      (carries.signature, record { fit = bytes head body carries.signature carries.good; spelling = carries.signature_text }, meant.issued head body carries.signature carries.good)

  -- the key binding token is the one that the holder signed
  holder_signed : (binding : Option BindingAsked) (sent : Option JwtParts) (token : JwtParts) → IsBoundWith binding holder.alg holder.good o.hash (hashed answer) now sent → sent ≡ Some token
      → IsGoodBy (by.holder (claims_for o asked.want)) token
  holder_signed None sent token bound there = let both : None ≡ Some token = sym bound ∙ there in cc both
  holder_signed (Some ask) None token bound there = absurd bound
  holder_signed (Some ask) (Some made) token bound there =
      let same : made ≡ token = cc there in
      let b = bound.is_binding in
      subst (λ (t : JwtParts). IsGoodBy (by.holder (claims_for o asked.want)) t) same
      (b.signature, record { fit = meant.bytes made.protected made.payload b.signature b.signed; spelling = b.signature_text }, meant.bound made.protected made.payload b.signature b.signed)

  holder_good : (payload : Tree) (binding : JwtParts) → IsSentWith text payload binding → IsGoodBy (by.holder payload) binding
  holder_good payload binding sent =
      let same = one sent.token sent.is_token in
      let opens = subst (λ (t : Token). Opens t sent.marked) same sent.opens in
      let shown = answer_opens seed o issuer parts is asked holder now answer presented sent.marked opens in
      let claims : payload ≡ claims_for o asked.want = sent.payload_is ∙ (shown ∙ chosen_is_left o.payload o.hide asked.want) in
      let there : answer.binding ≡ Some binding = ap (λ (t : Token). t.parts.binding) (sym same) ∙ sent.sent in
      subst (λ (t : Tree). IsGoodBy (by.holder t) binding) (sym claims) (holder_signed asked.binding answer.binding binding presented.bound there)

  true_of : IsOfBytes issuer.good → AreTrue by text said_good
  true_of bytes = record {
    issuer = λ said is_said token there. subst (λ (a : SignatureAnswer). IsTrueOf a by.issuer token.parts.signed) (told_good said is_said) (issuer_good bytes token there);
    holder = λ said is_said payload binding sent. subst (λ (a : SignatureAnswer). IsTrueOf a (by.holder payload) binding) (told_good said is_said) (holder_good payload binding sent);
  }

  module _ (policy : Policy) (algs : List Text) (later : ℕ) (bytes : IsOfBytes issuer.good) (accepted : IsAcceptedForAs text (caller_demands policy algs said_good) later (claims_for o asked.want)) where
    by_meaning : IsAcceptedUnder by text policy algs later (claims_for o asked.want)
    by_meaning = (one_acceptance by text policy algs later said_good (true_of bytes) (λ none. none) (claims_for o asked.want)).0 accepted

    pub judged_with : IsJudgedWith by policy algs later (claims_for o asked.want) text
    judged_with = record {
      meant = by_meaning;
      told = λ given told. (one_acceptance by text policy algs later given told.truth told.done (claims_for o asked.want)).1 by_meaning;
    }

pub presented_to_caller : {F : Type 0} (answers : RuleAnswers F) (rule : F) (issuer holder : AnySigner) (by : Meanings) → PresentedToCaller answers rule issuer holder by
presented_to_caller answers rule issuer holder by seed o parts issued legible asked policy algs now later suits meant =
    let is = token_of seed o issuer parts issued legible in
    let law = presented_by_anyone answers rule issuer holder seed o parts issued legible asked (caller_demands policy algs said_good) now later suits in
    record {
      reads = law.reads;
      presents = law.presents;
      sends = law.sends;
      verifies = λ token there answer presented text read.
          let of = is_presented_of seed o issuer parts is answers rule asked holder now token there answer presented in
          judged_with seed o issuer parts is asked holder now answer of by meant text read policy algs later suits.verifier_takes.trusts.2 (law.verifies token there answer presented text read);
    }
