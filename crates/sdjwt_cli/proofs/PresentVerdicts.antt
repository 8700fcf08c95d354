-- The command `present` has one verdict over its files.
use Rattle.std.proofs.Common.{◌≡◌, ℕ, List, ap, ◌∙◌, sym, subst, inl, inr, ◌⊎◌, codes}
use Rattle.compact_form.specs.declared.parts.Parts.{Parts}
use Rattle.compact_form.specs.Compact.{compact}
use Rattle.hmac_sign.specs.Hmac.{hs256_key, IsGood}
use Rattle.holder_core.specs.Asked.{asked_by}
use Rattle.holder_core.specs.declared.errors.PresentError.{PresentError}
use Rattle.holder_core.specs.declared.errors.PresentError.TheVariants.{Memory, SignFailed}
use Rattle.holder_core.specs.PresentRefusal.{present_refusal_text}
use Rattle.holder_core.specs.declared.present_file.PresentFile.{PresentFile}
use Rattle.holder_core.proofs.PresentFiles as orders
use Rattle.holder_core.proofs.OnePresentation.{HasOneSignature, one_presented, presented_not_refused, one_cause}
use Rattle.cli_parts.specs.Lines.{line}
use Rattle.selection_core.specs.Never.{never_rule}
use Rattle.sdjwt_cli.specs.Presenting.{signing_key, IsPresentedFor, IsNotPresentedFor, Presents, DoesNotPresent}
use Rattle.cli_parts.specs.Replies.{Reply}
use Rattle.sdjwt_cli.specs.Answers.{PresentAnswers}
use Rattle.selection_core.proofs.NeverShown.{never_decided}
use Rattle.holder_core.specs.PresentFile.{IsPresentFile, IsPresentFileRefused}
use Rattle.cli_parts.proofs.OneReply.{one_reply_of_file}

one_signature : (key : List ℕ) → HasOneSignature (IsGood (hs256_key key))
one_signature key head body one other h k = h ∙ sym k

printed : (order token : List ℕ) (now : ℕ) (a b : List ℕ) → Presents order token now a → Presents order token now b → a ≡ b
printed order token now a b g h =
    let same : g.said ≡ h.said = orders.one_present order g.said h.said g.is_order h.is_order in
    let presented : IsPresentedFor h.said token now g.parts = subst (λ (said : PresentFile). IsPresentedFor said token now g.parts) same g.presented in
    let key = signing_key h.said.key in
    let one = one_presented never_rule h.said.never (never_decided h.said.never) token (asked_by h.said.ask) (codes "HS256") (IsGood (hs256_key key)) (one_signature key) now g.parts h.parts presented h.presented in
    g.line_is ∙ (ap (λ (parts : Parts). line (compact parts)) one ∙ sym h.line_is)

refused : (order token : List ℕ) (now : ℕ) (a b : List ℕ) → DoesNotPresent order token now a → DoesNotPresent order token now b → a ≡ b
refused order token now a b g h =
    let same : g.said ≡ h.said = orders.one_present order g.said h.said g.is_order h.is_order in
    let applies : IsNotPresentedFor h.said token now g.error = subst (λ (said : PresentFile). IsNotPresentedFor said token now g.error) same g.refused in
    let key = signing_key h.said.key in
    let one = one_cause never_rule h.said.never (never_decided h.said.never) token (asked_by h.said.ask) (codes "HS256") (IsGood (hs256_key key)) (one_signature key) now g.error h.error g.memory g.signed h.memory h.signed applies h.refused in
    g.line_is ∙ (ap (λ (e : PresentError). line (present_refusal_text e)) one ∙ sym h.line_is)

printed_not_refused : (order token : List ℕ) (now : ℕ) (a b : List ℕ) → Presents order token now a → DoesNotPresent order token now b → ⊥
printed_not_refused order token now a b g h = neither (presented_not_refused never_rule g.said.never (never_decided g.said.never) token (asked_by g.said.ask) (codes "HS256") (IsGood (hs256_key key)) (one_signature key) now g.parts h.error g.presented g.short applies)
  where
    key : List ℕ
    key = signing_key g.said.key

    applies : IsNotPresentedFor g.said token now h.error
    applies = subst (λ (said : PresentFile). IsNotPresentedFor said token now h.error) (orders.one_present order h.said g.said h.is_order g.is_order) h.refused

    neither : (h.error ≡ Memory) ⊎ (h.error ≡ SignFailed) → ⊥
    neither (inl is) = h.memory is
    neither (inr is) = h.signed is

pub one_present : (order token : List ℕ) (now : ℕ) (v w : Reply) → PresentAnswers order token now v → PresentAnswers order token now w → v ≡ w
one_present order token now =
    one_reply_of_file (IsPresentFile order) (IsPresentFileRefused order) (orders.one_fault order) (orders.not_both order) (Presents order token now) (DoesNotPresent order token now)
    (λ a g. (g.said, g.is_order)) (λ a g. (g.said, g.is_order)) (printed order token now) (refused order token now) (printed_not_refused order token now)
