-- The line that is presented of an issued token verifies to what is asked for.
use Rattle.std.proofs.Common.{◌≡◌, ℕ, ◌<◌, ◌≤◌, ◌^◌, List, length, Option, None, Some, is_some, codes, sym, ap, subst}
use Rattle.claim_tree.specs.Tree.{Text, Tree, member_named}
use Rattle.claim_tree.specs.JsonText.{json_text}
use Rattle.claim_tree.specs.TreeValues.{Says, MaySay}
use Rattle.file_members.specs.FileForms.{found}
use Rattle.file_members.specs.declared.field.Field.TheVariants.{Binding}
use Rattle.compact_form.specs.declared.parts.Parts.{Parts}
use Rattle.compact_form.specs.Compact.{compact}
use Rattle.hmac_sign.specs.Hmac.{hs256_key}
use Rattle.json_form.specs.Token.{IsToken}
use Rattle.key_binding.specs.ShortText.{IsShortText}
use Rattle.verifier_core.specs.PolicyFile.{IsPolicyFile}
use Rattle.verifier_core.specs.Verdict.{demands_of}
use Rattle.verifier_core.specs.Verdicts.{IsAcceptedAs}
use Rattle.verifier_core.specs.declared.policy.Policy.{Policy}
use Rattle.holder_core.specs.Asked.{asked_by}
use Rattle.holder_core.specs.declared.ask.BindingAsk.{BindingAsk}
use Rattle.holder_core.specs.declared.present_file.PresentFile.{PresentFile}
use Rattle.holder_core.specs.PresentFile.{IsBindingOrder, both, IsPresentFile}
use Rattle.holder_core.proofs.PresentFiles.{one_present}
use Rattle.sdjwt_cli.specs.Issuing.{Issues}
use Rattle.cli_parts.specs.Lines.{line}
use Rattle.selection_core.specs.Never.{never_rule}
use Rattle.sdjwt_cli.specs.AnySigner.{AnySigner, key_signer}
use Rattle.sdjwt_cli.specs.PresentedValues.{IsIssuedByAnyone, IsShownAt, AcceptedBy, AreShort}
use Rattle.json_form.specs.Alone.{alone}
use Rattle.sdjwt_cli.specs.Presenting.{signing_key, Presents, DoesNotPresent, IsPresentedFor, IsNotPresentedFor}
use Rattle.sdjwt_cli.specs.Suits.{Suits, claims_for}
use Rattle.sdjwt_cli.specs.Verify.{Verifies}
use Rattle.sdjwt_cli.proofs.HeldIssued.{IsTokenOf, by_anyone, issued_line}
use Rattle.sdjwt_cli.proofs.KeySuits.{key_token_of, key_fits}
use Rattle.sdjwt_cli.proofs.NothingRefused.{is_presented_of}
use Rattle.sdjwt_cli.proofs.PresentedAccepted.{can_be_sent, answer_line}
use Rattle.sdjwt_cli.proofs.PresentedValues.{presented_over_values}

-- ---- a present order asks for a short audience and a short nonce

text_short : (member : Option Tree) (s : Text) → Says IsShortText member s → length s ≤ 256
text_short None s says = absurd says
text_short (Some t) s says = says.short

said_short : (member : Option Tree) (ask : BindingAsk) (key : List ℕ) → MaySay IsBindingOrder member (Some (ask, key)) → (length ask.aud ≤ 256) × (length ask.nonce ≤ 256)
said_short None ask key says = absurd says
said_short (Some t) ask key says = (text_short (member_named says.members (codes "aud")) ask.aud says.aud, text_short (member_named says.members (codes "nonce")) ask.nonce says.nonce)

short_by : (member : Option Tree) (asked : Option BindingAsk) (key : Option (List ℕ)) → is_some key ≡ is_some asked → MaySay IsBindingOrder member (both asked key) → AreShort asked
short_by member None key together says = tt
short_by member (Some ask) None together says = cc together
short_by member (Some ask) (Some key) together says = said_short member ask key says

pub asks_short : (bytes : Text) (said : PresentFile) → IsPresentFile bytes said → AreShort said.ask.binding
asks_short bytes said is = short_by (found is.members Binding) said.ask.binding said.key is.together is.binding

-- ---- the commands

module _ (order_file seed_file token present_file policy_file : List ℕ) (now later : ℕ) (issued : Issues order_file seed_file token) (said : PresentFile) (is_said : IsPresentFile present_file said)
    (policy : Policy) (is_policy : IsPolicyFile policy_file policy) (in_range : now < 2 ^ 64) (suits : Suits never_rule said.never issued.order issued.key said.ask (signing_key said.key) policy now later) where
  abbrev issuer : AnySigner
  issuer = key_signer issued.key

  abbrev holder : AnySigner
  holder = key_signer (hs256_key (signing_key said.key))

  anyone : IsIssuedByAnyone issued.seed issued.order issuer issued.parts
  anyone = by_anyone issued.seed issued.order issued.key issued.parts issued.answered

  is : IsTokenOf issued.seed issued.order issuer issued.parts
  is = key_token_of issued.seed issued.order issued.key issued.parts anyone

  there : IsToken token (alone issued.parts)
  there = subst (λ (x : List ℕ). IsToken x (alone issued.parts)) (sym issued.line_is) (issued_line issued.seed issued.order issuer issued.parts is)

  -- what the law over values says of it
  shown : IsShownAt never_rule said.never token (asked_by said.ask) holder now (AcceptedBy (demands_of policy) later (claims_for issued.order said.ask.want))
  shown =
      let over_values = presented_over_values never_rule said.never issued.seed issued.order issued.key issued.parts anyone said.ask (signing_key said.key) policy now later suits (asks_short present_file said is_said) in_range in
      over_values.shown token there

  pub not_refused : (text : List ℕ) → DoesNotPresent present_file token now text → ⊥
  not_refused text d =
      let same : d.said ≡ said = one_present present_file d.said said d.is_order is_said in
      shown.presents d.error d.memory d.signed (subst (λ (x : PresentFile). IsNotPresentedFor x token now d.error) same d.refused)

  pub verifies : (answer : List ℕ) → Presents present_file token now answer → Verifies policy_file answer later (line (json_text (claims_for issued.order said.ask.want)))
  verifies answer p =
      let same : p.said ≡ said = one_present present_file p.said said p.is_order is_said in
      let presented = subst (λ (x : PresentFile). IsPresentedFor x token now p.parts) same p.presented in
      verified ((shown.verifies p.parts presented).accepted answer (subst (λ (x : List ℕ). IsToken x (alone p.parts)) (sym p.line_is) (line_read p.parts presented)))
    where
      line_read : (parts : Parts) → IsPresentedFor said token now parts → IsToken (line (compact parts)) (alone parts)
      line_read parts presented =
          let fits = key_fits (signing_key said.key) now in_range said.ask.binding (asks_short present_file said is_said) in
          let of = is_presented_of issued.seed issued.order issuer issued.parts is never_rule said.never (asked_by said.ask) holder now token there parts presented in
          answer_line issued.seed issued.order issuer issued.parts is (asked_by said.ask) holder now parts of
          (can_be_sent issued.seed issued.order issuer issued.parts is (asked_by said.ask) holder now parts of fits)

      verified : IsAcceptedAs answer policy later (claims_for issued.order said.ask.want) → Verifies policy_file answer later (line (json_text (claims_for issued.order said.ask.want)))
      verified (marked, accepted, is) = record { policy = policy; is_policy = is_policy; verifies = record { marked = marked; accepted = accepted; line_is = ap (λ t. line (json_text t)) is } }
