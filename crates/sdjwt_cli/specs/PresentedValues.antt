-- Not needed to believe the program's promises: the laws that what is presented is accepted, over
-- values.
use Rattle.std.specs.Prelude.{◌≢◌, ℕ, ◌<◌, ◌^◌, List, ◌≤◌, length, Option, IfSome}
use Rattle.std.specs.Str.{IsUtf8}
use Rattle.claim_tree.specs.Tree.{Text, Tree, IsOrdered}
use Rattle.compact_form.specs.declared.parts.Parts.{Parts}
use Rattle.compact_form.specs.Compact.{compact, AreWords}
use Rattle.refusals.specs.Lowest.{NoneApplies}
use Rattle.hmac_sign.specs.Agreement.{Implies, IsOfBytes}
use Rattle.hmac_sign.specs.Hmac.{AlgKey, hs256_key}
use Rattle.json_form.specs.Token.{IsToken}
use Rattle.key_binding.specs.declared.caller.SignatureAnswer.{SignatureAnswer}
use Rattle.selection_core.specs.Consent.{RuleAnswers}
use Rattle.verifier_core.specs.Asking.{caller_demands, IsAcceptedForAs}
use Rattle.verifier_core.specs.Meanings.{Meanings, AreTold, IsAcceptedUnder}
use Rattle.verifier_core.specs.Verdict.{Demands, demands_of}
use Rattle.verifier_core.specs.declared.asking.Answers.{Answers}
use Rattle.verifier_core.specs.declared.policy.Policy.{Policy}
use Rattle.issuer_core.specs.GoodOrder.{EachText}
use Rattle.issuer_core.specs.Order.{Order}
use Rattle.issuer_core.specs.OrderRefusals.{AppliesToOrder}
use Rattle.issuer_core.specs.Seed.{maker_of}
use Rattle.issuer_core.specs.Written.{IsIssued}
use Rattle.holder_core.specs.Asked.{Asked, asked_by}
use Rattle.holder_core.specs.Present.{IsPresented, IsNotPresented}
use Rattle.holder_core.specs.declared.ask.Ask.{Ask}
use Rattle.holder_core.specs.declared.errors.PresentError.{PresentError}
use Rattle.holder_core.specs.declared.errors.PresentError.TheVariants.{Memory, SignFailed}
use Rattle.sdjwt_cli.specs.AnySigner.{AnySigner, key_signer, IsLegible, BindingFits, DemandsSuit}
use Rattle.sdjwt_cli.specs.Suits.{Suits, claims_for}
use Rattle.json_form.specs.Alone.{alone}
use Rattle.sd_outside.specs.Limits.{binding_text_max, compact_max, issue_max}
use Rattle.holder_core.specs.declared.ask.BindingAsk.{BindingAsk}

-- ---- what is presented, and accepted in some sense

-- the compact text of what is presented is read as its parts, and each text that is read as them is
-- accepted
pub record IsAcceptedWith (answer : Parts) (Accepts : List ℕ → Type 0) : Type 0 where
  pub reads : IsToken (compact answer) (alone answer)
  pub accepted : (text : List ℕ) → IsToken text (alone answer) → Accepts text

-- of a text that is read as the token nothing is refused that is asked for, and whatever is
-- presented is accepted
pub record IsShownAt {F : Type 0} (answers : RuleAnswers F) (rule : F) (token : List ℕ)
    (asked : Asked) (holder : AnySigner) (presented : ℕ) (Accepts : List ℕ → Type 0)
    : Type 0 where
  pub presents : (error : PresentError) → error ≢ Memory → error ≢ SignFailed
      → IsNotPresented answers rule token asked holder.alg holder.good presented error
      → ⊥
  pub verifies : (answer : Parts)
      → IsPresented answers rule token asked holder.alg holder.good presented answer
      → IsAcceptedWith answer Accepts

-- the compact text of the parts is read as them, and so it is of each text that is
pub record IsShownOf {F : Type 0} (answers : RuleAnswers F) (rule : F) (parts : Parts)
    (asked : Asked) (holder : AnySigner) (presented : ℕ) (Accepts : List ℕ → Type 0)
    : Type 0 where
  pub reads : IsToken (compact parts) (alone parts)
  pub shown : (token : List ℕ) → IsToken token (alone parts)
      → IsShownAt answers rule token asked holder presented Accepts

-- the text is accepted with these claims, where this is demanded
abbrev pub AcceptedBy : Demands → ℕ → Tree → List ℕ → Type 0
AcceptedBy demands verified claims text = IsAcceptedForAs text demands verified claims

-- ---- what is issued

-- the parts are issued by whoever signs so, however they are laid out, for an order that nothing of
-- 51 to 59 refuses, and leave the room of 61 for a key binding token
pub record IsIssuedByAnyone (seed : List ℕ) (o : Order) (issuer : AnySigner) (parts : Parts)
    : Type 0 where
  pub issued : IsIssued (maker_of seed) o issuer.alg issuer.good parts
  pub passes : NoneApplies (AppliesToOrder o)
  pub short : length (compact parts) ≤ issue_max
  -- the order is as a machine holds it
  pub ordered : IsOrdered o.payload
  pub texts : EachText IsUtf8 o.payload
  pub kid : IfSome o.kid IsUtf8
  pub typ : IfSome o.typ IsUtf8

-- ---- over any meaning of signatures

-- each text of it is a word, and its compact text is no longer than one may be
pub record IsSendable (answer : Parts) : Type 0 where
  pub words : AreWords answer
  pub short : length (compact answer) ≤ compact_max

-- what is so of the parts of an issued token, whoever signs what is presented of it
pub record IsShownByAnyone {F : Type 0} (answers : RuleAnswers F) (rule : F) (parts : Parts)
    (asked : Asked) (holder : AnySigner) (presented : ℕ) (Accepts : List ℕ → Type 0)
    : Type 0 where
  -- their compact text is read as them
  pub reads : IsToken (compact parts) (alone parts)
  -- of each text that is, nothing is refused that is asked for, where key binding tokens fit
  pub presents : (token : List ℕ) → IsToken token (alone parts)
      → BindingFits asked.binding holder presented
      → (error : PresentError) → error ≢ Memory → error ≢ SignFailed
      → IsNotPresented answers rule token asked holder.alg holder.good presented error
      → ⊥
  -- the compact text of what is presented is read as its parts, where it can be sent
  pub sends : (token : List ℕ) → IsToken token (alone parts)
      → (answer : Parts)
      → IsPresented answers rule token asked holder.alg holder.good presented answer
      → IsSendable answer
      → IsToken (compact answer) (alone answer)
  -- each text that is read as them is accepted
  pub verifies : (token : List ℕ) → IsToken token (alone parts)
      → (answer : Parts)
      → IsPresented answers rule token asked holder.alg holder.good presented answer
      → (text : List ℕ) → IsToken text (alone answer)
      → Accepts text

-- whoever signs the token and the key binding token, with this rule of consent, and whatever a
-- verifier demands
abbrev pub PresentedByAnyone : {F : Type 0} → RuleAnswers F → F → AnySigner → AnySigner → Type 0
PresentedByAnyone answers rule issuer holder =
    (seed : List ℕ) (o : Order) (parts : Parts)
    → IsIssuedByAnyone seed o issuer parts → IsLegible issuer.alg parts
    → (asked : Asked) (demands : Demands) (presented verified : ℕ)
    → DemandsSuit answers rule o issuer asked holder demands presented verified
    → IsShownByAnyone answers rule parts asked holder presented
    (AcceptedBy demands verified (claims_for o asked.want))

-- ---- where a caller checks the signatures

-- both signatures were said to be good
abbrev pub said_good : Answers
said_good = Answers.Holder SignatureAnswer.Good

-- the text is accepted with these claims by the meanings of the signatures, and so it is where all
-- that a caller said is true and it is asked no more
pub record IsJudgedWith (by : Meanings) (policy : Policy) (binding_algs : List Text) (verified : ℕ)
    (claims : Tree) (text : List ℕ) : Type 0 where
  pub meant : IsAcceptedUnder by text policy binding_algs verified claims
  pub told : (given : Answers) → AreTold by text policy binding_algs verified given
      → IsAcceptedForAs text (caller_demands policy binding_algs given) verified claims

-- each good signature of the issuer, and of the holder of these claims, is good by the meaning of
-- who checks it; the holder's are lists of bytes
pub record AreMeant (issuer holder : AnySigner) (by : Meanings) (claims : Tree) : Type 0 where
  pub issued : Implies issuer.good by.issuer
  pub bound : Implies holder.good (by.holder claims)
  pub bytes : IsOfBytes holder.good

-- the same, where a policy suits but for its keys, in whose place is a caller that said good of
-- both
abbrev pub PresentedToCaller : {F : Type 0}
    → RuleAnswers F → F → AnySigner → AnySigner → Meanings → Type 0
PresentedToCaller answers rule issuer holder by =
    (seed : List ℕ) (o : Order) (parts : Parts)
    → IsIssuedByAnyone seed o issuer parts → IsLegible issuer.alg parts
    → (asked : Asked) (policy : Policy) (binding_algs : List Text) (presented verified : ℕ)
    → DemandsSuit answers rule o issuer asked holder
    (caller_demands policy binding_algs said_good) presented verified
    → AreMeant issuer holder by (claims_for o asked.want)
    → IsShownByAnyone answers rule parts asked holder presented
    (IsJudgedWith by policy binding_algs verified (claims_for o asked.want))

-- ---- where the keys are held

-- an audience and a nonce have as many bytes as they may
abbrev pub AreShort : Option BindingAsk → Type 0
AreShort asked =
    IfSome asked
    (λ ask. (length ask.aud ≤ binding_text_max) × (length ask.nonce ≤ binding_text_max))

-- with this rule of consent; a moment has 64 bits
abbrev pub PresentedOverValues : {F : Type 0} → RuleAnswers F → F → Type 0
PresentedOverValues answers rule =
    (seed : List ℕ) (o : Order) (key : AlgKey) (parts : Parts)
    → IsIssuedByAnyone seed o (key_signer key) parts
    → (ask : Ask) (signing : List ℕ) (policy : Policy) (presented verified : ℕ)
    → Suits answers rule o key ask signing policy presented verified
    → AreShort ask.binding
    → presented < 2 ^ 64
    → IsShownOf answers rule parts (asked_by ask) (key_signer (hs256_key signing)) presented
    (AcceptedBy (demands_of policy) verified (claims_for o ask.want))
