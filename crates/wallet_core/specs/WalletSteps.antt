-- For private functions: the steps of an answer.
use Rattle.std.specs.Prelude.{◌≡◌, ◌<◌, ◌≤◌, ◌⊎◌, ℕ, Bool, true, List, length, Option, None, Some}
use Rattle.claim_tree.specs.Tree.{Text}
use Rattle.compact_form.specs.declared.parts.Parts.{Parts}
use Rattle.hmac_sign.specs.declared.key_set.NamedKey.{NamedKey}
use Rattle.holder_core.specs.Asked.{held_rules}
use Rattle.holder_core.specs.Present.{PicksParts}
use Rattle.json_form.specs.declared.token.Token.{Token}
use Rattle.marked_tree.specs.Marked.{Marked}
use Rattle.marked_tree.specs.Numbers.{has}
use Rattle.rebuild_core.specs.LookUps.{RoseWithin}
use Rattle.selection_core.specs.Consent.{RuleAnswers}
use Rattle.verifier_core.specs.Verdict.{IsChecked}
use Rattle.wallet_core.specs.LookUps.{IsBound}
use Rattle.wallet_core.specs.Meets.{CantFail}
use Rattle.wallet_core.specs.WalletCalls.{MayMeet}
use Rattle.wallet_core.specs.Picked.{IsPicked, IsFewest, HasNoAnswer}
use Rattle.wallet_core.specs.Usable.{IsUsable}
use Rattle.wallet_core.specs.declared.answering.Picked.{Picked}
use Rattle.wallet_core.specs.declared.query.Query.{Query}

-- these marks may answer the query, and each set that can't fail has all of them
pub record IsLeastSet {F : Type 0} (answers : RuleAnswers F) (rule : F) (marked : Marked)
    (query : Query) (marks : List ℕ) : Type 0 where
  pub meets : MayMeet answers rule marked query (has marks)
  pub least : (s : ℕ → Bool) → CantFail answers rule marked query s → (i : ℕ) → has marks i ≡ true
      → s i ≡ true

-- no set of marks answers the query
abbrev pub IsUnanswered : {F : Type 0} → RuleAnswers F → F → Marked → Query → Type 0
IsUnanswered answers rule marked query = (s : ℕ → Bool) → CantFail answers rule marked query s → ⊥

-- of the token, with its processed payload, these parts are sent
pub record IsSentOf {F : Type 0} (answers : RuleAnswers F) (rule : F) (query : Query)
    (token : Token) (marked : Marked) (parts : Parts) : Type 0 where
  pub marks : List ℕ
  pub least : IsLeastSet answers rule marked query marks
  pub presents : PicksParts token.parts (has marks) None parts

-- of the text these parts are sent
pub record IsSent {F : Type 0} (answers : RuleAnswers F) (rule : F) (query : Query) (content : Text)
    (parts : Parts) : Type 0 where
  pub token : Token
  pub marked : Marked
  pub usable : IsUsable content query.keys token marked
  pub is_sent : IsSentOf answers rule query token marked parts

-- the text is not usable, or does not answer the query
abbrev pub IsPassedOver : {F : Type 0} → RuleAnswers F → F → Query → Text → Type 0
IsPassedOver answers rule query content =
    (token : Token) (marked : Marked) → IsUsable content query.keys token marked
    → IsUnanswered answers rule marked query

-- what is sent of a text, if anything
abbrev pub IsTold : {F : Type 0} → RuleAnswers F → F → Query → Text → Option Parts → Type 0
IsTold answers rule query content None = IsPassedOver answers rule query content
IsTold answers rule query content (Some parts) = IsSent answers rule query content parts

-- the same of a token that has no key binding token
abbrev pub IsToldOf : {F : Type 0} → RuleAnswers F → F → Query → Token → Option Parts → Type 0
IsToldOf answers rule query token None =
    (marked : Marked) → IsChecked token (held_rules query.keys) marked
    → IsUnanswered answers rule marked query
IsToldOf answers rule query token (Some parts) =
    (marked : Marked) × IsChecked token (held_rules query.keys) marked
    × IsSentOf answers rule query token marked parts

abbrev pub choice_of : ℕ → Parts → Picked
choice_of index parts = record { index = index; parts = parts }

-- what was best before, or these parts where nothing was, or where they have fewer disclosures
abbrev pub IsBetter : Option Picked → ℕ → Option Parts → Option Picked → Type 0
IsBetter best index None better = better ≡ best
IsBetter None index (Some parts) better = better ≡ Some (choice_of index parts)
IsBetter (Some choice) index (Some parts) better =
    ((length choice.parts.disclosures ≤ length parts.disclosures) × (better ≡ Some choice))
    ⊎
    ((length parts.disclosures < length choice.parts.disclosures)
    × (better ≡ Some (choice_of index parts)))

-- the best of these texts, if one answers
abbrev pub IsBest : {F : Type 0} → RuleAnswers F → F → List Text → Query → Option Picked → Type 0
IsBest answers rule held query None = HasNoAnswer answers rule held query
IsBest answers rule held query (Some choice) =
    IsPicked (MayMeet answers rule) held query choice × IsFewest answers rule held query choice

-- in a text no more digests are looked up than its bound says
abbrev pub IsWithinBound : List NamedKey → Text → ℕ → ℕ → Type 0
IsWithinBound keys content old new =
    (bound : ℕ) → IsBound keys content bound → RoseWithin bound old new
