-- The credential that is picked, and why none is.
use Rattle.std.specs.Prelude.{◌≡◌, ◌≤◌, ℕ, Bool, List, length, None}
use Rattle.sd_outside.specs.Lists.{StandsAt}
use Rattle.claim_tree.specs.Tree.{Text}
use Rattle.holder_core.specs.Present.{picked, PicksParts}
use Rattle.json_form.specs.declared.token.Token.{Token}
use Rattle.marked_tree.specs.Marked.{Marked}
use Rattle.selection_core.specs.Consent.{RuleAnswers}
use Rattle.wallet_core.specs.Meets.{CantFail}
use Rattle.wallet_core.specs.Usable.{IsUsable}
use Rattle.wallet_core.specs.declared.answering.Picked.{Picked}
use Rattle.wallet_core.specs.declared.query.Query.{Query}

-- what is sent of this usable credential: the disclosures of its token whose
-- marks are in such a set, and no key binding token
pub record IsPicked (IsSuch : Marked → Query → (ℕ → Bool) → Type 0) (held : List Text)
    (query : Query) (choice : Picked) : Type 0 where
  pub content : Text
  pub stands : StandsAt held choice.index content
  pub token : Token
  pub marked : Marked
  pub usable : IsUsable content query.keys token marked
  pub s : ℕ → Bool
  pub such : IsSuch marked query s
  pub presents : PicksParts token.parts s None choice.parts

-- how many disclosures of the token are in the set
abbrev pub sent : (ℕ → Bool) → Token → ℕ
sent s token = length (picked s token.parts.disclosures)

-- what is so of each usable credential and each such set of its marks
abbrev pub OfUsable : (Marked → Query → (ℕ → Bool) → Type 0) → List Text → Query
    → (ℕ → Token → (ℕ → Bool) → Type 0) → Type 0
OfUsable IsSuch held query IsSo =
    (j : ℕ) (content : Text) (token : Token) (marked : Marked) (s : ℕ → Bool)
    → StandsAt held j content → IsUsable content query.keys token marked → IsSuch marked query s
    → IsSo j token s

-- no usable credential answers the query with fewer disclosures, and none before it with as many
abbrev pub IsFewest : {F : Type 0} → RuleAnswers F → F → List Text → Query → Picked → Type 0
IsFewest answers rule held query choice =
    OfUsable (CantFail answers rule) held query
    (λ j token s. (length choice.parts.disclosures ≤ sent s token)
    × (sent s token ≡ length choice.parts.disclosures → choice.index ≤ j))

-- no usable credential answers the query
abbrev pub HasNoAnswer : {F : Type 0} → RuleAnswers F → F → List Text → Query → Type 0
HasNoAnswer answers rule held query = OfUsable (CantFail answers rule) held query (λ j token s. ⊥)
