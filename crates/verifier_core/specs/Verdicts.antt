-- Not needed to believe the program's promises: verdicts without marks, and of two texts.
use Rattle.std.specs.Prelude.{◌≡◌, ◌↔◌, ℕ, List}
use Rattle.claim_tree.specs.Tree.{Text}
use Rattle.digest_sites.specs.Given.{Given}
use Rattle.json_form.specs.Token.{IsToken}
use Rattle.rebuild_core.specs.Laws.{IsWithinNodes}
use Rattle.claim_tree.specs.Tree.{Tree}
use Rattle.refusals.specs.declared.fault.Fault.{Fault}
use Rattle.json_form.specs.declared.token.Token.{Token}
use Rattle.marked_tree.specs.Marked.{Marked, strip}
use Rattle.refusals.specs.Lowest.{IsLowest}
use Rattle.verifier_core.specs.declared.asking.Answers.{Answers}
use Rattle.verifier_core.specs.declared.asking.Question.{Question}
use Rattle.verifier_core.specs.declared.policy.Policy.{Policy}
use Rattle.verifier_core.specs.Asking.{caller_demands, AsksIssuer, AsksHolder, WasAsked, IsAskedNext}
use Rattle.verifier_core.specs.Verdict.{Demands, FailsFor, HasContent, IsAccepted, IsAcceptedFor, IsChecked, Rules, demands_of}

-- the same of the payload without its marks
abbrev pub IsCheckedAs : Token → Rules → Tree → Type 0
IsCheckedAs token rules payload =
    (marked : Marked) × IsChecked token rules marked × (payload ≡ strip marked)

abbrev pub IsAcceptedAs : List ℕ → Policy → ℕ → Tree → Type 0
IsAcceptedAs content policy now payload =
    (marked : Marked) × IsAccepted content policy now marked × (payload ≡ strip marked)

-- the text is a token, and the payload has no more nodes than what the issuer
-- signed and what its disclosures give together
pub record IsBounded (content : List ℕ) (payload : Tree) : Type 0 where
  pub token : Token
  pub is_token : IsToken content token
  pub signed : Tree
  pub given : List Given
  pub has : HasContent token signed given
  pub within : IsWithinNodes signed given payload

-- ---- of two texts

-- the texts are accepted with the same payload, or refused with the same fault, where this is
-- demanded
pub record HaveOneVerdict (text other : List ℕ) (demands : Demands) (now : ℕ) : Type 0 where
  pub accepted : (marked : Marked) → IsAcceptedFor text demands now marked
      ↔ IsAcceptedFor other demands now marked
  pub refused : (fault : Fault) → IsLowest (FailsFor text demands now) fault
      ↔ IsLowest (FailsFor other demands now) fault

-- the same questions are asked about them; and what was said last was to be known, and more is, of
-- both or of neither
pub record HaveOneQuestion (text other : List ℕ) (demands : Demands) (now : ℕ) (answers : Answers)
    : Type 0 where
  pub issuer : (question : Question) → AsksIssuer text demands now answers question
      ↔ AsksIssuer other demands now answers question
  pub holder : (question : Question) (payload : Tree)
      → AsksHolder text demands now answers question payload
      ↔ AsksHolder other demands now answers question payload
  pub was_asked : WasAsked text demands now answers ↔ WasAsked other demands now answers
  pub asked_next : IsAskedNext text demands now answers ↔ IsAskedNext other demands now answers

-- the texts are judged alike at every moment: whatever is demanded, and so under every policy, and
-- of every caller that checks signatures, whatever it said
pub record AreJudgedAlike (text other : List ℕ) : Type 0 where
  pub demanded : (demands : Demands) (now : ℕ) → HaveOneVerdict text other demands now
  pub by_policy : (policy : Policy) (now : ℕ) → HaveOneVerdict text other (demands_of policy) now
  pub by_caller : (policy : Policy) (binding_algs : List Text) (now : ℕ) (answers : Answers)
      → HaveOneVerdict text other (caller_demands policy binding_algs answers) now
      × HaveOneQuestion text other (caller_demands policy binding_algs answers) now answers
