-- Not needed to believe the program's promises: what is told of a token whose
-- signatures the caller checks.
use Rattle.std.specs.Prelude.{◌≡◌, ◌⊎◌, ℕ, List, codes}
use Rattle.claim_tree.specs.JsonText.{json_text}
use Rattle.claim_tree.specs.Tree.{Text, Tree}
use Rattle.cli_parts.specs.Lines.{line, refusal}
use Rattle.cli_parts.specs.Replies.{Reply, gives, refuses, unreadable}
use Rattle.cli_parts.specs.Telling.{TellsFileFault}
use Rattle.refusals.specs.Lowest.{IsLowest}
use Rattle.refusals.specs.declared.fault.Fault.{Fault}
use Rattle.sdjwt_c.specs.Handed.{HandsBy, IsInRoom, IsTooLong}
use Rattle.sdjwt_c.specs.Questions.{issuer_question, holder_question}
use Rattle.sdjwt_c.specs.Said.{SaysAlgs, SaysNoAlgs}
use Rattle.verifier_core.specs.Asking.{caller_demands, AsksIssuer, AsksHolder, IsAcceptedForAs, WasAsked, IsAskedNext}
use Rattle.verifier_core.specs.PolicyFile.{IsPolicyFile, IsPolicyFileRefused}
use Rattle.verifier_core.specs.Verdict.{Demands, FailsFor}
use Rattle.verifier_core.specs.declared.asking.Answers.{Answers}
use Rattle.verifier_core.specs.declared.asking.Question.{Question}
use Rattle.verifier_core.specs.declared.policy.Policy.{Policy}

-- ---- what is told

-- a reply, or the line of a question, or that something was said which was not asked for
pub data Told : Type 0 where
  replies : Reply → Told
  asks : (text : List ℕ) → Told
  unasked : Told

abbrev pub unasked_line : List ℕ
unasked_line = line (codes "notAsked")

-- the token is accepted, and this is the line of its processed payload
pub record Accepts (token : List ℕ) (demands : Demands) (now : ℕ) (answer : List ℕ) : Type 0 where
  pub payload : Tree
  pub accepted : IsAcceptedForAs token demands now payload
  pub line_is : answer ≡ line (json_text payload)

-- the lowest condition that fails, with its line
pub record Refuses (token : List ℕ) (demands : Demands) (now : ℕ) (text : List ℕ) : Type 0 where
  pub fault : Fault
  pub lowest : IsLowest (FailsFor token demands now) fault
  pub line_is : text ≡ refusal fault

-- the question about the issuer's signature, with its line
pub record AsksOfIssuer (token : List ℕ) (demands : Demands) (now : ℕ) (answers : Answers)
    (text : List ℕ) : Type 0 where
  pub question : Question
  pub asked : AsksIssuer token demands now answers question
  pub line_is : text ≡ line (json_text (issuer_question question))

-- the question about the holder's signature beside the processed payload, with its line
pub record AsksOfHolder (token : List ℕ) (demands : Demands) (now : ℕ) (answers : Answers)
    (text : List ℕ) : Type 0 where
  pub question : Question
  pub payload : Tree
  pub asked : AsksHolder token demands now answers question payload
  pub line_is : text ≡ line (json_text (holder_question question payload))

-- what was said last was asked for, and nothing more is to be known
pub record IsSaidAll (token : List ℕ) (demands : Demands) (now : ℕ) (answers : Answers)
    : Type 0 where
  pub was_asked : WasAsked token demands now answers
  pub done : IsAskedNext token demands now answers → ⊥

-- a verdict where all is said, a question where it is not, and neither where
-- something was said that was not asked for
abbrev pub Tells : List ℕ → Demands → ℕ → Answers → Told → Type 0
Tells token demands now answers (replies (gives text)) =
    Accepts token demands now text × IsSaidAll token demands now answers
Tells token demands now answers (replies (refuses text)) =
    Refuses token demands now text × IsSaidAll token demands now answers
Tells token demands now answers (replies (unreadable text)) = ⊥
Tells token demands now answers (asks text) =
    AsksOfIssuer token demands now answers text ⊎ AsksOfHolder token demands now answers text
Tells token demands now answers unasked = WasAsked token demands now answers → ⊥

-- ---- under a policy, and under that of a file

-- the algorithms of the holder are no list
abbrev pub TellsNoAlgs : List ℕ → Told → Type 0
TellsNoAlgs algs (replies (unreadable text)) = SaysNoAlgs algs text
TellsNoAlgs algs _ = ⊥

-- the algorithms of the holder are these, and this is told where the caller is
-- in the place of the keys
pub record TellsUnder (policy : Policy) (algs token : List ℕ) (now : ℕ) (answers : Answers)
    (told : Told) : Type 0 where
  pub names : List Text
  pub says : SaysAlgs policy algs names
  pub tells : Tells token (caller_demands policy names answers) now answers told

abbrev pub JudgesUnder : Policy → List ℕ → List ℕ → ℕ → Answers → Told → Type 0
JudgesUnder policy algs token now answers told =
    TellsNoAlgs algs told ⊎ TellsUnder policy algs token now answers told

-- the file says no policy
abbrev pub TellsNoPolicy : List ℕ → Told → Type 0
TellsNoPolicy file (replies (unreadable text)) = TellsFileFault (IsPolicyFileRefused file) text
TellsNoPolicy file _ = ⊥

-- the file says this policy, and this is told under it
pub record JudgesBy (file algs token : List ℕ) (now : ℕ) (answers : Answers) (told : Told)
    : Type 0 where
  pub policy : Policy
  pub is_policy : IsPolicyFile file policy
  pub judges : JudgesUnder policy algs token now answers told

abbrev pub JudgesFile : List ℕ → List ℕ → List ℕ → ℕ → Answers → Told → Type 0
JudgesFile file algs token now answers told =
    TellsNoPolicy file told ⊎ JudgesBy file algs token now answers told

-- ---- what is handed

-- the text was written, with this number, or it is longer than the room
abbrev pub HandsAs : ℕ → List ℕ → List ℕ → List ℕ → ℕ → ℕ → Type 0
HandsAs told text before after len number =
    ((number ≡ told) × IsInRoom text before after len)
    ⊎ ((number ≡ 4) × IsTooLong text before after len)

-- a reply is handed as by every call; where the caller broke no rule, a question has
-- the number 7, and the line of what was not asked for 8
pub data HandsVerdictBy (Misused : Type 0) (Is : Told → Type 0) (before after : List ℕ)
    (len number : ℕ) : Type 0 where
  replied : HandsBy Misused (λ reply. Is (replies reply)) before after len number
      → HandsVerdictBy Misused Is before after len number
  asked : (text : List ℕ) → (Misused → ⊥) → Is (asks text) → HandsAs 7 text before after len number
      → HandsVerdictBy Misused Is before after len number
  not_asked : (Misused → ⊥) → Is unasked → HandsAs 8 unasked_line before after len number
      → HandsVerdictBy Misused Is before after len number
