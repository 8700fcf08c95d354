-- What the laws of presenting say: what a holder presents of an issued token, and what a verifier
-- finds of it; over files, and over runs.
use Rattle.std.specs.Prelude.{◌≡◌, ◌≢◌, ℕ, ◌<◌, ◌^◌, List, [], ◌∷◌, ◌++◌, Some}
use Rattle.std.specs.Io.KnownBytes.{Appends}
use Rattle.sd_outside.specs.declared.status.Status.{Status}
use Rattle.claim_tree.specs.JsonText.{json_text}
use Rattle.claim_tree.specs.Tree.{Tree}
use Rattle.hmac_sign.specs.Hmac.{AlgKey}
use Rattle.verifier_core.specs.PolicyFile.{IsPolicyFile}
use Rattle.verifier_core.specs.declared.policy.Policy.{Policy}
use Rattle.issuer_core.specs.Order.{Order}
use Rattle.holder_core.specs.PresentFile.{IsPresentFile}
use Rattle.holder_core.specs.declared.present_file.PresentFile.{PresentFile}
use Rattle.cli_parts.specs.Replies.{Reply, gives}
use Rattle.sdjwt_cli.specs.Answers.{IssueAnswers, PresentAnswers, VerifyAnswers, AreTold}
use Rattle.sdjwt_cli.specs.Command.{Command, issue, present, verify, command_of}
use Rattle.sdjwt_cli.specs.Issuing.{IsAsked}
use Rattle.cli_parts.specs.Lines.{line}
use Rattle.selection_core.specs.Never.{never_rule}
use Rattle.sdjwt_cli.specs.Presenting.{signing_key}
use Rattle.cli_parts.specs.Outside.{Outside}
use Rattle.sdjwt_cli.specs.Run.{Ends}
use Rattle.sdjwt_cli.specs.Suits.{Suits, claims_for}

-- the files of `issue` say an order and its key, the others a present order and
-- a policy, which suits; a moment has 64 bits
pub record AllSuits (order_file seed_file present_file policy_file : List ℕ)
    (presented verified : ℕ) : Type 0 where
  pub order : Order
  pub key : AlgKey
  pub seed : List ℕ
  pub asked : IsAsked order_file seed_file order key seed
  pub said : PresentFile
  pub is_said : IsPresentFile present_file said
  pub policy : Policy
  pub is_policy : IsPolicyFile policy_file policy
  pub moment : presented < 2 ^ 64
  pub suits : Suits never_rule said.never order key said.ask (signing_key said.key) policy presented
      verified

-- ---- over files

-- of these replies each is an answer: nothing is refused, and each file is of its form
abbrev pub OnlyGives : (Reply → Type 0) → Type 0
OnlyGives Is = (reply : Reply) → Is reply → (answer : List ℕ) × (reply ≡ gives answer)

-- this answer is one of them, and there is no other
pub record GivesAlone (Is : Reply → Type 0) (answer : List ℕ) : Type 0 where
  pub given : Is (gives answer)
  pub alone : (reply : Reply) → Is reply → reply ≡ gives answer

-- of a token file nothing is refused that is asked for, and whatever is given
-- verifies to these claims
pub record IsShownWell (token present_file policy_file : List ℕ) (presented verified : ℕ)
    (claims : Tree) : Type 0 where
  pub presents : OnlyGives (PresentAnswers present_file token presented)
  pub verifies : (answer : List ℕ) → PresentAnswers present_file token presented (gives answer)
      → GivesAlone (VerifyAnswers policy_file answer verified) (line (json_text claims))

abbrev pub PresentedOverFiles : Type 0
PresentedOverFiles =
    (order_file seed_file present_file policy_file : List ℕ) (presented verified : ℕ)
    → (all : AllSuits order_file seed_file present_file policy_file presented verified)
    → (token : List ℕ) → IssueAnswers order_file seed_file (gives token)
    → IsShownWell token present_file policy_file presented verified
    (claims_for all.order all.said.ask.want)

-- ---- over runs

-- a run of a command over these files, which the cabinet tells
pub record IsRun (command : Command) (files : List (List ℕ)) (now : ℕ) (before after : Outside)
    (status : Status) : Type 0 where
  pub words : List (List ℕ)
  pub named : command_of words ≡ Some command
  pub told : AreTold before.holds command files
  pub ends : Ends words before after now status

-- the text was written, behind what stood there
pub record Wrote (before after : Outside) (text : List ℕ) : Type 0 where
  pub old : List ℕ
  pub was : before.out.written ≡ Some old
  pub is : after.out.written ≡ Some (old ++ text)

-- a run neither refuses nor finds a file that is not of its form
pub record IsNoRefusal (status : Status) : Type 0 where
  pub not_refused : status ≢ Status.Refused
  pub not_unreadable : status ≢ Status.Unreadable

-- it does not, and where it is done it wrote this
pub record RunsTo (before after : Outside) (status : Status) (answer : List ℕ) : Type 0 where
  pub refuses_nothing : IsNoRefusal status
  pub wrote : status ≡ Status.Done → Appends before.out.written after.out.written answer

-- of the file that a run of `issue` wrote, a run of `present` refuses nothing,
-- and of what it wrote `verify` writes these claims
pub record RunsWell (token present_file policy_file : List ℕ) (presented verified : ℕ)
    (claims : Tree) : Type 0 where
  pub presents : (order sent : List ℕ) (before after : Outside) (status : Status)
      → IsRun (present order sent) (present_file ∷ token ∷ []) presented before after status
      → IsNoRefusal status
  pub verifies : (order sent : List ℕ) (before after : Outside) (answer : List ℕ)
      → IsRun (present order sent) (present_file ∷ token ∷ []) presented before after Status.Done
      → Wrote before after answer
      → (policy given : List ℕ) (then_before then_after : Outside) (status : Status)
      → IsRun (verify policy given) (policy_file ∷ answer ∷ []) verified then_before then_after
      status
      → RunsTo then_before then_after status (line (json_text claims))

abbrev pub PresentedOverRuns : Type 0
PresentedOverRuns =
    (order_file seed_file present_file policy_file : List ℕ) (presented verified : ℕ)
    → (all : AllSuits order_file seed_file present_file policy_file presented verified)
    → (order seed : List ℕ) (issued : ℕ) (before after : Outside) (token : List ℕ)
    → IsRun (issue order seed) (order_file ∷ seed_file ∷ []) issued before after Status.Done
    → Wrote before after token
    → RunsWell token present_file policy_file presented verified
    (claims_for all.order all.said.ask.want)
