-- What each command answers over its files, by its definition.
use Rattle.std.specs.Prelude.{◌≡◌, ℕ, List, [], ◌∷◌, Option, IfSome, IsSomeAnd, take}
use Rattle.std.specs.List.{AllZip}
use Rattle.sdjwt_cli.specs.Command.{Command, split, show, verify, issue, present, convert, gen, NamedFile, files_of}
use Rattle.sdjwt_cli.specs.Split.{Splits}
use Rattle.sdjwt_cli.specs.Show.{IsShowRefused, Shows}
use Rattle.sdjwt_cli.specs.Verify.{Verifies, DoesNotVerify}
use Rattle.sdjwt_cli.specs.Issuing.{Issues, DoesNotIssue, HasNoOrder}
use Rattle.sdjwt_cli.specs.Presenting.{Presents, DoesNotPresent}
use Rattle.sdjwt_cli.specs.declared.form.Form.{Form}
use Rattle.sdjwt_cli.specs.Converting.{IsConvertRefused, Converts}
use Rattle.sdjwt_cli.specs.Summary.{Summarizes, DoesNotSummarize}
use Rattle.cli_parts.specs.Replies.{Reply, Replies}
use Rattle.cli_parts.specs.Telling.{TellsFileFault, TellsFault}
use Rattle.json_form.specs.Token.{IsTextRefused}
use Rattle.verifier_core.specs.PolicyFile.{IsPolicyFileRefused}
use Rattle.holder_core.specs.PresentFile.{IsPresentFileRefused}

abbrev pub SplitAnswers : List ℕ → Reply → Type 0
SplitAnswers file reply = Replies (Splits file) (TellsFault (IsTextRefused file)) (λ _. ⊥) reply

abbrev pub ShowAnswers : List ℕ → Reply → Type 0
ShowAnswers file reply = Replies (Shows file) (TellsFault (IsShowRefused file)) (λ _. ⊥) reply

abbrev pub VerifyAnswers : List ℕ → List ℕ → ℕ → Reply → Type 0
VerifyAnswers policy token now reply =
    Replies (Verifies policy token now) (DoesNotVerify policy token now)
    (TellsFileFault (IsPolicyFileRefused policy)) reply

abbrev pub IssueAnswers : List ℕ → List ℕ → Reply → Type 0
IssueAnswers order seed reply =
    Replies (Issues order seed) (DoesNotIssue order seed) (HasNoOrder order seed) reply

abbrev pub PresentAnswers : List ℕ → List ℕ → ℕ → Reply → Type 0
PresentAnswers order token now reply =
    Replies (Presents order token now) (DoesNotPresent order token now)
    (TellsFileFault (IsPresentFileRefused order)) reply

abbrev pub ConvertAnswers : Form → List ℕ → Reply → Type 0
ConvertAnswers form file reply =
    Replies (Converts form file) (TellsFault (IsConvertRefused form file)) (λ _. ⊥) reply

abbrev pub GenAnswers : ℕ → Reply → Type 0
GenAnswers count reply = Replies (Summarizes count) (DoesNotSummarize count) (λ _. ⊥) reply

-- the reply of a command over its files, at a moment
abbrev pub Answers : Command → List (List ℕ) → ℕ → Reply → Type 0
Answers (split token) (file ∷ []) now reply = SplitAnswers file reply
Answers (show token) (file ∷ []) now reply = ShowAnswers file reply
Answers (verify policy token) (file ∷ other ∷ []) now reply = VerifyAnswers file other now reply
Answers (issue order seed) (file ∷ other ∷ []) now reply = IssueAnswers file other reply
Answers (present order token) (file ∷ other ∷ []) now reply = PresentAnswers file other now reply
Answers (convert form token) (file ∷ []) now reply = ConvertAnswers form file reply
Answers (gen count) [] now reply = GenAnswers count reply
Answers _ _ now reply = ⊥

-- each file is what a fetch answers, where the cabinet tells it
abbrev pub AreFetched : (List ℕ → Option (List ℕ)) → Command → List (List ℕ) → Type 0
AreFetched holds command files =
    AllZip
    (λ (wanted : NamedFile) (file : List ℕ).
    IfSome (holds wanted.name) (λ content. file ≡ take wanted.most content)) (files_of command)
    files

-- the reply of a command over what the cabinet holds
pub record IsAnswered (holds : List ℕ → Option (List ℕ)) (command : Command) (now : ℕ)
    (reply : Reply) : Type 0 where
  pub files : List (List ℕ)
  pub fetched : AreFetched holds command files
  pub answers : Answers command files now reply

-- the cabinet tells each file
abbrev pub AreTold : (List ℕ → Option (List ℕ)) → Command → List (List ℕ) → Type 0
AreTold holds command files =
    AllZip
    (λ (wanted : NamedFile) (file : List ℕ).
    IsSomeAnd (holds wanted.name) (λ content. file ≡ take wanted.most content))
    (files_of command) files
