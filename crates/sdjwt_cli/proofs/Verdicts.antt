-- A command has one verdict over its files, and a run that nothing stops is done.
use Rattle.std.proofs.Common.{◌≡◌, ◌⊎◌, ℕ, List, [], ◌∷◌, Option, Some, take, ap, ◌∙◌, sym, subst}
use Rattle.std.specs.Prelude.{IsSomeAnd}
use Rattle.std.specs.Io.KnownBytes.{Appends}
use Rattle.sd_outside.specs.Causes.{Rose}
use Rattle.sd_outside.specs.declared.status.Status.{Status}
use Rattle.sd_outside.specs.declared.status.Status.TheVariants.{Done, Memory}
use Rattle.json_form.specs.declared.token.Token.{Token}
use Rattle.json_form.proofs.Tokens as tokens
use Rattle.sdjwt_cli.specs.Command.{Command, split, show, verify, issue, present, convert, gen, command_of, NamedFile, files_of}
use Rattle.cli_parts.specs.Telling.{TellsFault}
use Rattle.cli_parts.proofs.CompletedRuns.{told_as_fetched, all_as_fetched, run_completes}
use Rattle.cli_parts.proofs.OneReply.{one_readable_reply, one_refusal_line}
use Rattle.json_form.specs.Token.{IsTextRefused}
use Rattle.sdjwt_cli.specs.Split.{Splits, split_lines}
use Rattle.sdjwt_cli.specs.Show.{Shows, IsShowRefused}
use Rattle.cli_parts.specs.Replies.{Reply, gives}
use Rattle.sdjwt_cli.specs.Answers.{SplitAnswers, ShowAnswers, Answers, AreFetched, AreTold, IsAnswered}
use Rattle.cli_parts.specs.Outside.{Outside}
use Rattle.sdjwt_cli.specs.Run.{Misses, Ends}
use Rattle.sdjwt_cli.proofs.Lifts.{IsFetched}
use Rattle.sdjwt_cli.proofs.ShowVerdicts.{one_shown, no_refusal, same_fault}
use Rattle.sdjwt_cli.proofs.VerifyVerdicts.{one_verify}
use Rattle.sdjwt_cli.proofs.IssueVerdicts.{one_issue}
use Rattle.sdjwt_cli.proofs.PresentVerdicts.{one_present}
use Rattle.sdjwt_cli.proofs.ConvertVerdicts.{one_convert}
use Rattle.sdjwt_cli.proofs.SummaryVerdicts.{one_gen}

one_split : (file : List ℕ) (v w : Reply) → SplitAnswers file v → SplitAnswers file w → v ≡ w
one_split file =
    one_readable_reply (Splits file) (TellsFault (IsTextRefused file)) (λ a b g h. g.lines ∙ ap (λ (t : Token). split_lines t.parts) (tokens.one file g.token h.token g.reads h.reads) ∙ sym h.lines)
    (one_refusal_line (IsTextRefused file) (tokens.one_refusal file)) (λ a b g h. tokens.not_both file g.token h.fault g.reads h.refused)

one_show : (file : List ℕ) (v w : Reply) → ShowAnswers file v → ShowAnswers file w → v ≡ w
one_show file = one_readable_reply (Shows file) (TellsFault (IsShowRefused file)) (one_shown file) (one_refusal_line (IsShowRefused file) (same_fault file)) (λ a b g h. no_refusal file a h.fault g h.refused)

pub one_answer : (command : Command) (files : List (List ℕ)) (now : ℕ) (v w : Reply) → Answers command files now v → Answers command files now w → v ≡ w
one_answer (split token) [] now v w g h = absurd g
one_answer (split token) (file ∷ []) now v w g h = one_split file v w g h
one_answer (split token) (file ∷ more ∷ files) now v w g h = absurd g
one_answer (show token) [] now v w g h = absurd g
one_answer (show token) (file ∷ []) now v w g h = one_show file v w g h
one_answer (show token) (file ∷ more ∷ files) now v w g h = absurd g
one_answer (verify policy token) [] now v w g h = absurd g
one_answer (verify policy token) (file ∷ []) now v w g h = absurd g
one_answer (verify policy token) (file ∷ other ∷ []) now v w g h = one_verify file other now v w g h
one_answer (verify policy token) (file ∷ other ∷ more ∷ files) now v w g h = absurd g
one_answer (issue order seed) [] now v w g h = absurd g
one_answer (issue order seed) (file ∷ []) now v w g h = absurd g
one_answer (issue order seed) (file ∷ other ∷ []) now v w g h = one_issue file other v w g h
one_answer (issue order seed) (file ∷ other ∷ more ∷ files) now v w g h = absurd g
one_answer (present order token) [] now v w g h = absurd g
one_answer (present order token) (file ∷ []) now v w g h = absurd g
one_answer (present order token) (file ∷ other ∷ []) now v w g h = one_present file other now v w g h
one_answer (present order token) (file ∷ other ∷ more ∷ files) now v w g h = absurd g
one_answer (convert form token) [] now v w g h = absurd g
one_answer (convert form token) (file ∷ []) now v w g h = one_convert form file v w g h
one_answer (convert form token) (file ∷ more ∷ files) now v w g h = absurd g
one_answer (gen count) [] now v w g h = one_gen count v w g h
one_answer (gen count) (file ∷ files) now v w g h = absurd g

pub same_command : (o : Option Command) (c d : Command) → o ≡ Some c → o ≡ Some d → c ≡ d
same_command o c d e f = cc

abbrev IsTold : (List ℕ → Option (List ℕ)) → NamedFile → List ℕ → Type 0
IsTold holds wanted file = IsSomeAnd (holds wanted.name) (λ content. file ≡ take wanted.most content)

-- over files that are told the answer is one over these files
pub answers_told : (holds : List ℕ → Option (List ℕ)) (command other : Command) (files : List (List ℕ)) (now : ℕ) (w : Reply) → other ≡ command → AreTold holds command files → IsAnswered holds other now w → Answers command files now w
answers_told holds command other files now w same told h =
    let fetched : AreFetched holds command h.files = subst (λ (c : Command). AreFetched holds c h.files) same h.fetched in
    let answers : Answers command h.files now w = subst (λ (c : Command). Answers c h.files now w) same h.answers in
    let files_are = all_as_fetched (IsTold holds) (IsFetched holds) (λ wanted. told_as_fetched (holds wanted.name) wanted.most) (files_of command) files h.files told fetched in
    subst (λ (fs : List (List ℕ)). Answers command fs now w) (sym files_are) answers

-- and there is one verdict
told_verdict : (holds : List ℕ → Option (List ℕ)) (command other : Command) (files : List (List ℕ)) (now : ℕ) (v w : Reply)
    → other ≡ command → AreTold holds command files → Answers command files now v → IsAnswered holds other now w → v ≡ w
told_verdict holds command other files now v w same told g h = one_answer command files now v w g (answers_told holds command other files now w same told h)

pub completes : (words : List (List ℕ)) (before after : Outside) (now : ℕ) (status : Status) (command : Command) (files : List (List ℕ)) (answer : List ℕ)
    → command_of words ≡ Some command → AreTold before.holds command files → Answers command files now (gives answer)
    → (Rose before.faults after.faults → ⊥) → (Rose before.out.faults after.out.faults → ⊥) → Ends words before after now status
    → ((status ≡ Done) × Appends before.out.written after.out.written answer) ⊎ (status ≡ Memory)
completes words before after now status command files answer named told good read written ends =
    run_completes (λ wanted. command_of words ≡ Some wanted) (λ wanted reply. IsAnswered before.holds wanted now reply) Misses before after command named answer
    (λ other reply also answered. told_verdict before.holds command other files now (gives answer) reply (same_command (command_of words) other command also named) told good answered) read written status ends
