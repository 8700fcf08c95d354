-- The law of presenting, over files and over runs.
use Rattle.std.proofs.Common.{◌≡◌, ◌≢◌, ℕ, List, [], ◌∷◌, ◌++◌, Option, Some, None, refl, sym, ap, subst, ◌∙◌}
use Rattle.std.specs.Io.KnownBytes.{Appends}
use Rattle.sd_outside.specs.declared.status.Status.{Status}
use Rattle.claim_tree.specs.JsonText.{json_text}
use Rattle.claim_tree.specs.Tree.{Tree}
use Rattle.issuer_core.specs.Order.{Order}
use Rattle.holder_core.proofs.PresentFiles as orders
use Rattle.cli_parts.specs.Replies.{Reply, gives, refuses, unreadable}
use Rattle.sdjwt_cli.specs.Answers.{PresentAnswers, VerifyAnswers, Answers, IsAnswered}
use Rattle.sdjwt_cli.specs.Command.{Command, issue, present, verify, command_of}
use Rattle.sdjwt_cli.specs.Issuing.{Issues}
use Rattle.cli_parts.specs.Lines.{line}
use Rattle.selection_core.specs.Never.{never_rule}
use Rattle.sdjwt_cli.specs.Presented.{AllSuits, OnlyGives, GivesAlone, IsShownWell, PresentedOverFiles, IsRun, Wrote, IsNoRefusal, RunsTo, RunsWell, PresentedOverRuns}
use Rattle.hmac_sign.specs.Hmac.{AlgKey}
use Rattle.sdjwt_cli.specs.Presenting.{signing_key}
use Rattle.cli_parts.specs.Outside.{Outside}
use Rattle.sdjwt_cli.specs.Run.{Ends}
use Rattle.sdjwt_cli.specs.Suits.{Suits, claims_for}
use Rattle.sdjwt_cli.proofs.IssueVerdicts.{same_order, carried}
use Rattle.sdjwt_cli.proofs.PresentedVerified.{not_refused, verifies}
use Rattle.sdjwt_cli.proofs.Verdicts.{same_command, answers_told}
use Rattle.sdjwt_cli.proofs.VerifyVerdicts.{one_verify}

-- ---- over files

module _ (order_file seed_file present_file policy_file : List ℕ) (now later : ℕ) (all : AllSuits order_file seed_file present_file policy_file now later) (token : List ℕ) (issues : Issues order_file seed_file token) where
  suits : Suits never_rule all.said.never issues.order issues.key all.said.ask (signing_key all.said.key) all.policy now later
  suits =
      carried order_file seed_file all.order issues.order all.key issues.key all.seed issues.seed all.asked issues.asked (λ (p : Order) (k : AlgKey) (s : List ℕ). Suits never_rule all.said.never p k all.said.ask (signing_key all.said.key) all.policy now later) all.suits

  claims_are : claims_for issues.order all.said.ask.want ≡ claims_for all.order all.said.ask.want
  claims_are = ap (λ (p : Order). claims_for p all.said.ask.want) (sym (same_order order_file seed_file all.order issues.order all.key issues.key all.seed issues.seed all.asked issues.asked))

  only_presents : OnlyGives (PresentAnswers present_file token now)
  only_presents (gives answer) h = (answer, refl)
  only_presents (refuses text) h = absurd (not_refused order_file seed_file token present_file policy_file now later issues all.said all.is_said all.policy all.is_policy all.moment suits text h)
  only_presents (unreadable text) h = absurd (h.cause (orders.not_both present_file all.said h.fault all.is_said h.refused))

  verified_alone : (answer : List ℕ) → PresentAnswers present_file token now (gives answer) → GivesAlone (VerifyAnswers policy_file answer later) (line (json_text (claims_for all.order all.said.ask.want)))
  verified_alone answer h =
      let good = verifies order_file seed_file token present_file policy_file now later issues all.said all.is_said all.policy all.is_policy all.moment suits answer h in
      let whole = subst (λ t. VerifyAnswers policy_file answer later (gives (line (json_text t)))) claims_are good in
      record { given = whole; alone = λ verdict other. one_verify policy_file answer later verdict (gives (line (json_text (claims_for all.order all.said.ask.want)))) other whole }

  pub shown_well : IsShownWell token present_file policy_file now later (claims_for all.order all.said.ask.want)
  shown_well = record { presents = only_presents; verifies = verified_alone }

pub presented_over_files : PresentedOverFiles
presented_over_files order_file seed_file present_file policy_file presented verified all token issues = shown_well order_file seed_file present_file policy_file presented verified all token issues

-- ---- over runs

same_text : (a b c : List ℕ) → a ++ b ≡ a ++ c → b ≡ c
same_text [] b c e = e
same_text (x ∷ a) b c e = same_text a b c (cc e)

wrote_is : (old new : Option (List ℕ)) (before text answer : List ℕ) → old ≡ Some before → new ≡ Some (before ++ text) → Appends old new answer → answer ≡ text
wrote_is None new before text answer was is more = cc was
wrote_is (Some xs) None before text answer was is more = absurd more
wrote_is (Some xs) (Some ys) before text answer was is more =
    let front : xs ≡ before = cc was in
    let whole : ys ≡ before ++ text = cc is in
    same_text before answer text (ap (λ (zs : List ℕ). zs ++ answer) (sym front) ∙ (sym more ∙ whole))

-- the verdict of a run that ended with an answer, or with a refusal
module _ (command : Command) (files : List (List ℕ)) (now : ℕ) (before after : Outside) (status : Status) (run : IsRun command files now before after status) where
  told_answers : (other : Command) (verdict : Reply) → command_of run.words ≡ Some other → IsAnswered before.holds other now verdict → Answers command files now verdict
  told_answers other verdict named answered = answers_told before.holds command other files now verdict (same_command (command_of run.words) other command named run.named) run.told answered

  pub done_answers : status ≡ Status.Done → (e : Ends run.words before after now Status.Done) × Answers command files now (gives e.answer)
  done_answers is = let e = subst (Ends run.words before after now) is run.ends in (e, told_answers e.asked (gives e.answer) e.named e.answered)

  pub no_refusal : OnlyGives (Answers command files now) → IsNoRefusal status
  no_refusal only = record { not_refused = refused; not_unreadable = odd }
    where
      refused : status ≢ Status.Refused
      refused is =
          let e = subst (Ends run.words before after now) is run.ends in
          let found = only (refuses e.text) (told_answers e.asked (refuses e.text) e.named e.answered) in
          cc found.1

      odd : status ≢ Status.Unreadable
      odd is =
          let e = subst (Ends run.words before after now) is run.ends in
          let found = only (unreadable e.text) (told_answers e.asked (unreadable e.text) e.named e.answered) in
          cc found.1

  -- what was written is the answer
  pub written_answers : (text : List ℕ) → status ≡ Status.Done → Wrote before after text → Answers command files now (gives text)
  written_answers text is wrote =
      let done = done_answers is in
      subst (λ (answer : List ℕ). Answers command files now (gives answer)) (wrote_is before.out.written after.out.written wrote.old text done.0.answer wrote.was wrote.is done.0.out) done.1

  pub runs_to : (answer : List ℕ) → GivesAlone (Answers command files now) answer → RunsTo before after status answer
  runs_to answer gives_it = record { refuses_nothing = no_refusal (λ verdict h. (answer, gives_it.alone verdict h)); wrote = wrote }
    where
      wrote : status ≡ Status.Done → Appends before.out.written after.out.written answer
      wrote is =
          let done = done_answers is in
          let both : gives done.0.answer ≡ gives answer = gives_it.alone (gives done.0.answer) done.1 in
          let same : done.0.answer ≡ answer = cc both in
          subst (λ (text : List ℕ). Appends before.out.written after.out.written text) same done.0.out

runs_well : (token present_file policy_file : List ℕ) (presented verified : ℕ) (claims : Tree) → IsShownWell token present_file policy_file presented verified claims → RunsWell token present_file policy_file presented verified claims
runs_well token present_file policy_file presented verified claims well = record {
  presents = λ order sent before after status run. no_refusal (present order sent) (present_file ∷ token ∷ []) presented before after status run well.presents;
  verifies = λ order sent before after answer run wrote policy given then_before then_after status last.
      let presents = written_answers (present order sent) (present_file ∷ token ∷ []) presented before after Status.Done run answer refl wrote in
      runs_to (verify policy given) (policy_file ∷ answer ∷ []) verified then_before then_after status last (line (json_text claims)) (well.verifies answer presents);
}

pub presented_over_runs : PresentedOverRuns
presented_over_runs order_file seed_file present_file policy_file presented verified all order seed issued before after token run wrote =
    let issues = written_answers (issue order seed) (order_file ∷ seed_file ∷ []) issued before after Status.Done run token refl wrote in
    runs_well token present_file policy_file presented verified (claims_for all.order all.said.ask.want) (shown_well order_file seed_file present_file policy_file presented verified all token issues)
