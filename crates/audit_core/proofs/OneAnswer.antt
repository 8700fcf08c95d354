-- An audit has one answer over its two files, and a run of it that nothing stops writes it.
use Rattle.std.proofs.Common.{◌≡◌, ◌⊎◌, ℕ, ◌+◌, List, [], ◌∷◌, Option, ap, ◌∙◌, sym, subst, codes}
use Rattle.std.specs.Io.KnownBytes.{Appends}
use Rattle.sd_outside.specs.Causes.{Rose}
use Rattle.sd_outside.specs.Limits.{file_max}
use Rattle.sd_outside.specs.declared.status.Status.{Status}
use Rattle.sd_outside.specs.declared.status.Status.TheVariants.{Done, Memory}
use Rattle.hmac_sign.specs.Algs.{alg_text}
use Rattle.hmac_sign.specs.Hmac.{AlgKey, IsGood}
use Rattle.issuer_core.specs.Order.{Order}
use Rattle.issuer_core.specs.OrderFile.{AsksFor, IsOrderFile, IsOrderFileRefused}
use Rattle.issuer_core.proofs.OrderFiles as orders
use Rattle.cli_parts.specs.Lines.{line}
use Rattle.cli_parts.specs.Outside.{Outside}
use Rattle.cli_parts.specs.Replies.{Reply, gives}
use Rattle.cli_parts.specs.Runs.{MissesWord}
use Rattle.cli_parts.specs.Told.{IsFileTold}
use Rattle.cli_parts.proofs.CompletedRuns.{told_as_fetched, run_completes}
use Rattle.cli_parts.proofs.OneReply.{one_reply_of_file}
use Rattle.audit_core.specs.declared.errors.AuditError.{AuditError}
use Rattle.audit_core.specs.Audit.{PassesAudit, FailsAudit}
use Rattle.audit_core.specs.AuditRefusal.{audit_refusal_text}
use Rattle.audit_core.specs.AuditRun.{SaysYes, SaysNo, AuditAnswers, IsAudit, AuditsFiles, AuditEnds}
use Rattle.audit_core.proofs.Verdicts.{one_verdict}

-- ---- over the bytes of its files

-- what is so of what a file asks for is so of all that it asks for
of_asked : (order_file : List ℕ) (o p : Order) (key other : AlgKey) → AsksFor order_file o key → AsksFor order_file p other → (P : Order → AlgKey → Type 0) → P o key → P p other
of_asked order_file o p key other this that P h =
    let said = orders.one_order order_file this.said that.said this.is_order that.is_order in
    let same_order : o ≡ p = this.order_is ∙ (said.0 ∙ sym that.order_is) in
    let same_key : key ≡ other = this.key_is ∙ (said.1 ∙ sym that.key_is) in
    subst (λ (x : Order). P x other) same_order (subst (λ (k : AlgKey). P o k) same_key h)

module _ (order_file token_file : List ℕ) where
  yes_alone : (a b : List ℕ) → SaysYes order_file token_file a → SaysYes order_file token_file b → a ≡ b
  yes_alone a b g h = g.line_is ∙ sym h.line_is

  one_no : (a b : List ℕ) → SaysNo order_file token_file a → SaysNo order_file token_file b → a ≡ b
  one_no a b g h =
      let fails = of_asked order_file g.order h.order g.key h.key g.asks h.asks (λ (o : Order) (k : AlgKey). FailsAudit o (alg_text k.alg) (IsGood k) token_file g.error) g.fails in
      let same : g.error ≡ h.error = (one_verdict h.order (alg_text h.key.alg) (IsGood h.key) token_file).one_error g.error h.error fails h.fails in
      g.line_is ∙ (ap (λ (e : AuditError). line (audit_refusal_text e)) same ∙ sym h.line_is)

  yes_not_no : (a b : List ℕ) → SaysYes order_file token_file a → SaysNo order_file token_file b → ⊥
  yes_not_no a b g h =
      let passes = of_asked order_file g.order h.order g.key h.key g.asks h.asks (λ (o : Order) (k : AlgKey). PassesAudit o (alg_text k.alg) (IsGood k) token_file) g.passes in
      (one_verdict h.order (alg_text h.key.alg) (IsGood h.key) token_file).not_both h.error passes h.fails

  pub one_answer : (v w : Reply) → AuditAnswers order_file token_file v → AuditAnswers order_file token_file w → v ≡ w
  one_answer =
      one_reply_of_file (IsOrderFile order_file) (IsOrderFileRefused order_file) (orders.one_fault order_file) (orders.not_both order_file) (SaysYes order_file token_file) (SaysNo order_file token_file)
      (λ a g. (g.asks.said, g.asks.is_order)) (λ a g. (g.asks.said, g.asks.is_order)) yes_alone one_no yes_not_no

-- ---- over what the cabinet tells

module _ (holds : List ℕ → Option (List ℕ)) (order token order_file token_file : List ℕ) (order_told : IsFileTold holds order order_file) (token_told : IsFileTold holds token token_file) (answer : List ℕ) (good : AuditAnswers order_file token_file (gives answer)) where
  told_alone : (reply : Reply) → AuditsFiles holds order token reply → gives answer ≡ reply
  told_alone reply h =
      let order_same : order_file ≡ h.order_file = told_as_fetched (holds order) (file_max + 1) order_file h.order_file order_told h.order_fetched in
      let token_same : token_file ≡ h.token_file = told_as_fetched (holds token) (file_max + 1) token_file h.token_file token_told h.token_fetched in
      let answers = subst (λ (file : List ℕ). AuditAnswers order_file file reply) (sym token_same) (subst (λ (file : List ℕ). AuditAnswers file h.token_file reply) (sym order_same) h.answers) in
      one_answer order_file token_file (gives answer) reply good answers

  -- the words name one pair of files
  pub named_alone : (words : List (List ℕ)) → IsAudit words order token → (names : List ℕ × List ℕ) (reply : Reply) → IsAudit words names.0 names.1 → AuditsFiles holds names.0 names.1 reply → gives answer ≡ reply
  named_alone words named names reply also h =
      let both : codes "audit" ∷ names.0 ∷ names.1 ∷ [] ≡ codes "audit" ∷ order ∷ token ∷ [] = sym also ∙ named in
      let first : names.0 ≡ order = cc both in
      let second : names.1 ≡ token = cc both in
      told_alone reply (subst (λ (name : List ℕ). AuditsFiles holds order name reply) second (subst (λ (name : List ℕ). AuditsFiles holds name names.1 reply) first h))

pub completes : (words : List (List ℕ)) (before after : Outside) (status : Status) (order token order_file token_file answer : List ℕ)
    → IsAudit words order token → IsFileTold before.holds order order_file → IsFileTold before.holds token token_file → AuditAnswers order_file token_file (gives answer)
    → (Rose before.faults after.faults → ⊥) → (Rose before.out.faults after.out.faults → ⊥) → AuditEnds words before after status
    → ((status ≡ Done) × Appends before.out.written after.out.written answer) ⊎ (status ≡ Memory)
completes words before after status order token order_file token_file answer named order_told token_told good read written ends =
    run_completes {Asked = List ℕ × List ℕ} (λ names. IsAudit words names.0 names.1) (λ names reply. AuditsFiles before.holds names.0 names.1 reply) (λ names word missed. MissesWord (names.0 ∷ names.1 ∷ []) word missed) before after (order, token) named
    answer (named_alone before.holds order token order_file token_file order_told token_told answer good words named) read written status ends
