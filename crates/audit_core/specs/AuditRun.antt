-- What a run of the audit answers, and does to the outside.
use Rattle.std.specs.Prelude.{◌≡◌, ℕ, List, [], ◌∷◌, Option, codes}
use Rattle.sd_outside.specs.declared.status.Status.{Status}
use Rattle.cli_parts.specs.Lines.{line}
use Rattle.cli_parts.specs.Outside.{Outside}
use Rattle.cli_parts.specs.Replies.{Reply, Replies}
use Rattle.cli_parts.specs.Runs.{IsFetched, MissesWord, RunEnds}
use Rattle.cli_parts.specs.Telling.{TellsFileFault}
use Rattle.hmac_sign.specs.Algs.{alg_text}
use Rattle.hmac_sign.specs.Hmac.{AlgKey, IsGood}
use Rattle.issuer_core.specs.Order.{Order}
use Rattle.issuer_core.specs.OrderFile.{AsksFor, IsOrderFileRefused}
use Rattle.audit_core.specs.declared.errors.AuditError.{AuditError}
use Rattle.audit_core.specs.Audit.{PassesAudit, FailsAudit}
use Rattle.audit_core.specs.AuditRefusal.{audit_refusal_text}

-- ---- what is answered over the bytes of the two files

-- the token is what the order asks for, signed with its key, and this is the line that says so
pub record SaysYes (order_file token_file answer : List ℕ) : Type 0 where
  pub order : Order
  pub key : AlgKey
  pub asks : AsksFor order_file order key
  pub passes : PassesAudit order (alg_text key.alg) (IsGood key) token_file
  pub line_is : answer ≡ line (codes "yes")

-- the first that refuses it, with its line
pub record SaysNo (order_file token_file text : List ℕ) : Type 0 where
  pub order : Order
  pub key : AlgKey
  pub asks : AsksFor order_file order key
  pub error : AuditError
  pub fails : FailsAudit order (alg_text key.alg) (IsGood key) token_file error
  pub line_is : text ≡ line (audit_refusal_text error)

-- or the order file is not of its form
abbrev pub AuditAnswers : List ℕ → List ℕ → Reply → Type 0
AuditAnswers order_file token_file reply =
    Replies (SaysYes order_file token_file) (SaysNo order_file token_file)
    (TellsFileFault (IsOrderFileRefused order_file)) reply

-- ---- over what the cabinet holds

-- the words of an audit: `audit`, and the names of its order file and of its token file
abbrev pub IsAudit : List (List ℕ) → List ℕ → List ℕ → Type 0
IsAudit words order token = words ≡ codes "audit" ∷ order ∷ token ∷ []

-- the reply over the files with these names
pub record AuditsFiles (holds : List ℕ → Option (List ℕ)) (order token : List ℕ) (reply : Reply)
    : Type 0 where
  pub order_file : List ℕ
  pub token_file : List ℕ
  pub order_fetched : IsFetched holds order order_file
  pub token_fetched : IsFetched holds token token_file
  pub answers : AuditAnswers order_file token_file reply

-- the words ask for an order file and a token file, by their names
abbrev pub AuditEnds : List (List ℕ) → Outside → Outside → Status → Type 0
AuditEnds words before after status =
    RunEnds {Asked = List ℕ × List ℕ} (λ names. IsAudit words names.0 names.1)
    (λ names reply. AuditsFiles before.holds names.0 names.1 reply)
    (λ names word missed. MissesWord (names.0 ∷ names.1 ∷ []) word missed) before after status
