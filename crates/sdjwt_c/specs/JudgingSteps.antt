-- For private functions: a verdict on its way to the caller.
use Rattle.std.specs.Prelude.{◌≡◌, ℕ, List, Result, Ok, Err, string_bytes}
use Rattle.claim_tree.specs.JsonText.{json_text}
use Rattle.claim_tree.specs.View.{tree_of}
use Rattle.cli_parts.specs.Lines.{line, refusal}
use Rattle.cli_parts.specs.Replies.{gives, refuses, unreadable}
use Rattle.cli_parts.specs.declared.stop.Stop.{Stop}
use Rattle.sd_outside.specs.Status.{status_number}
use Rattle.sd_outside.specs.declared.status.Status.{Status}
use Rattle.sdjwt_c.specs.Judging.{Told, replies, asks, unasked, unasked_line, HandsAs}
use Rattle.sdjwt_c.specs.Questions.{issuer_question, holder_question}
use Rattle.sdjwt_c.specs.Results.{IsHanded}
use Rattle.sdjwt_c.specs.declared.verdict.Verdict.{Verdict}
use Rattle.verifier_core.specs.declared.asking.JudgeError.{JudgeError}
use Rattle.verifier_core.specs.declared.asking.Judgement.{Judgement}

-- this is so of what is told, where there was memory for it
abbrev pub OnTold : Result Verdict Stop → (Told → Type 0) → Type 0
OnTold (Ok (Verdict.Accepted text)) Is = Is (replies (gives (string_bytes text)))
OnTold (Ok (Verdict.Asks text)) Is = Is (asks (string_bytes text))
OnTold (Ok Verdict.NotAsked) Is = Is unasked
OnTold (Err (Stop.Refused text)) Is = Is (replies (refuses (string_bytes text)))
OnTold (Err (Stop.Unreadable text)) Is = Is (replies (unreadable (string_bytes text)))
OnTold (Err (Stop.Unread word)) Is = ⊥
OnTold (Err Stop.Memory) Is = Unit {0}

-- what is told of a judgement
abbrev pub TellsJudgement : Result Judgement JudgeError → Told → Type 0
TellsJudgement (Ok (Judgement.Accepted payload)) (replies (gives text)) =
    text ≡ line (json_text (tree_of payload))
TellsJudgement (Ok (Judgement.Refused fault)) (replies (refuses text)) = text ≡ refusal fault
TellsJudgement (Ok (Judgement.AsksIssuer question)) (asks text) =
    text ≡ line (json_text (issuer_question question))
TellsJudgement (Ok (Judgement.AsksHolder question payload)) (asks text) =
    text ≡ line (json_text (holder_question question (tree_of payload)))
TellsJudgement (Err JudgeError.NotAsked) unasked = Unit {0}
TellsJudgement _ _ = ⊥

-- it is handed by its number
abbrev pub IsHandedVerdict : Result Verdict Stop → List ℕ → List ℕ → ℕ → ℕ → Type 0
IsHandedVerdict (Ok (Verdict.Accepted text)) before after len number =
    (status : Status) × (number ≡ status_number status) × IsHanded (Ok text) before after len status
IsHandedVerdict (Ok (Verdict.Asks text)) before after len number =
    HandsAs 7 (string_bytes text) before after len number
IsHandedVerdict (Ok Verdict.NotAsked) before after len number =
    HandsAs 8 unasked_line before after len number
IsHandedVerdict (Err why) before after len number =
    (status : Status) × (number ≡ status_number status) × IsHanded (Err why) before after len status
