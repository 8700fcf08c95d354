-- What is told of a judgement, and how it is handed over.
use Rattle.std.proofs.Common.{◌≡◌, ◌⊎◌, ℕ, List, inl, inr, Some, None, Result, Ok, Err, refl}
use Rattle.std.specs.Prelude.{string_bytes}
use Rattle.claim_tree.specs.View.{tree_of}
use Rattle.cli_parts.specs.Replies.{gives, refuses, unreadable}
use Rattle.cli_parts.specs.declared.stop.Stop.{Stop}
use Rattle.verifier_core.specs.Asking.{IsJudged}
use Rattle.verifier_core.specs.Verdict.{Demands}
use Rattle.verifier_core.specs.declared.asking.Answers.{Answers}
use Rattle.verifier_core.specs.declared.asking.JudgeError.{JudgeError}
use Rattle.verifier_core.specs.declared.asking.Judgement.{Judgement}
use Rattle.sdjwt_c.specs.Judging.{Told, replies, asks, unasked, Tells, HandsVerdictBy, replied, asked, not_asked}
use Rattle.sdjwt_c.specs.JudgingSteps.{OnTold, TellsJudgement, IsHandedVerdict}
use Rattle.sdjwt_c.specs.declared.verdict.Verdict.{Verdict}
use Rattle.sdjwt_c.proofs.Handing.{handed_reply}

-- what is told of what was judged is so
pub tells_judged : (token : List ℕ) (demands : Demands) (now : ℕ) (answers : Answers) (judged : Result Judgement JudgeError) → IsJudged token demands now answers judged
    → (told : Told) → TellsJudgement judged told → Tells token demands now answers told
tells_judged token demands now answers (Ok (Judgement.Accepted payload)) is (replies (gives text)) e =
    (record { payload = tree_of payload; accepted = is.accepted; line_is = e }, record { was_asked = is.needed; done = is.done tt })
tells_judged token demands now answers (Ok (Judgement.Refused fault)) is (replies (refuses text)) e =
    (record { fault = fault; lowest = is.refused; line_is = e }, record { was_asked = is.needed; done = is.done tt })
tells_judged token demands now answers (Ok (Judgement.AsksIssuer question)) is (asks text) e = inl (record { question = question; asked = is.asks_issuer; line_is = e })
tells_judged token demands now answers (Ok (Judgement.AsksHolder question payload)) is (asks text) e =
    inr (record { question = question; payload = tree_of payload; asked = is.asks_holder; line_is = e })
tells_judged token demands now answers (Err JudgeError.NotAsked) is unasked e = is.not_asked refl
tells_judged token demands now answers judged is told e = absurd e

-- what is told is so, where more is so of all that is told
pub told_more : (P Q : Told → Type 0) → ((told : Told) → P told → Q told) → (verdict : Result Verdict Stop) → OnTold verdict P → OnTold verdict Q
told_more P Q follows (Ok (Verdict.Accepted text)) h = follows (replies (gives (string_bytes text))) h
told_more P Q follows (Ok (Verdict.Asks text)) h = follows (asks (string_bytes text)) h
told_more P Q follows (Ok Verdict.NotAsked) h = follows unasked h
told_more P Q follows (Err (Stop.Refused text)) h = follows (replies (refuses (string_bytes text))) h
told_more P Q follows (Err (Stop.Unreadable text)) h = follows (replies (unreadable (string_bytes text))) h
told_more P Q follows (Err (Stop.Unread word)) h = absurd h
told_more P Q follows (Err Stop.Memory) h = tt

-- what is told is handed over
pub handed_verdict : (Misused : Type 0) → (Misused → ⊥) → (Is : Told → Type 0) (before after : List ℕ) (len number : ℕ) (verdict : Result Verdict Stop) → OnTold verdict Is → IsHandedVerdict verdict before after len number
    → HandsVerdictBy Misused Is before after len number
handed_verdict Misused kept Is before after len number (Ok (Verdict.Accepted text)) is h =
    replied (handed_reply Misused kept (λ reply. Is (replies reply)) before after len number h.0 h.1 (Ok text) is tt h.2)
handed_verdict Misused kept Is before after len number (Ok (Verdict.Asks text)) is h = asked (string_bytes text) kept is h
handed_verdict Misused kept Is before after len number (Ok Verdict.NotAsked) is h = not_asked kept is h
handed_verdict Misused kept Is before after len number (Err (Stop.Refused text)) is h =
    replied (handed_reply Misused kept (λ reply. Is (replies reply)) before after len number h.0 h.1 (Err (Stop.Refused text)) is tt h.2)
handed_verdict Misused kept Is before after len number (Err (Stop.Unreadable text)) is h =
    replied (handed_reply Misused kept (λ reply. Is (replies reply)) before after len number h.0 h.1 (Err (Stop.Unreadable text)) is tt h.2)
handed_verdict Misused kept Is before after len number (Err (Stop.Unread word)) is h = absurd is
handed_verdict Misused kept Is before after len number (Err Stop.Memory) is h =
    replied (handed_reply Misused kept (λ reply. Is (replies reply)) before after len number h.0 h.1 (Err Stop.Memory) tt tt h.2)

-- neither is missing
pub both_there : {X Y : Type 0} (x : X) (y : Y) → (Some x ≡ None) ⊎ (Some y ≡ None) → ⊥
both_there x y (inl e) = cc e
both_there x y (inr e) = cc e
