-- A reply from what is said of each kind of answer, and how a run ends by its answer.
use Rattle.std.proofs.Common.{◌≡◌, inl, inr, ℕ, List, Option, Result, Ok, Err, String, Global, IfOk, IfErr, string_bytes, sym, subst}
use Rattle.sd_outside.specs.Causes.{Rose}
use Rattle.sd_outside.specs.declared.status.Status.{Status}
use Rattle.sd_outside.specs.declared.status.Status.TheVariants as status
use Rattle.cli_parts.specs.Finishing.{Finishes, TellsMemory, streams}
use Rattle.cli_parts.specs.Outside.{Outside}
use Rattle.cli_parts.specs.Replies.{Reply, gives, refuses, unreadable}
use Rattle.cli_parts.specs.Runs.{RunEnds}
use Rattle.cli_parts.specs.Stops.{OnRefused, OnUnread, OnUnreadable, IsReply}
use Rattle.cli_parts.specs.declared.stop.Stop.{Stop}
use Rattle.cli_parts.specs.declared.stop.Stop.TheVariants.{Memory, Unread, Unreadable, Refused}

module _ (Is : Reply → Type 0) where
  pub replied : (answer : Result (String Global) Stop) → IfOk answer (λ text. Is (gives (string_bytes text))) → IfErr answer (λ stop. OnRefused stop (λ text. Is (refuses text)))
      → IfErr answer (λ stop. OnUnreadable stop (λ text. Is (unreadable text))) → IsReply Is answer
  replied (Ok text) ok refusal unfit = ok
  replied (Err Memory) ok refusal unfit = tt
  replied (Err (Unread word)) ok refusal unfit = tt
  replied (Err (Unreadable text)) ok refusal unfit = unfit
  replied (Err (Refused text)) ok refusal unfit = refusal

pub reply_more : (P Q : Reply → Type 0) → ((reply : Reply) → P reply → Q reply) → (answer : Result (String Global) Stop) → IsReply P answer → IsReply Q answer
reply_more P Q follows (Ok text) h = follows (gives (string_bytes text)) h
reply_more P Q follows (Err Memory) h = tt
reply_more P Q follows (Err (Unread word)) h = tt
reply_more P Q follows (Err (Unreadable text)) h = follows (unreadable (string_bytes text)) h
reply_more P Q follows (Err (Refused text)) h = follows (refuses (string_bytes text)) h

module _ {Asked : Type 0} (Named : Asked → Type 0) (Is : Asked → Reply → Type 0) (Misses : Asked → ℕ → Option (List ℕ) → Type 0) (before after : Outside) (told : Status) (asked : Asked) (named : Named asked) where
  by_status : (s : Status) → told ≡ s → RunEnds Named Is Misses before after s → RunEnds Named Is Misses before after told
  by_status s same ends = subst (RunEnds Named Is Misses before after) (sym same) ends

  memory : after.out.written ≡ before.out.written → TellsMemory before.err after.err told → RunEnds Named Is Misses before after told
  memory out told_it = by_status status.Memory told_it.0 (record { asked = asked; named = named; out = out; err = told_it.1 })

  pub ends_by : (answer : Result (String Global) Stop) → IsReply (Is asked) answer → IfErr answer (λ stop. OnUnread stop (λ word. Misses asked word after.missed))
      → IfErr answer (λ stop. OnUnread stop (λ _. Rose before.faults after.faults))
      → Finishes answer (streams before.out before.err) (streams after.out after.err) told → RunEnds Named Is Misses before after told
  ends_by (Ok text) is missed rose (inl whole) = by_status status.Done whole.status_is (record { asked = asked; named = named; answer = string_bytes text; answered = is; out = whole.out; err = whole.err })
  ends_by (Ok text) is missed rose (inr part) = by_status status.Unwritten part.status_is (record { asked = asked; named = named; answer = string_bytes text; answered = is; rose = part.rose; out = part.out; err = part.err })
  ends_by (Err Memory) is missed rose done = memory done.0 done.1
  ends_by (Err (Unread word)) is missed rose (out, inl unread) = by_status status.Unread unread.0 (record { asked = asked; named = named; word = word; missed = missed; rose = rose; out = out; err = unread.1 })
  ends_by (Err (Unread word)) is missed rose (out, inr none) = memory out none
  ends_by (Err (Unreadable text)) is missed rose done = by_status status.Unreadable done.1.0 (record { asked = asked; named = named; text = string_bytes text; answered = is; out = done.0; err = done.1.1 })
  ends_by (Err (Refused text)) is missed rose done = by_status status.Refused done.1.0 (record { asked = asked; named = named; text = string_bytes text; answered = is; out = done.0; err = done.1.1 })
