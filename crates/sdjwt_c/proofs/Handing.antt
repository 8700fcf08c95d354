-- What is handed over is a reply of the command, where its answer is.
use Rattle.std.proofs.Common.{◌≡◌, ℕ, List, [], inl, inr, ap, ◌∙◌, arith}
use Rattle.std.specs.Prelude.{Result, Ok, Err, IfOk, IfErr, string_bytes}
use Rattle.std.specs.declared.string.String.{String}
use Rattle.std.specs.declared.alloc.Global.{Global}
use Rattle.sd_outside.specs.Status.{status_number}
use Rattle.sd_outside.specs.declared.status.Status.{Status}
use Rattle.sd_outside.specs.declared.status.Status.TheVariants.{Done, Unwritten}
use Rattle.sd_outside.specs.declared.status.Status.TheVariants as status
use Rattle.cli_parts.specs.Replies.{Reply, gives, refuses, unreadable}
use Rattle.cli_parts.specs.Stops.{IsReply, OnRefused, OnUnread, OnUnreadable}
use Rattle.cli_parts.proofs.Finished.{replied}
use Rattle.cli_parts.specs.declared.stop.Stop.{Stop}
use Rattle.cli_parts.specs.declared.stop.Stop.TheVariants.{Memory, Unread, Unreadable, Refused}
use Rattle.sdjwt_c.specs.Handed.{IsLeft, IsGiven, IsTooLong, Hands, HandsBy, reply_text}
use Rattle.sdjwt_c.specs.Results.{IsHanded}

module _ (Misused : Type 0) (kept : Misused → ⊥) (Is : Reply → Type 0) (before after : List ℕ) (len number : ℕ) (told : Status) (number_is : number ≡ status_number told) where
  by_status : (s : Status) → told ≡ s → Hands Misused Is before after len s → HandsBy Misused Is before after len number
  by_status s e hands = record { status = s; number_is = number_is ∙ ap status_number e; hands = hands; misuse = λ misused. absurd (kept misused) }

  unwritten : (reply : Reply) → Is reply → told ≡ Unwritten → IsTooLong (reply_text reply) before after len → HandsBy Misused Is before after len number
  unwritten reply is e long = by_status Unwritten e (record { reply = reply; is = is; too_long = long })

  pub given : (text : List ℕ) → Is (gives text) → IsGiven text Done before after len told → HandsBy Misused Is before after len number
  given text is (inl w) = by_status Done w.0 (record { text = text; is = is; written = w.1 })
  given text is (inr n) = unwritten (gives text) is n.0 n.1

  refused : (text : List ℕ) → Is (refuses text) → IsGiven text status.Refused before after len told → HandsBy Misused Is before after len number
  refused text is (inl w) = by_status status.Refused w.0 (record { text = text; is = is; written = w.1 })
  refused text is (inr n) = unwritten (refuses text) is n.0 n.1

  not_read : (text : List ℕ) → Is (unreadable text) → IsGiven text status.Unreadable before after len told → HandsBy Misused Is before after len number
  not_read text is (inl w) = by_status status.Unreadable w.0 (record { text = text; is = is; written = w.1 })
  not_read text is (inr n) = unwritten (unreadable text) is n.0 n.1

  -- a reply, or a stop that is no failed read
  pub handed_reply : (answer : Result (String Global) Stop) → IsReply Is answer → IfErr answer (λ stop. OnUnread stop (λ _. ⊥)) → IsHanded answer before after len told → HandsBy Misused Is before after len number
  handed_reply (Ok text) reply unread is = given (string_bytes text) reply is
  handed_reply (Err (Refused text)) reply unread is = refused (string_bytes text) reply is
  handed_reply (Err (Unreadable text)) reply unread is = not_read (string_bytes text) reply is
  handed_reply (Err (Unread word)) reply unread is = absurd unread
  handed_reply (Err Memory) reply unread is = by_status status.Memory is.0 is.1

  pub handed : (answer : Result (String Global) Stop) → IfOk answer (λ text. Is (gives (string_bytes text))) → IfErr answer (λ stop. OnRefused stop (λ text. Is (refuses text)))
      → IfErr answer (λ stop. OnUnreadable stop (λ text. Is (unreadable text))) → IfErr answer (λ stop. OnUnread stop (λ _. ⊥)) → IsHanded answer before after len told → HandsBy Misused Is before after len number
  handed answer ok refusal unfit unread is = handed_reply answer (replied Is answer ok refusal unfit) unread is

  -- an answer of no bytes
  pub empty : Is (gives []) → told ≡ Done → IsLeft before after len → HandsBy Misused Is before after len number
  empty is e left = by_status Done e (record { text = []; is = is; written = record { fits = omega arith; len_is = left.len_is; room_is = left.room_is } })
