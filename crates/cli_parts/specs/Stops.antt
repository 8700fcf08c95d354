-- Not needed to believe the program's promises: a fact for one reason why a command has no answer,
-- and for what it replies.
use Rattle.std.specs.Prelude.{ℕ, List, Result, Ok, Err, string_bytes}
use Rattle.std.specs.declared.alloc.Global.{Global}
use Rattle.std.specs.declared.string.String.{String}
use Rattle.cli_parts.specs.Replies.{Reply, gives, refuses, unreadable}
use Rattle.cli_parts.specs.declared.stop.Stop.{Stop}
use Rattle.cli_parts.specs.declared.stop.Stop.TheVariants.{Memory, Unread, Unreadable, Refused}

abbrev pub OnRefused : Stop → (List ℕ → Type 0) → Type 0
OnRefused Memory P = Unit {0}
OnRefused (Unread word) P = Unit {0}
OnRefused (Unreadable text) P = Unit {0}
OnRefused (Refused text) P = P (string_bytes text)

abbrev pub OnUnread : Stop → (ℕ → Type 0) → Type 0
OnUnread Memory P = Unit {0}
OnUnread (Unread word) P = P word
OnUnread (Unreadable text) P = Unit {0}
OnUnread (Refused text) P = Unit {0}

abbrev pub OnUnreadable : Stop → (List ℕ → Type 0) → Type 0
OnUnreadable Memory P = Unit {0}
OnUnreadable (Unread word) P = Unit {0}
OnUnreadable (Unreadable text) P = P (string_bytes text)
OnUnreadable (Refused text) P = Unit {0}

-- what is no stop of this kind
abbrev pub NotRefused : Stop → Type 0
NotRefused = λ stop. OnRefused stop (λ _. ⊥)

abbrev pub NotUnread : Stop → Type 0
NotUnread = λ stop. OnUnread stop (λ _. ⊥)

abbrev pub NotUnreadable : Stop → Type 0
NotUnreadable = λ stop. OnUnreadable stop (λ _. ⊥)

-- what was answered is such a reply; a file that was not read and want of memory are none
abbrev pub IsReply : (Reply → Type 0) → Result (String Global) Stop → Type 0
IsReply Is (Ok text) = Is (gives (string_bytes text))
IsReply Is (Err (Refused text)) = Is (refuses (string_bytes text))
IsReply Is (Err (Unreadable text)) = Is (unreadable (string_bytes text))
IsReply Is (Err (Unread word)) = Unit {0}
IsReply Is (Err Memory) = Unit {0}
