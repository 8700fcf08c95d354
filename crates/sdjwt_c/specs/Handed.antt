-- Not needed to believe the program's promises: what a call leaves in the room
-- that its caller gives for the answer.
use Rattle.std.specs.Prelude.{◌≡◌, ◌<◌, ◌≤◌, ◌⊎◌, ℕ, List, ◌++◌, length, drop}
use Rattle.sd_outside.specs.Status.{status_number}
use Rattle.sd_outside.specs.declared.status.Status.{Status}
use Rattle.sd_outside.specs.declared.status.Status.TheVariants.{Done, Refused, Usage, Unread, Unwritten, Memory, Unreadable}
use Rattle.cli_parts.specs.Replies.{Reply, gives, refuses, unreadable}

-- the bytes of a reply: an answer, or the line that tells why there is none
abbrev pub reply_text : Reply → List ℕ
reply_text (gives answer) = answer
reply_text (refuses text) = text
reply_text (unreadable text) = text

-- the text stands at the front of the room, and what lay behind it is as it was
pub record IsInRoom (text before after : List ℕ) (len : ℕ) : Type 0 where
  pub fits : length text ≤ length before
  pub len_is : len ≡ length text
  pub room_is : after ≡ text ++ drop (length text) before

-- the text is longer than the room: nothing is written, and the length is that of the text
pub record IsTooLong (text before after : List ℕ) (len : ℕ) : Type 0 where
  pub longer : length before < length text
  pub len_is : len ≡ length text
  pub room_is : after ≡ before

-- there is no text
pub record IsLeft (before after : List ℕ) (len : ℕ) : Type 0 where
  pub len_is : len ≡ 0
  pub room_is : after ≡ before

-- a text of which this is so was written
pub record HandsText (Is : List ℕ → Type 0) (before after : List ℕ) (len : ℕ) : Type 0 where
  pub text : List ℕ
  pub is : Is text
  pub written : IsInRoom text before after len

-- the reply is longer than the room
pub record WantsRoom (Is : Reply → Type 0) (before after : List ℕ) (len : ℕ) : Type 0 where
  pub reply : Reply
  pub is : Is reply
  pub too_long : IsTooLong (reply_text reply) before after len

-- the caller broke a rule of the call
pub record IsMisused (Misused : Type 0) (before after : List ℕ) (len : ℕ) : Type 0 where
  pub misused : Misused
  pub left : IsLeft before after len

-- by the status: the whole answer, or the whole line of a refusal, or the room
-- that it needs, or nothing where the caller broke a rule or there was no memory
abbrev pub Hands : Type 0 → (Reply → Type 0) → List ℕ → List ℕ → ℕ → Status → Type 0
Hands Misused Is before after len Done = HandsText (λ text. Is (gives text)) before after len
Hands Misused Is before after len Refused = HandsText (λ text. Is (refuses text)) before after len
Hands Misused Is before after len Usage = IsMisused Misused before after len
Hands Misused Is before after len Unread = ⊥
Hands Misused Is before after len Unwritten = WantsRoom Is before after len
Hands Misused Is before after len Memory = IsLeft before after len
Hands Misused Is before after len Unreadable =
    HandsText (λ text. Is (unreadable text)) before after len

-- the number is that of a status which says what was handed, and whoever broke a
-- rule of the call is told that and nothing else
pub record HandsBy (Misused : Type 0) (Is : Reply → Type 0) (before after : List ℕ) (len number : ℕ)
    : Type 0 where
  pub status : Status
  pub number_is : number ≡ status_number status
  pub hands : Hands Misused Is before after len status
  pub misuse : Misused → status ≡ Usage

-- for private functions: the text was written, with this status, or it is too long
abbrev pub IsGiven : List ℕ → Status → List ℕ → List ℕ → ℕ → Status → Type 0
IsGiven text told before after len status =
    ((status ≡ told) × IsInRoom text before after len)
    ⊎ ((status ≡ Unwritten) × IsTooLong text before after len)
