-- What a run does to the outside, by the status with which it ends.
use Rattle.std.specs.Prelude.{◌≡◌, ◌≤◌, ◌+◌, ℕ, List, Option, Some, IfSome, take, codes}
use Rattle.std.specs.Io.KnownBytes.{Appends}
use Rattle.sd_outside.specs.Causes.{Rose, AppendsPrefix}
use Rattle.sd_outside.specs.Limits.{file_max}
use Rattle.sd_outside.specs.declared.status.Status.{Status}
use Rattle.sd_outside.specs.declared.status.Status.TheVariants.{Done, Refused, Usage, Unread, Unwritten, Memory, Unreadable}
use Rattle.sd_outside.specs.Lists.{StandsAt}
use Rattle.cli_parts.specs.Lines.{line, unread_text}
use Rattle.cli_parts.specs.Outside.{Outside, Tells}
use Rattle.cli_parts.specs.Replies.{Reply, gives, refuses, unreadable}

-- what a fetch answers of a file, where the cabinet tells it: one byte more
-- than the limit tells a file that is too long
abbrev pub IsFetched : (List ℕ → Option (List ℕ)) → List ℕ → List ℕ → Type 0
IsFetched holds name file = IfSome (holds name) (λ content. file ≡ take (file_max + 1) content)

-- the name that was missed is that of this word
abbrev pub MissesWord : List (List ℕ) → ℕ → Option (List ℕ) → Type 0
MissesWord names word missed = (name : List ℕ) × StandsAt names word name × (missed ≡ Some name)

-- Of what the words ask for (`Named`) it is said which replies are right
-- (`Is`), and of which word of it a file was missed (`Misses`).

-- the whole answer was written
pub record RunDone {Asked : Type 0} (Named : Asked → Type 0) (Is : Asked → Reply → Type 0)
    (before after : Outside) : Type 0 where
  pub asked : Asked
  pub named : Named asked
  pub answer : List ℕ
  pub answered : Is asked (gives answer)
  pub out : Appends before.out.written after.out.written answer
  pub err : after.err.written ≡ before.err.written

-- a line that is such a reply was told, and nothing written
pub record RunTelling {Asked : Type 0} (kind : List ℕ → Reply) (Named : Asked → Type 0)
    (Is : Asked → Reply → Type 0) (before after : Outside) : Type 0 where
  pub asked : Asked
  pub named : Named asked
  pub text : List ℕ
  pub answered : Is asked (kind text)
  pub out : after.out.written ≡ before.out.written
  pub err : Tells before.err after.err text

-- the words ask for nothing
pub record RunUsage {Asked : Type 0} (Named : Asked → Type 0) (before after : Outside)
    : Type 0 where
  pub none : (asked : Asked) → Named asked → ⊥
  pub out : after.out.written ≡ before.out.written
  pub err : Tells before.err after.err (line (codes "usage"))

-- the cabinet failed at the file of this word
pub record RunUnread {Asked : Type 0} (Named : Asked → Type 0)
    (Misses : Asked → ℕ → Option (List ℕ) → Type 0) (before after : Outside) : Type 0 where
  pub asked : Asked
  pub named : Named asked
  pub word : ℕ
  pub missed : Misses asked word after.missed
  pub rose : Rose before.faults after.faults
  pub out : after.out.written ≡ before.out.written
  pub err : Tells before.err after.err (unread_text word)

-- `out` failed at an answer that was due
pub record RunUnwritten {Asked : Type 0} (Named : Asked → Type 0) (Is : Asked → Reply → Type 0)
    (before after : Outside) : Type 0 where
  pub asked : Asked
  pub named : Named asked
  pub answer : List ℕ
  pub answered : Is asked (gives answer)
  pub rose : Rose before.out.faults after.out.faults
  pub out : AppendsPrefix before.out.written after.out.written answer
  pub err : Tells before.err after.err (line (codes "unwritten"))

-- there was no memory: this may come of whatever the words ask for, and of no other words
pub record RunMemory {Asked : Type 0} (Named : Asked → Type 0) (before after : Outside)
    : Type 0 where
  pub asked : Asked
  pub named : Named asked
  pub out : after.out.written ≡ before.out.written
  pub err : Tells before.err after.err (line (codes "memory"))

abbrev pub RunEnds : {Asked : Type 0} → (Asked → Type 0) → (Asked → Reply → Type 0)
    → (Asked → ℕ → Option (List ℕ) → Type 0) → Outside → Outside → Status → Type 0
RunEnds Named Is Misses before after Done = RunDone Named Is before after
RunEnds Named Is Misses before after Refused = RunTelling refuses Named Is before after
RunEnds Named Is Misses before after Usage = RunUsage Named before after
RunEnds Named Is Misses before after Unread = RunUnread Named Misses before after
RunEnds Named Is Misses before after Unwritten = RunUnwritten Named Is before after
RunEnds Named Is Misses before after Memory = RunMemory Named before after
RunEnds Named Is Misses before after Unreadable = RunTelling unreadable Named Is before after

-- what each run leaves
pub record RunKeeps (before after : Outside) : Type 0 where
  pub held : (name : List ℕ) → after.holds name ≡ before.holds name
  pub later : before.faults ≤ after.faults
  pub out_later : before.out.faults ≤ after.out.faults
  pub err_later : before.err.faults ≤ after.err.faults
