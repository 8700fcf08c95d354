-- What a run of the feed does to the outside, by the status with which it ends.
use Rattle.std.specs.Prelude.{◌≡◌, ◌<◌, ◌≤◌, ℕ, List, [], ◌∷◌, Option, None, Some, codes}
use Rattle.std.specs.Fmt.{decimal}
use Rattle.sd_outside.specs.Limits.{feed_max}
use Rattle.sd_outside.specs.Causes.{Rose}
use Rattle.sd_outside.specs.declared.status.Status.{Status}
use Rattle.sd_outside.specs.declared.status.Status.TheVariants.{Done, Refused, Usage, Unread, Unwritten, Memory, Unreadable}
use Rattle.refusals.specs.declared.refusal.Refusal.{Refusal}
use Rattle.refusals.specs.RefusedText.{refused_text}
use Rattle.cli_parts.specs.Lines.{line, unread_text}
use Rattle.cli_parts.specs.Outside.{Outside, Tells}
use Rattle.cli_parts.specs.Runs.{IsFetched, RunKeeps}
use Rattle.cli_parts.specs.Telling.{TellsFileFault}
use Rattle.verifier_core.specs.PolicyFile.{IsPolicyFile, IsPolicyFileRefused}
use Rattle.verifier_core.specs.declared.policy.Policy.{Policy}
use Rattle.feed_core.specs.FeedSource.{Input, FedAll, FedLong, FedPart, FedFront}

-- all that a run of the feed reaches, at one moment
pub record FeedOutside : Type 0 where
  pub files : Outside
  pub source : Input

abbrev pub feed_outside : Outside → Input → FeedOutside
feed_outside files source = record { files = files; source = source }

-- the words of a feed: `feed`, the name of its policy file, and the most bytes
-- that it takes, in digits
pub record IsFeed (words : List (List ℕ)) (policy : List ℕ) (most : ℕ) : Type 0 where
  pub words_are : words ≡ codes "feed" ∷ policy ∷ decimal most ∷ []
  pub some : 0 < most
  pub within : most ≤ feed_max

-- the words are those of a feed, and its policy file says a policy
pub record Asks (words : List (List ℕ)) (before : FeedOutside) : Type 0 where
  pub name : List ℕ
  pub most : ℕ
  pub named : IsFeed words name most
  pub file : List ℕ
  pub fetched : IsFetched before.files.holds name file
  pub policy : Policy
  pub is_policy : IsPolicyFile file policy

-- nothing was taken, and nothing written
pub record Untouched (before after : FeedOutside) : Type 0 where
  pub source : after.source ≡ before.source
  pub out : after.files.out.written ≡ before.files.out.written

pub record FeedDone (words : List (List ℕ)) (before after : FeedOutside) (now : ℕ) : Type 0 where
  pub asks : Asks words before
  pub fed : FedAll asks.policy now asks.most before.source after.source before.files.out.written
      after.files.out.written
  pub err : after.files.err.written ≡ before.files.err.written

-- what a source gave and what was written of it, under a policy, at a moment,
-- where so many bytes may be taken
abbrev pub Fed : Type 1
Fed = Policy → ℕ → ℕ → Input → Input → Option (List ℕ) → Option (List ℕ) → Type 0

-- a feed that was fed so tells this line
pub record FeedTells (IsFed : Fed) (text : List ℕ) (words : List (List ℕ))
    (before after : FeedOutside) (now : ℕ) : Type 0 where
  pub asks : Asks words before
  pub fed : IsFed asks.policy now asks.most before.source after.source before.files.out.written
      after.files.out.written
  pub err : Tells before.files.err after.files.err (line text)

-- the words are those of a feed, which did not begin and tells this
pub record NoFeed (text : List ℕ) (words : List (List ℕ)) (before after : FeedOutside)
    : Type 0 where
  pub name : List ℕ
  pub most : ℕ
  pub named : IsFeed words name most
  pub untouched : Untouched before after
  pub err : Tells before.files.err after.files.err text

-- the source gave more than it may
abbrev pub FeedRefused : List (List ℕ) → FeedOutside → FeedOutside → ℕ → Type 0
FeedRefused = FeedTells FedLong (refused_text Refusal.FeedTooLong None)

pub record FeedUsage (words : List (List ℕ)) (before after : FeedOutside) : Type 0 where
  pub none : (policy : List ℕ) (most : ℕ) → IsFeed words policy most → ⊥
  pub untouched : Untouched before after
  pub err : Tells before.files.err after.files.err (line (codes "usage"))

-- the cabinet failed at the policy file
pub record PolicyUnread (words : List (List ℕ)) (before after : FeedOutside) : Type 0 where
  pub no_feed : NoFeed (unread_text 0) words before after
  pub missed : after.files.missed ≡ Some no_feed.name
  pub rose : Rose before.files.faults after.files.faults

-- or the source failed
pub data FeedUnread (words : List (List ℕ)) (before after : FeedOutside) (now : ℕ) : Type 0 where
  of_policy : PolicyUnread words before after → FeedUnread words before after now
  of_source : FeedTells FedPart (codes "unread source") words before after now
      → FeedUnread words before after now

-- `out` failed at a line that was due
pub record FeedUnwritten (words : List (List ℕ)) (before after : FeedOutside) (now : ℕ)
    : Type 0 where
  pub told : FeedTells FedFront (codes "unwritten") words before after now
  pub rose : Rose before.files.out.faults after.files.out.faults

-- there was no memory for the policy, or behind it
pub data FeedMemory (words : List (List ℕ)) (before after : FeedOutside) (now : ℕ) : Type 0 where
  at_first : NoFeed (line (codes "memory")) words before after → FeedMemory words before after now
  later_on : FeedTells FedFront (codes "memory") words before after now
      → FeedMemory words before after now

-- the policy file is not of its form
pub record FeedUnreadable (words : List (List ℕ)) (before after : FeedOutside) : Type 0 where
  pub text : List ℕ
  pub no_feed : NoFeed text words before after
  pub file : List ℕ
  pub fetched : IsFetched before.files.holds no_feed.name file
  pub told : TellsFileFault (IsPolicyFileRefused file) text

abbrev pub FeedEnds : List (List ℕ) → FeedOutside → FeedOutside → ℕ → Status → Type 0
FeedEnds words before after now Done = FeedDone words before after now
FeedEnds words before after now Refused = FeedRefused words before after now
FeedEnds words before after now Usage = FeedUsage words before after
FeedEnds words before after now Unread = FeedUnread words before after now
FeedEnds words before after now Unwritten = FeedUnwritten words before after now
FeedEnds words before after now Memory = FeedMemory words before after now
FeedEnds words before after now Unreadable = FeedUnreadable words before after

-- what each run leaves
pub record FeedKeeps (before after : FeedOutside) : Type 0 where
  pub files : RunKeeps before.files after.files
  pub source_later : before.source.faults ≤ after.source.faults
