-- Not needed to believe the program's promises: what calls on a feed answer.
use Rattle.std.specs.Prelude.{◌≡◌, ◌+◌, ℕ, List, [], ◌++◌, Option, length}
use Rattle.std.specs.Io.KnownBytes.{Appends}
use Rattle.verifier_core.specs.declared.policy.Policy.{Policy}
use Rattle.feed_core.specs.Cut.{IsCut, last_line}
use Rattle.feed_core.specs.FeedVerdict.{TellsVerdicts}
use Rattle.feed_core.specs.Feed.{FeedState, taking, Takes, TellsFront, end_line}

abbrev pub new_feed : Policy → ℕ → FeedState
new_feed policy now = taking policy now [] 0

-- since the feed was new it took these bytes, and the sink got the verdict on
-- each line that ended in them, and nothing else
pub record ToldSoFar (feed : FeedState) (bytes : List ℕ) (first last : Option (List ℕ))
    : Type 0 where
  pub text : List ℕ
  pub takes : Takes (new_feed feed.policy feed.now) feed bytes text
  pub written : Appends first last text

-- no more than the lines that end in the piece were judged
pub record TakesFront (before : FeedState) (piece : List ℕ) (old new : Option (List ℕ))
    : Type 0 where
  pub ended : List (List ℕ)
  pub rest : List ℕ
  pub cut : IsCut (before.rest ++ piece) ended rest
  pub front : TellsFront before.policy before.now ended [] old new

-- the lines of a feed that ends, what is kept among them
abbrev pub count_at_end : FeedState → ℕ
count_at_end before = before.count + length (last_line before.rest)

-- the end was told: this was written for what was kept, and then the number of lines
pub record IsEnded (before : FeedState) (text : List ℕ) : Type 0 where
  pub verdict : List ℕ
  pub told : TellsVerdicts before.policy before.now (last_line before.rest) verdict
  pub text_is : text ≡ verdict ++ end_line (count_at_end before)
