-- What a feed does with a piece of its input, and at the end.
use Rattle.std.specs.Prelude.{◌≡◌, ◌⊎◌, ◌+◌, ℕ, Bool, false, List, ◌++◌, Option, length, take, codes}
use Rattle.std.specs.Fmt.{decimal}
use Rattle.sd_outside.specs.Causes.{AppendsPrefix}
use Rattle.sd_outside.specs.Limits.{file_max}
use Rattle.verifier_core.specs.declared.policy.Policy.{Policy}
use Rattle.cli_parts.specs.Lines.{line}
use Rattle.feed_core.specs.Cut.{IsCut}
use Rattle.feed_core.specs.FeedVerdict.{TellsVerdicts}

-- the policy and the moment, what is kept of the line that has not ended, how many lines were
-- judged, and whether the feed takes no more
pub record FeedState : Type 0 where
  pub policy : Policy
  pub now : ℕ
  pub rest : List ℕ
  pub count : ℕ
  pub over : Bool

-- a feed that takes more
abbrev pub taking : Policy → ℕ → List ℕ → ℕ → FeedState
taking policy now rest count =
    record { policy = policy; now = now; rest = rest; count = count; over = false }

-- what is kept of a line that has not ended: one byte more than the limit tells
-- a line that is too long
abbrev pub kept_rest : List ℕ → List ℕ
kept_rest rest = take (file_max + 1) rest

-- a piece was taken, and this was written for the lines that ended in it
pub record Takes (before after : FeedState) (piece text : List ℕ) : Type 0 where
  pub ended : List (List ℕ)
  pub rest : List ℕ
  pub cut : IsCut (before.rest ++ piece) ended rest
  pub told : TellsVerdicts before.policy before.now ended text
  pub after_is : after
      ≡ taking before.policy before.now (kept_rest rest) (before.count + length ended)

-- the sink took a front part of the verdicts on these lines, of one after the other, and with all
-- of them perhaps one of the text behind them
pub record TellsFront (policy : Policy) (now : ℕ) (lines : List (List ℕ)) (behind : List ℕ)
    (old new : Option (List ℕ)) : Type 0 where
  pub count : ℕ
  pub text : List ℕ
  pub told : TellsVerdicts policy now (take count lines) text
  pub written : AppendsPrefix old new text
      ⊎ ((take count lines ≡ lines) × AppendsPrefix old new (text ++ behind))

-- how many lines there were
abbrev pub end_line : ℕ → List ℕ
end_line count = line (codes "lines " ++ decimal count)
