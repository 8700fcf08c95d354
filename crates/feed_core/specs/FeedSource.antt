-- What a feed makes of all that a source gives.
use Rattle.std.specs.Prelude.{◌≡◌, ◌≤◌, ◌+◌, ℕ, List, ◌++◌, Option, IfSome, length, take}
use Rattle.std.specs.Io.KnownBytes.{Appends, Consumes}
use Rattle.sd_outside.specs.Causes.{Rose}
use Rattle.sd_outside.specs.declared.source.Source.{Ghosts as SourceGhosts}
use Rattle.verifier_core.specs.declared.policy.Policy.{Policy}
use Rattle.feed_core.specs.Cut.{IsCut, AreLines}
use Rattle.feed_core.specs.FeedVerdict.{TellsVerdicts}
use Rattle.feed_core.specs.Feed.{TellsFront, end_line}

-- a source at one moment
pub record Input : Type 0 where
  pub left : Option (List ℕ)
  pub taken : ℕ
  pub faults : ℕ

abbrev pub input : {R : Type 0} → SourceGhosts R → R → Input
input says source =
    record { left = says.left source; taken = says.taken source; faults = says.faults source }

-- the source gave these bytes
pub record Gave (before after : Input) (bytes : List ℕ) : Type 0 where
  pub left : Consumes before.left after.left bytes
  pub taken : after.taken ≡ before.taken + length bytes

-- the source gave all that it had, not too much, and each line of it is told,
-- and how many there are
pub record FedAll (policy : Policy) (now most : ℕ) (before after : Input)
    (old new : Option (List ℕ)) : Type 0 where
  pub bytes : List ℕ
  pub gave : Gave before after bytes
  pub within : length bytes ≤ most
  pub all : IfSome before.left (λ left. left ≡ bytes)
  pub lines : List (List ℕ)
  pub lines_are : AreLines bytes lines
  pub text : List ℕ
  pub told : TellsVerdicts policy now lines text
  pub written : Appends old new (text ++ end_line (length lines))

-- the lines that end in these bytes are told, and no more
pub record ToldEnded (policy : Policy) (now : ℕ) (bytes : List ℕ) (old new : Option (List ℕ))
    : Type 0 where
  pub ended : List (List ℕ)
  pub rest : List ℕ
  pub cut : IsCut bytes ended rest
  pub text : List ℕ
  pub told : TellsVerdicts policy now ended text
  pub written : Appends old new text

-- the source gave one byte too many, and each line that ends before it is told
pub record FedLong (policy : Policy) (now most : ℕ) (before after : Input)
    (old new : Option (List ℕ)) : Type 0 where
  pub bytes : List ℕ
  pub gave : Gave before after bytes
  pub over : length bytes ≡ most + 1
  pub told : ToldEnded policy now (take most bytes) old new

-- the source failed behind these bytes, and each line that ends in them is told
pub record FedPart (policy : Policy) (now most : ℕ) (before after : Input)
    (old new : Option (List ℕ)) : Type 0 where
  pub bytes : List ℕ
  pub gave : Gave before after bytes
  pub within : length bytes ≤ most
  pub rose : Rose before.faults after.faults
  pub told : ToldEnded policy now bytes old new

-- a front part of the verdicts on the lines of these bytes was written, one after the other
pub record FedFront (policy : Policy) (now most : ℕ) (before after : Input)
    (old new : Option (List ℕ)) : Type 0 where
  pub bytes : List ℕ
  pub gave : Gave before after bytes
  pub within : length bytes ≤ most
  pub lines : List (List ℕ)
  pub lines_are : AreLines bytes lines
  pub front : TellsFront policy now lines (end_line (length lines)) old new
