-- What a program reaches: the cabinet and its two sinks at one moment, and a line that is told.
use Rattle.std.specs.Prelude.{◌⊎◌, ℕ, List, Option}
use Rattle.std.specs.Io.KnownBytes.{Appends}
use Rattle.sd_outside.specs.Causes.{Rose, AppendsPrefix}
use Rattle.sd_outside.specs.declared.cabinet.Cabinet.{Ghosts as CabinetGhosts}
use Rattle.sd_outside.specs.declared.sink.Sink.{Ghosts as SinkGhosts}

-- a sink at one moment
pub record Stream : Type 0 where
  pub written : Option (List ℕ)
  pub faults : ℕ

-- a sink, by what its type says of it
abbrev pub stream : {S : Type 0} → SinkGhosts S → S → Stream
stream says sink = record { written = says.written sink; faults = says.faults sink }

-- the cabinet, `out` and `err` at one moment
pub record Outside : Type 0 where
  pub holds : List ℕ → Option (List ℕ)
  pub missed : Option (List ℕ)
  pub faults : ℕ
  pub out : Stream
  pub err : Stream

abbrev pub outside : {C O E : Type 0} → CabinetGhosts C → SinkGhosts O → SinkGhosts E → C → O → E
    → Outside
outside says out_says err_says cabinet out err =
    record {
      holds = says.holds cabinet;
      missed = says.missed cabinet;
      faults = says.faults cabinet;
      out = stream out_says out;
      err = stream err_says err;
    }

-- the text went to the sink, or the sink failed at it
abbrev pub Tells : Stream → Stream → List ℕ → Type 0
Tells before after text =
    Appends before.written after.written text
    ⊎ (Rose before.faults after.faults × AppendsPrefix before.written after.written text)
