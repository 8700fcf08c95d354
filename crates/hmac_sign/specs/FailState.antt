-- Not needed to believe the program's promises: what contracts see of a signer
-- that fails at one call.
use Rattle.std.specs.Prelude.{ℕ, List, ◌==◌, if◌then◌else◌}
use Rattle.sd_outside.specs.Memory.{one_more}

-- the block of its key, the call that fails, the calls that were made, and how many of them failed
pub record FailState : Type 0 where
  pub key : List ℕ
  pub call : ℕ
  pub calls : ℕ
  pub faults : ℕ

abbrev pub after_call : FailState → FailState
after_call s = record s {
  calls = one_more s.calls;
  faults = if s.calls == s.call then one_more s.faults else s.faults;
}
