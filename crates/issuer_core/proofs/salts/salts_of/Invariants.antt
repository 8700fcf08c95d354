use Rattle.std.proofs.Common.{◌≡◌}
use Rattle.issuer_core.specs.SaltSteps.{IsBeforePiece}
use Rattle.issuer_core.proofs.SaltSteps.{salts_before}
use Rattle.issuer_core.proofs.salts.salts_of.Given as goal

abbrev pub invariant-loop : goal.invariant-loop
invariant-loop l = IsBeforePiece l.rng l.seed l.counter × (l.salts ≡ salts_before l.seed l.counter)
