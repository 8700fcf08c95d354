-- Not needed to believe the program's promises: what contracts see of a caller,
-- and what its answers say.
use Rattle.key_binding.specs.Caller as seen
use Rattle.key_binding.specs.declared.caller.Caller.{Caller}
use Rattle.key_binding.specs.declared.caller.SignatureAnswer.{SignatureAnswer}

abbrev pub caller_of : Caller → seen.Caller
caller_of c = record { algs = c.algs.now; answer = c.answer }

-- what an answer says: that the key is unknown, that it is known and the
-- signature bad, or that neither is so
abbrev pub Tells : SignatureAnswer → Type 0 → Type 0 → Type 0
Tells SignatureAnswer.Unknown unknown bad = unknown
Tells SignatureAnswer.Bad unknown bad = (unknown → ⊥) × bad
Tells SignatureAnswer.Good unknown bad = (unknown → ⊥) × (bad → ⊥)
