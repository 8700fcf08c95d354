-- Not needed to believe the program's promises: how long codes are.
use Rattle.std.specs.Prelude.{ℕ}
use Rattle.hmac_sign.specs.declared.alg.Alg.{Alg}

-- the bytes of a code, as many as the hash has
abbrev pub code_length : Alg → ℕ
code_length Alg.Hs256 = 32
code_length Alg.Hs384 = 48
code_length Alg.Hs512 = 64
