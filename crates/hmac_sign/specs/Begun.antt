-- For private functions: hashes that are begun once for a key.
use Rattle.std.specs.Prelude.{ℕ, List, Option, Some, None, ⊤}
use Rattle.sha2.specs.Hashers.{Holds256}
use Rattle.hmac_sign.specs.Hmac.{xored}
use Rattle.hmac_sign.specs.declared.alg.Alg.{Alg}
use Rattle.hmac_sign.specs.declared.begun.Begun.{Begun}

-- the hashes of HMAC with SHA-256, behind the padded block
pub record IsBegun (begun : Begun) (block : List ℕ) : Type 0 where
  pub inner : Holds256 begun.inner (xored block 0x36)
  pub outer : Holds256 begun.outer (xored block 0x5c)

-- hashes are begun for each key for HS256, behind its block, and for no other
abbrev pub AreBegun : Option Begun → Alg → List ℕ → Type 0
AreBegun (Some begun) Alg.Hs256 block = IsBegun begun block
AreBegun None Alg.Hs384 block = ⊤
AreBegun None Alg.Hs512 block = ⊤
AreBegun begun alg block = ⊥
