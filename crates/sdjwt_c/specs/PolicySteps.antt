-- For private functions: the number of what a policy says of a nonce.
use Rattle.std.specs.Prelude.{ℕ, Result, Ok, Err}
use Rattle.verifier_core.specs.declared.nonce.NonceError.{NonceError}
use Rattle.verifier_core.specs.declared.nonce.NonceError.TheVariants.{Memory, NoBinding, TooLong}

abbrev pub nonce_number : {X : Type 0} → Result X NonceError → ℕ
nonce_number (Ok x) = 0
nonce_number (Err Memory) = 5
nonce_number (Err NoBinding) = 2
nonce_number (Err TooLong) = 2
