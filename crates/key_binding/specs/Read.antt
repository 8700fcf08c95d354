-- For private functions: the claims that the code holds.
use Rattle.key_binding.specs.Binding as binding
use Rattle.key_binding.specs.declared.reading.Claims.{Claims}

abbrev pub claims_of : Claims → binding.Claims
claims_of c = record { aud = c.aud.now; iat = c.iat; nonce = c.nonce.now; sd_hash = c.sd_hash.now }
