-- For conversions: the answer where nothing is signed.
use Rattle.hmac_sign.specs.declared.sign.SignError.{SignError}
use Rattle.key_binding.specs.declared.errors.BindError.{BindError}

abbrev pub bind_unsigned : SignError → BindError
bind_unsigned SignError.Memory = BindError.Memory
bind_unsigned SignError.Failed = BindError.SignFailed
