-- For private functions: what is asked, of what is borrowed.
use Rattle.std.specs.Option.{option_copied}
use Rattle.holder_core.specs.Asked.{BindingAsked}
use Rattle.holder_core.specs.declared.asked.AskedBinding.{AskedBinding}

abbrev pub binding_seen : AskedBinding → BindingAsked
binding_seen b = record { kid = option_copied b.kid; aud = b.aud.now; nonce = b.nonce.now }
