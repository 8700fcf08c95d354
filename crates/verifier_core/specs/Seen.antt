-- Not needed to believe the program's promises: what contracts see of who may sign.
use Rattle.key_binding.specs.CallerSeen.{caller_of}
use Rattle.verifier_core.specs.Verdict.{Issuers, of_keys, of_caller}
use Rattle.verifier_core.specs.declared.rules.Issuers as declared

abbrev pub issuers_of : declared.Issuers → Issuers
issuers_of (declared.Issuers.Keys keys algs) = of_keys keys.now algs.now
issuers_of (declared.Issuers.Caller caller) = of_caller (caller_of caller)
