use Rattle.std.proofs.Common.{◌≢◌, ap, sym, ◌∙◌, rules}
use Rattle.std.specs.Prelude.{option_map}
use Rattle.std.specs.Option.{option_copied}
use Rattle.holder_core.specs.AskedSeen.{binding_seen}
use Rattle.holder_core.proofs.WholeToken.{none_told, some_told}
use Rattle.holder_core.proofs.presenting.check_named.Goals as goal

pub returns-in_default-holder_kid-clause-refused : goal.returns-in_default-holder_kid-clause-refused
returns-in_default-holder_kid-clause-refused c =
    let kid = c.in-Some-kid.kid.now in
    let differs = none_told _ c.holder_kid.result _ kid c.holder_kid.ensures c.in_default-holder_kid.is in
    (binding_seen c.in-Some.ask, kid, ap (option_map binding_seen) c.in-Some.is, ap option_copied c.in-Some-kid.is, differs)

pub returns-then-ne-clause-refused : goal.returns-then-ne-clause-refused
returns-then-ne-clause-refused c =
    let kid = c.in-Some-kid.kid.now in
    let named = c.in-Some-holder_kid.named in
    let other : named.now ≢ c.as_str.result.now = search rules in (
      binding_seen c.in-Some.ask,
      kid,
      ap (option_map binding_seen) c.in-Some.is,
      ap option_copied c.in-Some-kid.is,
      λ same. other (some_told _ c.holder_kid.result _ named kid c.holder_kid.ensures c.in-Some-holder_kid.is same ∙ sym c.as_str.ensures),
    )
