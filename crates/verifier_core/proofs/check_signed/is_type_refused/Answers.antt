use Rattle.std.proofs.Common.{◌≡◌, Option, Some, None, bytes_eq, not, sym, ap, ◌∙◌}
use Rattle.std.specs.Option.{option_copied}
use Rattle.claim_tree.specs.Tree.{Text}
use Rattle.verifier_core.proofs.CheckTests.{type_told}
use Rattle.verifier_core.proofs.check_signed.is_type_refused.Goals as goal

pub returns-in_default-typ : goal.returns-in_default-typ
returns-in_default-typ c =
    (c.in-Some.name.now, ap option_copied c.in-Some.is, λ same. let both : ◌≡◌ {A = Option Text} None (Some c.in-Some.name.now) = sym (ap option_copied c.in_default-typ.is) ∙ same in cc both)

pub returns : goal.returns
returns c =
    type_told (option_copied c.args.asked) (option_copied c.args.typ) c.in-Some.name.now c.in-Some-typ.typ.now (ap option_copied c.in-Some.is) (ap option_copied c.in-Some-typ.is) c.ne.result
    (c.ne.ensures ∙ (ap (λ t. not (bytes_eq t c.as_str-2.result.now)) c.as_str.ensures ∙ ap (λ t. not (bytes_eq c.in-Some-typ.typ.now t)) c.as_str-2.ensures))
