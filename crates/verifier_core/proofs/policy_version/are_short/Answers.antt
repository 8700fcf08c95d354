use Rattle.std.proofs.Common.{◌≡◌, Some, slice_get, ap, refl, sym, ◌∙◌, arith}
use Rattle.std.specs.Option.{option_copied}
use Rattle.sd_outside.proofs.Lists.{At-In, In-At, At-below, got_stands}
use Rattle.verifier_core.proofs.PolicyVersions.{one_more}
use Rattle.verifier_core.proofs.policy_version.are_short.Goals as goal

pub returns-then-as_str-gt-BINDING_TEXT_MAX : goal.returns-then-as_str-gt-BINDING_TEXT_MAX
returns-then-as_str-gt-BINDING_TEXT_MAX c =
    let texts = c.args.texts.now in
    let text = c.as_str.result.now in
    let read : slice_get texts c.loop-i.i ≡ Some text = sym c.at.ensures ∙ ap option_copied c.unwrap-text.ensures ∙ ap Some (sym c.as_str.ensures) in
    (λ h. cc h, λ short. let fits = short text (At-In texts c.loop-i.i text (got_stands texts c.loop-i.i text read)) in absurd (omega (arith, fits, c.if-as_str-gt-BINDING_TEXT_MAX.true)))

pub loop-i-preserved : goal.loop-i-preserved
loop-i-preserved c =
    let texts = c.args.texts.now in
    let text = c.as_str.result.now in
    let read : slice_get texts c.loop-i.i ≡ Some text = sym c.at.ensures ∙ ap option_copied c.unwrap-text.ensures ∙ ap Some (sym c.as_str.ensures) in
    one_more texts c.loop-i.i text (got_stands texts c.loop-i.i text read) (omega (arith, c.if-as_str-gt-BINDING_TEXT_MAX.false)) c.loop-i.invariant

pub returns : goal.returns
returns c = (
  λ h s among.
      let w = In-At c.args.texts.now s among in
      let below = At-below c.args.texts.now w.0 s w.1 in
      c.loop-i.invariant w.0 s (omega (arith, below, c.loop-i-test.false, c.len-i-end.ensures)) w.1,
  λ h. refl,
)
