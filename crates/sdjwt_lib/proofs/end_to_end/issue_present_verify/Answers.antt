use Rattle.std.proofs.Common.{◌<◌, ℕ, List, sym, subst, rules}
use Rattle.std.specs.Prelude.{◌^◌}
use Rattle.claim_tree.specs.View.{tree_of}
use Rattle.hmac_sign.specs.Hmac.{hs256_key, IsGood}
use Rattle.issuer_core.specs.Order.{order_of}
use Rattle.issuer_core.specs.Seed.{maker_of}
use Rattle.issuer_core.proofs.OneToken.{issued_not_refused}
use Rattle.sdjwt_lib.specs.EndToEnd.{IsIssuedText, IsPresentedText}
use Rattle.sdjwt_lib.proofs.EndToEnd.{refuses_nothing, passes, found}
use Rattle.sdjwt_lib.proofs.end_to_end.issue_present_verify.Goals as goal

pub presented-requires-clause-unrefused : goal.presented-requires-clause-unrefused
presented-requires-clause-unrefused g c =
    let i = c.args.issuer in
    let h = c.args.holder.now in
    let fits : c.args.presented_at < 2 ^ 64 = search rules in
    let token = subst (λ (x : List ℕ). IsIssuedText i.seed (order_of i.order) i.key x) (sym c.as_str.ensures) c.in_ok-token.ensures.issued in
    refuses_nothing g.F.Fn h.consent (c.presented_values.ensures h.consent) i.seed (order_of i.order) i.key c.as_str.result.now token h.ask c.args.holder_key c.args.policy.now c.args.presented_at c.args.verified_at c.requires.suits c.requires.short fits

pub verified-requires : goal.verified-requires
verified-requires g c =
    let i = c.args.issuer in
    let h = c.args.holder.now in
    let fits : c.args.presented_at < 2 ^ 64 = search rules in
    let token = subst (λ (x : List ℕ). IsIssuedText i.seed (order_of i.order) i.key x) (sym c.as_str.ensures) c.in_ok-token.ensures.issued in
    let text = subst (λ (x : List ℕ). IsPresentedText g.F.Fn h.consent c.as_str.result.now h.ask (IsGood (hs256_key c.args.holder_key)) c.args.presented_at x) (sym c.as_str-2.ensures) c.in_ok-presentation.ensures in
    record { passes = passes g.F.Fn h.consent (c.presented_values.ensures h.consent) i.seed (order_of i.order) i.key c.as_str.result.now token h.ask c.args.holder_key c.args.policy.now c.args.presented_at c.args.verified_at c.requires.suits c.requires.short fits c.as_str-2.result.now text }

pub returns-clause-shown : goal.returns-clause-shown
returns-clause-shown g c =
    let i = c.args.issuer in
    let h = c.args.holder.now in
    let fits : c.args.presented_at < 2 ^ 64 = search rules in
    let token = subst (λ (x : List ℕ). IsIssuedText i.seed (order_of i.order) i.key x) (sym c.as_str.ensures) c.in_ok-token.ensures.issued in
    let text = subst (λ (x : List ℕ). IsPresentedText g.F.Fn h.consent c.as_str.result.now h.ask (IsGood (hs256_key c.args.holder_key)) c.args.presented_at x) (sym c.as_str-2.ensures) c.in_ok-presentation.ensures in
    found g.F.Fn h.consent (c.presented_values.ensures h.consent) i.seed (order_of i.order) i.key c.as_str.result.now token h.ask c.args.holder_key c.args.policy.now c.args.presented_at c.args.verified_at c.requires.suits c.requires.short fits c.as_str-2.result.now text (tree_of c.in_ok-verified.field-0) c.in_ok-verified.ensures

pub returns-clause-issued : goal.returns-clause-issued
returns-clause-issued g c =
    let i = c.args.issuer in
    let token = c.in_ok-token.ensures.issued in
    λ error applies. issued_not_refused (maker_of i.seed) (order_of i.order) i.key token.parts token.issued.passes token.issued.differ token.issued.laid token.issued.short error applies
