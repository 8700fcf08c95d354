use Rattle.std.proofs.Common.{◌≡◌, ◌≢◌, List, ℕ, [], subst, ◌∙◌, rules, codes}
use Rattle.compact_form.specs.Compact.{compact}
use Rattle.hmac_sign.specs.Hmac.{hs256_key, IsGood}
use Rattle.holder_core.specs.Asked.{asked_by}
use Rattle.holder_core.specs.declared.ask.Ask.{Ask}
use Rattle.holder_core.specs.declared.errors.PresentError.TheVariants.{Memory}
use Rattle.holder_core.specs.Present.{IsNotPresented}
use Rattle.marked_tree.specs.Paths.{Path}
use Rattle.sdjwt_cli.specs.Generated.{generated_key, generated_ask}
use Rattle.selection_core.specs.Never.{never_rule}
use Rattle.sdjwt_cli.proofs.Summaries.{nothing_refused}
use Rattle.sdjwt_cli.proofs.summary.present_issued.Goals as goal

pub unreachable-requires : goal.unreachable-requires
unreachable-requires c =
    let n = c.args.count in
    let issued = c.args.issued.now in
    let error = c.in-Err.field-0 in
    let memory : error ≢ Memory = search rules in
    let text : c.as_bytes-text.result.now ≡ compact issued = c.as_bytes-text.ensures.value ∙ c.as_str.ensures ∙ c.in_ok-token.ensures.spelling in
    let never : c.new-never.result ≡ [] = c.new-never.ensures in
    let refused = subst (λ (t : List ℕ). IsNotPresented never_rule c.new-never.result t (asked_by c.in_ok-ask.ask) (codes "HS256") (IsGood (hs256_key c.presenting_key.result)) 0 error) text c.in-Err.ensures.refused in
    let by_ask = subst (λ (a : Ask). IsNotPresented never_rule c.new-never.result (compact issued) (asked_by a) (codes "HS256") (IsGood (hs256_key c.presenting_key.result)) 0 error) c.in_ok-ask.ensures refused in
    let by_key = subst (λ (k : List ℕ). IsNotPresented never_rule c.new-never.result (compact issued) (asked_by (generated_ask n)) (codes "HS256") (IsGood (hs256_key k)) 0 error) c.presenting_key.ensures by_ask in
    let by_rule = subst (λ (paths : List Path). IsNotPresented never_rule paths (compact issued) (asked_by (generated_ask n)) (codes "HS256") (IsGood generated_key) 0 error) never by_key in
    nothing_refused n issued c.requires error memory c.in-Err.ensures.signed by_rule
