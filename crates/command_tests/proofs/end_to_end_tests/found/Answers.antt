use Rattle.std.proofs.Common.{◌≡◌, ℕ, List, false, Option, Some, ap, subst, arith}
use Rattle.marked_tree.specs.Paths.{Path}
use Rattle.issuer_core.specs.Order.{order_of}
use Rattle.selection_core.specs.Never.{Judges, never_rule}
use Rattle.selection_core.proofs.NeverShown.{judges_too}
use Rattle.sdjwt_cli.specs.Presenting.{signing_key}
use Rattle.sdjwt_cli.specs.Suits.{Suits}
use Rattle.command_tests.proofs.OtherRules.{suits_by}
use Rattle.command_tests.proofs.end_to_end_tests.found.Goals as goal

pub issue_present_verify-requires-clause-suits : goal.issue_present_verify-requires-clause-suits
issue_present_verify-requires-clause-suits c =
    let said = c.args.said in
    let i = c.args.issuer in
    let has_key : said.key ≡ Some c.in_ok-key.key = grind arith in
    let suits = subst (λ (key : Option (List ℕ)). Suits never_rule said.never (order_of i.order) i.key said.ask (signing_key key) c.args.policy.now 1000 1300) has_key c.requires.suits in
    let list = ap (λ x. x.0.now) c.new-consent.ensures.rule in
    let kept = c.in_ok-never.never in
    let same = c.in_ok-never.ensures.same in
    suits_by suits c.new-consent.result (λ at h. record { shown = h.shown; shows = h.shows; says = record { met = judges_too kept said.never h.shown.now false (same h.shown.now) (subst (λ (paths : List Path). Judges paths h.shown.now false) list h.says.met) } })
