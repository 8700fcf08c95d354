use Rattle.std.proofs.Common.{List, subst, ap, codes}
use Rattle.marked_tree.specs.Paths.{Path}
use Rattle.hmac_sign.specs.Hmac.{hs256_key, IsGood}
use Rattle.selection_core.specs.Never.{Judges, never_rule}
use Rattle.selection_core.proofs.NeverShown.{judges_too}
use Rattle.sdjwt_cli.proofs.Issuings.{never}
use Rattle.holder_core.specs.Asked.{asked_by}
use Rattle.holder_core.proofs.OtherRules.{presented_by, not_presented_by}
use Rattle.sdjwt_cli.proofs.Presentings.{never_fails}
use Rattle.sdjwt_cli.proofs.present.present_parts.Goals as goal

pub returns : goal.returns
returns c =
    let text = c.args.token_file.now in
    let good = IsGood (hs256_key c.args.key.now) in
    let list = ap (λ x. x.0.now) c.new-consent.ensures.rule in
    let kept = c.in_ok-never.never in
    let same = c.in_ok-never.ensures.same in
    record {
      presented = presented_by text (asked_by c.args.ask.now) (codes "HS256") good c.args.now c.present.result c.present.ensures.presented never_rule c.args.never (λ at b h. record { shown = h.shown; shows = h.shows; says = record { met = judges_too kept c.args.never h.shown.now b (same h.shown.now) (subst (λ (paths : List Path). Judges paths h.shown.now b) list h.says.met) } });
      words = c.present.ensures.words;
      short = c.present.ensures.short;
      refused = not_presented_by text (asked_by c.args.ask.now) (codes "HS256") good c.args.now c.present.result c.present.ensures.refused never_rule c.args.never (λ at b h. record { shown = h.shown; shows = h.shows; says = record { met = judges_too kept c.args.never h.shown.now b (same h.shown.now) (subst (λ (paths : List Path). Judges paths h.shown.now b) list h.says.met) } });
      signed = never_fails c.present.result (λ is. never (c.present.ensures.failed is));
    }
