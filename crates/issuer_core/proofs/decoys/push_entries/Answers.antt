use Rattle.std.proofs.Common.{◌≡◌, Some, length, ap, ◌∙◌, rules}
use Rattle.std.specs.List.{slice_get}
use Rattle.issuer_core.specs.Laying.{paths_in}
use Rattle.issuer_core.proofs.SortedEntries.{entry_more}
use Rattle.issuer_core.proofs.decoys.push_entries.Goals as goal

pub loop-preserved : goal.loop-preserved
loop-preserved c =
    let l = c.loop in
    let t = c.in_ok-make.field-0 in
    let made : t ≡ c.in-Some.digest.now = c.in_ok-make.ensures ∙ c.as_str.ensures in
    let long : c.len.result ≡ length l.entries.items = search rules in
    let got : Some t ≡ slice_get c.args.digests.now (length l.entries.items) = ap Some made ∙ (c.in-Some.ensures ∙ ap (slice_get c.args.digests.now) long) in
    entry_more l.entries.items c.push.new.self.items c.in_ok-copy.field-0 t (paths_in c.args.entries.now.items) l.counter c.args.at.now c.args.digests.now (length c.args.entries.now.items)
    c.in_ok-push.ensures.items c.in_ok-copy.ensures got l.invariant.0 l.invariant.1 l.invariant.2
