use Rattle.std.proofs.Common.{◌+◌, drop, sym, ap, ◌∙◌}
use Rattle.std.proofs.Math.ListN.{drop_of_length-le}
use Rattle.claim_tree.specs.TreeCalls.{pushed}
use Rattle.issuer_core.specs.Laid.{digest_elements, digest_object}
use Rattle.issuer_core.specs.Laying.{elements_joined}
use Rattle.issuer_core.proofs.LayingElements.{decoy_more, joined_none}
use Rattle.issuer_core.proofs.laying.push_decoys.Goals as goal

pub loop-digest-preserved : goal.loop-digest-preserved
loop-digest-preserved c =
    let l = c.loop-digest in
    let ds = c.args.digests.now in
    let d = c.digest-item.result in
    let made = c.in_ok-digest.ensures ∙ c.as_str.ensures in
    let is = c.in_ok-push.ensures.ok ∙ ap (pushed l.laid) (c.in_ok-digest_object.ensures ∙ ap digest_object made) in
    ap (λ es. elements_joined es (digest_elements (drop (l.digest-index + 1) ds))) is ∙ (decoy_more l.laid ds l.digest-index d c.loop-digest-test.true c.digest-item.is ∙ l.invariant)

pub returns : goal.returns
returns c =
    let l = c.loop-digest in
    let none = drop_of_length-le c.args.digests.now c.loop-digest-test.false in
    sym (joined_none l.laid) ∙ (ap (λ ds. elements_joined l.laid (digest_elements ds)) (sym none) ∙ l.invariant)
