use Rattle.std.proofs.Common.{◌+◌, ◌∷◌, [], ◌++◌, map, drop, ap, ◌∙◌}
use Rattle.disclosure.specs.Digest.{digest_of}
use Rattle.issuer_core.proofs.LayingSteps.{digested_further}
use Rattle.issuer_core.proofs.laying.decoy_digests.Goals as goal

pub loop-k-preserved : goal.loop-k-preserved
loop-k-preserved c =
    let l = c.loop-k in
    let hash = c.args.hiding.hash in
    let ts = c.args.hiding.salts.now in
    let made = c.in_ok-digest.ensures ∙ ap (digest_of hash) c.as_str.ensures in
    ap (λ ds. ds ++ map (digest_of hash) (drop (l.k + 1) ts)) (c.in_ok-push.ensures.ok ∙ ap (λ d. l.digests ++ d ∷ []) made) ∙ (digested_further hash l.digests ts l.k c.in-Some.salt.now c.in-Some.ensures ∙ l.invariant)
