use Rattle.std.proofs.Common.{sym, subst, refl, ◌∙◌}
use Rattle.std.proofs.lemmas.Bool.{true≢false}
use Rattle.audit_core.specs.Audited.{IsDigestText}
use Rattle.audit_core.proofs.Loops.{digests_more, digests_end, digest_there}
use Rattle.audit_core.proofs.found.are_digests.Goals as goal

pub loop-site-preserved : goal.loop-site-preserved
loop-site-preserved c =
    digests_more c.args.hash c.args.sites.now c.loop-site.site-index c.site-item.result c.loop-site-test.true c.site-item.is
    (subst (IsDigestText c.args.hash) c.as_str.ensures (c.is_digest.ensures.0 c.if-not-is_digest.false)) c.loop-site.invariant

pub returns-then-not-is_digest : goal.returns-then-not-is_digest
returns-then-not-is_digest c = (
  (λ e. absurd (true≢false (sym e))),
  (λ all. sym c.if-not-is_digest.true ∙ c.is_digest.ensures.1 (subst (IsDigestText c.args.hash) (sym c.as_str.ensures) (digest_there c.args.hash c.args.sites.now c.loop-site.site-index c.site-item.result c.loop-site-test.true c.site-item.is all))),
)

pub returns : goal.returns
returns c = ((λ e. digests_end c.args.hash c.args.sites.now c.loop-site.site-index c.loop-site-test.false c.loop-site.invariant), (λ all. refl))
