use Rattle.std.proofs.Common.{arith}
use Rattle.claim_tree.specs.View.{tree_of}
use Rattle.rebuild_core.proofs.AlgFacts.{without_twice, without_is_payload}
use Rattle.rebuild_core.proofs.NothingHidden.{without_alg_shallow}
use Rattle.audit_core.proofs.LookedUp.{from_part}
use Rattle.audit_core.proofs.auditing.judge_content.Goals as goal

pub shows-requires-clause-object : goal.shows-requires-clause-object
shows-requires-clause-object c = rw c.bare-content.ensures.body (without_is_payload (tree_of c.args.written.body) c.requires.object)

pub shows-requires-clause-bare : goal.shows-requires-clause-bare
shows-requires-clause-bare c = rw c.bare-content.ensures.body (without_twice (tree_of c.args.written.body))

pub shows-requires-clause-payload_depth : goal.shows-requires-clause-payload_depth
shows-requires-clause-payload_depth c = rw c.bare-content.ensures.body (let l = without_alg_shallow (tree_of c.args.written.body) in omega (arith, c.requires.payload_depth, l))

-- ---- the look-ups

pub returns-then-not-branch-clause-counted : goal.returns-then-not-branch-clause-counted
returns-then-not-branch-clause-counted c = rw c.differs.ensures (λ late. rw (c.bare-content.ensures.body, c.bare-content.ensures.given) at c.in_ok-shows.ensures.counted)

pub returns-in-Err-Memory-clause-counted : goal.returns-in-Err-Memory-clause-counted
returns-in-Err-Memory-clause-counted c = from_part 3 c.judge_again.result _ (rw (c.bare-content.ensures.body, c.bare-content.ensures.given) at c.in_ok-shows.ensures.counted)

pub returns-in_default-2-clause-counted : goal.returns-in_default-2-clause-counted
returns-in_default-2-clause-counted c = from_part 3 _ _ (rw (c.bare-content.ensures.body, c.bare-content.ensures.given) at c.in_ok-shows.ensures.counted)
