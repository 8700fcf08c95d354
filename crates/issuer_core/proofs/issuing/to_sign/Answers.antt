use Rattle.std.proofs.Common.{length, subst}
use Rattle.claim_tree.specs.View.{tree_of}
use Rattle.claim_tree.proofs.Counting.{not_below}
use Rattle.sd_outside.specs.Limits.{count_max}
use Rattle.issuer_core.specs.Decoys.{decoy_paths}
use Rattle.issuer_core.specs.IssueSteps.{AreWritten}
use Rattle.issuer_core.specs.declared.errors.IssueError.TheVariants.{TooManyDecoys}
use Rattle.issuer_core.specs.Order.{order_of}
use Rattle.issuer_core.specs.Seed.{maker_of}
use Rattle.issuer_core.proofs.FromLaid.{order_refused, clash_refused, no_clash, to_be_signed, unsigned_words, laid_words, body_object}
use Rattle.issuer_core.proofs.issuing.to_sign.Goals as goal

pub returns-in-Err-clause-refused : goal.returns-in-Err-clause-refused
returns-in-Err-clause-refused c = order_refused (maker_of c.args.seed.now) (order_of c.args.order) c.in-Err.error c.in-Err.ensures.refused

pub lay_order-requires-clause-decoys : goal.lay_order-requires-clause-decoys
lay_order-requires-clause-decoys c = not_below (length (decoy_paths c.args.order.decoys)) count_max (c.in-Ok.ensures.passes TooManyDecoys)

pub returns-in-Err-judge_digests-clause-refused : goal.returns-in-Err-judge_digests-clause-refused
returns-in-Err-judge_digests-clause-refused c =
    let l = c.in_ok-laid.laid in
    clash_refused c.args.seed.now (order_of c.args.order) (tree_of l.payload) l.texts l.digests c.in_ok-laid.ensures.laid c.in-Ok.ensures.passes _ c.in-Err-judge_digests.ensures.clash

pub returns-clause-to_sign : goal.returns-clause-to_sign
returns-clause-to_sign c =
    let o = order_of c.args.order in
    let l = c.in_ok-laid.laid in
    let token = c.in_ok-write_unsigned.field-0 in
    let written = subst (λ h. AreWritten h (tree_of l.payload) l.texts token) c.in_ok-header.ensures c.in_ok-write_unsigned.ensures in
    to_be_signed c.args.seed.now o (tree_of l.payload) l.texts l.digests c.in_ok-laid.ensures.laid c.args.alg.now token written c.in_default.ensures.differ

pub returns-clause-differ : goal.returns-clause-differ
returns-clause-differ c =
    let l = c.in_ok-laid.laid in
    no_clash c.args.seed.now (order_of c.args.order) (tree_of l.payload) l.texts l.digests c.in_ok-laid.ensures.laid c.in_default.ensures.differ

pub returns-clause-words : goal.returns-clause-words
returns-clause-words c =
    let o = order_of c.args.order in
    let l = c.in_ok-laid.laid in
    let is_object = body_object c.args.seed.now o (tree_of l.payload) l.texts l.digests c.in-Ok.ensures.good c.in_ok-laid.ensures.laid in
    let words = laid_words c.args.seed.now o (tree_of l.payload) l.texts l.digests c.in_ok-laid.ensures.laid in
    unsigned_words c.in_ok-header.header (tree_of l.payload) l.texts c.in_ok-write_unsigned.field-0 is_object words c.in_ok-write_unsigned.ensures
