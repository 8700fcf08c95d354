use Rattle.claim_tree.proofs.PlainPointers.{plain_cuts}
use Rattle.claim_tree.proofs.path.Path.of_plain.Goals as goal

pub invariant_of-result : goal.invariant_of-result
invariant_of-result c = rw (c.in_ok-text.ensures.ok, c.in_ok-ends.ensures) (plain_cuts c.args.pointer.now c.requires.slash.0 c.utf8.pointer c.requires.plain c.requires.slash.1).are

pub returns : goal.returns
returns c = rw (c.in_ok-text.ensures.ok, c.in_ok-ends.ensures) (plain_cuts c.args.pointer.now c.requires.slash.0 c.utf8.pointer c.requires.plain c.requires.slash.1).spelling
