use Rattle.std.proofs.Common.{◌++◌, string_bytes}
use Rattle.claim_tree.specs.Path.{escaped}
use Rattle.claim_tree.proofs.PointerEscapes.{char_pushed}
use Rattle.claim_tree.proofs.pointer.push_escaped.Goals as goal

pub loop-c-preserved : goal.loop-c-preserved
loop-c-preserved c =
    char_pushed (string_bytes c.loop-c.text) (string_bytes c.push.new.self) c.loop-c.c-iterator.rest.now c.next.new.self.rest.now (string_bytes c.args.text.now ++ escaped c.args.step.now) c.in-Some.c
    c.in_ok-push.ensures.bytes c.in-Some.ensures.steps.0 c.if-c-eq126.false c.if-c-eq47.false c.loop-c.invariant
