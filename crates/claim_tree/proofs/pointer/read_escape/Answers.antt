use Rattle.std.proofs.Common.{arith}
use Rattle.std.specs.Prelude.{None}
use Rattle.std.proofs.lemmas.Str.Pattern.{strip_prefix_char}
use Rattle.claim_tree.proofs.PointerTildes.{begins_not}
use Rattle.claim_tree.proofs.pointer.read_escape.Goals as goal

pub returns-in_default-strip_prefix-clause-none : goal.returns-in_default-strip_prefix-clause-none
returns-in_default-strip_prefix-clause-none c = record {
  no_zero = begins_not 48 c.args.text.now (strip_prefix_char 48 c.args.text.now None c.in_default.ensures.cases (omega arith));
  no_one = begins_not 49 c.args.text.now (strip_prefix_char 49 c.args.text.now None c.in_default-strip_prefix.ensures.cases (omega arith));
}
