use Rattle.std.proofs.Common.{◌≡◌, arith, length, refl, sym, ◌∙◌}
use Rattle.std.specs.Prelude.{None, true, false, ◌==◌}
use Rattle.std.proofs.lemmas.Str.Pattern.{strip_prefix_char, split_parts}
use Rattle.claim_tree.specs.PointerRefusals.{no_slash}
use Rattle.claim_tree.proofs.PointerTildes.{begins_not}
use Rattle.claim_tree.proofs.pointer.read_pointer.Goals as goal

pub returns-in_err-steps-clause-syntax : goal.returns-in_err-steps-clause-syntax
returns-in_err-steps-clause-syntax c syntax =
    let none = strip_prefix_char 47 c.args.text.now None (rw c.in_err-steps.ensures.ok_part at c.strip_prefix.ensures.cases) (omega arith) in
    let some : (length c.args.text.now == 0) ≡ false = sym c.is_empty.ensures ∙ c.if-is_empty.false in
    no_slash (λ empty. let zero : (length c.args.text.now == 0) ≡ true = rw empty refl in cc) (begins_not 47 c.args.text.now none)

pub of_plain-requires-clause-plain : goal.of_plain-requires-clause-plain
of_plain-requires-clause-plain c = split_parts 126 c.args.text.now None c.in-None.ensures.cases (omega arith)
