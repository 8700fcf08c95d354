use Rattle.std.proofs.Common.{Err, ap, subst}
use Rattle.claim_tree.specs.PointerRefusals.{IsNoPointer}
use Rattle.claim_tree.proofs.ListForms.{odd_pointer}
use Rattle.claim_tree.proofs.tree_values.pointer_of.Goals as goal

pub returns-in-Err-Syntax-clause-none : goal.returns-in-Err-Syntax-clause-none
returns-in-Err-Syntax-clause-none c =
    let none = c.in-Err-Syntax.ensures.syntax (ap Err c.in-Err-Syntax.field-0-is) in
    odd_pointer c.args.tree.now c.in-Text.text c.in-Text.is (subst IsNoPointer c.as_str.ensures none)
