use Rattle.disclosure.proofs.Unread.{unread_exit}
use Rattle.disclosure.proofs.disclosure.read_disclosure.Goals as goal

pub returns-in_err-tree-clause-refused : goal.returns-in_err-tree-clause-refused
returns-in_err-tree-clause-refused c =
    unread_exit c.from_residual-in_err-tree.result c.in_err-tree.field-0.0 c.args.text.now _ c.from_residual-in_err-tree.ensures.1 c.in_ok-count.ensures.ok (rw c.deref.ensures.value at c.in_err-tree.ensures.unread)
