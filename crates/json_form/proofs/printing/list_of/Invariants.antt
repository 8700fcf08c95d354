use Rattle.std.proofs.Common.{◌≡◌, ◌++◌, List}
use Rattle.claim_tree.specs.Tree.{Text}
use Rattle.claim_tree.specs.TreeValues.{text_elements}
use Rattle.json_form.proofs.printing.list_of.Given as goal

abbrev pub invariant-loop-text : goal.invariant-loop-text
invariant-loop-text l = record {
  done : List Text;
  stand : l.fn.texts ≡ done ++ l.text-iterator;
  made : l.list ≡ text_elements done;
}
