use Rattle.std.proofs.Common.{◌≡◌, ◌++◌, List, length}
use Rattle.claim_tree.specs.Tree.{Text}
use Rattle.marked_tree.specs.Numbers.{has}
use Rattle.marked_tree.proofs.RisingSearch.{IsFront}
use Rattle.holder_core.specs.Present.{picked}
use Rattle.holder_core.proofs.presenting.pick.Given as goal

abbrev pub invariant-loop-text : goal.invariant-loop-text
invariant-loop-text l = record {
  done : List Text;
  stand : l.fn.disclosures ≡ done ++ l.text-iterator;
  counted : l.number ≡ length done;
  front : IsFront l.marks l.next l.number;
  picked_is : l.texts ≡ picked (has l.fn.chosen) done;
}
