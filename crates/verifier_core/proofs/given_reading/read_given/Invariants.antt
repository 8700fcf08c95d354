use Rattle.std.proofs.Common.{◌≡◌, ◌++◌, List, length}
use Rattle.std.specs.List.{AllZip}
use Rattle.claim_tree.specs.Tree.{Text}
use Rattle.rebuild_core.specs.Answer.{ValuesShallow}
use Rattle.verifier_core.specs.Verdict.{Gives}
use Rattle.verifier_core.proofs.given_reading.read_given.Given as goal

abbrev pub invariant-loop-i : goal.invariant-loop-i
invariant-loop-i l = record {
  ready : (goal.iterator-loop-i).can_next l.i-iterator;
  finite : (goal.iterator-loop-i).is_finite l.i-iterator;
  done : List Text;
  stand : l.fn.disclosures ≡ done ++ l.i-iterator.iter;
  counted : l.i-iterator.count ≡ length done;
  read : AllZip (Gives l.fn.hash) done l.given;
  shallow : ValuesShallow l.given;
}
