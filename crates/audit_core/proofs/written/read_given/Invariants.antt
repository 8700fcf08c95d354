use Rattle.std.proofs.Common.{◌≡◌, ◌++◌, List}
use Rattle.std.specs.List.{AllZip}
use Rattle.claim_tree.specs.Tree.{Text}
use Rattle.rebuild_core.specs.Answer.{ValuesShallow}
use Rattle.audit_core.specs.Audited.{GivesSalted}
use Rattle.audit_core.proofs.written.read_given.Given as goal

abbrev pub invariant-loop-text : goal.invariant-loop-text
invariant-loop-text l = record {
  ready : (goal.iterator-loop-text).can_next l.text-iterator;
  finite : (goal.iterator-loop-text).is_finite l.text-iterator;
  done : List Text;
  stand : l.fn.disclosures ≡ done ++ l.text-iterator;
  read : AllZip (GivesSalted l.fn.hash) done l.given;
  shallow : ValuesShallow l.given;
}
