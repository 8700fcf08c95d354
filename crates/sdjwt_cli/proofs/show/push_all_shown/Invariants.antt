use Rattle.std.proofs.Common.{◌≡◌, ◌++◌, List, length, string_bytes}
use Rattle.std.specs.List.{AllZip}
use Rattle.claim_tree.specs.Tree.{Text}
use Rattle.digest_sites.specs.Given.{Given}
use Rattle.verifier_core.specs.Verdict.{Gives}
use Rattle.sdjwt_cli.specs.Show.{shown_lines}
use Rattle.sdjwt_cli.proofs.show.push_all_shown.Given as goal

abbrev pub invariant-loop-i : goal.invariant-loop-i
invariant-loop-i l = record {
  ready : (goal.iterator-loop-i).can_next l.i-iterator;
  finite : (goal.iterator-loop-i).is_finite l.i-iterator;
  done : List Text;
  shown : List Given;
  are : AllZip (Gives l.fn.hash) done shown;
  stand : l.fn.disclosures ≡ done ++ l.i-iterator.iter;
  counted : l.i-iterator.count ≡ length done;
  so_far : string_bytes l.text ≡ string_bytes l.initial.text ++ shown_lines 0 shown;
}
