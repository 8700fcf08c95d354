use Rattle.std.proofs.Common.{◌≡◌}
use Rattle.std.specs.Vec.Iter.{into_iter_items}
use Rattle.claim_tree.specs.TreeValues.{text_elements}
use Rattle.issuer_core.specs.Laying.{elements_joined}
use Rattle.issuer_core.proofs.laying.texts_list.Given as goal

abbrev pub invariant-loop-text : goal.invariant-loop-text
invariant-loop-text l = elements_joined l.list (text_elements (into_iter_items l.text-iterator)) ≡ text_elements l.fn.texts.items
