use Rattle.std.proofs.Common.{◌≡◌, ◌++◌}
use Rattle.std.specs.Vec.Iter.{into_iter_items}
use Rattle.claim_tree.specs.Tree.{array}
use Rattle.claim_tree.specs.View.{tree_of}
use Rattle.claim_tree.specs.ListViews.{elements_of}
use Rattle.json_form.proofs.WordLists.{AreWordsOf}
use Rattle.json_form.proofs.member_values.words_in.Given as goal

abbrev pub invariant-loop-item : goal.invariant-loop-item
invariant-loop-item l = AreWordsOf l.words l.yielded × (tree_of l.fn.tree ≡ array (elements_of (l.yielded ++ into_iter_items l.item-iterator)))
