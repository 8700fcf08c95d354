use Rattle.std.proofs.Common.{rules, tests, ◌∙◌}
use Rattle.std.proofs.lemmas.Iterator.{YieldsList-from_slice}
use Rattle.std.proofs.lemmas.Iterator.Search.{all_from_yields_List}
use Rattle.claim_tree.specs.View.{tree_of}
use Rattle.json_form.specs.Json.{is_object}
use Rattle.json_form.proofs.EntryLists.{objects_of}
use Rattle.json_form.proofs.signatures.are_objects.Goals as goal

pub returns : goal.returns
returns c =
    let all = all_from_yields_List (λ t. is_object (tree_of t)) _ _ _ c.all.ensures.ran (YieldsList-from_slice c.args.trees.now c.iter.ensures.rest) (λ x b q k. search (rules, tests)) in
    all ∙ objects_of c.args.trees.now
