use Rattle.std.proofs.Common.{◌≡◌, ◌++◌, ◌+◌, sym, ap, ◌∙◌, Some, subst}
use Rattle.std.proofs.lemmas.Result.{on_ok_weaker}
use Rattle.std.specs.Result.{OnOk}
use Rattle.claim_tree.specs.View.{tree_of}
use Rattle.audit_core.specs.Wanted.{element_texts, entry_texts}
use Rattle.audit_core.proofs.Loops.{list_length}
use Rattle.audit_core.proofs.wanted.push_entry.Goals as goal

pub returns-in-Some-List : goal.returns-in-Some-List
returns-in-Some-List c =
    let es = c.in-Some-List.list in
    let old = c.args.wanted.now.items in
    let at = c.args.entry.now.at in
    let l = list_length c.trees.result.now es c.trees.ensures.value in
    let seen = sym (ap (λ t. Some (tree_of t)) c.in-Some-List.field-0-is) ∙ c.in-Some-List.ensures.value in
    let pushed = on_ok_weaker c.push_elements.result (λ f. f at c.requires.place) c.push_elements.ensures in
    subst (λ o. OnOk c.push_elements.result (c.push_elements.new.wanted.items ≡ old ++ entry_texts at c.args.before c.args.entry.now.count o)) seen
    (subst (λ n. OnOk c.push_elements.result (c.push_elements.new.wanted.items ≡ old ++ element_texts at (n + c.args.before) c.args.entry.now.count)) l pushed)
