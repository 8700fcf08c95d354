use Rattle.std.proofs.Common.{◌≡◌, refl, sym, ap, ◌∙◌}
use Rattle.claim_tree.specs.Removed.{removed}
use Rattle.claim_tree.specs.View.{tree_of}
use Rattle.refusals.specs.PartWords.{part_word}
use Rattle.refusals.specs.declared.fault.Part.TheVariants.{Signatures}
use Rattle.json_form.specs.Json.{has_beside}
use Rattle.json_form.specs.JsonPlaces.{no_list, beside}
use Rattle.json_form.specs.MembersRead.{itself, listed}
use Rattle.json_form.proofs.Members.{found_here, absent_here, same_members, beside_kept}
use Rattle.json_form.proofs.signatures.entries_of.Goals as goal

pub returns-in_default-clause-ok : goal.returns-in_default-clause-ok
returns-in_default-clause-ok c =
    let ms = c.args.members in
    let word = c.word.result.now in
    itself (absent_here ms Signatures word c.word.ensures c.in_default.ensures.tree) (same_members ms c.remove.new.self Signatures word c.word.ensures c.in_default.ensures.tree c.in_default.ensures.others) refl

pub returns-in_default-listed_in-clause-refused : goal.returns-in_default-listed_in-clause-refused
returns-in_default-listed_in-clause-refused c =
    let t = tree_of c.in-Some.tree in
    no_list t (found_here c.args.members Signatures c.word.result.now t c.word.ensures c.in-Some.ensures.tree) c.in_default-listed_in.ensures.none

pub returns-then-has_beside-clause-refused : goal.returns-then-has_beside-clause-refused
returns-then-has_beside-clause-refused c =
    let ms = c.args.members in
    let t = tree_of c.in-Some.tree in
    let gone : c.remove.new.self ≡ removed ms (part_word Signatures) = c.in-Some.ensures.others ∙ ap (removed ms) c.word.ensures in
    beside t (found_here ms Signatures c.word.result.now t c.word.ensures c.in-Some.ensures.tree) (sym (beside_kept ms Signatures refl refl refl) ∙ ap has_beside (sym gone) ∙ sym c.has_beside.ensures ∙ c.if-has_beside.true)

pub returns-clause-ok : goal.returns-clause-ok
returns-clause-ok c =
    let ms = c.args.members in
    let t = tree_of c.in-Some.tree in
    let gone : c.remove.new.self ≡ removed ms (part_word Signatures) = c.in-Some.ensures.others ∙ ap (removed ms) c.word.ensures in
    listed t (found_here ms Signatures c.word.result.now t c.word.ensures c.in-Some.ensures.tree) c.in-Some-listed_in.ensures.some (sym (beside_kept ms Signatures refl refl refl) ∙ ap has_beside (sym gone) ∙ sym c.has_beside.ensures ∙ c.if-has_beside.false)
