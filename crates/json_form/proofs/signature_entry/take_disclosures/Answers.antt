use Rattle.std.proofs.Common.{◌≡◌, IfNone, sym, subst}
use Rattle.claim_tree.specs.TreeValues.{HasValue}
use Rattle.claim_tree.specs.View.{tree_of}
use Rattle.refusals.specs.declared.fault.JsonPlace.TheVariants.{Wrong}
use Rattle.refusals.specs.declared.fault.Part.TheVariants.{Disclosures}
use Rattle.json_form.specs.Json.{AreWordTrees}
use Rattle.json_form.proofs.Members.{found_here}
use Rattle.json_form.proofs.SayOrFail.{wrong_here}
use Rattle.json_form.proofs.signature_entry.take_disclosures.Goals as goal

pub returns-in-None-clause-refused : goal.returns-in-None-clause-refused
returns-in-None-clause-refused c place is =
    let t = tree_of c.in-Some.tree in
    let named : Wrong Disclosures ≡ place = cc is in
    wrong_here AreWordTrees c.args.header.now Disclosures place t (sym named) (found_here c.args.header.now Disclosures c.word.result.now t c.word.ensures c.in-Some.ensures.tree)
    (subst (λ o. IfNone o (HasValue AreWordTrees t → ⊥)) c.in-None.is c.in_ok-words.ensures.none)
