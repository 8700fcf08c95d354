use Rattle.std.proofs.Common.{◌≡◌, IfNone, sym, subst}
use Rattle.claim_tree.specs.TreeValues.{HasValue}
use Rattle.claim_tree.specs.View.{tree_of}
use Rattle.refusals.specs.declared.fault.JsonPlace.TheVariants.{Wrong}
use Rattle.refusals.specs.declared.fault.Part.TheVariants.{KbJwt}
use Rattle.json_form.specs.Json.{IsJwtTree}
use Rattle.json_form.proofs.Members.{found_here}
use Rattle.json_form.proofs.SayOrFail.{wrong_here}
use Rattle.json_form.proofs.signature_entry.take_binding.Goals as goal

pub returns-clause-refused : goal.returns-clause-refused
returns-clause-refused c place is =
    let t = tree_of c.in-Some.tree in
    let named : Wrong KbJwt ≡ place = cc is in
    wrong_here IsJwtTree c.args.header.now KbJwt place t (sym named) (found_here c.args.header.now KbJwt c.word.result.now t c.word.ensures c.in-Some.ensures.tree)
    (subst (λ o. IfNone o (HasValue IsJwtTree t → ⊥)) c.in-None.is c.in_ok-jwt.ensures.none)
