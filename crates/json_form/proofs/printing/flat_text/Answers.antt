use Rattle.std.proofs.Common.{◌≡◌, ◌≤◌, sym, ap, ap₂, subst, ◌∙◌}
use Rattle.std.proofs.lemmas.Result.{IfOk-weaker}
use Rattle.claim_tree.specs.Tree.{Text, Members, object, depth, leaf, text, inserted}
use Rattle.claim_tree.specs.JsonText.{Reads}
use Rattle.refusals.specs.PartWords.{part_word}
use Rattle.compact_form.specs.declared.parts.JwtParts.{JwtParts}
use Rattle.refusals.specs.declared.fault.Part.TheVariants.{Payload}
use Rattle.json_form.specs.Json.{IsFlat}
use Rattle.json_form.specs.Written.{flat_of}
use Rattle.json_form.proofs.WrittenForms.{flat_depth, flat_says}
use Rattle.json_form.proofs.printing.flat_text.Goals as goal

pub returns-clause-back : goal.returns-clause-back
returns-clause-back c =
    let token = c.args.token.now in
    let payload : c.signed.result.payload.now ≡ token.parts.signed.payload = ap (λ (j : JwtParts). j.payload) c.signed.ensures in
    let made : object c.put_text.new.members ≡ flat_of token = ap object (c.in_ok-put_text.ensures ∙ ap₂ (λ (ms : Members) (s : Text). inserted ms (part_word Payload) (leaf (text s))) c.in_ok-members.ensures payload) in
    IfOk-weaker c.write.result (λ written. Reads written (object c.put_text.new.members)) (IsFlat token) (λ written reads. flat_says token written c.requires.printable (subst (Reads written) made reads))
    (c.write.ensures.back (subst (λ t. depth t ≤ 127) (sym made) (flat_depth token c.requires.printable)))
