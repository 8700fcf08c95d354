use Rattle.std.proofs.Common.{◌≡◌, ◌≤◌, sym, ap, subst}
use Rattle.std.proofs.lemmas.Result.{IfOk-weaker}
use Rattle.claim_tree.specs.Tree.{object, depth}
use Rattle.claim_tree.specs.JsonText.{Reads}
use Rattle.compact_form.specs.declared.parts.JwtParts.{JwtParts}
use Rattle.json_form.specs.Json.{IsGeneral}
use Rattle.json_form.proofs.WrittenForms.{general_made, general_depth, general_says}
use Rattle.json_form.proofs.printing.general_text.Goals as goal

pub returns-clause-back : goal.returns-clause-back
returns-clause-back c shallow =
    let token = c.args.token.now in
    let payload : c.signed.result.payload.now ≡ token.parts.signed.payload = ap (λ (j : JwtParts). j.payload) c.signed.ensures in
    let made = general_made token _ _ _ _ _ _ _ c.new-members.ensures c.new-signatures.ensures c.in_ok-entry.ensures payload c.in_ok-put_text.ensures c.in_ok-push.ensures.ok c.in_ok-put.ensures in
    IfOk-weaker c.write.result (λ written. Reads written (object c.put.new.members)) (IsGeneral token) (λ written reads. general_says token written c.requires.printable (subst (Reads written) made reads))
    (c.write.ensures.back (subst (λ t. depth t ≤ 127) (sym made) (general_depth token shallow)))
