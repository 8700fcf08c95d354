use Rattle.std.proofs.Common.{◌≡◌, ap, subst, ◌∙◌}
use Rattle.std.proofs.lemmas.Result.{IfOk-weaker}
use Rattle.b64url_text.specs.Base64url.{b64, Decodes}
use Rattle.claim_tree.specs.View.{tree_of}
use Rattle.claim_tree.specs.JsonText.{json_text}
use Rattle.jws_part.specs.Part.{Carries}
use Rattle.jws_part.proofs.body.write_body.Goals as goal

pub returns-clause-ok : goal.returns-clause-ok
returns-clause-ok c =
    IfOk-weaker c.part_of.result (λ part. Decodes part c.as_str.result.now) (λ part. part ≡ b64 (json_text (tree_of c.args.tree.now)))
    (λ part d. d.spelling ∙ ap b64 (c.as_str.ensures ∙ c.in_ok-text.ensures.ok))
    c.part_of.ensures

pub returns-clause-back : goal.returns-clause-back
returns-clause-back c shallow =
    IfOk-weaker c.part_of.result (λ part. Decodes part c.as_str.result.now) (λ part. Carries part (tree_of c.args.tree.now))
    (λ part d. record { bytes = c.in_ok-text.text; decodes = subst (λ text. Decodes part text) c.as_str.ensures d; reads = c.in_ok-text.ensures.back shallow })
    c.part_of.ensures
