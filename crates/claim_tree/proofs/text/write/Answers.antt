use Rattle.std.proofs.Common.{◌++◌, ap, ◌∙◌}
use Rattle.json.specs.Print.{print}
use Rattle.serde_json.proofs.Texts.{print-outline}
use Rattle.serde_json.specs.Read.{read}
use Rattle.claim_tree.specs.View.{tree_of}
use Rattle.claim_tree.specs.JsonText.{data_of}
use Rattle.claim_tree.proofs.RoundTrip.{read_of_text}
use Rattle.claim_tree.proofs.TreeTokens.{tree_tokens}
use Rattle.claim_tree.proofs.text.write.Goals as goal

pub returns-clause-ok : goal.returns-clause-ok
returns-clause-ok c =
    let t = tree_of c.args.tree.now in
    let all = c.in_ok-put_tree.ensures.ok ∙ ap (λ old. old ++ tree_tokens t) c.in_ok-out.ensures.tokens in
    c.written_text.ensures.text ∙ ap print all ∙ print-outline (data_of t)

pub returns-clause-back : goal.returns-clause-back
returns-clause-back c shallow =
    let t = tree_of c.args.tree.now in
    record {
      utf8 = c.written_text.ensures.utf8;
      value = ap read (returns-clause-ok c) ∙ read_of_text t c.invariant.ensures.ranged c.invariant.ensures.ordered shallow;
    }
