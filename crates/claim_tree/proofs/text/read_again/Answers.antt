use Rattle.std.proofs.Common.{◌≡◌, Some}
use Rattle.std.proofs.lemmas.Result.{IfOk-weaker}
use Rattle.serde_json.specs.Read.{read as value_of_text}
use Rattle.claim_tree.specs.View.{tree_of}
use Rattle.claim_tree.specs.JsonText.{data_of}
use Rattle.claim_tree.proofs.KeptReading.{reads_again}
use Rattle.claim_tree.proofs.text.read_again.Goals as goal

pub returns-clause-ok : goal.returns-clause-ok
returns-clause-ok c =
    IfOk-weaker c.read_judged.result _ (λ t. value_of_text c.args.text.now ≡ Some (data_of (tree_of t))) (λ t by. reads_again c.args.text.now (tree_of t) by) c.read_judged.ensures.ok
