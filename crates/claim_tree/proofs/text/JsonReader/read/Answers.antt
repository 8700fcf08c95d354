use Rattle.std.proofs.Common.{◌≡◌, ◌≤◌, Some, subst, rules}
use Rattle.serde_json.specs.Read.{read}
use Rattle.serde_json.proofs.Nesting.{depth-read}
use Rattle.claim_tree.specs.View.{tree_of}
use Rattle.claim_tree.specs.JsonText.{data_of}
use Rattle.claim_tree.proofs.Datas.{depth-data}
use Rattle.claim_tree.proofs.text.JsonReader.read.Goals as goal

pub returns-clause-depth : goal.returns-clause-depth
returns-clause-depth c =
    let t = tree_of c.match-build_text.tree in
    let value : read c.in-Ok.text.now ≡ Some (data_of t) = search rules in
    subst (λ n. n ≤ 127) (depth-data t) (depth-read c.in-Ok.text.now (data_of t) value)
