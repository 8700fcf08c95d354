use Rattle.std.proofs.Common.{◌≤◌, subst, arith}
use Rattle.serde_json.proofs.Nesting.{depth-read}
use Rattle.claim_tree.specs.Tree.{text as text_leaf, leaf, array, element, depth}
use Rattle.claim_tree.specs.JsonText.{data_of}
use Rattle.claim_tree.specs.ListTails.{tail_elements}
use Rattle.claim_tree.proofs.Datas.{depth-data}
use Rattle.claim_tree.proofs.text.JsonReader.read_tail.Goals as goal

pub returns-after-tail-clause-depth : goal.returns-after-tail-clause-depth
returns-after-tail-clause-depth c =
    let es = tail_elements c.in-Ok-build_tail.tail in
    let is = c.in-Ok-build_tail.ensures.ok in
    let t = array (element (leaf (text_leaf is.0)) es) in
    let low : depth t ≤ 127 = subst (λ n. n ≤ 127) (depth-data t) (depth-read c.in-Ok.text.now (data_of t) is.1) in
    omega (arith, low)
