use Rattle.std.proofs.Common.{◌++◌, [], ◌∷◌, append_assoc, option_map, ap, ◌∙◌}
use Rattle.json.specs.Token.{Token}
use Rattle.json.specs.Print.{print}
use Rattle.serde_json.proofs.Texts.{print-outline}
use Rattle.serde_json.specs.Read.{read}
use Rattle.claim_tree.specs.Tree.{array}
use Rattle.claim_tree.specs.View.{tree_of}
use Rattle.claim_tree.specs.JsonText.{data_of}
use Rattle.claim_tree.specs.ListTails.{short_list}
use Rattle.claim_tree.specs.Begun.{begun}
use Rattle.claim_tree.proofs.RoundTrip.{read_of_text}
use Rattle.claim_tree.proofs.TreeTokens.{tree_tokens}
use Rattle.claim_tree.proofs.ListTails.{listed_tokens, listed_ranged, listed_ordered, listed_shallow}
use Rattle.claim_tree.proofs.text.write_list.Goals as goal

pub returns-clause-ok : goal.returns-clause-ok
returns-clause-ok c =
    let t = tree_of c.args.last.now in
    let first = c.args.first.now in
    let second = option_map (λ s. s.now) c.args.second in
    let front = c.in_ok-put_texts.ensures.ok ∙ ap (λ old. old ++ begun first second) c.in_ok-out.ensures.tokens in
    let behind = c.in_ok-put_tree.ensures.ok ∙ ap (λ old. old ++ tree_tokens t) front in
    let all = c.in_ok-end_array.ensures.ok ∙ ap (λ old. old ++ Token.end_array ∷ []) behind ∙ append_assoc (begun first second) (tree_tokens t) _ ∙ listed_tokens first second t in
    c.written_text.ensures.text ∙ ap print all ∙ print-outline (data_of (array (short_list first second t)))

pub returns-clause-back : goal.returns-clause-back
returns-clause-back c shallow =
    let t = tree_of c.args.last.now in
    let first = c.args.first.now in
    let second = option_map (λ s. s.now) c.args.second in
    let list = array (short_list first second t) in
    record {
      utf8 = c.written_text.ensures.utf8;
      value = ap read (returns-clause-ok c) ∙ read_of_text list (listed_ranged first second t c.invariant.ensures.ranged) (listed_ordered first second t c.invariant.ensures.ordered) (listed_shallow first second t shallow);
    }
