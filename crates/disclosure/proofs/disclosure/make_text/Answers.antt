use Rattle.std.proofs.Common.{◌≡◌, ap, subst, option_map, ◌∙◌}
use Rattle.std.proofs.lemmas.Result.{IfOk-weaker}
use Rattle.b64url_text.specs.Base64url.{b64}
use Rattle.b64url_text.proofs.Texts.{AreBytes-text}
use Rattle.claim_tree.specs.JsonText.{Reads, json_text}
use Rattle.claim_tree.specs.View.{tree_of}
use Rattle.disclosure.proofs.Arrays.{array_of-listed}
use Rattle.disclosure.proofs.disclosure.make_text.Goals as goal

pub returns-clause-text : goal.returns-clause-text
returns-clause-text c =
    let same = array_of-listed c.args.salt.now (option_map (λ n. n.now) c.args.name) (tree_of c.args.value.now) in
    let bytes : c.as_bytes.result.now ≡ c.in_ok-json.json = c.as_bytes.ensures.value ∙ c.as_str.ensures in
    let coded = ap b64 (bytes ∙ c.in_ok-json.ensures.ok ∙ ap json_text same) in
    IfOk-weaker c.encode.result _ _ (λ text is. is ∙ coded) c.encode.ensures

pub returns-clause-back : goal.returns-clause-back
returns-clause-back c =
    let json = c.in_ok-json.json in
    let same = array_of-listed c.args.salt.now (option_map (λ n. n.now) c.args.name) (tree_of c.args.value.now) in
    let bytes : c.as_bytes.result.now ≡ json = c.as_bytes.ensures.value ∙ c.as_str.ensures in
    let reads = subst (Reads json) same (c.in_ok-json.ensures.back c.requires.depth) in
    IfOk-weaker c.encode.result _ _ (λ text is. record { json = json; decodes = record { fit = AreBytes-text json reads.utf8; spelling = is ∙ ap b64 bytes }; reads = reads }) c.encode.ensures
