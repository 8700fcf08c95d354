-- The text of a tree is read as that tree or not at all, however deep it is.
use Rattle.std.proofs.Common.{◌≡◌, ◌≤◌, List, [], Option, Some, None, option_and_then, refl, sym, ap, subst, ◌∙◌, append-nil, arith}
use Rattle.json.specs.Json as json
use Rattle.json.specs.Tree as tree
use Rattle.json.specs.Token.{Token}
use Rattle.json.specs.Lex.{tokens}
use Rattle.json.proofs.Found.{one_reading}
use Rattle.json.proofs.Nesting.{value-depth}
use Rattle.json.proofs.Printed.Tokens.{tokens-print}
use Rattle.json.proofs.Printed.Trees.{ArePrintable-json_tokens, value-json_tokens}
use Rattle.serde_json.specs.Data as port
use Rattle.serde_json.specs.Read.{read, of_json}
use Rattle.serde_json.specs.Written.{outline}
use Rattle.serde_json.proofs.Texts.{print-outline}
use Rattle.claim_tree.specs.Tree.{Tree, depth, IsRanged, IsOrdered}
use Rattle.claim_tree.specs.JsonText.{data_of, json_text, Reads}
use Rattle.claim_tree.proofs.OneTree.{one_tree}
use Rattle.claim_tree.proofs.RoundTrip.{numbers, outline_depth, read_of_text}

-- what is read is not too deep
shallow : (t : Tree) (x : port.Data) → IsRanged t → read (json_text t) ≡ Some x → depth t ≤ 127
shallow t x ranged is = subst (λ n. n ≤ 127) (outline_depth t) (go (json.value 127 (tokens (json_text t))) refl is)
  where
    j : json.Json
    j = outline (data_of t)

    same : tokens (json_text t) ≡ tree.json_tokens j
    same = ap tokens (sym (print-outline (data_of t))) ∙ tokens-print (tree.json_tokens j) (ArePrintable-json_tokens j (numbers t ranged))

    all : json.value (tree.depth j) (tokens (json_text t)) ≡ Some (j, [])
    all = ap (json.value (tree.depth j)) (same ∙ sym (append-nil (tree.json_tokens j))) ∙ value-json_tokens j (tree.depth j) [] (let low : tree.depth j ≤ tree.depth j = omega arith in low)

    go : (o : Option (json.Json × List Token)) → json.value 127 (tokens (json_text t)) ≡ o → option_and_then of_json (option_and_then (λ p. json.if_last p.0 p.1) o) ≡ Some x → tree.depth j ≤ 127
    go None e f = cc f
    go (Some w) e f = value-depth 127 (tokens (json_text t)) [] j (e ∙ one_reading 127 (tree.depth j) (tokens (json_text t)) w (j, []) e all)

pub read_as_itself : (t u : Tree) → IsRanged t → IsOrdered t → Reads (json_text t) u → u ≡ t
read_as_itself t u ranged ordered reads =
    one_tree (json_text t) u t reads (record { utf8 = reads.utf8; value = read_of_text t ranged ordered (shallow t (data_of u) ranged reads.value) })
