-- A list that begins with a text, from its tokens and in its text.
use Rattle.std.proofs.Common.{◌≡◌, ℕ, ◌-◌, ◌<◌, ◌≤◌, List, [], ◌∷◌, ◌++◌, length, Option, Some, None, option_and_then, refl, ap, ◌∙◌, arith}
use Rattle.json.specs.Token.{Token}
use Rattle.json.specs.Json as json
use Rattle.json.specs.Json.{Parse, parse_map, after_end_array, items, value}
use Rattle.json.specs.Lex.{tokens}
use Rattle.json.proofs.Grammar.{value_is, value-begin_array}
use Rattle.serde_json.specs.Data.{Data, array, string, item, Items, no_items}
use Rattle.serde_json.specs.Read.{of_json, of_items, converted, read}
use Rattle.claim_tree.specs.Tree as tree
use Rattle.claim_tree.specs.Tree.{Text, Tree, depth, IsRanged, IsOrdered}
use Rattle.claim_tree.specs.ListTails.{short_list}
use Rattle.claim_tree.specs.Begun.{begun}
use Rattle.claim_tree.proofs.TreeTokens.{tree_tokens}
use Rattle.claim_tree.proofs.TreeReading.{converted_some, converted-array, item_read, items_over}

-- the last element of a list
pub last_read : (p : Parse json.Json) (n : ℕ) (ts r s : List Token) (d : Data) → 0 < n → length r ≤ n - 1 → after_end_array ts ≡ None → converted of_json (p ts) ≡ Some (d, r) → after_end_array r ≡ Some s
    → converted of_items (items p n ts) ≡ Some (item d no_items, s)
last_read p n ts r s d some fit going is end = item_read p n ts r d some going is ∙ ap (parse_map (item d)) (items_over p (n - 1) r s fit end)

-- a text reads to what its tokens are
read_of_tokens : (text : Text) (d : Data) → converted of_json (value 127 (tokens text)) ≡ Some (d, []) → read text ≡ Some d
read_of_tokens text d is =
    let j = converted_some of_json (value 127 (tokens text)) d [] is in
    ap (λ o. option_and_then of_json (option_and_then (λ p. json.if_last p.0 p.1) o)) j.1 ∙ j.2

pub tail_read : (text first : Text) (ts : List Token) (ds : Items) → tokens text ≡ Token.begin_array ∷ Token.string first ∷ ts → converted of_items (items (value 126) (length ts) ts) ≡ Some (ds, [])
    → read text ≡ Some (array (item (string first) ds))
tail_read text first ts ds is tail =
    let p = value 126 in
    let more = Token.string first ∷ ts in
    let n = length more in
    let some : 0 < n = omega arith in
    let one = item_read p n more ts (string first) some refl (ap (converted of_json) (value_is 126 more)) in
    let less : n - 1 ≡ length ts = omega arith in
    let elements = one ∙ ap (parse_map (item (string first))) (ap (λ k. converted of_items (items p k ts)) less ∙ tail) in
    let opened = ap (converted of_json) (value-begin_array 127 more (omega arith)) ∙ converted-array (items p n more) ∙ ap (parse_map array) elements in
    read_of_tokens text (array (item (string first) ds)) (ap (λ w. converted of_json (value 127 w)) is ∙ opened)

-- ---- such a list is written

pub listed_tokens : (first : Text) (second : Option Text) (t : Tree) → begun first second ++ (tree_tokens t ++ Token.end_array ∷ []) ≡ tree_tokens (tree.array (short_list first second t))
listed_tokens first None t = refl
listed_tokens first (Some second) t = refl

pub listed_ranged : (first : Text) (second : Option Text) (t : Tree) → IsRanged t → IsRanged (tree.array (short_list first second t))
listed_ranged first None t r = (tt, (r, tt))
listed_ranged first (Some second) t r = (tt, (tt, (r, tt)))

pub listed_ordered : (first : Text) (second : Option Text) (t : Tree) → IsOrdered t → IsOrdered (tree.array (short_list first second t))
listed_ordered first None t o = (tt, (o, tt))
listed_ordered first (Some second) t o = (tt, (tt, (o, tt)))

pub listed_shallow : (first : Text) (second : Option Text) (t : Tree) → depth t ≤ 126 → depth (tree.array (short_list first second t)) ≤ 127
listed_shallow first None t low = omega (arith, low)
listed_shallow first (Some second) t low = omega (arith, low)
