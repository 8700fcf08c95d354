-- The tokens of a tree, and those of the trees of a slice that are left.
use Rattle.std.proofs.Common.{◌≡◌, ℕ, ◌+◌, ◌<◌, ◌≤◌, List, [], ◌∷◌, ◌++◌, length, get_or, drop, sym, ap, ◌∙◌}
use Rattle.std.proofs.lemmas.List.{drop_all, drop_more, append_assoc}
use Rattle.json.specs.Token.{Token, key}
use Rattle.json.specs.Tree as json
use Rattle.serde_json.specs.Written.{outline, items_outline, members_outline}
use Rattle.claim_tree.specs.Tree as spec
use Rattle.claim_tree.specs.View.{tree_of}
use Rattle.claim_tree.specs.ListViews.{elements_of, members_of}
use Rattle.claim_tree.specs.JsonText.{data_of, elements_data, members_data}
use Rattle.claim_tree.specs.declared.tree.Tree as tree
use Rattle.claim_tree.proofs.Walks.{Named}

abbrev pub tree_tokens : spec.Tree → List Token
tree_tokens t = json.json_tokens (outline (data_of t))

-- with the closing bracket
abbrev pub elements_tokens : spec.Elements → List Token
elements_tokens es = json.items_tokens (items_outline (elements_data es))

abbrev pub members_tokens : spec.Members → List Token
members_tokens ms = json.members_tokens (members_outline (members_data ms))

-- none is left
pub none_left : {A : Type 0} (tokens : List A → List Token) (xs : List A) (i : ℕ) (old all : List Token) → length xs ≤ i → old ++ tokens (drop i xs) ≡ all → old ++ tokens [] ≡ all
none_left tokens xs i old all past so_far = ap (λ ys. old ++ tokens ys) (sym (drop_all i xs past)) ∙ so_far

-- one element less is left
pub element_written : (ts : List tree.Tree) (i : ℕ) (t : tree.Tree) (old all : List Token) → i < length ts → t ≡ get_or ts i t → old ++ elements_tokens (elements_of (drop i ts)) ≡ all
    → (old ++ tree_tokens (tree_of t)) ++ elements_tokens (elements_of (drop (i + 1) ts)) ≡ all
element_written ts i t old all within is so_far =
    let here : drop i ts ≡ t ∷ drop (i + 1) ts = drop_more ts i t within ∙ ap (λ u. u ∷ drop (i + 1) ts) (sym is) in
    append_assoc old (tree_tokens (tree_of t)) _ ∙ ap (λ us. old ++ elements_tokens (elements_of us)) (sym here) ∙ so_far

-- one member less is left
pub member_written : (ms : List Named) (i : ℕ) (m : Named) (old all : List Token) → i < length ms → m ≡ get_or ms i m → old ++ members_tokens (members_of (drop i ms)) ≡ all
    → ((old ++ key m.0 ∷ []) ++ tree_tokens (tree_of m.1)) ++ members_tokens (members_of (drop (i + 1) ms)) ≡ all
member_written ms i m old all within is so_far =
    let here : drop i ms ≡ m ∷ drop (i + 1) ms = drop_more ms i m within ∙ ap (λ (n : Named). n ∷ drop (i + 1) ms) (sym is) in
    append_assoc (old ++ key m.0 ∷ []) (tree_tokens (tree_of m.1)) _ ∙ append_assoc old (key m.0 ∷ []) _ ∙ ap (λ ns. old ++ members_tokens (members_of ns)) (sym here) ∙ so_far
