-- Lists of base64url words.
use Rattle.std.proofs.Common.{◌≡◌, List, [], ◌∷◌, ◌++◌, sym, ap, ◌∙◌}
use Rattle.std.specs.List.{AllByRecursion}
use Rattle.b64url_text.specs.Base64url.{IsWord}
use Rattle.claim_tree.specs.Tree as spec
use Rattle.claim_tree.specs.Tree.{Text, leaf, text, array}
use Rattle.claim_tree.specs.TreeCalls.{pushed}
use Rattle.claim_tree.specs.TreeValues.{text_elements, HasValue}
use Rattle.claim_tree.specs.View.{tree_of}
use Rattle.claim_tree.specs.ListViews.{elements_of}
use Rattle.claim_tree.specs.declared.tree.Tree as tree
use Rattle.claim_tree.proofs.Views.{elements_of-push}
use Rattle.claim_tree.proofs.TreeValues.{text_elements-push}
use Rattle.json_form.specs.Json.{IsWordTree, AreWordTrees}

word_there : (done : List tree.Tree) (t : tree.Tree) (more : List tree.Tree) (texts : List Text) → text_elements texts ≡ elements_of (done ++ t ∷ more) → AllByRecursion IsWord texts → HasValue IsWordTree (tree_of t)
word_there [] t more [] e words = cc e
word_there [] t more (s ∷ texts) e words = let same : leaf (text s) ≡ tree_of t = cc e in (s, record { is = sym same; word = words.0 })
word_there (u ∷ done) t more [] e words = cc e
word_there (u ∷ done) t more (s ∷ texts) e words = let rest : text_elements texts ≡ elements_of (done ++ t ∷ more) = cc e in word_there done t more texts rest words.1

-- an element that is no word stands in no list of words
pub odd_word : (list : spec.Tree) (done : List tree.Tree) (t : tree.Tree) (more : List tree.Tree) → list ≡ array (elements_of (done ++ t ∷ more)) → (HasValue IsWordTree (tree_of t) → ⊥) → HasValue AreWordTrees list → ⊥
odd_word list done t more is none value =
    let both : array (text_elements value.0) ≡ array (elements_of (done ++ t ∷ more)) = sym value.1.are ∙ is in
    let same : text_elements value.0 ≡ elements_of (done ++ t ∷ more) = cc both in
    none (word_there done t more value.0 same value.1.words)

words-push : (texts : List Text) (s : Text) → AllByRecursion IsWord texts → IsWord s → AllByRecursion IsWord (texts ++ s ∷ [])
words-push [] s words word = (word, tt)
words-push (other ∷ texts) s words word = (words.0, words-push texts s words.1 word)

-- these are the words of the elements
pub record AreWordsOf (texts : List Text) (ts : List tree.Tree) : Type 0 where
  pub are : text_elements texts ≡ elements_of ts
  pub words : AllByRecursion IsWord texts

-- one word more
pub more_words : (texts : List Text) (ts : List tree.Tree) (s : Text) (t : tree.Tree) → AreWordsOf texts ts → IsWordTree (tree_of t) s → AreWordsOf (texts ++ s ∷ []) (ts ++ t ∷ [])
more_words texts ts s t so_far word =
    record {
      are = text_elements-push texts s ∙ ap (λ es. pushed es (leaf (text s))) so_far.are ∙ ap (pushed (elements_of ts)) (sym word.is) ∙ sym (elements_of-push ts t);
      words = words-push texts s so_far.words word.word;
    }
