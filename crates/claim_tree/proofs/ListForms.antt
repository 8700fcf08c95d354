-- Lists of values, element by element.
use Rattle.std.proofs.Common.{◌≡◌, ◌≢◌, ℕ, zero, suc, ◌+◌, ◌<◌, List, [], ◌∷◌, ◌++◌, length, get_or, take, refl, sym, ap, subst, ◌∙◌, arith}
use Rattle.claim_tree.specs.Tree as spec
use Rattle.claim_tree.specs.Tree.{Text, leaf, text, array, Elements, no_elements, element}
use Rattle.claim_tree.specs.TreeCalls.{pushed}
use Rattle.claim_tree.specs.Path.{pointer_text}
use Rattle.claim_tree.specs.PointerRefusals.{IsNoPointer}
use Rattle.claim_tree.specs.View.{tree_of}
use Rattle.claim_tree.specs.ListViews.{elements_of}
use Rattle.claim_tree.specs.declared.tree.Tree as tree
use Rattle.claim_tree.proofs.TreeValues.{list_inside, SaysOne}
use Rattle.claim_tree.proofs.PointerTexts.{pointer_text-injective, no_path}
use Rattle.claim_tree.proofs.Walks.{elements_turn}
use Rattle.claim_tree.specs.TreeValues.{HasValue, EachSays, IsListOf, IsPointer}

module _ {X : Type 0} (Is : spec.Tree → X → Type 0) where
  -- a tree that is no list
  pub other_than_list : (t : tree.Tree) → ((es : Elements) → t ≢ tree.Tree.List es) → HasValue (IsListOf Is) (tree_of t) → ⊥
  other_than_list t other h = other h.1.elements (list_inside t h.1.elements h.1.is)

  -- a list of which an element says nothing
  pub list_without : (t : tree.Tree) (es : Elements) → t ≡ tree.Tree.List es → ((xs : List X) → EachSays Is es xs → ⊥) → HasValue (IsListOf Is) (tree_of t) → ⊥
  list_without t es is none h =
      let both : array es ≡ array h.1.elements = sym (ap tree_of is) ∙ h.1.is in
      let same : es ≡ h.1.elements = cc both in
      none h.0 (subst (λ us. EachSays Is us h.0) (sym same) h.1.each)

  says_there : (ts : List tree.Tree) (xs : List X) (i : ℕ) (d : tree.Tree) → i < length ts → EachSays Is (elements_of ts) xs → HasValue Is (tree_of (get_or ts i d))
  says_there [] xs i d within h = absurd (omega arith)
  says_there (t ∷ ts) [] i d within h = absurd h
  says_there (t ∷ ts) (x ∷ xs) zero d within h = (x, h.0)
  says_there (t ∷ ts) (x ∷ xs) (suc i) d within h = says_there ts xs i d (omega arith) h.1

  -- an element that says nothing
  pub no_element : (ts : List tree.Tree) (i : ℕ) (t : tree.Tree) → i < length ts → t ≡ get_or ts i t → (HasValue Is (tree_of t) → ⊥) → (xs : List X) → EachSays Is (elements_of ts) xs → ⊥
  no_element ts i t within is none xs h = none (subst (λ u. HasValue Is (tree_of u)) (sym is) (says_there ts xs i t within h))

  each_pushed : (es : Elements) (xs : List X) (t : spec.Tree) (x : X) → EachSays Is es xs → Is t x → EachSays Is (pushed es t) (xs ++ x ∷ [])
  each_pushed no_elements [] t x h k = (k, tt)
  each_pushed no_elements (y ∷ xs) t x h k = absurd h
  each_pushed (element u es) [] t x h k = absurd h
  each_pushed (element u es) (y ∷ xs) t x h k = (h.0, each_pushed es xs t x h.1 k)

  -- one element more
  pub each_turn : (ts : List tree.Tree) (i : ℕ) (t : tree.Tree) (xs : List X) (x : X) → i < length ts → t ≡ get_or ts i t → EachSays Is (elements_of (take i ts)) xs → Is (tree_of t) x
      → EachSays Is (elements_of (take (i + 1) ts)) (xs ++ x ∷ [])
  each_turn ts i t xs x within is h k = rw (elements_turn ts i t within is) (each_pushed (elements_of (take i ts)) xs (tree_of t) x h k)

  each_one : SaysOne Is → (es : Elements) (xs ys : List X) → EachSays Is es xs → EachSays Is es ys → xs ≡ ys
  each_one one no_elements [] [] h k = refl
  each_one one no_elements [] (y ∷ ys) h k = absurd k
  each_one one no_elements (x ∷ xs) ys h k = absurd h
  each_one one (element t es) [] ys h k = absurd h
  each_one one (element t es) (x ∷ xs) [] h k = absurd k
  each_one one (element t es) (x ∷ xs) (y ∷ ys) h k = ap (λ z. z ∷ xs) (one t x y h.0 k.0) ∙ ap (λ zs. y ∷ zs) (each_one one es xs ys h.1 k.1)

  pub one_list : SaysOne Is → SaysOne (IsListOf Is)
  one_list one t xs ys h k =
      let both : array h.elements ≡ array k.elements = sym h.is ∙ k.is in
      let same : h.elements ≡ k.elements = cc both in
      each_one one k.elements xs ys (subst (λ es. EachSays Is es xs) same h.each) k.each

-- ---- pointers

pub one_pointer : SaysOne IsPointer
one_pointer t p q h k =
    let both : leaf (text (pointer_text p)) ≡ leaf (text (pointer_text q)) = sym h ∙ k in
    let same : pointer_text p ≡ pointer_text q = cc both in
    pointer_text-injective p q same

pub odd_pointer : (t : tree.Tree) (s : Text) → t ≡ tree.Tree.Text s → IsNoPointer s → HasValue IsPointer (tree_of t) → ⊥
odd_pointer t s is none h =
    let both : leaf (text s) ≡ leaf (text (pointer_text h.0)) = sym (ap tree_of is) ∙ h.1 in
    let same : s ≡ pointer_text h.0 = cc both in
    no_path s h.0 none same
