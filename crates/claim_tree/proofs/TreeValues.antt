-- What the values of trees are, and that a tree says one.
use Rattle.std.proofs.Common.{◌≡◌, ◌≢◌, ℕ, zero, suc, ◌<◌, pos, List, [], ◌∷◌, ◌++◌, length, get_or, Option, Some, None, refl, sym, ap, subst, ◌∙◌, arith}
use Rattle.claim_tree.specs.Tree as spec
use Rattle.claim_tree.specs.Tree.{Text, leaf, text, whole, array, Elements, element}
use Rattle.claim_tree.specs.TreeCalls.{pushed}
use Rattle.claim_tree.specs.View.{tree_of}
use Rattle.claim_tree.specs.ListViews.{elements_of}
use Rattle.claim_tree.specs.declared.tree.Tree as tree
use Rattle.claim_tree.specs.TreeValues.{IsText, IsTexts, text_elements, IsWholeUpTo, Says, MaySay, SaysOr, HasValue}

-- ---- texts

text_inside : (t : tree.Tree) (s : Text) → tree_of t ≡ leaf (text s) → t ≡ tree.Tree.Text s
text_inside tree.Tree.Null s e = cc e
text_inside (tree.Tree.Flag b) s e = cc e
text_inside (tree.Tree.Whole n) s e = cc e
text_inside (tree.Tree.Text other) s e = let same : other ≡ s = cc e in ap tree.Tree.Text same
text_inside (tree.Tree.List es) s e = cc e
text_inside (tree.Tree.Object ms) s e = cc e

pub no_text : (t : tree.Tree) → ((s : Text) → t ≢ tree.Tree.Text s) → HasValue IsText (tree_of t) → ⊥
no_text t other h = other h.0 (text_inside t h.0 h.1)

pub list_inside : (t : tree.Tree) (es : Elements) → tree_of t ≡ array es → t ≡ tree.Tree.List es
list_inside tree.Tree.Null es e = cc e
list_inside (tree.Tree.Flag b) es e = cc e
list_inside (tree.Tree.Whole n) es e = cc e
list_inside (tree.Tree.Text s) es e = cc e
list_inside (tree.Tree.List other) es e = let same : other ≡ es = cc e in ap tree.Tree.List same
list_inside (tree.Tree.Object ms) es e = cc e

pub no_list : (t : tree.Tree) → ((es : Elements) → t ≢ tree.Tree.List es) → HasValue IsTexts (tree_of t) → ⊥
no_list t other h = other (text_elements h.0) (list_inside t (text_elements h.0) h.1)

-- a list with an element that is no text is no list of texts
pub odd_element : (es : Elements) → ((texts : List Text) → text_elements texts ≢ es) → HasValue IsTexts (array es) → ⊥
odd_element es none h = let same : es ≡ text_elements h.0 = cc h.1 in none h.0 (sym same)

text_there : (ts : List tree.Tree) (texts : List Text) (i : ℕ) (d : tree.Tree) → i < length ts → text_elements texts ≡ elements_of ts → HasValue IsText (tree_of (get_or ts i d))
text_there [] texts i d within e = absurd (omega arith)
text_there (t ∷ ts) [] i d within e = cc e
text_there (t ∷ ts) (s ∷ texts) zero d within e = let same : leaf (text s) ≡ tree_of t = cc e in (s, sym same)
text_there (t ∷ ts) (s ∷ texts) (suc i) d within e = let rest : text_elements texts ≡ elements_of ts = cc e in text_there ts texts i d (omega arith) rest

-- an element that is no text stands in no list of texts
pub no_texts : (ts : List tree.Tree) (i : ℕ) (t : tree.Tree) → i < length ts → t ≡ get_or ts i t → ((s : Text) → t ≢ tree.Tree.Text s) → (texts : List Text) → text_elements texts ≢ elements_of ts
no_texts ts i t within is other texts e = no_text t other (subst (λ u. HasValue IsText (tree_of u)) (sym is) (text_there ts texts i t within e))

-- one text more
pub text_elements-push : (texts : List Text) (s : Text) → text_elements (texts ++ s ∷ []) ≡ pushed (text_elements texts) (leaf (text s))
text_elements-push [] s = refl
text_elements-push (other ∷ texts) s = ap (element (leaf (text other))) (text_elements-push texts s)

-- ---- one value

-- a member says one value, where its form does
abbrev pub SaysOne : {X : Type 0} → (spec.Tree → X → Type 0) → Type 0
SaysOne {X} Is = (t : spec.Tree) (x y : X) → Is t x → Is t y → x ≡ y

pub says_one : {X : Type 0} (Is : spec.Tree → X → Type 0) (o : Option spec.Tree) (x y : X) → SaysOne Is → Says Is o x → Says Is o y → x ≡ y
says_one Is None x y one h k = absurd h
says_one Is (Some t) x y one h k = one t x y h k

pub may_say_one : {X : Type 0} (Is : spec.Tree → X → Type 0) (o : Option spec.Tree) (x y : Option X) → SaysOne Is → MaySay Is o x → MaySay Is o y → x ≡ y
may_say_one Is None None None one h k = refl
may_say_one Is None None (Some y) one h k = absurd k
may_say_one Is None (Some x) y one h k = absurd h
may_say_one Is (Some t) None y one h k = absurd h
may_say_one Is (Some t) (Some x) None one h k = absurd k
may_say_one Is (Some t) (Some x) (Some y) one h k = ap Some (one t x y h k)

pub says_or_one : {X : Type 0} (Is : spec.Tree → X → Type 0) (default : X) (o : Option spec.Tree) (x y : X) → SaysOne Is → SaysOr Is default o x → SaysOr Is default o y → x ≡ y
says_or_one Is default None x y one h k = h ∙ sym k
says_or_one Is default (Some t) x y one h k = one t x y h k

pub one_text : SaysOne IsText
one_text t x y h k = let both : leaf (text x) ≡ leaf (text y) = sym h ∙ k in cc both

pub one_list : (xs ys : List Text) → text_elements xs ≡ text_elements ys → xs ≡ ys
one_list [] [] e = refl
one_list [] (y ∷ ys) e = cc e
one_list (x ∷ xs) [] e = cc e
one_list (x ∷ xs) (y ∷ ys) e =
    let first : x ≡ y = cc e in
    let rest : text_elements xs ≡ text_elements ys = cc e in
    ap (λ z. z ∷ xs) first ∙ ap (λ zs. y ∷ zs) (one_list xs ys rest)

pub one_texts : SaysOne IsTexts
one_texts t x y h k =
    let both : array (text_elements x) ≡ array (text_elements y) = sym h ∙ k in
    let same : text_elements x ≡ text_elements y = cc both in
    one_list x y same

pub one_whole : (most : ℕ) → SaysOne (IsWholeUpTo most)
one_whole most t x y h k =
    let both : leaf (whole (pos x)) ≡ leaf (whole (pos y)) = sym h.is ∙ k.is in
    let same : pos x ≡ pos y = cc both in
    cc same
