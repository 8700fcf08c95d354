-- One element more of a list that is laid.
use Rattle.std.proofs.Common.{◌≡◌, ℕ, suc, ◌+◌, ◌≤◌, List, [], ◌∷◌, ◌++◌, length, map, drop, get_or, ◌<◌, append-nil, Option, None, Some, decimal, refl, sym, ap, subst, ◌∙◌, arith}
use Rattle.std.proofs.lemmas.List.{drop_more}
use Rattle.claim_tree.specs.TreeValues.{text_elements}
use Rattle.claim_tree.specs.Tree.{Text, text, leaf, Tree, Elements, no_elements, element, elements_len, elements_depth}
use Rattle.claim_tree.specs.TreeCalls.{pushed}
use Rattle.claim_tree.specs.Nodes.{elements_nodes}
use Rattle.claim_tree.specs.View.{tree_of}
use Rattle.claim_tree.specs.declared.tree.Tree as code
use Rattle.digest_sites.specs.Given.{Given}
use Rattle.disclosure.specs.Digest.{digest_of}
use Rattle.marked_tree.specs.Marked.{Marked, MarkedElements, marked_element, no_marked_elements, strip_elements}
use Rattle.marked_tree.specs.Ways.{weight, elements_weight, mark_weight}
use Rattle.marked_tree.specs.Paths.{Path}
use Rattle.issuer_core.specs.Laid.{digest_object, digest_elements, laid_given, laid_elements, own_given, lay, lay_elements}
use Rattle.issuer_core.specs.Digests.{made_texts}
use Rattle.issuer_core.specs.Laying.{digest_at, salted, elements_joined, placed_at, DecoysTell, IsLaidNode}
use Rattle.issuer_core.specs.Closing.{one, ElementsClose}
use Rattle.issuer_core.specs.declared.decoys.Decoys.{Decoys}
use Rattle.issuer_core.specs.declared.laying.Hiding.{Hiding}
use Rattle.issuer_core.specs.declared.laying.LaidNode.{LaidNode}
use Rattle.issuer_core.proofs.LayingSteps.{grown, behind, IsMade}

pub joined_pushed : (es : Elements) (t : Tree) (rest : Elements) → elements_joined (pushed es t) rest ≡ elements_joined es (element t rest)
joined_pushed no_elements t rest = refl
joined_pushed (element u es) t rest = ap (element u) (joined_pushed es t rest)

pub joined_none : (es : Elements) → elements_joined es no_elements ≡ es
joined_none no_elements = refl
joined_none (element t es) = ap (element t) (joined_none es)

len_pushed : (es : Elements) (t : Tree) → elements_len (pushed es t) ≡ suc (elements_len es)
len_pushed no_elements t = refl
len_pushed (element u es) t = ap suc (len_pushed es t)

-- what stands for an element
abbrev pub IsElement : (Path → List Text) → (ℕ → Text) → Option ℕ → Marked → Tree → Type 0
IsElement dec dg None m u = u ≡ lay dec dg m
IsElement dec dg (Some k) m u = u ≡ digest_object (dg k)

pub shown_element : (dec : Path → List Text) (dg : ℕ → Text) (k : Option ℕ) (m : Marked) (t : code.Tree) → IsLaidNode dec dg k m (LaidNode.Shown t) → IsElement dec dg k m (tree_of t)
shown_element dec dg None m t p = p
shown_element dec dg (Some k) m t p = elim p [ ]

pub hidden_element : (dec : Path → List Text) (dg : ℕ → Text) (k : Option ℕ) (m : Marked) (d : Text) (u : Tree) → IsLaidNode dec dg k m (LaidNode.Hidden d) → u ≡ digest_object d → IsElement dec dg k m u
hidden_element dec dg None m d u p e = elim p [ ]
hidden_element dec dg (Some k) m d u p e = e ∙ ap digest_object p

element_laid : (dec : Path → List Text) (dg : ℕ → Text) (i : ℕ) (k : Option ℕ) (m : Marked) (es : MarkedElements) (u : Tree) → IsElement (λ at. dec (decimal i ∷ at)) dg k m u
    → element u (lay_elements dec dg (suc i) es) ≡ lay_elements dec dg i (marked_element k m es)
element_laid dec dg i None m es u e = ap (λ (t : Tree). element t (lay_elements dec dg (suc i) es)) e
element_laid dec dg i (Some k) m es u e = ap (λ (t : Tree). element t (lay_elements dec dg (suc i) es)) e

-- what is known where a list is laid up to some of its elements
pub record LaysElements (decoys : Decoys) (hiding : Hiding) (first : List Text) (all : MarkedElements) (laid : Elements) (texts digests : List Text) (left : MarkedElements) : Type 0 where
  pub so_far : (dec : Path → List Text) → DecoysTell decoys dec → (more : List Text)
      → elements_joined laid (lay_elements dec (digest_at hiding.hash (texts ++ more)) (elements_len laid) left) ≡ lay_elements dec (digest_at hiding.hash (texts ++ more)) 0 all
  pub made : (dec : Path → List Text) → DecoysTell decoys dec → (more : List Text)
      → texts ++ made_texts (salted hiding.salts.now) (length texts) (laid_elements dec (digest_at hiding.hash (texts ++ more)) (elements_len laid) left) ≡ first ++ made_texts (salted hiding.salts.now) (length first) (laid_elements dec (digest_at hiding.hash (texts ++ more)) 0 all)
  pub closes : ElementsClose (length texts) left
  pub count : length texts + elements_weight one left ≡ length first + elements_weight one all
  pub digested : digests ≡ map (digest_of hiding.hash) texts
  pub low : elements_depth (strip_elements left) ≤ elements_depth (strip_elements all)
  pub few : elements_nodes (strip_elements left) ≤ elements_nodes (strip_elements all)

module _ (decoys : Decoys) (hiding : Hiding) (first : List Text) (all : MarkedElements) (laid : Elements) (texts digests : List Text) (k : Option ℕ) (m : Marked) (left : MarkedElements)
    (so : LaysElements decoys hiding first all laid texts digests (marked_element k m left))
    (below : Decoys) (step : (at : Path) → placed_at below at ≡ placed_at decoys (decimal (elements_len laid) ∷ at))
    (u : Tree) (texts2 digests2 : List Text)
    (is : (dec : Path → List Text) → DecoysTell below dec → (more : List Text) → IsElement dec (digest_at hiding.hash (texts2 ++ more)) k m u)
    (made : IsMade below hiding None k m texts texts2)
    (count : length texts2 ≡ length texts + (mark_weight one k + weight one m))
    (digested : digests2 ≡ map (digest_of hiding.hash) texts2)
  where
    module _ (dec : Path → List Text) (tells : DecoysTell decoys dec) (more : List Text) where
      abbrev inner : Path → List Text
      inner = λ at. dec (decimal (elements_len laid) ∷ at)

      tells_below : DecoysTell below inner
      tells_below at = step at ∙ tells (decimal (elements_len laid) ∷ at)

      abbrev dg : ℕ → Text
      dg = digest_at hiding.hash (texts2 ++ more)

      abbrev parts : List Given
      parts = laid_given inner dg m ++ own_given dg None k (lay inner dg m)

      abbrev added : List Text
      added = made_texts (salted hiding.salts.now) (length texts) parts

      grows : texts2 ≡ texts ++ added
      grows = made inner tells_below more

      same : texts ++ (added ++ more) ≡ texts2 ++ more
      same = behind texts texts2 added more grows

      further : elements_joined (pushed laid u) (lay_elements dec dg (elements_len (pushed laid u)) left) ≡ lay_elements dec dg 0 all
      further =
          ap (λ i. elements_joined (pushed laid u) (lay_elements dec dg i left)) (len_pushed laid u)
          ∙ (joined_pushed laid u (lay_elements dec dg (suc (elements_len laid)) left)
          ∙ (ap (elements_joined laid) (element_laid dec dg (elements_len laid) k m left u (is inner tells_below more))
          ∙ subst (λ (ts : List Text). elements_joined laid (lay_elements dec (digest_at hiding.hash ts) (elements_len laid) (marked_element k m left)) ≡ lay_elements dec (digest_at hiding.hash ts) 0 all) same (so.so_far dec tells (added ++ more))))

      made_further : texts2 ++ made_texts (salted hiding.salts.now) (length texts2) (laid_elements dec dg (elements_len (pushed laid u)) left) ≡ first ++ made_texts (salted hiding.salts.now) (length first) (laid_elements dec dg 0 all)
      made_further =
          ap (λ i. texts2 ++ made_texts (salted hiding.salts.now) (length texts2) (laid_elements dec dg i left)) (len_pushed laid u)
          ∙ (grown (salted hiding.salts.now) texts texts2 parts (laid_elements dec dg (suc (elements_len laid)) left) grows
          ∙ subst (λ (ts : List Text). texts ++ made_texts (salted hiding.salts.now) (length texts) (laid_elements dec (digest_at hiding.hash ts) (elements_len laid) (marked_element k m left)) ≡ first ++ made_texts (salted hiding.salts.now) (length first) (laid_elements dec (digest_at hiding.hash ts) 0 all)) same (so.made dec tells (added ++ more)))

    pub element_more : LaysElements decoys hiding first all (pushed laid u) texts2 digests2 left
    element_more = record {
      so_far = further;
      made = made_further;
      closes = subst (λ n. ElementsClose n left) (sym count) so.closes.2;
      count = let old = so.count in omega (arith, old, count);
      digested = digested;
      low = let old = so.low in omega (arith, old);
      few = let old = so.few in omega (arith, old);
    }

-- ---- the first and the last

pub elements_start : (decoys : Decoys) (hiding : Hiding) (first digests : List Text) (all : MarkedElements) → ElementsClose (length first) all → digests ≡ map (digest_of hiding.hash) first
    → LaysElements decoys hiding first all no_elements first digests all
elements_start decoys hiding first digests all closes digested = record {
  so_far = λ dec tells more. refl;
  made = λ dec tells more. refl;
  closes = closes;
  count = refl;
  digested = digested;
  low = omega arith;
  few = omega arith;
}

pub elements_end : (decoys : Decoys) (hiding : Hiding) (first texts digests : List Text) (all : MarkedElements) (laid : Elements) → LaysElements decoys hiding first all laid texts digests no_marked_elements
    → (here : List Text) → here ≡ placed_at decoys [] → (dec : Path → List Text) → DecoysTell decoys dec → (more : List Text) → elements_joined laid (digest_elements here) ≡ lay_elements dec (digest_at hiding.hash (texts ++ more)) 0 all
elements_end decoys hiding first texts digests all laid so here e dec tells more = ap (λ (ds : List Text). elements_joined laid (digest_elements ds)) (e ∙ tells []) ∙ so.so_far dec tells more

pub elements_made : (decoys : Decoys) (hiding : Hiding) (first texts digests : List Text) (all : MarkedElements) (laid : Elements) → LaysElements decoys hiding first all laid texts digests no_marked_elements
    → (dec : Path → List Text) → DecoysTell decoys dec → (more : List Text) → texts ≡ first ++ made_texts (salted hiding.salts.now) (length first) (laid_elements dec (digest_at hiding.hash (texts ++ more)) 0 all)
elements_made decoys hiding first texts digests all laid so dec tells more = sym (append-nil texts) ∙ so.made dec tells more

-- ---- digests and texts as elements

pub decoy_more : (laid : Elements) (ds : List Text) (i : ℕ) (d : Text) → i < length ds → d ≡ get_or ds i d → elements_joined (pushed laid (digest_object d)) (digest_elements (drop (i + 1) ds)) ≡ elements_joined laid (digest_elements (drop i ds))
decoy_more laid ds i d within is =
    let there : drop i ds ≡ d ∷ drop (i + 1) ds = drop_more ds i d within ∙ ap (λ (x : Text). x ∷ drop (i + 1) ds) (sym is) in
    joined_pushed laid (digest_object d) (digest_elements (drop (i + 1) ds)) ∙ ap (λ (xs : List Text). elements_joined laid (digest_elements xs)) (sym there)

pub text_more : (list : Elements) (t : Text) (left rest : List Text) → left ≡ t ∷ rest → elements_joined (pushed list (leaf (text t))) (text_elements rest) ≡ elements_joined list (text_elements left)
text_more list t left rest e = joined_pushed list (leaf (text t)) (text_elements rest) ∙ ap (λ (xs : List Text). elements_joined list (text_elements xs)) (sym e)
