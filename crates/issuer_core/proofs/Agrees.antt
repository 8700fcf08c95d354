-- What is laid depends on the decoys at each place, and on the digests of the marks in it alone.
use Rattle.std.proofs.Common.{◌≡◌, ℕ, suc, List, [], ◌∷◌, ◌++◌, None, Option, Some, ap, ap₂, decimal, refl}
use Rattle.claim_tree.specs.Tree.{Elements, Members, Text, Tree, array, element, member, object}
use Rattle.digest_sites.specs.Given.{Given}
use Rattle.marked_tree.specs.Marked.{Marked, MarkedElements, MarkedMembers, marked_array, marked_element, marked_leaf, marked_member, marked_object, no_marked_elements, no_marked_members}
use Rattle.marked_tree.specs.Paths.{Path}
use Rattle.issuer_core.specs.Laid.{digest_elements, digest_object, hidden_digests, laid_elements, laid_given, laid_members, lay, lay_elements, lay_members, own_given, sorted, with_sd}

abbrev pub MarkAgrees : (ℕ → Text) → (ℕ → Text) → Option ℕ → Type 0
MarkAgrees dg dh None = Unit {0}
MarkAgrees dg dh (Some k) = dg k ≡ dh k

-- the digests of each mark are the same
abbrev mutual
  pub MarksAgree : (ℕ → Text) → (ℕ → Text) → Marked → Type 0
  MarksAgree dg dh (marked_leaf l) = Unit {0}
  MarksAgree dg dh (marked_array es) = ElementsAgree dg dh es
  MarksAgree dg dh (marked_object ms) = MembersAgree dg dh ms

  pub ElementsAgree : (ℕ → Text) → (ℕ → Text) → MarkedElements → Type 0
  ElementsAgree dg dh no_marked_elements = Unit {0}
  ElementsAgree dg dh (marked_element k t es) = MarkAgrees dg dh k × MarksAgree dg dh t × ElementsAgree dg dh es

  pub MembersAgree : (ℕ → Text) → (ℕ → Text) → MarkedMembers → Type 0
  MembersAgree dg dh no_marked_members = Unit {0}
  MembersAgree dg dh (marked_member name k t ms) = MarkAgrees dg dh k × MarksAgree dg dh t × MembersAgree dg dh ms

-- the decoys at each place are the same
abbrev pub DecoysAgree : (Path → List Text) → (Path → List Text) → Type 0
DecoysAgree dec ded = (q : Path) → dec q ≡ ded q

below_agrees : (dec ded : Path → List Text) (k : Text) → DecoysAgree dec ded → DecoysAgree (λ q. dec (k ∷ q)) (λ q. ded (k ∷ q))
below_agrees dec ded k e q = e (k ∷ q)

module _ (dg dh : ℕ → Text) where
  hidden_agree : (ms : MarkedMembers) → MembersAgree dg dh ms → hidden_digests dg ms ≡ hidden_digests dh ms
  hidden_agree no_marked_members a = refl
  hidden_agree (marked_member name None t ms) a = hidden_agree ms a.2
  hidden_agree (marked_member name (Some k) t ms) a = ap₂ (λ (d : Text) (ds : List Text). d ∷ ds) a.0 (hidden_agree ms a.2)

  mutual
    pub lay_agrees : (dec ded : Path → List Text) → DecoysAgree dec ded → (m : Marked) → MarksAgree dg dh m → lay dec dg m ≡ lay ded dh m
    lay_agrees dec ded e (marked_leaf l) a = refl
    lay_agrees dec ded e (marked_array es) a = ap array (elements_agree dec ded e 0 es a)
    lay_agrees dec ded e (marked_object ms) a =
        ap object
        (ap₂ (λ (ds : List Text) (us : Members). with_sd (sorted ds) us) (ap₂ (λ (xs ys : List Text). xs ++ ys) (hidden_agree ms a) (e [])) (members_agree dec ded e ms a))

    pub elements_agree : (dec ded : Path → List Text) → DecoysAgree dec ded → (i : ℕ) (es : MarkedElements) → ElementsAgree dg dh es → lay_elements dec dg i es ≡ lay_elements ded dh i es
    elements_agree dec ded e i no_marked_elements a = ap digest_elements (e [])
    elements_agree dec ded e i (marked_element None t es) a =
        ap₂ element (lay_agrees (λ q. dec (decimal i ∷ q)) (λ q. ded (decimal i ∷ q)) (below_agrees dec ded (decimal i) e) t a.1) (elements_agree dec ded e (suc i) es a.2)
    elements_agree dec ded e i (marked_element (Some k) t es) a = ap₂ (λ (d : Text) (us : Elements). element (digest_object d) us) a.0 (elements_agree dec ded e (suc i) es a.2)

    pub members_agree : (dec ded : Path → List Text) → DecoysAgree dec ded → (ms : MarkedMembers) → MembersAgree dg dh ms → lay_members dec dg ms ≡ lay_members ded dh ms
    members_agree dec ded e no_marked_members a = refl
    members_agree dec ded e (marked_member name None t ms) a =
        ap₂ (member name) (lay_agrees (λ q. dec (name ∷ q)) (λ q. ded (name ∷ q)) (below_agrees dec ded name e) t a.1) (members_agree dec ded e ms a.2)
    members_agree dec ded e (marked_member name (Some k) t ms) a = members_agree dec ded e ms a.2

  own_agrees : (name : Option Text) (k : Option ℕ) (v u : Tree) → MarkAgrees dg dh k → v ≡ u → own_given dg name k v ≡ own_given dh name k u
  own_agrees name None v u a e = refl
  own_agrees name (Some k) v u a e = ap₂ (λ (d : Text) (t : Tree). own d t) a e
    where
      own : Text → Tree → List Given
      own d t = record { digest = d; name = name; value = t } ∷ []

  item_agrees : (xs us : List Given) (name : Option Text) (k : Option ℕ) (v u : Tree) (ys ws : List Given) → xs ≡ us → MarkAgrees dg dh k → v ≡ u → ys ≡ ws
      → (xs ++ own_given dg name k v) ++ ys ≡ (us ++ own_given dh name k u) ++ ws
  item_agrees xs us name k v u ys ws x a e y =
      ap₂ (λ (ps qs : List Given). ps ++ qs) (ap₂ (λ (ps qs : List Given). ps ++ qs) x (own_agrees name k v u a e)) y

  mutual
    pub items_agree : (dec ded : Path → List Text) → DecoysAgree dec ded → (m : Marked) → MarksAgree dg dh m → laid_given dec dg m ≡ laid_given ded dh m
    items_agree dec ded e (marked_leaf l) a = refl
    items_agree dec ded e (marked_array es) a = element_items_agree dec ded e 0 es a
    items_agree dec ded e (marked_object ms) a = member_items_agree dec ded e ms a

    pub element_items_agree : (dec ded : Path → List Text) → DecoysAgree dec ded → (i : ℕ) (es : MarkedElements) → ElementsAgree dg dh es → laid_elements dec dg i es ≡ laid_elements ded dh i es
    element_items_agree dec ded e i no_marked_elements a = refl
    element_items_agree dec ded e i (marked_element k t es) a =
        let x : Path → List Text = λ q. dec (decimal i ∷ q) in
        let y : Path → List Text = λ q. ded (decimal i ∷ q) in
        let b = below_agrees dec ded (decimal i) e in
        item_agrees (laid_given x dg t) (laid_given y dh t) None k (lay x dg t) (lay y dh t) (laid_elements dec dg (suc i) es) (laid_elements ded dh (suc i) es)
        (items_agree x y b t a.1) a.0 (lay_agrees x y b t a.1) (element_items_agree dec ded e (suc i) es a.2)

    pub member_items_agree : (dec ded : Path → List Text) → DecoysAgree dec ded → (ms : MarkedMembers) → MembersAgree dg dh ms → laid_members dec dg ms ≡ laid_members ded dh ms
    member_items_agree dec ded e no_marked_members a = refl
    member_items_agree dec ded e (marked_member name k t ms) a =
        let x : Path → List Text = λ q. dec (name ∷ q) in
        let y : Path → List Text = λ q. ded (name ∷ q) in
        let b = below_agrees dec ded name e in
        item_agrees (laid_given x dg t) (laid_given y dh t) (Some name) k (lay x dg t) (lay y dh t) (laid_members dec dg ms) (laid_members ded dh ms)
        (items_agree x y b t a.1) a.0 (lay_agrees x y b t a.1) (member_items_agree dec ded e ms a.2)
