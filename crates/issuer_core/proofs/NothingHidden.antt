-- An order that hides nothing and has no decoys: its payload stays as it is.
use Rattle.std.proofs.Common.{◌≡◌, ℕ, suc, ◌+◌, List, [], ◌∷◌, ◌++◌, Bool, true, false, length, Option, Some, None, decimal, refl, sym, ap, ap₂, ◌∙◌, arith}
use Rattle.std.proofs.lemmas.List.{nil_from_length}
use Rattle.claim_tree.specs.Tree.{Text, Tree, leaf, array, object, Elements, no_elements, element, Members, no_members, member}
use Rattle.marked_tree.specs.Marked.{Marked, MarkedElements, marked_element, MarkedMembers, marked_member}
use Rattle.marked_tree.specs.Paths.{Path, below, hidden_in, hidden_elements, hidden_members, is_among, mark_if, mark_from, mark_elements, mark_members, one_if}
use Rattle.marked_tree.proofs.KeptMembers.{NonePasses}
use Rattle.issuer_core.specs.Order.{Order}
use Rattle.issuer_core.specs.Decoys.{decoys_at, decoys_of, decoy_paths}
use Rattle.issuer_core.specs.Digests.{Maker, hidden_of, marked_claims}
use Rattle.issuer_core.specs.Laid.{lay, lay_elements, lay_members, hidden_digests, laid_given, digest_elements, sorted, with_sd, with_alg, order_decoys}
use Rattle.issuer_core.specs.Laying.{IsLaidFor}
use Rattle.issuer_core.proofs.Closing.{items_length, order_marks}

abbrev HasNone : (Path → List Text) → Type 0
HasNone dec = (p : Path) → dec p ≡ []

unmarked : (b : Bool) (i : ℕ) → b ≡ false → mark_if b i ≡ None
unmarked true i e = cc e
unmarked false i e = refl

-- ---- no marks

mutual
  none_hidden : (h : Path → Bool) → NonePasses h → (t : Tree) → hidden_in h t ≡ 0
  none_hidden h none (leaf l) = refl
  none_hidden h none (array es) = no_elements_hidden h none 0 es
  none_hidden h none (object ms) = no_members_hidden h none ms

  no_elements_hidden : (h : Path → Bool) → NonePasses h → (i : ℕ) (es : Elements) → hidden_elements h i es ≡ 0
  no_elements_hidden h none i no_elements = refl
  no_elements_hidden h none i (element t es) = omega (arith, none_hidden (below (decimal i) h) (λ p. none (decimal i ∷ p)) t, ap one_if (none (decimal i ∷ [])), no_elements_hidden h none (suc i) es)

  no_members_hidden : (h : Path → Bool) → NonePasses h → (ms : Members) → hidden_members h ms ≡ 0
  no_members_hidden h none no_members = refl
  no_members_hidden h none (member k t ms) = omega (arith, none_hidden (below k h) (λ p. none (k ∷ p)) t, ap one_if (none (k ∷ [])), no_members_hidden h none ms)

-- ---- laid as it is

shown_element : (dec : Path → List Text) (dg : ℕ → Text) (i : ℕ) (k : Option ℕ) (m : Marked) (es : MarkedElements) → k ≡ None
    → lay_elements dec dg i (marked_element k m es) ≡ element (lay (λ at. dec (decimal i ∷ at)) dg m) (lay_elements dec dg (suc i) es)
shown_element dec dg i None m es e = refl
shown_element dec dg i (Some k) m es e = cc e

shown_member : (dec : Path → List Text) (dg : ℕ → Text) (name : Text) (k : Option ℕ) (m : Marked) (ms : MarkedMembers) → k ≡ None
    → lay_members dec dg (marked_member name k m ms) ≡ member name (lay (λ at. dec (name ∷ at)) dg m) (lay_members dec dg ms)
shown_member dec dg name None m ms e = refl
shown_member dec dg name (Some k) m ms e = cc e

shown_digests : (dg : ℕ → Text) (name : Text) (k : Option ℕ) (m : Marked) (ms : MarkedMembers) → k ≡ None → hidden_digests dg (marked_member name k m ms) ≡ hidden_digests dg ms
shown_digests dg name None m ms e = refl
shown_digests dg name (Some k) m ms e = cc e

no_digests : (dg : ℕ → Text) (h : Path → Bool) → NonePasses h → (n : ℕ) (ms : Members) → hidden_digests dg (mark_members h n ms) ≡ []
no_digests dg h none n no_members = refl
no_digests dg h none n (member k t ms) =
    let after = n + (hidden_in (below k h) t + one_if (h (k ∷ []))) in
    shown_digests dg k (mark_if (h (k ∷ [])) (n + hidden_in (below k h) t)) (mark_from (below k h) n t) (mark_members h after ms) (unmarked (h (k ∷ [])) (n + hidden_in (below k h) t) (none (k ∷ [])))
    ∙ no_digests dg h none after ms

mutual
  lay_same : (dec : Path → List Text) (dg : ℕ → Text) (h : Path → Bool) → HasNone dec → NonePasses h → (n : ℕ) (t : Tree) → lay dec dg (mark_from h n t) ≡ t
  lay_same dec dg h bare none n (leaf l) = refl
  lay_same dec dg h bare none n (array es) = ap array (elements_same dec dg h bare none n 0 es)
  lay_same dec dg h bare none n (object ms) =
      ap object (ap₂ (λ (ds : List Text) (us : Members). with_sd (sorted ds) us) (ap₂ (λ (xs ys : List Text). xs ++ ys) (no_digests dg h none n ms) (bare [])) (members_same dec dg h bare none n ms))

  elements_same : (dec : Path → List Text) (dg : ℕ → Text) (h : Path → Bool) → HasNone dec → NonePasses h → (n i : ℕ) (es : Elements) → lay_elements dec dg i (mark_elements h n i es) ≡ es
  elements_same dec dg h bare none n i no_elements = ap digest_elements (bare [])
  elements_same dec dg h bare none n i (element t es) =
      let k = decimal i in
      let after = n + (hidden_in (below k h) t + one_if (h (k ∷ []))) in
      shown_element dec dg i (mark_if (h (k ∷ [])) (n + hidden_in (below k h) t)) (mark_from (below k h) n t) (mark_elements h after (suc i) es) (unmarked (h (k ∷ [])) (n + hidden_in (below k h) t) (none (k ∷ [])))
      ∙ ap₂ element (lay_same (λ at. dec (k ∷ at)) dg (below k h) (λ p. bare (k ∷ p)) (λ p. none (k ∷ p)) n t) (elements_same dec dg h bare none after (suc i) es)

  members_same : (dec : Path → List Text) (dg : ℕ → Text) (h : Path → Bool) → HasNone dec → NonePasses h → (n : ℕ) (ms : Members) → lay_members dec dg (mark_members h n ms) ≡ ms
  members_same dec dg h bare none n no_members = refl
  members_same dec dg h bare none n (member k t ms) =
      let after = n + (hidden_in (below k h) t + one_if (h (k ∷ []))) in
      shown_member dec dg k (mark_if (h (k ∷ [])) (n + hidden_in (below k h) t)) (mark_from (below k h) n t) (mark_members h after ms) (unmarked (h (k ∷ [])) (n + hidden_in (below k h) t) (none (k ∷ [])))
      ∙ ap₂ (member k) (lay_same (λ at. dec (k ∷ at)) dg (below k h) (λ p. bare (k ∷ p)) (λ p. none (k ∷ p)) n t) (members_same dec dg h bare none after ms)

-- ---- an order

module _ (mk : Maker) (o : Order) (shown : o.hide ≡ []) (bare : o.decoys ≡ []) where
  abbrev dg : ℕ → Text
  dg k = []

  hides_none : NonePasses (is_among o.hide)
  hides_none p = ap (λ ps. is_among ps p) shown

  no_hidden : hidden_of o ≡ 0
  no_hidden = none_hidden (is_among o.hide) hides_none o.payload

  no_decoys : decoys_of o ≡ []
  no_decoys = ap decoy_paths bare

  none_placed : HasNone (order_decoys o dg)
  none_placed p = ap (λ ds. decoys_at dg (hidden_of o) ds p) no_decoys

  no_items : laid_given (order_decoys o dg) dg (marked_claims o) ≡ []
  no_items = nil_from_length (laid_given (order_decoys o dg) dg (marked_claims o)) (items_length (order_decoys o dg) dg (marked_claims o) ∙ order_marks o ∙ no_hidden)

  -- the payload alone, with the name of the hash
  pub nothing_laid : IsLaidFor mk o (with_alg o.hash o.payload) [] []
  nothing_laid = record {
    laid = o.payload;
    given = [];
    dg = dg;
    is_laid = record {
      payload_laid = sym (lay_same (order_decoys o dg) dg (is_among o.hide) none_placed hides_none 0 o.payload);
      given_laid = sym no_items;
      disclosures = λ k x a. elim a [ ];
      decoys = λ d l. let none = ap length no_decoys in absurd (omega (arith, l, none));
    };
    payload_is = refl;
    texts_are = refl;
    count = let none = ap length no_decoys in omega (arith, none, no_hidden);
    each = λ k d a. elim a [ ];
  }
