-- Marking numbers in closing order, so of what is laid on the way only the digests of earlier numbers count.
use Rattle.std.proofs.Common.{◌≡◌, ℕ, zero, suc, ◌+◌, List, [], ◌∷◌, ◌++◌, Bool, None, Option, Some, arith, decimal, false, length, length-append, refl, subst, true, ◌∙◌}
use Rattle.claim_tree.specs.Tree.{Elements, Members, Text, Tree, array, element, leaf, member, no_elements, no_members, object}
use Rattle.marked_tree.specs.Marked.{Marked, MarkedElements, MarkedMembers, marked_array, marked_element, marked_leaf, marked_member, marked_object, no_marked_elements, no_marked_members}
use Rattle.marked_tree.specs.Ways.{elements_weight, mark_weight, members_weight, weight}
use Rattle.marked_tree.specs.Paths.{Path, below, hidden_in, is_among, mark_elements, mark_from, mark_if, mark_members, one_if}
use Rattle.issuer_core.specs.Closing.{ClosesFrom, ElementsClose, HasNumber, MembersClose, one}
use Rattle.issuer_core.specs.Digests.{hidden_of, marked_claims}
use Rattle.issuer_core.specs.Laid.{laid_elements, laid_given, laid_members, lay, own_given}
use Rattle.issuer_core.specs.Order.{Order}
use Rattle.marked_tree.proofs.MarkFacts.{range_sum, weighs}

range_one : (n c : ℕ) → range_sum one n c ≡ c
range_one n zero = refl
range_one n (suc c) = omega (arith, range_one (suc n) c)

pub marks_marked : (h : Path → Bool) (n : ℕ) (t : Tree) → weight one (mark_from h n t) ≡ hidden_in h t
marks_marked h n t = weighs one h n t ∙ range_one n (hidden_in h t)

own_marked : (b : Bool) (k : ℕ) → mark_weight one (mark_if b k) ≡ one_if b
own_marked true k = refl
own_marked false k = refl

is_mark : (b : Bool) (n a c : ℕ) → c ≡ a → HasNumber (mark_if b (n + a)) (n + c)
is_mark true n a c e = omega (arith, e)
is_mark false n a c e = tt

next : (b : Bool) (n a c : ℕ) → c ≡ a → n + (a + one_if b) ≡ n + (mark_weight one (mark_if b (n + a)) + c)
next b n a c e = omega (arith, e, own_marked b (n + a))

mutual
  pub marked_closes : (h : Path → Bool) (n : ℕ) (t : Tree) → ClosesFrom n (mark_from h n t)
  marked_closes h n (leaf l) = tt
  marked_closes h n (array es) = elements_close h n 0 es
  marked_closes h n (object ms) = members_close h n ms

  elements_close : (h : Path → Bool) (n i : ℕ) (es : Elements) → ElementsClose n (mark_elements h n i es)
  elements_close h n i no_elements = tt
  elements_close h n i (element t es) =
      let a = hidden_in (below (decimal i) h) t in
      let b = h (decimal i ∷ []) in
      let c = weight one (mark_from (below (decimal i) h) n t) in
      let e : c ≡ a = marks_marked (below (decimal i) h) n t in
      let rest = mark_elements h (n + (a + one_if b)) (suc i) es in
      (marked_closes (below (decimal i) h) n t, is_mark b n a c e, subst (λ z. ElementsClose z rest) (next b n a c e) (elements_close h (n + (a + one_if b)) (suc i) es))

  members_close : (h : Path → Bool) (n : ℕ) (ms : Members) → MembersClose n (mark_members h n ms)
  members_close h n no_members = tt
  members_close h n (member k t ms) =
      let a = hidden_in (below k h) t in
      let b = h (k ∷ []) in
      let c = weight one (mark_from (below k h) n t) in
      let e : c ≡ a = marks_marked (below k h) n t in
      let rest = mark_members h (n + (a + one_if b)) ms in
      (marked_closes (below k h) n t, is_mark b n a c e, subst (λ z. MembersClose z rest) (next b n a c e) (members_close h (n + (a + one_if b)) ms))

pub order_closes : (o : Order) → ClosesFrom 0 (marked_claims o)
order_closes o = marked_closes (is_among o.hide) 0 o.payload

pub order_marks : (o : Order) → weight one (marked_claims o) ≡ hidden_of o
order_marks o = marks_marked (is_among o.hide) 0 o.payload

-- ---- so many disclosures there are

pub own_items_length : (dg : ℕ → Text) (name : Option Text) (k : Option ℕ) (v : Tree) → length (own_given dg name k v) ≡ mark_weight one k
own_items_length dg name None v = refl
own_items_length dg name (Some k) v = refl

mutual
  pub items_length : (dec : Path → List Text) (dg : ℕ → Text) (m : Marked) → length (laid_given dec dg m) ≡ weight one m
  items_length dec dg (marked_leaf l) = refl
  items_length dec dg (marked_array es) = elements_length dec dg 0 es
  items_length dec dg (marked_object ms) = members_length dec dg ms

  pub elements_length : (dec : Path → List Text) (dg : ℕ → Text) (i : ℕ) (es : MarkedElements) → length (laid_elements dec dg i es) ≡ elements_weight one es
  elements_length dec dg i no_marked_elements = refl
  elements_length dec dg i (marked_element k t es) =
      let s : Path → List Text = λ q. dec (decimal i ∷ q) in
      let xs = laid_given s dg t in
      let own = own_given dg None k (lay s dg t) in
      let ys = laid_elements dec dg (suc i) es in
      omega (arith, length-append (xs ++ own) ys, length-append xs own, items_length s dg t, own_items_length dg None k (lay s dg t), elements_length dec dg (suc i) es)

  pub members_length : (dec : Path → List Text) (dg : ℕ → Text) (ms : MarkedMembers) → length (laid_members dec dg ms) ≡ members_weight one ms
  members_length dec dg no_marked_members = refl
  members_length dec dg (marked_member name k t ms) =
      let s : Path → List Text = λ q. dec (name ∷ q) in
      let xs = laid_given s dg t in
      let own = own_given dg (Some name) k (lay s dg t) in
      let ys = laid_members dec dg ms in
      omega (arith, length-append (xs ++ own) ys, length-append xs own, items_length s dg t, own_items_length dg (Some name) k (lay s dg t), members_length dec dg ms)
