-- What the tests of values tell.
use Rattle.std.specs.Prelude.{◌↔◌, IsTrue, not, bytes_eq}
use Rattle.std.proofs.Math.Seq.{take-suc}
use Rattle.std.proofs.Common.{◌≡◌, ◌++◌, ◌⊎◌, inl, inr, take, true, false, ℕ, ◌+◌, ◌<◌, ◌≤◌, List, [], ◌∷◌, length, get_or, Some, add-one, refl, sym, ap, subst, ◌∙◌}
use Rattle.std.proofs.lemmas.Bool.{true_from_ne_false}
use Rattle.claim_tree.specs.Tree.{Text, Tree, Elements, Members, array, object, elements_len, members_len}
use Rattle.sd_outside.specs.Lists.{In}
use Rattle.claim_tree.specs.Path.{tree_at}
use Rattle.claim_tree.specs.View.{tree_of}
use Rattle.sd_outside.proofs.Lists.{At-In, At-get_or, In-append, bytes_same, bytes_refl}
use Rattle.marked_tree.specs.Marked.{MarkedElements, MarkedMembers, strip_elements, strip_members}
use Rattle.marked_tree.specs.MarkedCalls.{marked_elements_len, marked_members_len}
use Rattle.marked_tree.specs.View.{marked_elements_of, marked_members_of}
use Rattle.marked_tree.proofs.MarkedViews.{Element, Entry}
use Rattle.marked_tree.proofs.StrippedSame.{SameTo, SameMembersTo, all_same, all_same_members, lists_differ, objects_differ, elements_stripped_len, members_stripped_len}
use Rattle.wallet_core.specs.Meets.{HasValues}
use Rattle.wallet_core.specs.declared.query.Equal.{Equal}

-- ---- the answer of a test

pub is_not : (P : Type 0) → (P → ⊥) → IsTrue false ↔ P
is_not P none = (λ is. let no = is in cc no, λ h. absurd (none h))

pub is_so : (P : Type 0) → P → IsTrue true ↔ P
is_so P h = (λ _. h, λ _. refl)

-- ---- elements and members of another number

pub elements_other : (list : MarkedElements) (us : Elements) → (marked_elements_len list ≡ elements_len us → ⊥) → IsTrue false ↔ (array (strip_elements list) ≡ array us)
elements_other list us other = is_not _ (lists_differ list us (λ same. other (sym (elements_stripped_len list) ∙ ap elements_len same)))

pub members_other : (map : MarkedMembers) (us : Members) → (marked_members_len map ≡ members_len us → ⊥) → IsTrue false ↔ (object (strip_members map) ≡ object us)
members_other map us other = is_not _ (objects_differ map us (λ same. other (sym (members_stripped_len map) ∙ ap members_len same)))

-- ---- all elements, and all members

pub elements_same : (k : ℕ) (es : List Element) (us : Elements) (list : MarkedElements) → length es ≤ k → marked_elements_of es ≡ list → marked_elements_len list ≡ elements_len us → SameTo k es us
    → array (strip_elements list) ≡ array us
elements_same k es us list done value lens h = ap array (subst (λ (vs : MarkedElements). strip_elements vs ≡ us) value (all_same k es us done (ap marked_elements_len value ∙ lens) h))

pub members_same : (k : ℕ) (ms : List Entry) (us : Members) (map : MarkedMembers) → length ms ≤ k → marked_members_of ms ≡ map → marked_members_len map ≡ members_len us → SameMembersTo k ms us
    → object (strip_members map) ≡ object us
members_same k ms us map done value lens h = ap object (subst (λ (vs : MarkedMembers). strip_members vs ≡ us) value (all_same_members k ms us done (ap marked_members_len value ∙ lens) h))

-- ---- values at their places

pub value_in : (equals : List Equal) (k : ℕ) (one : Equal) → k < length equals → one ≡ get_or equals k one → In one equals
value_in equals k one within is = subst (λ (e : Equal). In e equals) (sym is) (At-In equals k (get_or equals k one) (At-get_or equals k one within))

pub values_more : (payload : Tree) (equals : List Equal) (k : ℕ) (one : Equal) → k < length equals → one ≡ get_or equals k one → HasValues payload (take k equals)
    → tree_at payload one.at ≡ Some (tree_of one.value) → HasValues payload (take (k + 1) equals)
values_more payload equals k one within is before here other among =
    let more : take (k + 1) equals ≡ take k equals ++ (get_or equals k one ∷ []) = rw add-one (take-suc equals k one within) in
    go (In-append other (take k equals) (get_or equals k one ∷ []) (subst (λ (es : List Equal). In other es) more among))
  where
    go : In other (take k equals) ⊎ In other (get_or equals k one ∷ []) → tree_at payload other.at ≡ Some (tree_of other.value)
    go (inl h) = before other h
    go (inr (inl same)) = subst (λ (e : Equal). tree_at payload e.at ≡ Some (tree_of e.value)) (is ∙ sym same) here
    go (inr (inr none)) = absurd none

-- ---- names

pub named_same : (a b : Text) → false ≡ not (bytes_eq a b) → a ≡ b
named_same a b is = bytes_same a b (true_from_ne_false (bytes_eq a b) (λ e. let clash : false ≡ true = is ∙ ap not e in cc clash))

pub named_other : (a b : Text) → true ≡ not (bytes_eq a b) → a ≡ b → ⊥
named_other a b is same = let clash : true ≡ false = is ∙ ap not (bytes_refl a b same) in cc clash
