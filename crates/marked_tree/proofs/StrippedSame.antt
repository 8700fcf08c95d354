-- Marked trees and plain ones, element by element and member by member.
use Rattle.std.proofs.Common.{◌≡◌, ℕ, zero, suc, ◌+◌, ◌<◌, ◌≤◌, List, [], ◌∷◌, length, get_or, Some, add-one, refl, sym, ap, ap₂, subst, ◌∙◌, arith}
use Rattle.claim_tree.specs.Tree.{Text, Tree, array, object, Elements, no_elements, element, Members, no_members, member, elements_len, members_len, element_at}
use Rattle.claim_tree.specs.TreeCalls.{member_at}
use Rattle.sd_outside.proofs.Lists.{pair_same}
use Rattle.marked_tree.specs.Marked.{MarkedElements, no_marked_elements, marked_element, MarkedMembers, no_marked_members, marked_member, strip, strip_elements, strip_members}
use Rattle.marked_tree.specs.MarkedCalls.{marked_elements_len, marked_members_len}
use Rattle.marked_tree.specs.View.{marked_of, marked_elements_of, marked_members_of}
use Rattle.marked_tree.proofs.MarkedViews.{Element, Entry}

-- ---- lists and objects that differ

pub lists_differ : (es : MarkedElements) (us : Elements) → (strip_elements es ≡ us → ⊥) → array (strip_elements es) ≡ array us → ⊥
lists_differ es us other same = let inside : strip_elements es ≡ us = cc same in other inside

pub objects_differ : (ms : MarkedMembers) (us : Members) → (strip_members ms ≡ us → ⊥) → object (strip_members ms) ≡ object us → ⊥
objects_differ ms us other same = let inside : strip_members ms ≡ us = cc same in other inside

-- ---- elements

-- the first so many are the same
abbrev pub SameTo : ℕ → List Element → Elements → Type 0
SameTo zero es us = Unit {0}
SameTo (suc k) [] us = Unit {0}
SameTo (suc k) (e ∷ es) no_elements = ⊥
SameTo (suc k) (e ∷ es) (element t us) = (strip (marked_of e.1) ≡ t) × SameTo k es us

more_same : (k : ℕ) (es : List Element) (us : Elements) (d : Element) → k < length es → SameTo k es us → element_at us k ≡ Some (strip (marked_of (get_or es k d).1)) → SameTo (suc k) es us
more_same k [] us d within h is = absurd (omega arith)
more_same zero (e ∷ es) no_elements d within h is = cc is
more_same zero (e ∷ es) (element t us) d within h is = let same : Some t ≡ Some (strip (marked_of e.1)) = is in (sym (cc same), tt)
more_same (suc k) (e ∷ es) no_elements d within h is = absurd h
more_same (suc k) (e ∷ es) (element t us) d within h is = (h.0, more_same k es us d (omega arith) h.1 is)

pub turn_same : (k : ℕ) (es : List Element) (us : Elements) (e : Element) → k < length es → e ≡ get_or es k e → SameTo k es us → element_at us k ≡ Some (strip (marked_of e.1)) → SameTo (k + 1) es us
turn_same k es us e within is h there =
    rw add-one (more_same k es us e within h (subst (λ (d : Element). element_at us k ≡ Some (strip (marked_of d.1))) is there))

pub all_same : (k : ℕ) (es : List Element) (us : Elements) → length es ≤ k → marked_elements_len (marked_elements_of es) ≡ elements_len us → SameTo k es us → strip_elements (marked_elements_of es) ≡ us
all_same k [] no_elements done len h = refl
all_same k [] (element t us) done len h = absurd (omega (arith, len))
all_same zero (e ∷ es) us done len h = absurd (omega arith)
all_same (suc k) (e ∷ es) no_elements done len h = absurd h
all_same (suc k) (e ∷ es) (element t us) done len h = ap₂ element h.0 (all_same k es us (omega arith) (omega (arith, len)) h.1)

there_same : (k : ℕ) (es : List Element) (us : Elements) (d : Element) → k < length es → strip_elements (marked_elements_of es) ≡ us → element_at us k ≡ Some (strip (marked_of (get_or es k d).1))
there_same k es us d within same = subst (λ (vs : Elements). element_at vs k ≡ Some (strip (marked_of (get_or es k d).1))) same (go k es within)
  where
    go : (n : ℕ) (xs : List Element) → n < length xs → element_at (strip_elements (marked_elements_of xs)) n ≡ Some (strip (marked_of (get_or xs n d).1))
    go n [] within = absurd (omega arith)
    go zero (x ∷ xs) within = refl
    go (suc n) (x ∷ xs) within = go n xs (omega arith)

-- a list that is read at a place, where the other has what differs
pub differs_there : (k : ℕ) (es : List Element) (us : Elements) (e : Element) (list : MarkedElements) → k < length es → e ≡ get_or es k e → marked_elements_of es ≡ list
    → (element_at us k ≡ Some (strip (marked_of e.1)) → ⊥) → array (strip_elements list) ≡ array us → ⊥
differs_there k es us e list within is held other =
    lists_differ list us
    (subst (λ (vs : MarkedElements). strip_elements vs ≡ us → ⊥) held
    (λ same. other (subst (λ (d : Element). element_at us k ≡ Some (strip (marked_of d.1))) (sym is) (there_same k es us e within same))))

-- ---- members

abbrev pub SameMembersTo : ℕ → List Entry → Members → Type 0
SameMembersTo zero ms us = Unit {0}
SameMembersTo (suc k) [] us = Unit {0}
SameMembersTo (suc k) (m ∷ ms) no_members = ⊥
SameMembersTo (suc k) (m ∷ ms) (member name t us) = (m.0 ≡ name) × (strip (marked_of m.2) ≡ t) × SameMembersTo k ms us

more_same_members : (k : ℕ) (ms : List Entry) (us : Members) (d : Entry) → k < length ms → SameMembersTo k ms us → member_at us k ≡ Some ((get_or ms k d).0, strip (marked_of (get_or ms k d).2)) → SameMembersTo (suc k) ms us
more_same_members k [] us d within h is = absurd (omega arith)
more_same_members zero (m ∷ ms) no_members d within h is = cc is
more_same_members zero (m ∷ ms) (member name t us) d within h is = let same = pair_same name m.0 t (strip (marked_of m.2)) is in (sym same.0, sym same.1, tt)
more_same_members (suc k) (m ∷ ms) no_members d within h is = absurd h
more_same_members (suc k) (m ∷ ms) (member name t us) d within h is = (h.0, h.1, more_same_members k ms us d (omega arith) h.2 is)

pub turn_same_members : (k : ℕ) (ms : List Entry) (us : Members) (m : Entry) → k < length ms → m ≡ get_or ms k m → SameMembersTo k ms us → member_at us k ≡ Some (m.0, strip (marked_of m.2)) → SameMembersTo (k + 1) ms us
turn_same_members k ms us m within is h there =
    rw add-one (more_same_members k ms us m within h (subst (λ (d : Entry). member_at us k ≡ Some (d.0, strip (marked_of d.2))) is there))

pub all_same_members : (k : ℕ) (ms : List Entry) (us : Members) → length ms ≤ k → marked_members_len (marked_members_of ms) ≡ members_len us → SameMembersTo k ms us → strip_members (marked_members_of ms) ≡ us
all_same_members k [] no_members done len h = refl
all_same_members k [] (member name t us) done len h = absurd (omega (arith, len))
all_same_members zero (m ∷ ms) us done len h = absurd (omega arith)
all_same_members (suc k) (m ∷ ms) no_members done len h = absurd h
all_same_members (suc k) (m ∷ ms) (member name t us) done len h =
    ap₂ (λ (n : Text) (u : Tree). member n u (strip_members (marked_members_of ms))) h.0 h.1 ∙ ap (member name t) (all_same_members k ms us (omega arith) (omega (arith, len)) h.2)

there_same_members : (k : ℕ) (ms : List Entry) (us : Members) (d : Entry) → k < length ms → strip_members (marked_members_of ms) ≡ us → member_at us k ≡ Some ((get_or ms k d).0, strip (marked_of (get_or ms k d).2))
there_same_members k ms us d within same = subst (λ (vs : Members). member_at vs k ≡ Some ((get_or ms k d).0, strip (marked_of (get_or ms k d).2))) same (go k ms within)
  where
    go : (n : ℕ) (xs : List Entry) → n < length xs → member_at (strip_members (marked_members_of xs)) n ≡ Some ((get_or xs n d).0, strip (marked_of (get_or xs n d).2))
    go n [] within = absurd (omega arith)
    go zero (x ∷ xs) within = refl
    go (suc n) (x ∷ xs) within = go n xs (omega arith)

pub differs_there_members : (k : ℕ) (ms : List Entry) (us : Members) (m : Entry) (map : MarkedMembers) → k < length ms → m ≡ get_or ms k m → marked_members_of ms ≡ map
    → (member_at us k ≡ Some (m.0, strip (marked_of m.2)) → ⊥) → object (strip_members map) ≡ object us → ⊥
differs_there_members k ms us m map within is held other =
    objects_differ map us
    (subst (λ (vs : MarkedMembers). strip_members vs ≡ us → ⊥) held
    (λ same. other (subst (λ (d : Entry). member_at us k ≡ Some (d.0, strip (marked_of d.2))) (sym is) (there_same_members k ms us m within same))))

-- ---- lengths

pub elements_stripped_len : (es : MarkedElements) → elements_len (strip_elements es) ≡ marked_elements_len es
elements_stripped_len no_marked_elements = refl
elements_stripped_len (marked_element i t es) = ap suc (elements_stripped_len es)

pub members_stripped_len : (ms : MarkedMembers) → members_len (strip_members ms) ≡ marked_members_len ms
members_stripped_len no_marked_members = refl
members_stripped_len (marked_member name i t ms) = ap suc (members_stripped_len ms)
