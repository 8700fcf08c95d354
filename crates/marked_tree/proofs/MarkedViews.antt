-- What the calls of a list and of a map do, seen as elements and as members.
use Rattle.std.proofs.Common.{◌≡◌, ℕ, zero, suc, ◌<◌, ◌≤◌, List, [], ◌∷◌, ◌++◌, length, Option, Some, None, get_or, refl, sym, ap, subst, arith}
use Rattle.claim_tree.specs.Tree.{Text, element, IsOrdered, ElementsOrdered}
use Rattle.claim_tree.specs.TreeCalls.{pushed}
use Rattle.claim_tree.proofs.Views.{ordered-pushed}
use Rattle.marked_tree.specs.Marked as spec
use Rattle.marked_tree.specs.Marked.{MarkedElements, marked_element, no_marked_elements, strip, strip_elements}
use Rattle.marked_tree.specs.MarkedCalls.{marked_elements_len, marked_element_at, marked_pushed, marked_members_len, marked_member_at}
use Rattle.marked_tree.specs.declared.marked.Marked.{Marked}
use Rattle.marked_tree.specs.View.{marked_of, marked_elements_of, marked_members_of}

abbrev pub Element : Type 0
Element = Option ℕ × Marked

abbrev pub Entry : Type 0
Entry = Text × Option ℕ × Marked

-- ---- arrays

pub marked_elements_of-push : (es : List Element) (i : Option ℕ) (t : Marked) → marked_elements_of (es ++ (i, t) ∷ []) ≡ marked_pushed (marked_elements_of es) i (marked_of t)
marked_elements_of-push [] i t = refl
marked_elements_of-push (e ∷ es) i t = ap (marked_element e.0 (marked_of e.1)) (marked_elements_of-push es i t)

pub marked_elements_len-of : (es : List Element) → marked_elements_len (marked_elements_of es) ≡ length es
marked_elements_len-of [] = refl
marked_elements_len-of (e ∷ es) = ap suc (marked_elements_len-of es)

pub strip-pushed : (es : MarkedElements) (i : Option ℕ) (t : spec.Marked) → strip_elements (marked_pushed es i t) ≡ pushed (strip_elements es) (strip t)
strip-pushed no_marked_elements i t = refl
strip-pushed (marked_element j u es) i t = ap (element (strip u)) (strip-pushed es i t)

pub ordered-marked_pushed : (es : MarkedElements) (i : Option ℕ) (t : spec.Marked) → ElementsOrdered (strip_elements es) → IsOrdered (strip t) → ElementsOrdered (strip_elements (marked_pushed es i t))
ordered-marked_pushed es i t o p = subst ElementsOrdered (sym (strip-pushed es i t)) (ordered-pushed (strip_elements es) (strip t) o p)

pub element_at-past : (es : List Element) (i : ℕ) → length es ≤ i → marked_element_at (marked_elements_of es) i ≡ None
element_at-past [] i h = refl
element_at-past (e ∷ es) zero h = absurd (omega arith)
element_at-past (e ∷ es) (suc i) h = element_at-past es i (omega arith)

pub element_at-there : (es : List Element) (i : ℕ) (d : Element) → i < length es → marked_element_at (marked_elements_of es) i ≡ Some ((get_or es i d).0, marked_of (get_or es i d).1)
element_at-there [] i d h = absurd (omega arith)
element_at-there (e ∷ es) zero d h = refl
element_at-there (e ∷ es) (suc i) d h = element_at-there es i d (omega arith)

-- ---- objects

pub marked_members_len-of : (ms : List Entry) → marked_members_len (marked_members_of ms) ≡ length ms
marked_members_len-of [] = refl
marked_members_len-of (m ∷ ms) = ap suc (marked_members_len-of ms)

pub member_at-past : (ms : List Entry) (i : ℕ) → length ms ≤ i → marked_member_at (marked_members_of ms) i ≡ None
member_at-past [] i h = refl
member_at-past (m ∷ ms) zero h = absurd (omega arith)
member_at-past (m ∷ ms) (suc i) h = member_at-past ms i (omega arith)

pub member_at-there : (ms : List Entry) (i : ℕ) (d : Entry) → i < length ms → marked_member_at (marked_members_of ms) i ≡ Some ((get_or ms i d).0, (get_or ms i d).1, marked_of (get_or ms i d).2)
member_at-there [] i d h = absurd (omega arith)
member_at-there (m ∷ ms) zero d h = refl
member_at-there (m ∷ ms) (suc i) d h = member_at-there ms i d (omega arith)

-- ---- what a call cites that looks up

pub ruleset looked_up = (marked_elements_len-of, element_at-past, element_at-there, marked_members_len-of, member_at-past, member_at-there)
