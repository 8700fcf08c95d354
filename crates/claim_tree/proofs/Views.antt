-- What the calls of a list and of a map do, seen as elements and as members.
use Rattle.std.proofs.Common.{◌≡◌, ℕ, zero, suc, ◌<◌, ◌≤◌, List, [], ◌∷◌, ◌++◌, length, Some, None, get_or, refl, ap, arith}
use Rattle.claim_tree.specs.Tree as spec
use Rattle.claim_tree.specs.Tree.{Text, Elements, element, no_elements, elements_len, element_at, members_len, IsOrdered, ElementsOrdered}
use Rattle.claim_tree.specs.TreeCalls.{pushed, member_at}
use Rattle.claim_tree.specs.declared.tree.Tree.{Tree}
use Rattle.claim_tree.specs.View.{tree_of}
use Rattle.claim_tree.specs.ListViews.{elements_of, members_of}

-- ---- arrays

pub elements_of-push : (ts : List Tree) (t : Tree) → elements_of (ts ++ t ∷ []) ≡ pushed (elements_of ts) (tree_of t)
elements_of-push [] t = refl
elements_of-push (u ∷ ts) t = ap (element (tree_of u)) (elements_of-push ts t)

pub elements_len-of : (ts : List Tree) → elements_len (elements_of ts) ≡ length ts
elements_len-of [] = refl
elements_len-of (t ∷ ts) = ap suc (elements_len-of ts)

pub ordered-pushed : (es : Elements) (t : spec.Tree) → ElementsOrdered es → IsOrdered t → ElementsOrdered (pushed es t)
ordered-pushed no_elements t o p = (p, tt)
ordered-pushed (element u es) t o p = (o.0, ordered-pushed es t o.1 p)

pub element_at-past : (ts : List Tree) (i : ℕ) → length ts ≤ i → element_at (elements_of ts) i ≡ None
element_at-past [] i h = refl
element_at-past (t ∷ ts) zero h = absurd (omega arith)
element_at-past (t ∷ ts) (suc i) h = element_at-past ts i (omega arith)

pub element_at-there : (ts : List Tree) (i : ℕ) (d : Tree) → i < length ts → element_at (elements_of ts) i ≡ Some (tree_of (get_or ts i d))
element_at-there [] i d h = absurd (omega arith)
element_at-there (t ∷ ts) zero d h = refl
element_at-there (t ∷ ts) (suc i) d h = element_at-there ts i d (omega arith)

-- ---- objects

pub members_len-of : (ms : List (Text × Tree)) → members_len (members_of ms) ≡ length ms
members_len-of [] = refl
members_len-of (m ∷ ms) = ap suc (members_len-of ms)

pub member_at-past : (ms : List (Text × Tree)) (i : ℕ) → length ms ≤ i → member_at (members_of ms) i ≡ None
member_at-past [] i h = refl
member_at-past (m ∷ ms) zero h = absurd (omega arith)
member_at-past (m ∷ ms) (suc i) h = member_at-past ms i (omega arith)

pub member_at-there : (ms : List (Text × Tree)) (i : ℕ) (d : Text × Tree) → i < length ms → member_at (members_of ms) i ≡ Some ((get_or ms i d).0, tree_of (get_or ms i d).1)
member_at-there [] i d h = absurd (omega arith)
member_at-there (m ∷ ms) zero d h = refl
member_at-there (m ∷ ms) (suc i) d h = member_at-there ms i d (omega arith)

-- ---- what a call cites that looks up

pub ruleset looked_up = (elements_len-of, element_at-past, element_at-there, members_len-of, member_at-past, member_at-there)
