-- Marked trees whose names ascend and of which none is reserved.
use Rattle.std.proofs.Common.{◌≡◌, ℕ, suc, ◌+◌, [], ◌∷◌, Bool, ap, decimal, false, refl, subst, sym}
use Rattle.std.specs.Prelude.{bytes_eq}
use Rattle.claim_tree.specs.Tree.{Elements, ElementsOrdered, IsBeforeAll, IsOrdered, Members, MembersOrdered, Tree, array, element, leaf, member, names, no_elements, no_members, object}
use Rattle.digest_sites.specs.Reserved.{dots_name, sd_name}
use Rattle.marked_tree.specs.Marked.{Marked, MarkedElements, MarkedMembers, marked_array, marked_element, marked_leaf, marked_member, marked_object, no_marked_elements, no_marked_members}
use Rattle.marked_tree.specs.MarkedCalls.{marked_names}
use Rattle.marked_tree.specs.Paths.{Path, below, hidden_in, mark_elements, mark_from, mark_members, one_if}
use Rattle.rebuild_core.specs.Free.{HasNoReserved}
use Rattle.rebuild_core.proofs.FreeMembers.{ElementsNoReserved, MembersNoReserved}

-- names ascend, and none is reserved
abbrev mutual
  pub IsPlain : Marked → Type 0
  IsPlain (marked_leaf l) = Unit {0}
  IsPlain (marked_array es) = ElementsPlain es
  IsPlain (marked_object ms) = MembersPlain ms

  pub ElementsPlain : MarkedElements → Type 0
  ElementsPlain no_marked_elements = Unit {0}
  ElementsPlain (marked_element k t es) = IsPlain t × ElementsPlain es

  pub MembersPlain : MarkedMembers → Type 0
  MembersPlain no_marked_members = Unit {0}
  MembersPlain (marked_member k i t ms) =
      (bytes_eq k sd_name ≡ false) × (bytes_eq k dots_name ≡ false) × IsBeforeAll k (marked_names ms) × IsPlain t × MembersPlain ms

pub marked_names_same : (h : Path → Bool) (n : ℕ) (ms : Members) → marked_names (mark_members h n ms) ≡ names ms
marked_names_same h n no_members = refl
marked_names_same h n (member k t ms) = ap (λ ks. k ∷ ks) (marked_names_same h (n + (hidden_in (below k h) t + one_if (h (k ∷ [])))) ms)

mutual
  pub marked_plain : (h : Path → Bool) (n : ℕ) (t : Tree) → IsOrdered t → HasNoReserved t → IsPlain (mark_from h n t)
  marked_plain h n (leaf l) o f = tt
  marked_plain h n (array es) o f = elements_plain h n 0 es o f.1
  marked_plain h n (object ms) o f = members_plain h n ms o f

  elements_plain : (h : Path → Bool) (n i : ℕ) (es : Elements) → ElementsOrdered es → ElementsNoReserved es → ElementsPlain (mark_elements h n i es)
  elements_plain h n i no_elements o f = tt
  elements_plain h n i (element t es) o f = (marked_plain (below (decimal i) h) n t o.0 f.0, elements_plain h (n + (hidden_in (below (decimal i) h) t + one_if (h (decimal i ∷ [])))) (suc i) es o.1 f.1)

  pub members_plain : (h : Path → Bool) (n : ℕ) (ms : Members) → MembersOrdered ms → MembersNoReserved ms → MembersPlain (mark_members h n ms)
  members_plain h n no_members o f = tt
  members_plain h n (member k t ms) o f =
      let n' = n + (hidden_in (below k h) t + one_if (h (k ∷ []))) in
      (f.0.0, f.0.1, subst (IsBeforeAll k) (sym (marked_names_same h n' ms)) o.0, marked_plain (below k h) n t o.1 f.1, members_plain h n' ms o.2 f.2)
