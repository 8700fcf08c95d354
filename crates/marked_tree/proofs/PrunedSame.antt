-- Marked trees that are pruned under sets with the same members are the same.
use Rattle.std.proofs.Common.{◌≡◌, ℕ, Bool, Option, Some, None, refl, ap, ap₂, ◌∙◌}
use Rattle.std.specs.Prelude.{if◌then◌else◌}
use Rattle.marked_tree.specs.Marked.{Marked, marked_leaf, marked_array, marked_object, MarkedElements, no_marked_elements, marked_element, MarkedMembers, no_marked_members, marked_member, remark_elements, remark_members, new_mark, keep_element, keep_member, kept, prune}

abbrev pub Same : (ℕ → Bool) → (ℕ → Bool) → Type 0
Same s t = (i : ℕ) → s i ≡ t i

keeps_same : (s t : ℕ → Bool) → Same s t → (i : Option ℕ) → new_mark (kept s) i ≡ new_mark (kept t) i
keeps_same s t same None = refl
keeps_same s t same (Some i) = ap (λ (b : Bool). new_mark (λ k. if b then Some k else None) (Some i)) (same i)

mutual
  pub prune_same : (s t : ℕ → Bool) → Same s t → (m : Marked) → prune m s ≡ prune m t
  prune_same s t same (marked_leaf l) = refl
  prune_same s t same (marked_array es) = ap marked_array (prune_elements_same s t same es)
  prune_same s t same (marked_object ms) = ap marked_object (prune_members_same s t same ms)

  prune_elements_same : (s t : ℕ → Bool) → Same s t → (es : MarkedElements) → remark_elements (kept s) es ≡ remark_elements (kept t) es
  prune_elements_same s t same no_marked_elements = refl
  prune_elements_same s t same (marked_element i m es) =
      ap (λ (o : Option (Option ℕ)). keep_element o (prune m s) (remark_elements (kept s) es)) (keeps_same s t same i)
      ∙ ap₂ (λ (n : Marked) (ns : MarkedElements). keep_element (new_mark (kept t) i) n ns) (prune_same s t same m) (prune_elements_same s t same es)

  prune_members_same : (s t : ℕ → Bool) → Same s t → (ms : MarkedMembers) → remark_members (kept s) ms ≡ remark_members (kept t) ms
  prune_members_same s t same no_marked_members = refl
  prune_members_same s t same (marked_member k i m ms) =
      ap (λ (o : Option (Option ℕ)). keep_member k o (prune m s) (remark_members (kept s) ms)) (keeps_same s t same i)
      ∙ ap₂ (λ (n : Marked) (ns : MarkedMembers). keep_member k (new_mark (kept t) i) n ns) (prune_same s t same m) (prune_members_same s t same ms)
