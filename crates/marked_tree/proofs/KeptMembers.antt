-- A member inside which nothing is hidden is shown whole, whatever is chosen.
use Rattle.std.proofs.Common.{◌≡◌, ℕ, suc, ◌+◌, List, [], ◌∷◌, Bool, true, false, Option, Some, None, bytes_eq, decimal, refl, sym, ap, ap₂, subst, ◌∙◌}
use Rattle.std.specs.Prelude.{if◌then◌else◌}
use Rattle.claim_tree.specs.Tree.{Text, Tree, leaf, array, object, Elements, no_elements, element, Members, no_members, member, member_named, get}
use Rattle.sd_outside.proofs.Lists.{bytes_same}
use Rattle.marked_tree.specs.Marked.{Marked, MarkedMembers, strip, strip_elements, strip_members, remark, remark_elements, remark_members, keep_member, new_mark, kept, prune}
use Rattle.marked_tree.specs.Paths.{Path, below, hidden_in, one_if, mark_if, mark_from, mark_elements, mark_members, mark, is_among}

-- no path passes
abbrev pub NonePasses : (Path → Bool) → Type 0
NonePasses h = (p : Path) → h p ≡ false

module _ (f : ℕ → Option ℕ) where
  mutual
    -- a tree in which nothing is marked stays
    pub unmarked : (h : Path → Bool) → NonePasses h → (n : ℕ) (t : Tree) → strip (remark f (mark_from h n t)) ≡ t
    unmarked h none n (leaf l) = refl
    unmarked h none n (array es) = ap array (unmarked_elements h none n 0 es)
    unmarked h none n (object ms) = ap object (unmarked_members h none n ms)

    unmarked_elements : (h : Path → Bool) → NonePasses h → (n i : ℕ) (es : Elements) → strip_elements (remark_elements f (mark_elements h n i es)) ≡ es
    unmarked_elements h none n i no_elements = refl
    unmarked_elements h none n i (element t es) =
        rw (none (decimal i ∷ []))
        (ap₂ element (unmarked (below (decimal i) h) (λ p. none (decimal i ∷ p)) n t) (unmarked_elements h none (n + (hidden_in (below (decimal i) h) t + 0)) (suc i) es))

    unmarked_members : (h : Path → Bool) → NonePasses h → (n : ℕ) (ms : Members) → strip_members (remark_members f (mark_members h n ms)) ≡ ms
    unmarked_members h none n no_members = refl
    unmarked_members h none n (member k t ms) =
        rw (none (k ∷ []))
        (ap₂ (member k) (unmarked (below k h) (λ p. none (k ∷ p)) n t) (unmarked_members h none (n + (hidden_in (below k h) t + 0)) ms))

  -- a member that is kept or left out has another name
  other_member : (o : Option (Option ℕ)) (k name : Text) (t : Marked) (ms : MarkedMembers) → bytes_eq k name ≡ false → member_named (strip_members (keep_member k o t ms)) name ≡ member_named (strip_members ms) name
  other_member None k name t ms e = refl
  other_member (Some i) k name t ms e = rw e refl

  -- the member of this name
  own_member : (b : Bool) (i : ℕ) (k name : Text) (t : Marked) (ms : MarkedMembers) → b ≡ false → bytes_eq k name ≡ true → member_named (strip_members (keep_member k (new_mark f (mark_if b i)) t ms)) name ≡ Some (strip t)
  own_member false i k name t ms p e = rw e refl
  own_member true i k name t ms p e = cc p

  step : (h : Path → Bool) (name : Text) → NonePasses (below name h) → (n : ℕ) (k : Text) (t : Tree) (ms : Members) (rest : MarkedMembers) → member_named (strip_members rest) name ≡ member_named ms name
      → member_named (strip_members (keep_member k (new_mark f (mark_if (h (k ∷ [])) (n + hidden_in (below k h) t))) (remark f (mark_from (below k h) n t)) rest)) name ≡ (if bytes_eq k name then Some t else member_named ms name)
  step h name none n k t ms rest ih = go (bytes_eq k name) refl
    where
      go : (b : Bool) → bytes_eq k name ≡ b → member_named (strip_members (keep_member k (new_mark f (mark_if (h (k ∷ [])) (n + hidden_in (below k h) t))) (remark f (mark_from (below k h) n t)) rest)) name ≡ (if b then Some t else member_named ms name)
      go false e = other_member (new_mark f (mark_if (h (k ∷ [])) (n + hidden_in (below k h) t))) k name (remark f (mark_from (below k h) n t)) rest e ∙ ih
      go true e =
          let same : k ≡ name = bytes_same k name e in
          let shown : NonePasses (below k h) = subst (λ (l : Text). NonePasses (below l h)) (sym same) none in
          own_member (h (k ∷ [])) (n + hidden_in (below k h) t) k name (remark f (mark_from (below k h) n t)) rest (shown []) e ∙ ap Some (unmarked (below k h) shown n t)

  member_kept : (h : Path → Bool) (name : Text) → NonePasses (below name h) → (n : ℕ) (ms : Members) → member_named (strip_members (remark_members f (mark_members h n ms))) name ≡ member_named ms name
  member_kept h name none n no_members = refl
  member_kept h name none n (member k t ms) =
      let more = n + (hidden_in (below k h) t + one_if (h (k ∷ []))) in
      step h name none n k t ms (remark_members f (mark_members h more ms)) (member_kept h name none more ms)

pub claim_kept : (t : Tree) (hide : List Path) (name : Text) → NonePasses (below name (is_among hide)) → (s : ℕ → Bool) → get (strip (prune (mark t hide) s)) name ≡ get t name
claim_kept (leaf l) hide name none s = refl
claim_kept (array es) hide name none s = refl
claim_kept (object ms) hide name none s = member_kept (kept s) (is_among hide) name none 0 ms
