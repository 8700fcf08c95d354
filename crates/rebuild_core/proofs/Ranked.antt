-- In rising order the places are the ranks.
use Rattle.std.proofs.Common.{◌≡◌, ℕ, zero, suc, ◌<◌, ◌≤◌, List, [], ◌∷◌, Bool, true, false, cond, eqb, inl, inr, ⊎_elim, Option, Some, None, refl, sym, ap, ap₂, ◌∙◌, arith, eq-eqb, le_trans}
use Rattle.std.proofs.Math.Nat.{le-suc_iff}
use Rattle.std.proofs.lemmas.Bool.Decides.{nat_tests}
use Rattle.claim_tree.specs.Tree.{Text}
use Rattle.sd_outside.specs.Lists.{In}
use Rattle.marked_tree.specs.Marked.{Marked, MarkedElements, MarkedMembers, marked_leaf, marked_array, marked_object, no_marked_elements, marked_element, no_marked_members, marked_member, remark, remark_elements, remark_members, new_mark, keep_element, keep_member, kept}
use Rattle.marked_tree.specs.Ways.{count_below}
use Rattle.marked_tree.specs.Numbers.{AllAbove, IsRising}
use Rattle.marked_tree.proofs.NumberSets.{above_in}
use Rattle.rebuild_core.specs.Laws.{position_from, Ranks}

abbrev pub SameOn : (ℕ → Bool) → (ℕ → Option ℕ) → (ℕ → Option ℕ) → Type 0
SameOn s f e = (i : ℕ) → s i ≡ true → f i ≡ e i

same_element : (s : ℕ → Bool) (f e : ℕ → Option ℕ) → SameOn s f e → (i : Option ℕ) (t : Marked) (es : MarkedElements) → remark f t ≡ remark e t → remark_elements f es ≡ remark_elements e es
    → remark_elements f (keep_element (new_mark (kept s) i) t es) ≡ remark_elements e (keep_element (new_mark (kept s) i) t es)
same_element s f e same None t es a b = ap₂ (marked_element None) a b
same_element s f e same (Some i) t es a b = go (s i) refl
  where
    go : (x : Bool) → s i ≡ x → remark_elements f (keep_element (new_mark (λ j. cond (s j) (Some j) None) (Some i)) t es) ≡ remark_elements e (keep_element (new_mark (λ j. cond (s j) (Some j) None) (Some i)) t es)
    go true q = let w : f i ≡ e i = same i q in rw (q, w) (ap₂ (keep_element (new_mark e (Some i))) a b)
    go false q = rw q b

same_member : (s : ℕ → Bool) (f e : ℕ → Option ℕ) → SameOn s f e → (k : Text) (i : Option ℕ) (t : Marked) (ms : MarkedMembers) → remark f t ≡ remark e t → remark_members f ms ≡ remark_members e ms
    → remark_members f (keep_member k (new_mark (kept s) i) t ms) ≡ remark_members e (keep_member k (new_mark (kept s) i) t ms)
same_member s f e same k None t ms a b = ap₂ (marked_member k None) a b
same_member s f e same k (Some i) t ms a b = go (s i) refl
  where
    go : (x : Bool) → s i ≡ x → remark_members f (keep_member k (new_mark (λ j. cond (s j) (Some j) None) (Some i)) t ms) ≡ remark_members e (keep_member k (new_mark (λ j. cond (s j) (Some j) None) (Some i)) t ms)
    go true q = let w : f i ≡ e i = same i q in rw (q, w) (ap₂ (keep_member k (new_mark e (Some i))) a b)
    go false q = rw q b

mutual
  pub same_marks : (s : ℕ → Bool) (f e : ℕ → Option ℕ) → SameOn s f e → (m : Marked) → remark f (remark (kept s) m) ≡ remark e (remark (kept s) m)
  same_marks s f e same (marked_leaf l) = refl
  same_marks s f e same (marked_array es) = ap marked_array (same_elements s f e same es)
  same_marks s f e same (marked_object ms) = ap marked_object (same_members s f e same ms)

  same_elements : (s : ℕ → Bool) (f e : ℕ → Option ℕ) → SameOn s f e → (es : MarkedElements) → remark_elements f (remark_elements (kept s) es) ≡ remark_elements e (remark_elements (kept s) es)
  same_elements s f e same no_marked_elements = refl
  same_elements s f e same (marked_element i t es) = same_element s f e same i (remark (kept s) t) (remark_elements (kept s) es) (same_marks s f e same t) (same_elements s f e same es)

  same_members : (s : ℕ → Bool) (f e : ℕ → Option ℕ) → SameOn s f e → (ms : MarkedMembers) → remark_members f (remark_members (kept s) ms) ≡ remark_members e (remark_members (kept s) ms)
  same_members s f e same no_marked_members = refl
  same_members s f e same (marked_member k i t ms) = same_member s f e same k i (remark (kept s) t) (remark_members (kept s) ms) (same_marks s f e same t) (same_members s f e same ms)

-- ---- positions are ranks

same_count : (s : ℕ → Bool) (b j : ℕ) → b ≤ j → ((k : ℕ) → b ≤ k → k < j → s k ≡ false) → count_below s j ≡ count_below s b
same_count s b zero l h = let e : b ≡ 0 = omega arith in rw e
same_count s b (suc j) l h =
    ⊎_elim
    (λ p. let q : s j ≡ false = h j p (omega arith) in rw q (omega (arith, same_count s b j p (λ k c d. h k c (omega arith)))))
    (λ e. rw e) ((le-suc_iff {m = b} {n = j}).0 l)

-- none of s stands between the bound and the first
first_count : (s : ℕ → Bool) (j : ℕ) (h : List ℕ) (b : ℕ) → AllAbove j h → b ≤ j → ((k : ℕ) → b ≤ k → s k ≡ true → In k (j ∷ h)) → count_below s j ≡ count_below s b
first_count s j h b r l whole = same_count s b j l (λ k p q. none k p q (s k) refl)
  where
    none : (k : ℕ) → b ≤ k → k < j → (x : Bool) → s k ≡ x → s k ≡ false
    none k p q false t = t
    none k p q true t = ⊎_elim (λ a. absurd (omega arith)) (λ a. let c = above_in j h r k a in absurd (omega arith)) (whole k p t)

differ : (i j : ℕ) → j < i → eqb j i ≡ false
differ i j l = grind (arith, nat_tests)

placed : (s : ℕ → Bool) (h : List ℕ) (b m : ℕ) → IsRising h → ((j : ℕ) → In j h → (b ≤ j) × (s j ≡ true)) → ((j : ℕ) → b ≤ j → s j ≡ true → In j h)
    → count_below s b ≡ m → (i : ℕ) → In i h → position_from m h i ≡ Some (count_below s i)
placed s [] b m r inside whole e i n = elim n [ ]
placed s (j ∷ h) b m r inside whole e i (inl q) =
    let t : eqb j i ≡ true = eq-eqb j i (sym q) in
    let c : count_below s j ≡ m = first_count s j h b r.0 (inside j (inl refl)).0 whole ∙ e in
    rw t (ap (λ n. Some n) (sym c ∙ ap (count_below s) (sym q)))
placed s (j ∷ h) b m r inside whole e i (inr a) =
    let t : eqb j i ≡ false = differ i j (above_in j h r.0 i a) in
    let c : count_below s j ≡ m = first_count s j h b r.0 (inside j (inl refl)).0 whole ∙ e in
    let f : s j ≡ true = (inside j (inl refl)).1 in
    let d : count_below s (suc j) ≡ suc m = omega (arith, c, ap {B = ℕ} (λ x. cond x 1 0) f) in
    rw t
    (placed s h (suc j) (suc m) r.1 (λ k n. (above_in j h r.0 k n, (inside k (inr n)).1))
    (λ k l p. ⊎_elim (λ z. absurd (omega (arith, z))) (λ z. z) (whole k (le_trans (inside j (inl refl)).0 (le_trans (le_step_of j) l)) p)) d i a)
  where
    le_step_of : (n : ℕ) → n ≤ suc n
    le_step_of n = omega arith

pub ranks_hold : Ranks
ranks_hold m s h all rising =
    same_marks s (position_from 0 h) (λ i. Some (count_below s i))
    (λ i e. placed s h 0 0 rising (λ j n. (omega arith, all.within j n)) (λ j l p. all.whole j p) refl i (all.whole i e)) m
