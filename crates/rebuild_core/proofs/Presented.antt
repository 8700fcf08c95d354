-- The law of the presentation, and that each mark stands on one node.
use Rattle.std.proofs.Common.{◌≡◌, ℕ, suc, ◌+◌, ◌<◌, ◌≤◌, List, [], ◌∷◌, length, Bool, true, false, cond, ltb, ◌⊎◌, inl, inr, ⊎_elim, Option, Some, None, refl, sym, ap, ap₂, ◌∙◌, arith}
use Rattle.claim_tree.specs.Tree.{Text, Tree, depth}
use Rattle.sd_outside.specs.Lists.{StandsAt, In}
use Rattle.digest_sites.specs.Sites.{sites}
use Rattle.digest_sites.specs.Given.{Given}
use Rattle.marked_tree.specs.Marked.{Marked, MarkedElements, MarkedMembers, marked_leaf, marked_array, marked_object, no_marked_elements, marked_element, no_marked_members, marked_member, strip, new_mark, keep_element, keep_member, remark, remark_elements, remark_members, kept}
use Rattle.marked_tree.specs.Ways.{weight, only}
use Rattle.marked_tree.specs.Closed.{IsClosed}
use Rattle.rebuild_core.specs.Opening.{Shown, reveal, opened, processed}
use Rattle.rebuild_core.specs.Soundness.{IsReferencedOnce, IsWellNamed, IsSound}
use Rattle.rebuild_core.specs.Laws.{IsPick, Enumerates, IsPresentation, Presentation, position_from, OneNode}
use Rattle.rebuild_core.specs.Readable.{IsReadable}
use Rattle.rebuild_core.specs.Whole.{shown_weight}
use Rattle.sd_outside.proofs.Lists.{At-In}
use Rattle.rebuild_core.proofs.OneSite.{one_site_holds}
use Rattle.marked_tree.proofs.MarkFacts.{one_if_same, none_if_less, none_if_more, same_or_more, up_to, within_is, outside_is}
use Rattle.marked_tree.proofs.Sums.{sum_of}
use Rattle.rebuild_core.proofs.Fixed.{fixed, unknown, processed_settles, disclosures_sum}
use Rattle.rebuild_core.proofs.Fits.{remark_open}
use Rattle.rebuild_core.proofs.Named.{payload_fits, value_fits}
use Rattle.rebuild_core.proofs.Marks.{open_weight}
use Rattle.rebuild_core.proofs.Pick.{distinct_pairs, place_none, c14_holds, c15_holds, c16_holds, named_holds, reveal_picked}
use Rattle.rebuild_core.proofs.Reach.{c17_holds}
use Rattle.marked_tree.proofs.Remarks.{depth-remark}

-- each mark stays, or goes under both
abbrev Stays : (ℕ → Option ℕ) → (ℕ → Option ℕ) → Type 0
Stays e f = (i : ℕ) → (e i ≡ Some i) ⊎ ((e i ≡ None) × (f i ≡ None))

elements_twice : (e f : ℕ → Option ℕ) → Stays e f → (i : Option ℕ) (t u : Marked) (es fs : MarkedElements) → remark f t ≡ u → remark_elements f es ≡ fs
    → remark_elements f (keep_element (new_mark e i) t es) ≡ keep_element (new_mark f i) u fs
elements_twice e f stays None t u es fs a b = ap₂ (marked_element None) a b
elements_twice e f stays (Some i) t u es fs a b =
    ⊎_elim (λ q. rw q (ap₂ (keep_element (new_mark f (Some i))) a b)) (λ q. rw (q.0, q.1) b) (stays i)

members_twice : (e f : ℕ → Option ℕ) → Stays e f → (k : Text) (i : Option ℕ) (t u : Marked) (ms ns : MarkedMembers) → remark f t ≡ u → remark_members f ms ≡ ns
    → remark_members f (keep_member k (new_mark e i) t ms) ≡ keep_member k (new_mark f i) u ns
members_twice e f stays k None t u ms ns a b = ap₂ (marked_member k None) a b
members_twice e f stays k (Some i) t u ms ns a b =
    ⊎_elim (λ q. rw q (ap₂ (keep_member k (new_mark f (Some i))) a b)) (λ q. rw (q.0, q.1) b) (stays i)

mutual
  remark_twice : (e f : ℕ → Option ℕ) → Stays e f → (m : Marked) → remark f (remark e m) ≡ remark f m
  remark_twice e f stays (marked_leaf l) = refl
  remark_twice e f stays (marked_array es) = ap marked_array (remark_elements_twice e f stays es)
  remark_twice e f stays (marked_object ms) = ap marked_object (remark_members_twice e f stays ms)

  remark_elements_twice : (e f : ℕ → Option ℕ) → Stays e f → (es : MarkedElements) → remark_elements f (remark_elements e es) ≡ remark_elements f es
  remark_elements_twice e f stays no_marked_elements = refl
  remark_elements_twice e f stays (marked_element i t es) = elements_twice e f stays i (remark e t) (remark f t) (remark_elements e es) (remark_elements f es) (remark_twice e f stays t) (remark_elements_twice e f stays es)

  remark_members_twice : (e f : ℕ → Option ℕ) → Stays e f → (ms : MarkedMembers) → remark_members f (remark_members e ms) ≡ remark_members f ms
  remark_members_twice e f stays no_marked_members = refl
  remark_members_twice e f stays (marked_member k i t ms) = members_twice e f stays k i (remark e t) (remark f t) (remark_members e ms) (remark_members f ms) (remark_twice e f stays t) (remark_members_twice e f stays ms)

kept_stays : (s : ℕ → Bool) (h : List ℕ) → ((i : ℕ) → In i h → s i ≡ true) → Stays (kept s) (position_from 0 h)
kept_stays s h within i = go (s i) refl
  where
    go : (b : Bool) → s i ≡ b → (cond b (Some i) None ≡ Some i) ⊎ ((cond b (Some i) None ≡ None) × (position_from 0 h i ≡ None))
    go true e = inl refl
    go false e = inr (refl, place_none 0 h i (λ m. let t : s i ≡ true = within i m in cc))

module _ (p : Tree) (g : List Given) (readable : IsReadable p g) (sound : IsSound p g)
    (s : ℕ → Bool) (closed : IsClosed (processed p g) s) (h : List ℕ) (all : Enumerates s h) (gs : List Given) (pick : IsPick g h gs) where
  referenced : IsReferencedOnce p gs
  referenced = record {
    no_repeated_disclosure = c14_holds p g sound.referenced sound.named h (distinct_pairs h all.distinct) gs pick;
    no_misuse = c15_holds p g sound.referenced sound.named h (distinct_pairs h all.distinct) gs pick;
    no_repeated_digest = c16_holds p g sound.referenced sound.named h (distinct_pairs h all.distinct) gs pick;
    no_unreferenced = c17_holds p g sound.referenced sound.named s closed h all.whole all.within gs pick
        (c16_holds p g sound.referenced sound.named h (distinct_pairs h all.distinct) gs pick);
  }

  with_fuel : (f : ℕ) → opened f gs p ≡ remark (position_from 0 h) (opened f g p)
  with_fuel f =
      sym (remark_open (position_from 0 h) (reveal f g) (reveal f gs) p readable.in_payload
      (payload_fits p g sound.referenced sound.named f)
      (λ e m. reveal_picked p g sound.referenced sound.named h (distinct_pairs h all.distinct) gs pick (λ i x a. readable.in_values x (At-In g i x a)) f e.digest))

  same_tree : processed p gs ≡ remark (position_from 0 h) (processed p g)
  same_tree =
      let a = (one_site_holds p gs referenced).settled in
      let b = (one_site_holds p g sound.referenced).settled in
      let f = length g + length gs in
      a (suc (length gs)) (omega arith) ∙ sym (a f (omega arith)) ∙ with_fuel f
      ∙ ap (remark (position_from 0 h)) (b f (omega arith) ∙ sym (b (suc (length g)) (omega arith)))

  pub presented : IsPresentation p g gs s h
  presented = record {
    sound = record {
      referenced = referenced;
      named = named_holds p g sound.referenced sound.named h (distinct_pairs h all.distinct) gs pick;
      shallow = omega (arith, sound.shallow, depth-remark (position_from 0 h) (processed p g), ap (λ m. depth (strip m)) same_tree);
    };
    pruned = same_tree ∙ sym (remark_twice (kept s) (position_from 0 h) (kept_stays s h all.within) (processed p g));
  }

pub presentation_holds : Presentation
presentation_holds p g readable sound s below closed h all gs pick = presented p g readable sound s closed h all gs pick

-- ---- each mark on one node

abbrev numbers_sum : (ℕ → ℕ) → ℕ → List Given → ℕ
numbers_sum w i [] = 0
numbers_sum w i (x ∷ g) = w i + numbers_sum w (suc i) g

sum_with_numbers : (f h : Given → ℕ) (w : ℕ → ℕ) (i : ℕ) (g : List Given) → ((k n : ℕ) (x : Given) → n ≡ i + k → StandsAt g k x → f x ≡ w n + h x)
    → sum_of f g ≡ numbers_sum w i g + sum_of h g
sum_with_numbers f h w i [] e = refl
sum_with_numbers f h w i (x ∷ g) e =
    omega (arith, e 0 i x (omega arith) refl, sum_with_numbers f h w (suc i) g (λ k n y q a. e (suc k) n y (omega arith) a))

weight_is : (p : Tree) (g : List Given) → IsReferencedOnce p g → IsWellNamed p g → (w : ℕ → ℕ) → weight w (processed p g) ≡ numbers_sum w 0 g
weight_is p g ok named w =
    let r : Text → Shown = reveal (length g) g in
    let f : Text → ℕ = λ d. shown_weight w (r d) in
    let top = open_weight w r p (payload_fits p g ok named (length g)) in
    let all = disclosures_sum p g ok f (λ d e. ap (shown_weight w) (unknown (length g) g d e)) in
    let each = sum_with_numbers (λ x. f x.digest) (λ x. sum_of (λ s. f s.digest) (sites x.value)) w 0 g
    (λ k n x q a.
    let z : n ≡ k = omega arith in
    omega (arith, ap (shown_weight w) (fixed p g ok k x a), ap w z, open_weight w r x.value (value_fits p g ok named (length g) k x a))) in
    omega (arith, top, all, each, ap (weight w) (processed_settles p g ok))

past : (i k : ℕ) (g : List Given) → i < k → numbers_sum (only i) k g ≡ 0
past i k [] l = refl
past i k (x ∷ g) l = omega (arith, past i (suc k) g (omega arith), none_if_less i k l)

numbers_of_one : (i k : ℕ) (g : List Given) → k ≤ i → numbers_sum (only i) k g ≡ cond (ltb i (k + length g)) 1 0
numbers_of_one i k [] l = sym (outside_is i (k + 0) (omega arith))
numbers_of_one i k (x ∷ g) l = go (same_or_more i k l) (numbers_of_one i (suc k) g)
  where
    go : (i ≡ k) ⊎ (k < i) → (suc k ≤ i → numbers_sum (only i) (suc k) g ≡ up_to i (suc k + length g)) → only i k + numbers_sum (only i) (suc k) g ≡ cond (ltb i (k + suc (length g))) 1 0
    go (inl e) ih = omega (arith, one_if_same i k e, past i (suc k) g (omega arith), within_is i (k + suc (length g)) (omega arith))
    go (inr m) ih = omega (arith, none_if_more i k m, ih (omega arith), ap (up_to i) (let q : suc k + length g ≡ k + suc (length g) = omega arith in q))

pub mark_once : (p : Tree) (g : List Given) → IsReferencedOnce p g → IsWellNamed p g → (i : ℕ) → weight (only i) (processed p g) ≡ up_to i (length g)
mark_once p g ok named i = weight_is p g ok named (only i) ∙ numbers_of_one i 0 g (omega arith) ∙ ap (up_to i) (let e : 0 + length g ≡ length g = omega arith in e)

pub one_node_holds : OneNode
one_node_holds p g readable sound i = mark_once p g sound.referenced sound.named i
