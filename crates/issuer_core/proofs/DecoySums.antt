-- Each decoy is laid once: its place is one object or list.
use Rattle.std.proofs.Common.{◌≡◌, ℕ, suc, ◌+◌, ◌<◌, ◌≤◌, ◌^◌, List, [], ◌∷◌, ◌++◌, length, Bool, Some, ap, arith, cond, decimal, false, inl, inr, refl, subst, sym, true, ◌&&◌, ◌∙◌}
use Rattle.std.proofs.lemmas.Fmt.{decimal_injective}
use Rattle.std.specs.Prelude.{bytes_eq, option_and_then}
use Rattle.claim_tree.specs.Everywhere.{InElements, InMembers}
use Rattle.sd_outside.specs.Lists.{In}
use Rattle.claim_tree.specs.Path.{element_on, tree_at}
use Rattle.claim_tree.specs.Tree.{Elements, ElementsOrdered, IsOrdered, Members, MembersOrdered, Text, Tree, array, element, elements_len, leaf, member, member_named, names, no_elements, no_members, object}
use Rattle.marked_tree.specs.Paths.{Path, same_path}
use Rattle.issuer_core.specs.Decoys.{decoys_at}
use Rattle.issuer_core.specs.Digests.{digests_from}
use Rattle.issuer_core.specs.GoodOrder.{HoldsOthers}
use Rattle.issuer_core.specs.ShortLists.{HasShortLists}
use Rattle.sd_outside.proofs.Lists.{bytes_refl, bytes_same}
use Rattle.claim_tree.proofs.Positions.{unequal}
use Rattle.marked_tree.proofs.Puts.{IsBeforeAll-not_in}
use Rattle.marked_tree.proofs.Sums.{sum_of, sum_of-append}

-- the sum over the decoys of all objects and lists
abbrev mutual
  pub decoy_sum : (Text → ℕ) → (Path → List Text) → Tree → ℕ
  decoy_sum f dec (leaf l) = 0
  decoy_sum f dec (array es) = sum_of f (dec []) + elements_decoy_sum f dec 0 es
  decoy_sum f dec (object ms) = sum_of f (dec []) + members_decoy_sum f dec ms

  pub elements_decoy_sum : (Text → ℕ) → (Path → List Text) → ℕ → Elements → ℕ
  elements_decoy_sum f dec i no_elements = 0
  elements_decoy_sum f dec i (element t es) = decoy_sum f (λ q. dec (decimal i ∷ q)) t + elements_decoy_sum f dec (suc i) es

  pub members_decoy_sum : (Text → ℕ) → (Path → List Text) → Members → ℕ
  members_decoy_sum f dec no_members = 0
  members_decoy_sum f dec (member k t ms) = decoy_sum f (λ q. dec (k ∷ q)) t + members_decoy_sum f dec ms

mutual
  join_sum : (f : Text → ℕ) (a b : Path → List Text) (t : Tree) → decoy_sum f (λ q. a q ++ b q) t ≡ decoy_sum f a t + decoy_sum f b t
  join_sum f a b (leaf l) = refl
  join_sum f a b (array es) = omega (arith, sum_of-append f (a []) (b []), join_elements f a b 0 es)
  join_sum f a b (object ms) = omega (arith, sum_of-append f (a []) (b []), join_members f a b ms)

  join_elements : (f : Text → ℕ) (a b : Path → List Text) (i : ℕ) (es : Elements) → elements_decoy_sum f (λ q. a q ++ b q) i es ≡ elements_decoy_sum f a i es + elements_decoy_sum f b i es
  join_elements f a b i no_elements = refl
  join_elements f a b i (element t es) = omega (arith, join_sum f (λ q. a (decimal i ∷ q)) (λ q. b (decimal i ∷ q)) t, join_elements f a b (suc i) es)

  join_members : (f : Text → ℕ) (a b : Path → List Text) (ms : Members) → members_decoy_sum f (λ q. a q ++ b q) ms ≡ members_decoy_sum f a ms + members_decoy_sum f b ms
  join_members f a b no_members = refl
  join_members f a b (member k t ms) = omega (arith, join_sum f (λ q. a (k ∷ q)) (λ q. b (k ∷ q)) t, join_members f a b ms)

mutual
  none_sum : (f : Text → ℕ) (t : Tree) → decoy_sum f (λ q. []) t ≡ 0
  none_sum f (leaf l) = refl
  none_sum f (array es) = omega (arith, none_elements f 0 es)
  none_sum f (object ms) = omega (arith, none_members f ms)

  none_elements : (f : Text → ℕ) (i : ℕ) (es : Elements) → elements_decoy_sum f (λ q. []) i es ≡ 0
  none_elements f i no_elements = refl
  none_elements f i (element t es) = omega (arith, none_sum f t, none_elements f (suc i) es)

  none_members : (f : Text → ℕ) (ms : Members) → members_decoy_sum f (λ q. []) ms ≡ 0
  none_members f no_members = refl
  none_members f (member k t ms) = omega (arith, none_sum f t, none_members f ms)

-- the elements and the members of a tree with short lists
abbrev pub ElementsShort : Elements → Type 0
ElementsShort es = InElements (λ _. Unit {0}) (λ us. elements_len us < 2 ^ 64) (λ _ _. Unit {0}) es

abbrev pub MembersShort : Members → Type 0
MembersShort ms = InMembers (λ _. Unit {0}) (λ us. elements_len us < 2 ^ 64) (λ _ _. Unit {0}) ms

-- one decoy d at r
abbrev pub one_at : Text → Path → Path → List Text
one_at d r q = cond (same_path r q) (d ∷ []) []

-- where the first step differs there is none
other_step : (f : Text → ℕ) (d k l : Text) (r : Path) (t : Tree) → bytes_eq k l ≡ false → decoy_sum f (λ q. one_at d (k ∷ r) (l ∷ q)) t ≡ 0
other_step f d k l r t e = ap (λ b. decoy_sum f (λ q. cond (b && same_path r q) (d ∷ []) []) t) e ∙ none_sum f t

same_step : (f : Text → ℕ) (d k l : Text) (r : Path) (t : Tree) → bytes_eq k l ≡ true → decoy_sum f (λ q. one_at d (k ∷ r) (l ∷ q)) t ≡ decoy_sum f (λ q. one_at d r q) t
same_step f d k l r t e = ap (λ b. decoy_sum f (λ q. cond (b && same_path r q) (d ∷ []) []) t) e

other_elements : (f : Text → ℕ) (d k : Text) (r : Path) (i : ℕ) (es : Elements) → ((j : ℕ) → i ≤ j → j < i + elements_len es → bytes_eq k (decimal j) ≡ false) → elements_decoy_sum f (λ q. one_at d (k ∷ r) q) i es ≡ 0
other_elements f d k r i no_elements h = refl
other_elements f d k r i (element t es) h =
    omega (arith, other_step f d k (decimal i) r t (h i (omega arith) (omega arith)), other_elements f d k r (suc i) es (λ j l b. h j (omega (arith, l)) (omega (arith, b))))

other_members : (f : Text → ℕ) (d k : Text) (r : Path) (ms : Members) → (In k (names ms) → ⊥) → members_decoy_sum f (λ q. one_at d (k ∷ r) q) ms ≡ 0
other_members f d k r no_members h = refl
other_members f d k r (member l t ms) h =
    omega (arith, other_step f d k l r t (unequal k l (λ e. h (inl e))), other_members f d k r ms (λ m. h (inr m)))

decimal_differs : (i j : ℕ) (k : Text) → i < j → j < 2 ^ 64 → bytes_eq k (decimal i) ≡ true → bytes_eq k (decimal j) ≡ false
decimal_differs i j k l b e = unequal k (decimal j) (λ q. absurd (omega (arith, l, decimal_injective i j (omega (arith, l, b)) b (sym (bytes_same k (decimal i) e) ∙ q))))

root_elements : (f : Text → ℕ) (d : Text) (i : ℕ) (es : Elements) → elements_decoy_sum f (λ q. one_at d [] q) i es ≡ 0
root_elements f d i no_elements = refl
root_elements f d i (element t es) = omega (arith, none_sum f t, root_elements f d (suc i) es)

root_members : (f : Text → ℕ) (d : Text) (ms : Members) → members_decoy_sum f (λ q. one_at d [] q) ms ≡ 0
root_members f d no_members = refl
root_members f d (member k t ms) = omega (arith, none_sum f t, root_members f d ms)

turned_differs : (a b : Text) → bytes_eq a b ≡ false → bytes_eq b a ≡ false
turned_differs a b e = unequal b a (λ q. let clash : true ≡ false = sym (bytes_refl a b (sym q)) ∙ e in cc clash)

turned_same : (a b : Text) → bytes_eq a b ≡ true → bytes_eq b a ≡ true
turned_same a b e = bytes_refl b a (sym (bytes_same a b e))

mutual
  one_sum : (f : Text → ℕ) (d : Text) (r : Path) (t : Tree) → IsOrdered t → HasShortLists t → HoldsOthers (tree_at t r) → decoy_sum f (λ q. one_at d r q) t ≡ f d
  one_sum f d [] (leaf l) o n h = absurd h
  one_sum f d [] (array es) o n h = omega (arith, root_elements f d 0 es)
  one_sum f d [] (object ms) o n h = omega (arith, root_members f d ms)
  one_sum f d (k ∷ r) (leaf l) o n h = absurd h
  one_sum f d (k ∷ r) (array es) o n h = omega (arith, one_element f d k r 0 es o n.1 (omega (arith, n.0)) h)
  one_sum f d (k ∷ r) (object ms) o n h = omega (arith, one_member f d k r ms o n h)

  one_element : (f : Text → ℕ) (d k : Text) (r : Path) (i : ℕ) (es : Elements) → ElementsOrdered es → ElementsShort es → i + elements_len es ≤ 2 ^ 64
      → HoldsOthers (option_and_then (λ u. tree_at u r) (element_on es i k)) → elements_decoy_sum f (λ q. one_at d (k ∷ r) q) i es ≡ f d
  one_element f d k r i no_elements o n b h = absurd h
  one_element f d k r i (element t es) o n b h = go (bytes_eq (decimal i) k) refl h (one_sum f d r t o.0 n.0) (one_element f d k r (suc i) es o.1 n.1 (omega (arith, b)))
    where
      go : (c : Bool) → bytes_eq (decimal i) k ≡ c → HoldsOthers (option_and_then (λ u. tree_at u r) (cond c (Some t) (element_on es (suc i) k)))
          → (HoldsOthers (tree_at t r) → decoy_sum f (λ q. one_at d r q) t ≡ f d)
          → (HoldsOthers (option_and_then (λ u. tree_at u r) (element_on es (suc i) k)) → elements_decoy_sum f (λ q. one_at d (k ∷ r) q) (suc i) es ≡ f d)
          → elements_decoy_sum f (λ q. one_at d (k ∷ r) q) i (element t es) ≡ f d
      go true e h here rest =
          let x = turned_same (decimal i) k e in
          omega (arith, same_step f d k (decimal i) r t x, here h, other_elements f d k r (suc i) es (λ j l c. decimal_differs i j k (omega (arith, l)) (omega (arith, b, c)) x))
      go false e h here rest = omega (arith, other_step f d k (decimal i) r t (turned_differs (decimal i) k e), rest h)

  one_member : (f : Text → ℕ) (d k : Text) (r : Path) (ms : Members) → MembersOrdered ms → MembersShort ms
      → HoldsOthers (option_and_then (λ u. tree_at u r) (member_named ms k)) → members_decoy_sum f (λ q. one_at d (k ∷ r) q) ms ≡ f d
  one_member f d k r no_members o n h = absurd h
  one_member f d k r (member l t ms) o n h = go (bytes_eq l k) refl h (one_sum f d r t o.1 n.1) (one_member f d k r ms o.2 n.2)
    where
      go : (c : Bool) → bytes_eq l k ≡ c → HoldsOthers (option_and_then (λ u. tree_at u r) (cond c (Some t) (member_named ms k)))
          → (HoldsOthers (tree_at t r) → decoy_sum f (λ q. one_at d r q) t ≡ f d)
          → (HoldsOthers (option_and_then (λ u. tree_at u r) (member_named ms k)) → members_decoy_sum f (λ q. one_at d (k ∷ r) q) ms ≡ f d)
          → members_decoy_sum f (λ q. one_at d (k ∷ r) q) (member l t ms) ≡ f d
      go true e h here rest =
          let x = turned_same l k e in
          omega (
            arith,
            same_step f d k l r t x,
            here h,
            other_members f d k r ms (λ m. IsBeforeAll-not_in l (names ms) o.0 (subst (λ z. In z (names ms)) (bytes_same k l x) m)),
          )
      go false e h here rest = omega (arith, other_step f d k l r t (turned_differs l k e), rest h)

pub decoys_sum : (f : Text → ℕ) (dg : ℕ → Text) (k : ℕ) (ps : List Path) (t : Tree) → IsOrdered t → HasShortLists t → ((q : Path) → In q ps → HoldsOthers (tree_at t q))
    → decoy_sum f (decoys_at dg k ps) t ≡ sum_of f (digests_from dg k (length ps))
decoys_sum f dg k [] t o n h = none_sum f t
decoys_sum f dg k (r ∷ ps) t o n h =
    omega (arith, join_sum f (λ q. one_at (dg k) r q) (decoys_at dg (suc k) ps) t, one_sum f (dg k) r t o n (h r (inl refl)), decoys_sum f dg (suc k) ps t o n (λ q m. h q (inr m)), ap (λ i. sum_of f (digests_from dg i (length ps))) (let e : k + 1 ≡ suc k = omega arith in e))
