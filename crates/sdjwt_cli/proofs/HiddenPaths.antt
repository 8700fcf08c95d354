-- How many places of an order are hidden: as many as it has different paths.
use Rattle.std.proofs.Common.{◌≡◌, ◌≢◌, ◌⊎◌, inl, inr, ℕ, suc, ◌+◌, ◌<◌, ◌≤◌, ◌^◌, List, [], ◌∷◌, ◌++◌, map, Bool, true, false, ◌&&◌, bytes_eq, decimal, Some, None, refl, sym, ap, subst, ◌∙◌, arith}
use Rattle.std.specs.Prelude.{option_and_then, if◌then◌else◌}
use Rattle.std.specs.List.{IsDistinct, AllByRecursion}
use Rattle.std.specs.Set.{distinct_count}
use Rattle.std.specs.Cmp.{both_ways}
use Rattle.std.proofs.lemmas.Fmt.{decimal_injective}
use Rattle.std.proofs.lemmas.Map.Keys.{IsDistinct-head, IsDistinct-tail, IsDistinct-cons, IsDistinct-from_apart}
use Rattle.std.proofs.lemmas.Map.Made.{length-from_keys}
use Rattle.std.proofs.lemmas.Bool.{or_left, or_right}
use Rattle.claim_tree.specs.Tree.{Text, Tree, leaf, array, object, Elements, no_elements, element, elements_len, Members, no_members, member, member_named, names, IsOrdered, ElementsOrdered, MembersOrdered}
use Rattle.sd_outside.specs.Lists.{In}
use Rattle.claim_tree.specs.Path.{tree_at, element_on}
use Rattle.sd_outside.proofs.Lists.{bytes_same, bytes_refl, In-left, In-right, In-append, In-map, In-of_map, In-At, list_any-In}
use Rattle.marked_tree.specs.Paths.{Path, below, is_among, same_path}
use Rattle.marked_tree.specs.Ways.{closing, closing_elements, closing_members, own_path}
use Rattle.marked_tree.proofs.Closing.{marks_close_holds}
use Rattle.claim_tree.proofs.SamePaths.{path_same, path_refl}
use Rattle.marked_tree.proofs.DifferentPaths.{path_laws}
use Rattle.marked_tree.proofs.Puts.{IsBeforeAll-not_in}
use Rattle.refusals.specs.Lowest.{NoneApplies}
use Rattle.issuer_core.specs.Digests.{hidden_of}
use Rattle.issuer_core.specs.Order.{Order}
use Rattle.issuer_core.specs.OrderRefusals.{AppliesToOrder}
use Rattle.issuer_core.specs.ShortLists.{HasShortLists}
use Rattle.issuer_core.specs.declared.errors.IssueError.TheVariants.{RootMarked, NoSuchPlace}
use Rattle.issuer_core.proofs.DecoySums.{ElementsShort, MembersShort}

-- ---- lists with each path once

none_distinct : IsDistinct same_path []
none_distinct = IsDistinct-from_apart same_path [] (λ i j path l h. absurd (omega (arith, h)))

others : (x : Path) (ys : List Path) → (In x ys → ⊥) → AllByRecursion (λ q. same_path x q ≡ false) ys
others x [] none = tt
others x (y ∷ ys) none = (differs (same_path x y) refl, others x ys (λ there. none (inr there)))
  where
    differs : (b : Bool) → same_path x y ≡ b → same_path x y ≡ false
    differs true e = absurd (none (inl (path_same x y e)))
    differs false e = e

all_others : (x : Path) (xs ys : List Path) → AllByRecursion (λ q. same_path x q ≡ false) xs → AllByRecursion (λ q. same_path x q ≡ false) ys → AllByRecursion (λ q. same_path x q ≡ false) (xs ++ ys)
all_others x [] ys a b = b
all_others x (z ∷ xs) ys a b = (a.0, all_others x xs ys a.1 b)

distinct_append : (xs ys : List Path) → IsDistinct same_path xs → IsDistinct same_path ys → ((p : Path) → In p xs → In p ys → ⊥) → IsDistinct same_path (xs ++ ys)
distinct_append [] ys d e apart = e
distinct_append (x ∷ xs) ys d e apart =
    IsDistinct-cons same_path x (xs ++ ys) (all_others x xs ys (IsDistinct-head same_path x xs d) (others x ys (λ there. apart x (inl refl) there)))
    (distinct_append xs ys (IsDistinct-tail same_path x xs d) e (λ p here there. apart p (inr here) there))

-- one step above
abbrev above : Text → List Path → List Path
above k ps = map (λ (p : Path). k ∷ p) ps

others_above : (k : Text) (p : Path) (ps : List Path) → AllByRecursion (λ q. same_path p q ≡ false) ps → AllByRecursion (λ q. same_path (k ∷ p) q ≡ false) (above k ps)
others_above k p [] all = tt
others_above k p (q ∷ ps) all = (ap (λ b. b && same_path p q) (bytes_refl k k refl) ∙ all.0, others_above k p ps all.1)

distinct_above : (k : Text) (ps : List Path) → IsDistinct same_path ps → IsDistinct same_path (above k ps)
distinct_above k [] d = none_distinct
distinct_above k (p ∷ ps) d = IsDistinct-cons same_path (k ∷ p) (above k ps) (others_above k p ps (IsDistinct-head same_path p ps d)) (distinct_above k ps (IsDistinct-tail same_path p ps d))

distinct_own : (b : Bool) (k : Text) → IsDistinct same_path (own_path b k)
distinct_own true k = IsDistinct-cons same_path (k ∷ []) [] tt none_distinct
distinct_own false k = none_distinct

-- ---- the paths in closing order

-- those at a step and below it
abbrev step_paths : (Path → Bool) → Text → Tree → List Path
step_paths h k t = above k (closing (below k h) t) ++ own_path (h (k ∷ [])) k

own_is : (b : Bool) (k : Text) (p : Path) → In p (own_path b k) → (b ≡ true) × (p ≡ k ∷ [])
own_is true k p (inl same) = (refl, same)
own_is true k p (inr none) = absurd none
own_is false k p none = absurd none

-- a path below or at a step
data FromStep (k : Text) (p : Path) (cs : List Path) (b : Bool) : Type 0 where
  inside : (q : Path) → In q cs → p ≡ k ∷ q → FromStep k p cs b
  itself : b ≡ true → p ≡ k ∷ [] → FromStep k p cs b

from_step : (k : Text) (p : Path) (cs : List Path) (b : Bool) → In p (above k cs ++ own_path b k) → FromStep k p cs b
from_step k p cs b there = go (In-append p (above k cs) (own_path b k) there)
  where
    go : In p (above k cs) ⊎ In p (own_path b k) → FromStep k p cs b
    go (inl here) = let w = In-of_map (λ (q : Path). k ∷ q) p cs here in inside w.0 w.1 w.2
    go (inr own) = let w = own_is b k p own in itself w.0 w.1

-- it begins with the step
head_is : (k : Text) (p : Path) (cs : List Path) (b : Bool) → FromStep k p cs b → (rest : Path) × (p ≡ k ∷ rest)
head_is k p cs b (inside q there e) = (q, e)
head_is k p cs b (itself passes e) = ([], e)

first_step : (k l : Text) (p q : Path) → ◌≡◌ {A = Path} (k ∷ p) (l ∷ q) → k ≡ l
first_step k l p q e = cc e

other_steps : (k l : Text) (p q : Path) → ◌≡◌ {A = Path} (k ∷ p) (l ∷ q) → p ≡ q
other_steps k l p q e = cc e

member_head : (h : Path → Bool) (ms : Members) (p : Path) → In p (closing_members h ms) → (k : Text) × (rest : Path) × In k (names ms) × (p ≡ k ∷ rest)
member_head h no_members p there = absurd there
member_head h (member k t ms) p there = go (member_head h ms p) (In-append p (step_paths h k t) (closing_members h ms) there)
  where
    go : (In p (closing_members h ms) → (l : Text) × (rest : Path) × In l (names ms) × (p ≡ l ∷ rest)) → In p (step_paths h k t) ⊎ In p (closing_members h ms) → (l : Text) × (rest : Path) × In l (k ∷ names ms) × (p ≡ l ∷ rest)
    go ih (inl here) =
        let w = head_is k p (closing (below k h) t) (h (k ∷ [])) (from_step k p (closing (below k h) t) (h (k ∷ [])) here) in
        (k, w.0, inl refl, w.1)
    go ih (inr later) = let w = ih later in (w.0, w.1, inr w.2, w.3)

element_head : (h : Path → Bool) (i : ℕ) (es : Elements) (p : Path) → In p (closing_elements h i es) → (j : ℕ) × (rest : Path) × (i ≤ j) × (j < i + elements_len es) × (p ≡ decimal j ∷ rest)
element_head h i no_elements p there = absurd there
element_head h i (element t es) p there = go (element_head h (suc i) es p) (In-append p (step_paths h (decimal i) t) (closing_elements h (suc i) es) there)
  where
    go : (In p (closing_elements h (suc i) es) → (j : ℕ) × (rest : Path) × (suc i ≤ j) × (j < suc i + elements_len es) × (p ≡ decimal j ∷ rest)) → In p (step_paths h (decimal i) t) ⊎ In p (closing_elements h (suc i) es)
        → (j : ℕ) × (rest : Path) × (i ≤ j) × (j < i + elements_len (element t es)) × (p ≡ decimal j ∷ rest)
    go ih (inl here) =
        let w = head_is (decimal i) p (closing (below (decimal i) h) t) (h (decimal i ∷ [])) (from_step (decimal i) p (closing (below (decimal i) h) t) (h (decimal i ∷ [])) here) in
        (i, w.0, omega arith, omega arith, w.1)
    go ih (inr later) =
        let w = ih later in
        let low = w.2 in
        let high = w.3 in
        (w.0, w.1, omega (arith, low), omega (arith, high), w.4)

no_root : (h : Path → Bool) (t : Tree) → In [] (closing h t) → ⊥
no_root h (leaf l) there = there
no_root h (array es) there = let w = element_head h 0 es [] there in let e = w.4 in cc e
no_root h (object ms) there = let w = member_head h ms [] there in let e = w.3 in cc e

-- those at and below a step are each there once
step_distinct : (k : Text) (cs : List Path) (b : Bool) → IsDistinct same_path cs → (In [] cs → ⊥) → IsDistinct same_path (above k cs ++ own_path b k)
step_distinct k cs b d rootless = distinct_append (above k cs) (own_path b k) (distinct_above k cs d) (distinct_own b k) apart
  where
    apart : (p : Path) → In p (above k cs) → In p (own_path b k) → ⊥
    apart p here own =
        let w = In-of_map (λ (q : Path). k ∷ q) p cs here in
        let v = own_is b k p own in
        let root : w.0 ≡ [] = other_steps k k w.0 [] (sym w.2 ∙ v.1) in
        rootless (subst (λ (q : Path). In q cs) root w.1)

mutual
  closing_distinct : (h : Path → Bool) (t : Tree) → IsOrdered t → HasShortLists t → IsDistinct same_path (closing h t)
  closing_distinct h (leaf l) o s = none_distinct
  closing_distinct h (array es) o s = elements_distinct h 0 es o s.1 (let few = s.0 in omega (arith, few))
  closing_distinct h (object ms) o s = members_distinct h ms o s

  elements_distinct : (h : Path → Bool) (i : ℕ) (es : Elements) → ElementsOrdered es → ElementsShort es → i + elements_len es ≤ 2 ^ 64 → IsDistinct same_path (closing_elements h i es)
  elements_distinct h i no_elements o s few = none_distinct
  elements_distinct h i (element t es) o s few =
      distinct_append (step_paths h (decimal i) t) (closing_elements h (suc i) es)
      (step_distinct (decimal i) (closing (below (decimal i) h) t) (h (decimal i ∷ [])) (closing_distinct (below (decimal i) h) t o.0 s.0) (no_root (below (decimal i) h) t))
      (elements_distinct h (suc i) es o.1 s.1 (omega (arith, few)))
      (λ p here later.
      let w = head_is (decimal i) p (closing (below (decimal i) h) t) (h (decimal i ∷ [])) (from_step (decimal i) p (closing (below (decimal i) h) t) (h (decimal i ∷ [])) here) in
      let v = element_head h (suc i) es p later in
      let low = v.2 in
      let high = v.3 in
      let same : i ≡ v.0 = decimal_injective i v.0 (omega (arith, low, high, few)) (omega (arith, high, few)) (first_step (decimal i) (decimal v.0) w.0 v.1 (sym w.1 ∙ v.4)) in
      omega (arith, same, low))

  members_distinct : (h : Path → Bool) (ms : Members) → MembersOrdered ms → MembersShort ms → IsDistinct same_path (closing_members h ms)
  members_distinct h no_members o s = none_distinct
  members_distinct h (member k t ms) o s =
      distinct_append (step_paths h k t) (closing_members h ms)
      (step_distinct k (closing (below k h) t) (h (k ∷ [])) (closing_distinct (below k h) t o.1 s.1) (no_root (below k h) t))
      (members_distinct h ms o.2 s.2)
      (λ p here later.
      let w = head_is k p (closing (below k h) t) (h (k ∷ [])) (from_step k p (closing (below k h) t) (h (k ∷ [])) here) in
      let v = member_head h ms p later in
      let same : k ≡ v.0 = first_step k v.0 w.0 v.1 (sym w.1 ∙ v.3) in
      IsBeforeAll-not_in k (names ms) o.0 (subst (λ (l : Text). In l (names ms)) (sym same) v.2))

-- ---- they are the hidden paths

-- each of them passes
step_passes : (h : Path → Bool) (k : Text) (t : Tree) (p : Path) → ((q : Path) → In q (closing (below k h) t) → h (k ∷ q) ≡ true) → FromStep k p (closing (below k h) t) (h (k ∷ [])) → h p ≡ true
step_passes h k t p inner (inside q there e) = ap h e ∙ inner q there
step_passes h k t p inner (itself passes e) = ap h e ∙ passes

mutual
  closing_passes : (h : Path → Bool) (t : Tree) (p : Path) → In p (closing h t) → h p ≡ true
  closing_passes h (leaf l) p there = absurd there
  closing_passes h (array es) p there = elements_pass h 0 es p there
  closing_passes h (object ms) p there = members_pass h ms p there

  elements_pass : (h : Path → Bool) (i : ℕ) (es : Elements) (p : Path) → In p (closing_elements h i es) → h p ≡ true
  elements_pass h i no_elements p there = absurd there
  elements_pass h i (element t es) p there = go (closing_passes (below (decimal i) h) t) (elements_pass h (suc i) es p) (In-append p (step_paths h (decimal i) t) (closing_elements h (suc i) es) there)
    where
      go : ((q : Path) → In q (closing (below (decimal i) h) t) → h (decimal i ∷ q) ≡ true) → (In p (closing_elements h (suc i) es) → h p ≡ true) → In p (step_paths h (decimal i) t) ⊎ In p (closing_elements h (suc i) es) → h p ≡ true
      go inner rest (inl here) = step_passes h (decimal i) t p inner (from_step (decimal i) p (closing (below (decimal i) h) t) (h (decimal i ∷ [])) here)
      go inner rest (inr later) = rest later

  members_pass : (h : Path → Bool) (ms : Members) (p : Path) → In p (closing_members h ms) → h p ≡ true
  members_pass h no_members p there = absurd there
  members_pass h (member k t ms) p there = go (closing_passes (below k h) t) (members_pass h ms p) (In-append p (step_paths h k t) (closing_members h ms) there)
    where
      go : ((q : Path) → In q (closing (below k h) t) → h (k ∷ q) ≡ true) → (In p (closing_members h ms) → h p ≡ true) → In p (step_paths h k t) ⊎ In p (closing_members h ms) → h p ≡ true
      go inner rest (inl here) = step_passes h k t p inner (from_step k p (closing (below k h) t) (h (k ∷ [])) here)
      go inner rest (inr later) = rest later

own_there : (b : Bool) (k : Text) → b ≡ true → In (k ∷ []) (own_path b k)
own_there true k e = inl refl
own_there false k e = cc e

-- each that passes and leads somewhere is one of them
abbrev AreThere : (Path → Bool) → Tree → Type 0
AreThere h t = (l : Text) (q : Path) → tree_at t (l ∷ q) ≢ None → h (l ∷ q) ≡ true → In (l ∷ q) (closing h t)

step_there : (h : Path → Bool) (t : Tree) (k : Text) (p : Path) → AreThere (below k h) t → tree_at t p ≢ None → h (k ∷ p) ≡ true → In (k ∷ p) (step_paths h k t)
step_there h t k [] inner leads passes = In-right (k ∷ []) (above k (closing (below k h) t)) (own_path (h (k ∷ [])) k) (own_there (h (k ∷ [])) k passes)
step_there h t k (l ∷ p) inner leads passes =
    In-left (k ∷ l ∷ p) (above k (closing (below k h) t)) (own_path (h (k ∷ [])) k) (In-map (λ (q : Path). k ∷ q) (l ∷ p) (closing (below k h) t) (inner l p leads passes))

mutual
  closing_there : (h : Path → Bool) (t : Tree) (k : Text) (p : Path) → tree_at t (k ∷ p) ≢ None → h (k ∷ p) ≡ true → In (k ∷ p) (closing h t)
  closing_there h (leaf l) k p leads passes = absurd (leads refl)
  closing_there h (array es) k p leads passes = element_there h 0 es k p leads passes
  closing_there h (object ms) k p leads passes = member_there h ms k p leads passes

  element_there : (h : Path → Bool) (i : ℕ) (es : Elements) (k : Text) (p : Path) → option_and_then (λ u. tree_at u p) (element_on es i k) ≢ None → h (k ∷ p) ≡ true → In (k ∷ p) (closing_elements h i es)
  element_there h i no_elements k p leads passes = absurd (leads refl)
  element_there h i (element t es) k p leads passes = go (closing_there (below (decimal i) h) t) (element_there h (suc i) es k p) (bytes_eq (decimal i) k) refl leads
    where
      go : AreThere (below (decimal i) h) t
          → (option_and_then (λ u. tree_at u p) (element_on es (suc i) k) ≢ None → h (k ∷ p) ≡ true → In (k ∷ p) (closing_elements h (suc i) es))
          → (b : Bool) → bytes_eq (decimal i) k ≡ b → option_and_then (λ u. tree_at u p) (if b then Some t else element_on es (suc i) k) ≢ None → In (k ∷ p) ((step_paths h (decimal i) t) ++ closing_elements h (suc i) es)
      go inner rest true e here =
          let same : decimal i ≡ k = bytes_same (decimal i) k e in
          In-left (k ∷ p) (step_paths h (decimal i) t) (closing_elements h (suc i) es)
          (subst (λ (l : Text). In (l ∷ p) (step_paths h (decimal i) t)) same (step_there h t (decimal i) p inner here (ap (λ (l : Text). h (l ∷ p)) same ∙ passes)))
      go inner rest false e later = In-right (k ∷ p) (step_paths h (decimal i) t) (closing_elements h (suc i) es) (rest later passes)

  member_there : (h : Path → Bool) (ms : Members) (k : Text) (p : Path) → option_and_then (λ u. tree_at u p) (member_named ms k) ≢ None → h (k ∷ p) ≡ true → In (k ∷ p) (closing_members h ms)
  member_there h no_members k p leads passes = absurd (leads refl)
  member_there h (member l t ms) k p leads passes = go (closing_there (below l h) t) (member_there h ms k p) (bytes_eq l k) refl leads
    where
      go : AreThere (below l h) t
          → (option_and_then (λ u. tree_at u p) (member_named ms k) ≢ None → h (k ∷ p) ≡ true → In (k ∷ p) (closing_members h ms))
          → (b : Bool) → bytes_eq l k ≡ b → option_and_then (λ u. tree_at u p) (if b then Some t else member_named ms k) ≢ None → In (k ∷ p) ((step_paths h l t) ++ closing_members h ms)
      go inner rest true e here =
          let same : l ≡ k = bytes_same l k e in
          In-left (k ∷ p) (step_paths h l t) (closing_members h ms)
          (subst (λ (m : Text). In (m ∷ p) (step_paths h l t)) same (step_there h t l p inner here (ap (λ (m : Text). h (m ∷ p)) same ∙ passes)))
      go inner rest false e later = In-right (k ∷ p) (step_paths h l t) (closing_members h ms) (rest later passes)

among : (ps : List Path) (p : Path) → In p ps → is_among ps p ≡ true
among [] p there = absurd there
among (q ∷ ps) p (inl same) = or_left (same_path p q) (is_among ps p) (path_refl p q same)
among (q ∷ ps) p (inr more) = or_right (same_path p q) (is_among ps p) (among ps p more)

of_among : (ps : List Path) (p : Path) → is_among ps p ≡ true → In p ps
of_among ps p is = let found = list_any-In (same_path p) ps is in subst (λ (q : Path). In q ps) (sym (path_same p found.0 found.2)) found.1

-- ---- an order

module _ (o : Order) (passes : NoneApplies (AppliesToOrder o)) (ordered : IsOrdered o.payload) (short : HasShortLists o.payload) where
  abbrev closed : List Path
  closed = closing (is_among o.hide) o.payload

  hidden_there : (p : Path) → In p o.hide → In p closed
  hidden_there [] there = let at = In-At o.hide [] there in absurd (passes (RootMarked at.0) ([], at.1, refl))
  hidden_there (k ∷ p) there =
      let at = In-At o.hide (k ∷ p) there in
      closing_there (is_among o.hide) o.payload k p (λ none. passes (NoSuchPlace at.0) (k ∷ p, at.1, none)) (among o.hide (k ∷ p) there)

  same_paths : (p : Path) → is_among closed p ≡ is_among o.hide p
  same_paths p =
      both_ways (is_among closed p) (is_among o.hide p) (λ is. closing_passes (is_among o.hide) o.payload p (of_among closed p is)) (λ is. among closed p (hidden_there p (of_among o.hide p is)))

  pub hidden_count_is : hidden_of o ≡ distinct_count same_path o.hide
  hidden_count_is =
      let count = (marks_close_holds o.payload o.hide).count in
      sym count ∙ length-from_keys path_laws closed o.hide (closing_distinct (is_among o.hide) o.payload ordered short) same_paths
