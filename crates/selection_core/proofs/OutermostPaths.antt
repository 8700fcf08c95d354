-- Sorted paths without those inside another: the last that does not come after a place is the only one that may lead to it.
use Rattle.std.proofs.Common.{◌≡◌, ◌≢◌, ℕ, suc, ◌-◌, ◌<◌, ◌≤◌, ◌⊎◌, inl, inr, List, [], ◌∷◌, length, get_or, take, bytes_eq, Bool, true, false, cond, ◌||◌, Ordering, Less, Equal, Greater, is_lt, is_le, All, AllPairs, refl, sym, ap, subst, ◌∙◌, arith}
use Rattle.std.specs.Cmp.{both_ways}
use Rattle.std.specs.Cmp.Lexicographic.{pointwise}
use Rattle.std.specs.List.{dedup, dedup_from, list_any}
use Rattle.std.specs.List.Sorted.{IsPermutation, IsSortedBy, IsPartitionedBy, IsPartitionPoint}
use Rattle.std.specs.Ordering.{ordering_reverse, ordering_then}
use Rattle.std.proofs.lemmas.Bool.{and_parts, and_from, cond_both, false_from_ne_true}
use Rattle.std.proofs.lemmas.Cmp.{tied_itself}
use Rattle.std.proofs.lemmas.List.{get_or_default}
use Rattle.std.proofs.lemmas.List.Elements.{All-cons}
use Rattle.std.proofs.lemmas.List.Filters.{All-dedup}
use Rattle.std.proofs.lemmas.List.Folds.{Any-from_list_any, list_any_at}
use Rattle.std.proofs.lemmas.List.Kept.{AllPairs-cons}
use Rattle.std.proofs.lemmas.List.Sorted.{list_any-IsPermutation, sorted_far, ranks_by}
use Rattle.claim_tree.specs.Path.{is_front}
use Rattle.claim_tree.proofs.Counting.{before_or_at}
use Rattle.sd_outside.proofs.Lists.{bytes_same, bytes_refl, compare_lt}
use Rattle.claim_tree.proofs.MapPlaces.{less_clash}
use Rattle.marked_tree.specs.Paths.{Path}
use Rattle.marked_tree.specs.Rests.{step_cmp, path_order}
use Rattle.marked_tree.proofs.PathOrder.{paths_total, lower_path}
use Rattle.marked_tree.proofs.Spots.{leads_through}
use Rattle.marked_tree.proofs.StepOrder.{steps_total, same_step}
use Rattle.selection_core.specs.Outermost.{StandsBefore, AreOutermost}

-- ---- a path, what it leads to, and what stands between them

abbrev NotAfter : Path → Path → Type 0
NotAfter p q = path_order p q ≢ Greater

front_first : (p q : Path) → is_front p q ≡ true → NotAfter p q
front_first [] [] is g = cc g
front_first [] (l ∷ q) is g = cc g
front_first (k ∷ p) [] is g = cc is
front_first (k ∷ p) (l ∷ q) is g =
    let both = and_parts (bytes_eq k l) (pointwise bytes_eq p (take (length p) q)) is in
    let tied : step_cmp k l ≡ Equal = subst (λ x. step_cmp k x ≡ Equal) (bytes_same k l both.0) (tied_itself steps_total k) in
    front_first p q both.1 (subst (λ o. ordering_then o (path_order p q) ≡ Greater) tied g)

front_between : (p q r : Path) → NotAfter p q → NotAfter q r → is_front p r ≡ true → is_front p q ≡ true
front_between [] q r low high is = refl
front_between (k ∷ p) [] r low high is = absurd (low refl)
front_between (k ∷ p) (l ∷ q) [] low high is = cc is
front_between (k ∷ p) (l ∷ q) (m ∷ r) low high is =
    let both = and_parts (bytes_eq k m) (pointwise bytes_eq p (take (length p) r)) is in
    go (step_cmp k l) refl low (subst (λ x. NotAfter (l ∷ q) (x ∷ r)) (sym (bytes_same k m both.0)) high) (λ here on. front_between p q r here on both.1)
  where
    go : (o : Ordering) → step_cmp k l ≡ o → ordering_then o (path_order p q) ≢ Greater → NotAfter (l ∷ q) (k ∷ r) → (NotAfter p q → NotAfter q r → is_front p q ≡ true) → is_front (k ∷ p) (l ∷ q) ≡ true
    go Less e here on rest = absurd (on (ap (λ o. ordering_then o (path_order q r)) ((steps_total).antisymm l k ∙ ap ordering_reverse e)))
    go Equal e here on rest =
        let back : step_cmp l k ≡ Equal = (steps_total).antisymm l k ∙ ap ordering_reverse e in
        let further : NotAfter q r = subst (λ o. ordering_then o (path_order q r) ≢ Greater) back on in
        and_from (bytes_eq k l) (is_front p q) (bytes_refl k l (same_step k l e)) (rest here further)
    go Greater e here on rest = absurd (here refl)

less_not_after : (p q : Path) → is_lt (path_order q p) ≡ false → NotAfter p q
less_not_after p q behind g = less_clash (path_order q p) ((paths_total).antisymm q p ∙ ap ordering_reverse g) behind

-- ---- the paths that are kept

-- what is dropped behind the path that was kept last
abbrev pub is_inside : Path → Path → Bool
is_inside path outer = is_front outer path

abbrev pub leads_to : Path → Path → Bool
leads_to at path = is_front path at

passed : (a b c : Bool) → (b ≡ true → a ≡ true) → (a || c) ≡ (a || (b || c))
passed true b c on = refl
passed false true c on = let no = on refl in cc no
passed false false c on = refl

leads_from : (at k : Path) (xs : List Path) → list_any (leads_to at) (dedup_from is_inside k xs) ≡ (leads_to at k || list_any (leads_to at) xs)
leads_from at k [] = refl
leads_from at k (x ∷ xs) =
    cond_both (is_inside x k) (dedup_from is_inside k xs) (k ∷ dedup_from is_inside x xs) (λ kept. list_any (leads_to at) kept ≡ (leads_to at k || (leads_to at x || list_any (leads_to at) xs)))
    (λ inside. leads_from at k xs ∙ passed (leads_to at k) (leads_to at x) (list_any (leads_to at) xs) (λ on. leads_through k x at inside on))
    (λ _. ap (λ b. leads_to at k || b) (leads_from at x xs))

leads_dedup : (at : Path) (xs : List Path) → list_any (leads_to at) (dedup is_inside xs) ≡ list_any (leads_to at) xs
leads_dedup at [] = refl
leads_dedup at (x ∷ xs) = leads_from at x xs

apart_from : (k : Path) (xs : List Path) → AllPairs NotAfter (k ∷ xs) → AreOutermost (dedup_from is_inside k xs)
apart_from k [] up = AllPairs-cons StandsBefore k [] (λ j d within. absurd (omega (arith, within))) (λ i j d low within. absurd (omega (arith, within)))
apart_from k (x ∷ xs) up =
    cond_both (is_inside x k) (dedup_from is_inside k xs) (k ∷ dedup_from is_inside x xs) AreOutermost
    (λ _. apart_from k xs
    (AllPairs-cons NotAfter k xs (λ j d within. up 0 (suc (suc j)) d (omega arith) (omega (arith, within))) (λ i j d low within. up (suc (suc i)) (suc (suc j)) d (omega (arith, low)) (omega (arith, within)))))
    (λ outside.
    AllPairs-cons StandsBefore k (dedup_from is_inside x xs)
    (All-dedup is_inside (StandsBefore k) (x ∷ xs)
    (All-cons (StandsBefore k) x xs (up 0 1 k (omega arith) (omega arith), outside)
    (λ j d within. (
      up 0 (suc (suc j)) d (omega arith) (omega (arith, within)),
      false_from_ne_true (is_front k (get_or xs j d)) (λ on.
          let inside = front_between k x (get_or xs j d) (up 0 1 k (omega arith) (omega arith)) (up 1 (suc (suc j)) d (omega arith) (omega (arith, within))) on in
          let clash : true ≡ false = sym inside ∙ outside in
          cc clash),
    ))))
    (apart_from x xs (λ i j d low within. up (suc i) (suc j) d (omega (arith, low)) (omega (arith, within)))))

-- the same places, by the outermost paths in their order
pub record IsOutermostOf (paths kept : List Path) : Type 0 where
  pub same : (at : Path) → list_any (leads_to at) kept ≡ list_any (leads_to at) paths
  pub apart : AreOutermost kept

pub outermost_of : (paths sorted kept : List Path) → IsPermutation paths sorted → IsSortedBy lower_path sorted → kept ≡ dedup is_inside sorted → IsOutermostOf paths kept
outermost_of paths sorted kept moved up is = record {
  same = λ at. ap (λ ps. list_any (leads_to at) ps) is ∙ leads_dedup at sorted ∙ sym (list_any-IsPermutation (leads_to at) paths sorted moved);
  apart = subst AreOutermost (sym is) (apart sorted (λ i j d low within. less_not_after (get_or sorted i d) (get_or sorted j d) (sorted_far lower_path (ranks_by paths_total (λ (p : Path). p)) sorted up i j d (omega (arith, low)) within)));
}
  where
    apart : (xs : List Path) → AllPairs NotAfter xs → AreOutermost (dedup is_inside xs)
    apart [] up = λ i j d low within. absurd (omega (arith, within))
    apart (x ∷ xs) up = apart_from x xs up

-- ---- where a place is looked for

-- a path does not come after the place
abbrev pub stays : Path → Path → Bool
stays at path = is_le (path_order path at)

stays_is : (o : Ordering) → o ≢ Greater → is_le o ≡ true
stays_is Less n = refl
stays_is Equal n = refl
stays_is Greater n = absurd (n refl)

is_stays : (o : Ordering) → is_le o ≡ true → o ≢ Greater
is_stays Less e g = cc g
is_stays Equal e g = cc g
is_stays Greater e g = cc e

not_after_less : (p q : Path) → NotAfter p q → is_lt (path_order q p) ≡ false
not_after_less p q on = ap is_lt ((paths_total).antisymm q p) ∙ go (path_order p q) on
  where
    go : (o : Ordering) → o ≢ Greater → is_lt (ordering_reverse o) ≡ false
    go Less n = refl
    go Equal n = refl
    go Greater n = absurd (n refl)

not_after_through : (p q r : Path) → NotAfter p q → NotAfter q r → NotAfter p r
not_after_through p q r low high = less_not_after p r ((ranks_by paths_total (λ (x : Path). x)).chain r q p (not_after_less q r high) (not_after_less p q low))

module _ (paths : List Path) (at : Path) (apart : AreOutermost paths) where
  pub parted : IsPartitionedBy (stays at) paths
  parted i j d low within on = go (before_or_at i j (omega (arith, low)))
    where
      go : (i < j) ⊎ (i ≡ j) → stays at (get_or paths i d) ≡ true
      go (inl less) = stays_is (path_order (get_or paths i d) at) (not_after_through (get_or paths i d) (get_or paths j d) at ((apart i j d less within).0) (is_stays (path_order (get_or paths j d) at) on))
      go (inr same) = subst (λ n. stays at (get_or paths n d) ≡ true) (sym same) on

  module _ (behind : ℕ) (within : behind ≤ length paths) (point : IsPartitionPoint (λ path. stays at path ≡ true) (λ path. stays at path ≡ false) paths behind) where
    only_last : (j : ℕ) (d : Path) → j < length paths → leads_to at (get_or paths j d) ≡ true → suc j ≡ behind
    only_last j d inside leads = go (compare_lt (suc j) behind)
      where
        low : stays at (get_or paths j d) ≡ true
        low = stays_is (path_order (get_or paths j d) at) (front_first (get_or paths j d) at leads)

        go : (suc j < behind) ⊎ ((suc j ≡ behind) ⊎ (behind < suc j)) → suc j ≡ behind
        go (inl less) =
            let last = get_or paths (behind - 1) d in
            let before : StandsBefore (get_or paths j d) last = apart j (behind - 1) d (omega (arith, less)) (omega (arith, less, within)) in
            let stays_last = point.0 (behind - 1) d (omega arith) (omega (arith, less)) in
            let in_last = front_between (get_or paths j d) last at before.0 (is_stays (path_order last at) stays_last) leads in
            let clash : true ≡ false = sym in_last ∙ before.1 in
            cc clash
        go (inr (inl same)) = same
        go (inr (inr more)) =
            let clash : true ≡ false = sym low ∙ point.1 j d (omega (arith, more)) inside in
            cc clash

    pub none_leads : behind ≡ 0 → list_any (leads_to at) paths ≡ false
    none_leads none = false_from_ne_true (list_any (leads_to at) paths) (λ some.
        let hit = Any-from_list_any (leads_to at) paths some in
        let last = only_last hit.0 hit.1 hit.2 (subst (λ p. leads_to at p ≡ true) (sym hit.3) hit.4) in
        absurd (omega (arith, last, none)))

    pub last_leads : (d : Path) → 0 < behind → list_any (leads_to at) paths ≡ leads_to at (get_or paths (behind - 1) d)
    last_leads d some = both_ways (list_any (leads_to at) paths) (leads_to at (get_or paths (behind - 1) d))
        (λ leads.
        let hit = Any-from_list_any (leads_to at) paths leads in
        let last = only_last hit.0 hit.1 hit.2 (subst (λ p. leads_to at p ≡ true) (sym hit.3) hit.4) in
        let same : hit.0 ≡ behind - 1 = omega (arith, last) in
        let same_path = get_or_default paths hit.0 hit.1 d hit.2 in
        subst (λ n. leads_to at (get_or paths n d) ≡ true) same (subst (λ p. leads_to at p ≡ true) (sym hit.3 ∙ same_path) hit.4))
        (λ leads. list_any_at (leads_to at) paths (behind - 1) d (omega (arith, some, within)) leads)
