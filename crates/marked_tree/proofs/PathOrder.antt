-- Sorted paths: those that go on by a step stand in one run.
use Rattle.std.proofs.Common.{◌≡◌, ◌≢◌, ℕ, zero, suc, ◌+◌, ◌-◌, ◌<◌, ◌≤◌, List, [], ◌∷◌, Some, None, length, take, drop, get_or, Bool, true, false, ◌||◌, Ordering, Less, Equal, Greater, refl, sym, ap, subst, ◌∙◌, arith}
use Rattle.std.specs.Prelude.{◌==◌}
use Rattle.std.specs.List.{slice_get}
use Rattle.std.specs.List.Sorted.{IsPartitionedBy, IsSortedBy}
use Rattle.std.specs.Ordering.{ordering_index, ordering_then, ordering_reverse, is_lt}
use Rattle.std.specs.Cmp.{IsTotalOrder}
use Rattle.std.proofs.lemmas.Cmp.{tied_itself, lists_total, is_eq_index}
use Rattle.std.proofs.lemmas.List.{length-drop}
use Rattle.std.proofs.Math.Seq.{take-length}
use Rattle.std.proofs.lemmas.List.Sorted.{sorted_far, ranks_by}
use Rattle.claim_tree.specs.Tree.{Text}
use Rattle.sd_outside.proofs.Lists.{bytes_refl}
use Rattle.marked_tree.specs.Paths.{Path, same_path, is_among}
use Rattle.marked_tree.specs.Rests.{rests, step_cmp, step_order, path_order, AfterNone, AreSorted, Every, Compares, IsRunOfPaths, one_head, headed}
use Rattle.claim_tree.proofs.MapPlaces.{less_clash}
use Rattle.marked_tree.proofs.StepOrder.{steps_total, same_step, step_before, steps_apart, steps_apart_back}
use Rattle.marked_tree.proofs.Names.{behind_last}

pub paths_total : IsTotalOrder path_order
paths_total = lists_total steps_total

pub not_greater : (o : Ordering) → (o ≡ Less) → o ≢ Greater
not_greater Less e g = cc
not_greater Equal e g = cc
not_greater Greater e g = cc

tie_not_greater : (o : Ordering) → (o ≡ Equal) → o ≢ Greater
tie_not_greater Less e g = cc
tie_not_greater Equal e g = cc
tie_not_greater Greater e g = cc

-- ---- the first steps of sorted paths

less_before : (a b : Path) (step : Text) → path_order a b ≢ Greater → step_order b step ≡ Less → step_order a step ≡ Less
less_before [] b step n e = refl
less_before (k ∷ a) [] step n e = absurd (n refl)
less_before (k ∷ a) (l ∷ b) step n e = go (step_cmp k l) refl n
  where
    go : (o : Ordering) → step_cmp k l ≡ o → ordering_then o (path_order a b) ≢ Greater → step_cmp k step ≡ Less
    go Less c n = (steps_total).trans k l step c e
    go Equal c n = subst (λ x. step_cmp x step ≡ Less) (sym (same_step k l c)) e
    go Greater c n = absurd (n refl)

equal_before : (a b : Path) (step : Text) → path_order a b ≢ Greater → step_order b step ≡ Equal → step_order a step ≢ Greater
equal_before [] b step n e = not_greater Less refl
equal_before (k ∷ a) [] step n e = absurd (n refl)
equal_before (k ∷ a) (l ∷ b) step n e = go (step_cmp k l) refl n
  where
    go : (o : Ordering) → step_cmp k l ≡ o → ordering_then o (path_order a b) ≢ Greater → step_cmp k step ≢ Greater
    go Less c n = not_greater (step_cmp k step) (subst (λ x. step_cmp k x ≡ Less) (same_step l step e) c)
    go Equal c n = tie_not_greater (step_cmp k step) (subst (λ x. step_cmp x step ≡ Equal) (sym (same_step k l c)) e)
    go Greater c n = absurd (n refl)

after_at : (depth : ℕ) (p : Path) (xs : List Path) (j : ℕ) (d : Path) → AfterNone path_order p (rests depth xs) → j < length xs → path_order p (drop depth (get_or xs j d)) ≢ Greater
after_at depth p [] j d s l = absurd (omega arith)
after_at depth p (x ∷ xs) zero d s l = s.0
after_at depth p (x ∷ xs) (suc j) d s l = after_at depth p xs j d s.1 (omega arith)

pub sorted_pair : (depth : ℕ) (xs : List Path) (i j : ℕ) (d : Path) → AreSorted (rests depth xs) → i ≤ j → j < length xs → path_order (drop depth (get_or xs i d)) (drop depth (get_or xs j d)) ≢ Greater
sorted_pair depth [] i j d s l h = absurd (omega arith)
sorted_pair depth (x ∷ xs) zero zero d s l h = tie_not_greater (path_order (drop depth x) (drop depth x)) (tied_itself paths_total (drop depth x))
sorted_pair depth (x ∷ xs) zero (suc j) d s l h = after_at depth (drop depth x) xs j d s.0 (omega arith)
sorted_pair depth (x ∷ xs) (suc i) zero d s l h = absurd (omega arith)
sorted_pair depth (x ∷ xs) (suc i) (suc j) d s l h = sorted_pair depth xs i j d s.1 (omega arith) (omega arith)

-- the tests by which the run is searched
abbrev pub is_less : ℕ → Text → Path → Bool
is_less depth step y = ordering_index (step_order (drop depth y) step) == 0

abbrev pub is_tied : ℕ → Text → Path → Bool
is_tied depth step y = ordering_index (step_order (drop depth y) step) == 1

pub tied_is : (o : Ordering) → (ordering_index o == 1) ≡ true → o ≡ Equal
tied_is Less e = let w = is_eq_index Less ∙ e in cc
tied_is Equal e = refl
tied_is Greater e = let w = is_eq_index Greater ∙ e in cc

pub index_less : (o : Ordering) → o ≡ Less → (ordering_index o == 0) ≡ true
index_less Less e = refl
index_less Equal e = cc
index_less Greater e = cc

index_equal : (o : Ordering) → o ≢ Greater → (ordering_index o == 0) ≡ false → (ordering_index o == 1) ≡ true
index_equal Less n e = let w : true ≡ false = e in cc
index_equal Equal n e = refl
index_equal Greater n e = absurd (n refl)

pub index_greater : (o : Ordering) → (ordering_index o == 0) ≡ false → (ordering_index o == 1) ≡ false → o ≡ Greater
index_greater Less e f = let w : true ≡ false = e in cc
index_greater Equal e f = let w : true ≡ false = f in cc
index_greater Greater e f = refl

pub parted_less : (depth : ℕ) (step : Text) (xs : List Path) → AreSorted (rests depth xs) → IsPartitionedBy (is_less depth step) xs
parted_less depth step xs s i j d l h t =
    index_less (step_order (drop depth (get_or xs i d)) step)
    (less_before (drop depth (get_or xs i d)) (drop depth (get_or xs j d)) step (sorted_pair depth xs i j d s l h) (behind_last (step_order (drop depth (get_or xs j d)) step) t))

pub parted_tied : (depth : ℕ) (step : Text) (xs : List Path) → AreSorted (rests depth xs) → ((k : ℕ) (d : Path) → k < length xs → is_less depth step (get_or xs k d) ≡ false) → IsPartitionedBy (is_tied depth step) xs
parted_tied depth step xs s none i j d l h t =
    index_equal (step_order (drop depth (get_or xs i d)) step)
    (equal_before (drop depth (get_or xs i d)) (drop depth (get_or xs j d)) step (sorted_pair depth xs i j d s l h) (tied_is (step_order (drop depth (get_or xs j d)) step) t))
    (none i d (omega (arith, l, h)))

-- ---- parts of sorted paths

after_dropped : (depth : ℕ) (n : ℕ) (xs : List Path) → AreSorted (rests depth xs) → AreSorted (rests depth (drop n xs))
after_dropped depth zero xs s = s
after_dropped depth (suc n) [] s = tt
after_dropped depth (suc n) (x ∷ xs) s = after_dropped depth n xs s.1

pub sorted_drop : (depth : ℕ) (n : ℕ) (xs : List Path) → AreSorted (rests depth xs) → AreSorted (rests depth (drop n xs))
sorted_drop depth n xs s = after_dropped depth n xs s

after_take : (depth : ℕ) (p : Path) (n : ℕ) (xs : List Path) → AfterNone path_order p (rests depth xs) → AfterNone path_order p (rests depth (take n xs))
after_take depth p zero xs s = tt
after_take depth p (suc n) [] s = tt
after_take depth p (suc n) (x ∷ xs) s = (s.0, after_take depth p n xs s.1)

pub sorted_take : (depth : ℕ) (n : ℕ) (xs : List Path) → AreSorted (rests depth xs) → AreSorted (rests depth (take n xs))
sorted_take depth zero xs s = tt
sorted_take depth (suc n) [] s = tt
sorted_take depth (suc n) (x ∷ xs) s = (after_take depth (drop depth x) n xs s.0, sorted_take depth n xs s.1)

-- ---- the run

pub every_taken : (P : Path → Type 0) (n : ℕ) (xs : List Path) → ((k : ℕ) (d : Path) → k < n → k < length xs → P (get_or xs k d)) → Every P (take n xs)
every_taken P zero xs all = tt
every_taken P (suc n) [] all = tt
every_taken P (suc n) (x ∷ xs) all = (all 0 x (omega arith) (omega arith), every_taken P n xs (λ k d l h. all (suc k) d (omega arith) (omega arith)))

pub every_dropped : (P : Path → Type 0) (n : ℕ) (xs : List Path) → ((k : ℕ) (d : Path) → n ≤ k → k < length xs → P (get_or xs k d)) → Every P (drop n xs)
every_dropped P n [] all = go n
  where
    go : (m : ℕ) → Every P (drop m [])
    go zero = tt
    go (suc m) = tt
every_dropped P zero (x ∷ xs) all = (all 0 x (omega arith) (omega arith), every_dropped P zero xs (λ k d l h. all (suc k) d (omega arith) (omega arith)))
every_dropped P (suc n) (x ∷ xs) all = every_dropped P n xs (λ k d l h. all (suc k) d (omega arith) (omega arith))

rest_of : (depth : ℕ) (x : Path) (k : Text) (t : Path) → drop depth x ≡ k ∷ t → drop (depth + 1) x ≡ t
rest_of zero x k t e = let one : 0 + 1 ≡ 1 = omega arith in rw (one, e) refl
rest_of (suc depth) [] k t e = cc
rest_of (suc depth) (y ∷ x) k t e = let more : suc depth + 1 ≡ suc (depth + 1) = omega arith in rw more (rest_of depth x k t e)

module _ (depth : ℕ) (step : Text) where
  record Begins (x : Path) : Type 0 where
    rest : Path
    is : drop depth x ≡ step ∷ rest
    further : drop (depth + 1) x ≡ rest

  begins : (x : Path) → step_order (drop depth x) step ≡ Equal → Begins x
  begins x e = go (drop depth x) refl e
    where
      go : (q : Path) → drop depth x ≡ q → step_order q step ≡ Equal → Begins x
      go [] f g = cc
      go (k ∷ t) f g =
          let here : drop depth x ≡ step ∷ t = f ∙ ap (λ a. a ∷ t) (same_step k step g) in
          record { rest = t; is = here; further = rest_of depth x step t here }

  abbrev Before : Path → Type 0
  Before = Compares Less depth step

  abbrev Within : Path → Type 0
  Within = Compares Equal depth step

  abbrev Behind : Path → Type 0
  Behind = Compares Greater depth step

  front_differs : (q p : Path) → step_order q step ≡ Less → same_path (step ∷ p) q ≡ false
  front_differs [] p e = refl
  front_differs (k ∷ t) p e = rw (steps_apart_back k step e) refl

  back_differs : (q p : Path) → step_order q step ≡ Greater → same_path (step ∷ p) q ≡ false
  back_differs [] p e = cc
  back_differs (k ∷ t) p e = rw (steps_apart step k (step_before k step e)) refl

  skip_front : (p : Path) (n : ℕ) (xs : List Path) → Every Before (take n xs) → is_among (rests depth xs) (step ∷ p) ≡ is_among (rests depth (drop n xs)) (step ∷ p)
  skip_front p zero xs all = refl
  skip_front p (suc n) [] all = refl
  skip_front p (suc n) (x ∷ xs) all = rw (front_differs (drop depth x) p all.0) (skip_front p n xs all.1)

  skip_all : (p : Path) (xs : List Path) → Every Behind xs → is_among (rests depth xs) (step ∷ p) ≡ false
  skip_all p [] all = refl
  skip_all p (x ∷ xs) all = rw (back_differs (drop depth x) p all.0) (skip_all p xs all.1)

  skip_back : (p : Path) (n : ℕ) (xs : List Path) → Every Behind (drop n xs) → is_among (rests depth xs) (step ∷ p) ≡ is_among (rests depth (take n xs)) (step ∷ p)
  skip_back p zero xs all = skip_all p xs all
  skip_back p (suc n) [] all = refl
  skip_back p (suc n) (x ∷ xs) all = ap (λ b. same_path (step ∷ p) (drop depth x) || b) (skip_back p n xs all)

  go_on : (p : Path) (xs : List Path) → Every Within xs → is_among (rests depth xs) (step ∷ p) ≡ is_among (rests (depth + 1) xs) p
  go_on p [] all = refl
  go_on p (x ∷ xs) all =
      let b = begins x all.0 in
      rw (b.is, b.further, bytes_refl step step refl) (ap (λ c. same_path p b.rest || c) (go_on p xs all.1))

  -- ---- counts

  front_none : (q : Path) → step_order q step ≡ Less → one_head step q ≡ 0
  front_none [] e = refl
  front_none (k ∷ t) e = rw (steps_apart k step e) refl

  back_none : (q : Path) → step_order q step ≡ Greater → one_head step q ≡ 0
  back_none [] e = refl
  back_none (k ∷ t) e = rw (steps_apart_back step k (step_before k step e)) refl

  count_front : (n : ℕ) (xs : List Path) → Every Before (take n xs) → headed step (rests depth xs) ≡ headed step (rests depth (drop n xs))
  count_front zero xs all = refl
  count_front (suc n) [] all = refl
  count_front (suc n) (x ∷ xs) all = omega (arith, front_none (drop depth x) all.0, count_front n xs all.1)

  count_none : (xs : List Path) → Every Behind xs → headed step (rests depth xs) ≡ 0
  count_none [] all = refl
  count_none (x ∷ xs) all = omega (arith, back_none (drop depth x) all.0, count_none xs all.1)

  count_back : (n : ℕ) (xs : List Path) → Every Behind (drop n xs) → headed step (rests depth xs) ≡ headed step (rests depth (take n xs))
  count_back zero xs all = count_none xs all
  count_back (suc n) [] all = refl
  count_back (suc n) (x ∷ xs) all = omega (arith, count_back n xs all)

  count_within : (xs : List Path) → Every Within xs → headed step (rests depth xs) ≡ length xs
  count_within [] all = refl
  count_within (x ∷ xs) all =
      let b = begins x all.0 in
      let one : one_head step (drop depth x) ≡ 1 = rw (b.is, bytes_refl step step refl) refl in
      omega (arith, one, count_within xs all.1)

  -- ---- order

  tails_order : (p q : Path) → path_order (step ∷ p) (step ∷ q) ≡ path_order p q
  tails_order p q = rw (tied_itself steps_total step) refl

  after_tails : (p : Path) (xs : List Path) → Every Within xs → AfterNone path_order (step ∷ p) (rests depth xs) → AfterNone path_order p (rests (depth + 1) xs)
  after_tails p [] all s = tt
  after_tails p (x ∷ xs) all s =
      let b = begins x all.0 in
      let here : path_order p b.rest ≢ Greater = subst (λ o. o ≢ Greater) (tails_order p b.rest) (subst (λ q. path_order (step ∷ p) q ≢ Greater) b.is s.0) in
      (subst (λ q. path_order p q ≢ Greater) (sym b.further) here, after_tails p xs all.1 s.1)

  sorted_tails : (xs : List Path) → Every Within xs → AreSorted (rests depth xs) → AreSorted (rests (depth + 1) xs)
  sorted_tails [] all s = tt
  sorted_tails (x ∷ xs) all s =
      let b = begins x all.0 in
      (subst (λ q. AfterNone path_order q (rests (depth + 1) xs)) (sym b.further) (after_tails b.rest xs all.1 (subst (λ q. AfterNone path_order q (rests depth xs)) b.is s.0)), sorted_tails xs all.1 s.1)

  module _ (xs : List Path) (start count : ℕ) (run : IsRunOfPaths depth step xs start count) where
    pub run_sorted : AreSorted (rests depth xs) → AreSorted (rests (depth + 1) (take count (drop start xs)))
    run_sorted s = sorted_tails (take count (drop start xs)) run.run (sorted_take depth count (drop start xs) (sorted_drop depth start xs s))

    pub run_below : (p : Path) → is_among (rests (depth + 1) (take count (drop start xs))) p ≡ is_among (rests depth xs) (step ∷ p)
    run_below p =
        sym (skip_front p start xs run.before ∙ skip_back p count (drop start xs) run.behind ∙ go_on p (take count (drop start xs)) run.run)

    pub run_count : length (take count (drop start xs)) ≡ headed step (rests depth xs)
    run_count = sym (count_front start xs run.before ∙ count_back count (drop start xs) run.behind ∙ count_within (take count (drop start xs)) run.run)

-- ---- paths that are sorted once

after_sorted : (p : Path) (xs : List Path) → ((k : ℕ) (d : Path) → k < length xs → is_lt (path_order (get_or xs k d) p) ≡ false) → AfterNone path_order p xs
after_sorted p [] all = tt
after_sorted p (x ∷ xs) all = (λ g. less_clash (path_order x p) ((paths_total).antisymm x p ∙ ap ordering_reverse g) (all 0 x (omega arith)), after_sorted p xs (λ k d l. all (suc k) d (omega arith)))

sorted_pairs : (xs : List Path) → ((i j : ℕ) (d : Path) → i ≤ j → j < length xs → is_lt (path_order (get_or xs j d) (get_or xs i d)) ≡ false) → AreSorted xs
sorted_pairs [] all = tt
sorted_pairs (x ∷ xs) all = (after_sorted x xs (λ k d l. all 0 (suc k) d (omega arith) (omega arith)), sorted_pairs xs (λ i j d l h. all (suc i) (suc j) d (omega arith) (omega arith)))

abbrev pub lower_path : Path → Path → Bool
lower_path p q = is_lt (path_order p q)

pub are_sorted : (xs : List Path) → IsSortedBy lower_path xs → AreSorted xs
are_sorted xs s = sorted_pairs xs (sorted_far lower_path (ranks_by paths_total (λ (p : Path). p)) xs s)

pub rests_zero : (xs : List Path) → rests 0 xs ≡ xs
rests_zero [] = refl
rests_zero (x ∷ xs) = ap (λ ys. x ∷ ys) (rests_zero xs)

-- ---- a path that ends

none_ends : (k : Text) (t : Path) (ps : List Path) → AfterNone path_order (k ∷ t) ps → is_among ps [] ≡ false
none_ends k t [] s = refl
none_ends k t ([] ∷ ps) s = absurd (s.0 refl)
none_ends k t ((l ∷ q) ∷ ps) s = none_ends k t ps s.1

pub at_end : (depth : ℕ) (x : Path) → length x ≤ depth → drop depth x ≡ []
at_end zero [] l = refl
at_end zero (k ∷ x) l = absurd (omega arith)
at_end (suc depth) [] l = refl
at_end (suc depth) (k ∷ x) l = at_end depth x (omega arith)

pub goes_on : (depth : ℕ) (x : Path) → depth < length x → (k : Text) × (t : Path) × (drop depth x ≡ k ∷ t)
goes_on zero (k ∷ x) l = (k, x, refl)
goes_on zero [] l = absurd (omega arith)
goes_on (suc depth) [] l = absurd (omega arith)
goes_on (suc depth) (k ∷ x) l = goes_on depth x (omega arith)

pub first_goes_on : (depth : ℕ) (x : Path) (xs : List Path) → AreSorted (rests depth (x ∷ xs)) → depth < length x → is_among (rests depth (x ∷ xs)) [] ≡ false
first_goes_on depth x xs s l =
    let w = goes_on depth x l in
    rw w.2 (none_ends w.0 w.1 (rests depth xs) (subst (λ q. AfterNone path_order q (rests depth xs)) w.2 s.0))

pub none_ends_first : (depth : ℕ) (ps : List Path) (x : Path) → Some x ≡ slice_get ps 0 → AreSorted (rests depth ps) → depth < length x → is_among (rests depth ps) [] ≡ false
none_ends_first depth [] x e s l = cc
none_ends_first depth (y ∷ ps) x e s l = let same : x ≡ y = cc in first_goes_on depth y ps s (subst (λ q. depth < length q) same l)

-- ---- the step at a depth

pub step_there : (depth : ℕ) (x : Path) (k step : Text) → Some k ≡ slice_get x depth → step_cmp k step ≡ step_order (drop depth x) step
step_there depth [] k step e = cc
step_there zero (l ∷ x) k step e = let same : k ≡ l = cc in ap (λ a. step_cmp a step) same
step_there (suc depth) (l ∷ x) k step e = step_there depth x k step e

pub no_step : (depth : ℕ) (x : Path) (step : Text) → None ≡ slice_get x depth → Less ≡ step_order (drop depth x) step
no_step zero [] step e = refl
no_step (suc depth) [] step e = refl
no_step zero (l ∷ x) step e = cc
no_step (suc depth) (l ∷ x) step e = no_step depth x step e

pub rest_whole : (xs : List Path) (start : ℕ) → take (length xs - start) (drop start xs) ≡ drop start xs
rest_whole xs start = rw (sym (length-drop start xs)) (take-length (drop start xs))
