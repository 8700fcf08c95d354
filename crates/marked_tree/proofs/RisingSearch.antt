-- A number among rising ones: where a search finds it, and where it goes.
use Rattle.std.proofs.Common.{◌≡◌, ◌⊎◌, inl, inr, ℕ, zero, suc, ◌+◌, ◌-◌, ◌<◌, ◌≤◌, Bool, true, false, List, [], ◌∷◌, length, get_or, eqb, ◌||◌, Some, Result, Ok, Err, Ordering, Less, Equal, Greater, nat_cmp, refl, ap, sym, ◌∙◌, subst, arith, eq-eqb}
use Rattle.std.specs.BTreeSet.{insert_key}
use Rattle.std.specs.List.{insert, slice_get}
use Rattle.std.specs.List.Sorted.{IsSortedBy, IsSearchInRange, IsBinarySearchResult}
use Rattle.std.specs.Result.{is_ok}
use Rattle.std.specs.Ordering.{MatchOrdering, match_ordering, is_lt}
use Rattle.std.proofs.lemmas.Bool.{ne_eqb, cases_lt}
use Rattle.std.proofs.lemmas.Cmp.{ranked, nat_cmp_total}
use Rattle.std.proofs.lemmas.List.Sorted.{searchable_from_sorted}
use Rattle.std.proofs.lemmas.Option.{get_or_from_slice_get}
use Rattle.marked_tree.specs.Numbers.{has, AllAbove, IsRising}

-- ---- how numbers compare

ranks : (a b : ℕ) (o : Ordering) → nat_cmp a b ≡ o → MatchOrdering o (a < b) (a ≡ b) (b < a)
ranks a b o e = subst (λ r. MatchOrdering r (a < b) (a ≡ b) (b < a)) e (ranked a b (nat_cmp a b) refl)

pub same : (a b : ℕ) → nat_cmp a b ≡ Equal → a ≡ b
same a b e = ranks a b Equal e

less : (a b : ℕ) → a < b → nat_cmp a b ≡ Less
less a b l = go (nat_cmp a b) (ranked a b (nat_cmp a b) refl)
  where
    go : (o : Ordering) → MatchOrdering o (a < b) (a ≡ b) (b < a) → o ≡ Less
    go Less r = refl
    go Equal r = absurd (omega (arith, l, r))
    go Greater r = absurd (omega (arith, l, r))

equal : (a b : ℕ) → a ≡ b → nat_cmp a b ≡ Equal
equal a b l = go (nat_cmp a b) (ranked a b (nat_cmp a b) refl)
  where
    go : (o : Ordering) → MatchOrdering o (a < b) (a ≡ b) (b < a) → o ≡ Equal
    go Less r = absurd (omega (arith, l, r))
    go Equal r = refl
    go Greater r = absurd (omega (arith, l, r))

greater : (a b : ℕ) → b < a → nat_cmp a b ≡ Greater
greater a b l = go (nat_cmp a b) (ranked a b (nat_cmp a b) refl)
  where
    go : (o : Ordering) → MatchOrdering o (a < b) (a ≡ b) (b < a) → o ≡ Greater
    go Less r = absurd (omega (arith, l, r))
    go Equal r = absurd (omega (arith, l, r))
    go Greater r = refl

-- ---- where a search ends

above_at : (n : ℕ) (ns : List ℕ) (k d : ℕ) → AllAbove n ns → k < length ns → n < get_or ns k d
above_at n (m ∷ ns) zero d all l = all.0
above_at n (m ∷ ns) (suc k) d all l = above_at n ns k d all.1 (omega arith)
above_at n [] k d all l = absurd (omega arith)

rising_pair : (ns : List ℕ) (k d : ℕ) → IsRising ns → suc k < length ns → get_or ns k d < get_or ns (suc k) d
rising_pair (n ∷ ns) zero d r l = above_at n ns zero d r.0 (omega arith)
rising_pair (n ∷ ns) (suc k) d r l = rising_pair ns k d r.1 (omega arith)
rising_pair [] k d r l = absurd (omega arith)

sorted : (ns : List ℕ) → IsRising ns → IsSortedBy (λ (a b : ℕ). is_lt (nat_cmp a b)) ns
sorted ns r k d l h =
    let next : suc k ≡ k + 1 = omega arith in
    let pair : get_or ns k d < get_or ns (k + 1) d = subst (λ j. get_or ns k d < get_or ns j d) next (rising_pair ns k d r (omega (arith, h))) in
    ap is_lt (greater (get_or ns (k + 1) d) (get_or ns k d) pair)

rising_through : (ns : List ℕ) (k j d : ℕ) → IsRising ns → k ≤ j → j < length ns → get_or ns k d ≤ get_or ns j d
rising_through (n ∷ ns) zero zero d r l h = omega arith
rising_through (n ∷ ns) zero (suc j) d r l h = let a = above_at n ns j d r.0 (omega arith) in omega (arith, a)
rising_through (n ∷ ns) (suc k) zero d r l h = absurd (omega arith)
rising_through (n ∷ ns) (suc k) (suc j) d r l h = rising_through ns k j d r.1 (omega arith) (omega arith)
rising_through [] k j d r l h = absurd (omega arith)

last_most : (ns : List ℕ) (last k d : ℕ) → IsRising ns → slice_get ns (length ns - 1) ≡ Some last → k < length ns → get_or ns k d ≤ last
last_most ns last k d r is l =
    let e = get_or_from_slice_get ns (length ns - 1) last d is in
    let m = rising_through ns k (length ns - 1) d r (omega arith) (omega arith) in
    omega (arith, e, m)

-- a number behind the last one goes to the end
pub behind_last : (ns : List ℕ) (n last : ℕ) → IsRising ns → slice_get ns (length ns - 1) ≡ Some last → last < n → IsBinarySearchResult (λ (m : ℕ). nat_cmp m n) ns (Err (length ns))
behind_last ns n last r is l =
    λ sorted. (λ k d from low. less (get_or ns k d) n (let m = last_most ns last k d r is low in omega (arith, m, l)), λ k d from low. absurd (omega (arith, from, low)))

-- all before the place are less than the number, and all from there on are greater
pub record IsPlace (ns : List ℕ) (n i : ℕ) : Type 0 where
  pub within : i ≤ length ns
  pub before : (k d : ℕ) → k < i → get_or ns k d < n
  pub after : (k d : ℕ) → i ≤ k → k < length ns → n < get_or ns k d

pub place_of : (ns : List ℕ) (n i : ℕ) → IsRising ns → IsSearchInRange (Err i) (length ns) → IsBinarySearchResult (λ (m : ℕ). nat_cmp m n) ns (Err i) → IsPlace ns n i
place_of ns n i r within is =
    let parted = is (searchable_from_sorted nat_cmp_total (λ (m : ℕ). m) ns n (sorted ns r)) in
    record {
      within = within;
      before = λ k d low. ranks (get_or ns k d) n Less (parted.0 k d (omega arith) low);
      after = λ k d high l. ranks (get_or ns k d) n Greater (parted.1 k d high l);
    }

-- ---- what is put there

inserted_at : (ns : List ℕ) (n i : ℕ) → IsPlace ns n i → insert ns i n ≡ insert_key nat_cmp ns n
inserted_at [] n zero p = refl
inserted_at [] n (suc i) p = absurd (let w = p.within in omega arith)
inserted_at (m ∷ ns) n zero p = rw (less n m (p.after 0 0 (omega arith) (omega arith))) refl
inserted_at (m ∷ ns) n (suc i) p =
    rw (greater n m (p.before 0 0 (omega arith)))
    (ap (λ (xs : List ℕ). m ∷ xs)
    (inserted_at ns n i (record {
      within = (let w = p.within in omega arith);
      before = λ k d l. p.before (suc k) d (omega arith);
      after = λ k d l h. p.after (suc k) d (omega arith) (omega arith);
    })))

pub put_at : (ns : List ℕ) (n i : ℕ) → IsPlace ns n i → insert ns i n ≡ insert_key nat_cmp ns n
put_at ns n i p = inserted_at ns n i p

-- a number that is there is not put again
pub put_there : (ns : List ℕ) (n i d : ℕ) → IsRising ns → i < length ns → get_or ns i d ≡ n → insert_key nat_cmp ns n ≡ ns
put_there (m ∷ ns) n zero d r l e = rw (equal n m (sym e)) refl
put_there (m ∷ ns) n (suc i) d r l e =
    let under : m < n = subst (λ k. m < k) e (above_at m ns i d r.0 (omega arith)) in
    rw (greater n m under) (ap (λ (xs : List ℕ). m ∷ xs) (put_there ns n i d r.1 (omega arith) e))
put_there [] n i d r l e = absurd (omega arith)

rising_over : (ns : List ℕ) (k j d : ℕ) → IsRising ns → k < j → j < length ns → get_or ns k d < get_or ns j d
rising_over ns k j d r l h =
    let pair = rising_pair ns k d r (omega (arith, l, h)) in
    let rest = rising_through ns (suc k) j d r (omega (arith, l)) h in
    omega (arith, pair, rest)

-- what stands for a place that is none plays no part at a place
same_at : (ns : List ℕ) (k d e : ℕ) → k < length ns → get_or ns k d ≡ get_or ns k e
same_at (n ∷ ns) zero d e l = refl
same_at (n ∷ ns) (suc k) d e l = same_at ns k d e (omega arith)
same_at [] k d e l = absurd (omega arith)

-- ---- whether it is there

or_true : (b : Bool) → (b || true) ≡ true
or_true true = refl
or_true false = refl

pub has_at : (ns : List ℕ) (n i d : ℕ) → i < length ns → get_or ns i d ≡ n → has ns n ≡ true
has_at (m ∷ ns) n zero d l e = rw (eq-eqb n m (sym e)) refl
has_at (m ∷ ns) n (suc i) d l e = rw (has_at ns n i d (omega arith) e) (or_true (eqb n m))
has_at [] n i d l e = absurd (omega arith)

absent : (ns : List ℕ) (n : ℕ) → ((k d : ℕ) → k < length ns → get_or ns k d ≡ n → ⊥) → has ns n ≡ false
absent [] n other = refl
absent (m ∷ ns) n other = rw (ne_eqb n m (λ e. other 0 0 (omega arith) (sym e))) (absent ns n (λ k d l. other (suc k) d (omega arith)))

pub not_at : (ns : List ℕ) (n i : ℕ) → IsPlace ns n i → has ns n ≡ false
not_at ns n i p = absent ns n (λ k d l e. go k d l e (cases_lt k i))
  where
    go : (k d : ℕ) → k < length ns → get_or ns k d ≡ n → (k < i) ⊎ (i ≤ k) → ⊥
    go k d l e (inl low) = let b = p.before k d low in omega (arith, b, e)
    go k d l e (inr high) = let a = p.after k d high l in omega (arith, a, e)

-- a search tells it
pub search_tells : (ns : List ℕ) (n : ℕ) (r : Result ℕ ℕ) → IsRising ns → IsSearchInRange r (length ns) → IsBinarySearchResult (λ (m : ℕ). nat_cmp m n) ns r → is_ok r ≡ has ns n
search_tells ns n (Ok i) r within is = sym (has_at ns n i 0 within (same (get_or ns i 0) n (is 0)))
search_tells ns n (Err i) r within is = sym (not_at ns n i (place_of ns n i r within is))

-- ---- a cursor that goes over rising numbers, as n counts up

-- the numbers in front of i are less than n, and no other is
pub record IsFront (ns : List ℕ) (i n : ℕ) : Type 0 where
  pub within : i ≤ length ns
  pub before : (k d : ℕ) → k < i → get_or ns k d < n
  pub after : (k d : ℕ) → i ≤ k → k < length ns → n ≤ get_or ns k d

pub front_none : (ns : List ℕ) → IsFront ns 0 0
front_none ns = record { within = omega arith; before = λ k d l. absurd (omega (arith, l)); after = λ k d l h. omega arith }

-- where n stands at the cursor
pub front_at : (ns : List ℕ) (i n e : ℕ) → IsRising ns → IsFront ns i n → i < length ns → get_or ns i e ≡ n → IsFront ns (i + 1) (n + 1)
front_at ns i n e r f l is = record { within = omega (arith, l); before = λ k d h. go k d h (cases_lt k i); after = λ k d h m. let up = rising_over ns i k d r (omega (arith, h)) m in omega (arith, up, same_at ns i e d l, is) }
  where
    go : (k d : ℕ) → k < i + 1 → (k < i) ⊎ (i ≤ k) → get_or ns k d < n + 1
    go k d h (inl low) = let b = f.before k d low in omega (arith, b)
    go k d h (inr high) = let q : k ≡ i = omega (arith, h, high) in omega (arith, ap (λ j. get_or ns j d) q, same_at ns i e d l, is)

-- where it does not
pub front_past : (ns : List ℕ) (i n e : ℕ) → IsRising ns → IsFront ns i n → (i < length ns → get_or ns i e ≡ n → ⊥) → (has ns n ≡ false) × IsFront ns i (n + 1)
front_past ns i n e r f not = (not_at ns n i (record { within = f.within; before = f.before; after = above }), record { within = f.within; before = λ k d l. let b = f.before k d l in omega (arith, b); after = λ k d l h. let a = above k d l h in omega (arith, a) })
  where
    above : (k d : ℕ) → i ≤ k → k < length ns → n < get_or ns k d
    above k d l h =
        let a = f.after i d (omega arith) (omega (arith, l, h)) in
        let up = rising_through ns i k d r l h in
        go (nat_cmp n (get_or ns i d)) (ranked n (get_or ns i d) (nat_cmp n (get_or ns i d)) refl) a up
      where
        go : (o : Ordering) → MatchOrdering o (n < get_or ns i d) (n ≡ get_or ns i d) (get_or ns i d < n) → n ≤ get_or ns i d → get_or ns i d ≤ get_or ns k d → n < get_or ns k d
        go Less m a up = omega (arith, m, up)
        go Equal m a up = absurd (not (omega (arith, l, h)) (same_at ns i e d (omega (arith, l, h)) ∙ sym m))
        go Greater m a up = absurd (omega (arith, m, a))

-- ---- they stay rising

above_through : (n m : ℕ) (ns : List ℕ) → n < m → AllAbove m ns → AllAbove n ns
above_through n m [] l all = tt
above_through n m (k ∷ ns) l all = (omega (arith, l, all.0), above_through n m ns l all.1)

above_inserted : (m n : ℕ) (ns : List ℕ) → m < n → AllAbove m ns → AllAbove m (insert_key nat_cmp ns n)
above_inserted m n [] l all = (l, tt)
above_inserted m n (k ∷ ns) l all = go (nat_cmp n k) (above_inserted m n ns l all.1)
  where
    go : (o : Ordering) → AllAbove m (insert_key nat_cmp ns n) → AllAbove m (match_ordering o (n ∷ k ∷ ns) (k ∷ ns) (k ∷ insert_key nat_cmp ns n))
    go Less ih = (l, all)
    go Equal ih = all
    go Greater ih = (all.0, ih)

pub rising_inserted : (ns : List ℕ) (n : ℕ) → IsRising ns → IsRising (insert_key nat_cmp ns n)
rising_inserted [] n r = (tt, tt)
rising_inserted (m ∷ ns) n r = go (nat_cmp n m) (ranked n m (nat_cmp n m) refl) (rising_inserted ns n r.1)
  where
    go : (o : Ordering) → MatchOrdering o (n < m) (n ≡ m) (m < n) → IsRising (insert_key nat_cmp ns n) → IsRising (match_ordering o (n ∷ m ∷ ns) (m ∷ ns) (m ∷ insert_key nat_cmp ns n))
    go Less l ih = ((l, above_through n m ns l r.0), r)
    go Equal l ih = r
    go Greater l ih = (above_inserted m n ns l r.0, ih)
