-- The worklist reaches what the rounds reach.
use Rattle.std.proofs.Common.{◌≡◌, ℕ, zero, suc, ◌+◌, ◌-◌, ◌<◌, ◌≤◌, List, [], ◌∷◌, ◌++◌, length, get_or, set, replicate, Bool, true, false, cond, ◌&&◌, ◌⊎◌, inl, inr, ⊎_elim, refl, sym, ap, ◌∙◌, subst, arith, length-set}
use Rattle.std.proofs.lemmas.Bool.{or_left, or_right, or_cases, and_parts, and_from}
use Rattle.marked_tree.specs.Numbers.{has}
use Rattle.marked_tree.proofs.NumberSets.{has-In, In-has}
use Rattle.sd_outside.specs.Lists.{StandsAt, In}
use Rattle.claim_tree.proofs.Counting.{before_or_at}
use Rattle.sd_outside.proofs.Lists.{At-below, At-same}
use Rattle.rebuild_core.specs.Graph.{any_row, is_met_in, Marks, mark_one, mark_all, trues, IsClear}

-- ---- flags

pub in_range : (xs : List Bool) (k : ℕ) → get_or xs k true ≡ false → k < length xs
in_range (b ∷ bs) zero h = omega arith
in_range (b ∷ bs) (suc k) h = omega (arith, in_range bs k h)
in_range [] zero h = cc
in_range [] (suc k) h = cc

pub same_default : (xs : List Bool) (k : ℕ) → k < length xs → get_or xs k true ≡ true → get_or xs k false ≡ true
same_default (b ∷ bs) zero l h = h
same_default (b ∷ bs) (suc k) l h = same_default bs k (omega arith) h
same_default [] k l h = absurd (omega arith)

pub clear_at : (xs : List Bool) (k : ℕ) (d : Bool) → k < length xs → get_or xs k d ≡ false → IsClear xs k
clear_at (b ∷ bs) zero d l h = (l, h)
clear_at (b ∷ bs) (suc k) d l h = let w = clear_at bs k d (omega (arith, l)) h in (l, w.1)
clear_at [] k d l h = absurd (omega (arith, l))

pub set_is_not_clear : (xs : List Bool) (k : ℕ) (d : Bool) → get_or xs k d ≡ true → IsClear xs k → ⊥
set_is_not_clear (b ∷ bs) zero d h c = let z = sym h ∙ c.1 in cc
set_is_not_clear (b ∷ bs) (suc k) d h c = set_is_not_clear bs k d h (omega (arith, c.0), c.1)
set_is_not_clear [] k d h c = omega (arith, c.0)

pub not_both : (xs : List Bool) (k : ℕ) → get_or xs k true ≡ false → get_or xs k false ≡ true → ⊥
not_both (b ∷ bs) zero h g = cc
not_both (b ∷ bs) (suc k) h g = not_both bs k h g
not_both [] zero h g = cc
not_both [] (suc k) h g = cc

pub set_from : (xs : List Bool) (k j : ℕ) → get_or (set xs k true) j false ≡ true → (get_or xs j false ≡ true) ⊎ (j ≡ k)
set_from [] zero j h = inl h
set_from [] (suc k) j h = inl h
set_from (b ∷ bs) zero zero h = inr refl
set_from (b ∷ bs) zero (suc j) h = inl h
set_from (b ∷ bs) (suc k) zero h = inl h
set_from (b ∷ bs) (suc k) (suc j) h = ⊎_elim (λ l. inl l) (λ r. inr (ap suc r)) (set_from bs k j h)

pub set_keeps : (xs : List Bool) (k j : ℕ) → get_or xs j false ≡ true → get_or (set xs k true) j false ≡ true
set_keeps [] zero j h = h
set_keeps [] (suc k) j h = h
set_keeps (b ∷ bs) zero zero h = refl
set_keeps (b ∷ bs) zero (suc j) h = h
set_keeps (b ∷ bs) (suc k) zero h = h
set_keeps (b ∷ bs) (suc k) (suc j) h = set_keeps bs k j h

pub set_here : (xs : List Bool) (k : ℕ) → k < length xs → get_or (set xs k true) k false ≡ true
set_here [] k h = absurd (omega arith)
set_here (b ∷ bs) zero h = refl
set_here (b ∷ bs) (suc k) h = set_here bs k (omega arith)

count_set : (xs : List Bool) (k : ℕ) → get_or xs k true ≡ false → trues (set xs k true) ≡ suc (trues xs)
count_set (b ∷ bs) zero h = rw h (omega arith)
count_set (b ∷ bs) (suc k) h = omega (arith, count_set bs k h)
count_set [] zero h = cc
count_set [] (suc k) h = cc

trues_le : (xs : List Bool) → trues xs ≤ length xs
trues_le [] = omega arith
trues_le (true ∷ bs) = omega (arith, trues_le bs)
trues_le (false ∷ bs) = omega (arith, trues_le bs)

pub cleared : (n k : ℕ) → get_or (replicate n false) k false ≡ true → ⊥
cleared zero zero h = cc
cleared zero (suc k) h = cc
cleared (suc n) zero h = cc
cleared (suc n) (suc k) h = cleared n k h

trues_cleared : (n : ℕ) → trues (replicate n false) ≡ 0
trues_cleared zero = refl
trues_cleared (suc n) = omega (arith, trues_cleared n)

pub length-cleared : (n : ℕ) → length (replicate n false) ≡ n
length-cleared zero = refl
length-cleared (suc n) = ap suc (length-cleared n)

-- ---- the order

At-last : (xs : List ℕ) (k : ℕ) → StandsAt (xs ++ k ∷ []) (length xs) k
At-last [] k = refl
At-last (x ∷ xs) k = At-last xs k

At-more : (xs ys : List ℕ) (i k : ℕ) → StandsAt xs i k → StandsAt (xs ++ ys) i k
At-more (x ∷ xs) ys zero k h = h
At-more (x ∷ xs) ys (suc i) k h = At-more xs ys i k h
At-more [] ys i k h = elim h [ ]

At-less : (xs ys : List ℕ) (i k : ℕ) → StandsAt (xs ++ ys) i k → i < length xs → StandsAt xs i k
At-less (x ∷ xs) ys zero k h l = h
At-less (x ∷ xs) ys (suc i) k h l = At-less xs ys i k h (omega arith)
At-less [] ys i k h l = absurd (omega arith)

At-one : (xs : List ℕ) (i j k : ℕ) → StandsAt (xs ++ k ∷ []) i j → StandsAt xs i j ⊎ (j ≡ k)
At-one (x ∷ xs) zero j k h = inl h
At-one (x ∷ xs) (suc i) j k h = At-one xs i j k h
At-one [] zero j k h = inr h
At-one [] (suc i) j k h = elim h [ ]

length-last : (xs : List ℕ) (k : ℕ) → length (xs ++ k ∷ []) ≡ suc (length xs)
length-last [] k = refl
length-last (x ∷ xs) k = ap suc (length-last xs k)

-- the order has the marked numbers, each once
pub record Well (s : Marks) : Type 0 where
  pub count : trues s.0 ≡ length s.1
  pub listed : (k : ℕ) → get_or s.0 k false ≡ true → (i : ℕ) × StandsAt s.1 i k
  pub flagged : (i k : ℕ) → StandsAt s.1 i k → get_or s.0 k false ≡ true

pub record Spread (row : List ℕ) (s t : Marks) : Type 0 where
  pub len : length t.0 ≡ length s.0
  pub keeps : (k : ℕ) → get_or s.0 k false ≡ true → get_or t.0 k false ≡ true
  pub from : (k : ℕ) → get_or t.0 k false ≡ true → (get_or s.0 k false ≡ true) ⊎ (In k row × (length s.1 < length t.1))
  pub all : (k : ℕ) → In k row → k < length s.0 → get_or t.0 k false ≡ true
  pub before : (i k : ℕ) → StandsAt t.1 i k → i < length s.1 → StandsAt s.1 i k
  pub longer : length s.1 ≤ length t.1
  pub well : Well s → Well t

spread_none : (s : Marks) → Spread [] s s
spread_none s = record {
  len = refl;
  keeps = λ k h. h;
  from = λ k h. inl h;
  all = λ k h l. elim h [ ];
  before = λ i k h l. h;
  longer = omega arith;
  well = λ w. w;
}

spread_one : (k : ℕ) (s : Marks) → Spread (k ∷ []) s (mark_one k s)
spread_one k s = go (get_or s.0 k true) refl
  where
    go : (b : Bool) → get_or s.0 k true ≡ b → Spread (k ∷ []) s (cond b s (set s.0 k true, s.1 ++ k ∷ []))
    go true e = record {
      len = refl;
      keeps = λ j h. h;
      from = λ j h. inl h;
      all = λ j m l. one j m l e;
      before = λ i j h l. h;
      longer = omega arith;
      well = λ w. w;
    }
      where
        one : (j : ℕ) → In j (k ∷ []) → j < length s.0 → get_or s.0 k true ≡ true → get_or s.0 j false ≡ true
        one j (inl m) l e = same_default s.0 j l (ap (λ z. get_or s.0 z true) m ∙ e)
        one j (inr m) l e = elim m [ ]
    go false e = record {
      len = length-set s.0 k true;
      keeps = λ j h. set_keeps s.0 k j h;
      from = λ j h. ⊎_elim (λ l. inl l) (λ r. inr (inl r, omega (arith, length-last s.1 k))) (set_from s.0 k j h);
      all = λ j m l. one j m;
      before = λ i j h l. At-less s.1 (k ∷ []) i j h l;
      longer = omega (arith, length-last s.1 k);
      well = λ w. record {
        count = omega (arith, count_set s.0 k e, length-last s.1 k, w.count);
        listed = λ j h. ⊎_elim (λ l. let v = w.listed j l in (v.0, At-more s.1 (k ∷ []) v.0 j v.1)) (λ r. (length s.1, subst (λ z. StandsAt (s.1 ++ k ∷ []) (length s.1) z) (sym r) (At-last s.1 k))) (set_from s.0 k j h);
        flagged = λ i j h. ⊎_elim (λ l. set_keeps s.0 k j (w.flagged i j l)) (λ r. rw r (set_here s.0 k (in_range s.0 k e))) (At-one s.1 i j k h);
      };
    }
      where
        one : (j : ℕ) → In j (k ∷ []) → get_or (set s.0 k true) j false ≡ true
        one j (inl m) = rw m (set_here s.0 k (in_range s.0 k e))
        one j (inr m) = elim m [ ]

spread_join : (k : ℕ) (ks : List ℕ) (s t u : Marks) → Spread (k ∷ []) s t → Spread ks t u → Spread (k ∷ ks) s u
spread_join k ks s t u a b = record {
  len = b.len ∙ a.len;
  keeps = λ j h. b.keeps j (a.keeps j h);
  from = λ j h. ⊎_elim (λ l. ⊎_elim (λ m. inl m) (λ m. inr (only j m.0, omega (arith, m.1, b.longer))) (a.from j l)) (λ r. inr (inr r.0, omega (arith, r.1, a.longer))) (b.from j h);
  all = λ j m l. every j m l;
  before = λ i j h l. a.before i j (b.before i j h (omega (arith, l, a.longer))) l;
  longer = omega (arith, a.longer, b.longer);
  well = λ w. b.well (a.well w);
}
  where
    only : (j : ℕ) → In j (k ∷ []) → In j (k ∷ ks)
    only j (inl e) = inl e
    only j (inr e) = elim e [ ]

    every : (j : ℕ) → In j (k ∷ ks) → j < length s.0 → get_or u.0 j false ≡ true
    every j (inl e) l = b.keeps j (a.all j (inl e) l)
    every j (inr m) l = b.all j m (omega (arith, l, a.len))

pub spread : (row : List ℕ) (s : Marks) → Spread row s (mark_all row s)
spread [] s = spread_none s
spread (k ∷ ks) s = spread_join k ks s (mark_one k s) (mark_all ks (mark_one k s)) (spread_one k s) (spread ks (mark_one k s))

-- ---- rounds

any_row-At : (p : ℕ → Bool) (k i : ℕ) (rows : List (List ℕ)) → any_row p k i rows ≡ true
    → (j : ℕ) × (row : List ℕ) × StandsAt rows j row × (p (i + j) ≡ true) × In k row
any_row-At p k i [] h = cc
any_row-At p k i (row ∷ rows) h = go (any_row-At p k (suc i) rows) (or_cases (p i && has row k) (any_row p k (suc i) rows) h)
  where
    go : (any_row p k (suc i) rows ≡ true → (j : ℕ) × (r : List ℕ) × StandsAt rows j r × (p (suc i + j) ≡ true) × In k r)
        → ((p i && has row k) ≡ true) ⊎ (any_row p k (suc i) rows ≡ true) → (j : ℕ) × (r : List ℕ) × StandsAt (row ∷ rows) j r × (p (i + j) ≡ true) × In k r
    go ih (inl l) = let w = and_parts (p i) (has row k) l in let e : i + 0 ≡ i = omega arith in (0, row, refl, rw e w.0, has-In row k w.1)
    go ih (inr r) = let w = ih r in let e : i + suc w.0 ≡ suc i + w.0 = omega arith in (suc w.0, w.1, w.2, rw e w.3, w.4)

At-any_row : (p : ℕ → Bool) (k i j : ℕ) (rows : List (List ℕ)) (row : List ℕ) → StandsAt rows j row → p (i + j) ≡ true → In k row → any_row p k i rows ≡ true
At-any_row p k i zero (row ∷ rows) r a h m =
    let e : i + 0 ≡ i = omega arith in
    let q : p i ≡ true = ap p (sym e) ∙ h in
    or_left (p i && has row k) (any_row p k (suc i) rows) (and_from (p i) (has row k) q (In-has row k (subst (λ z. In k z) a m)))
At-any_row p k i (suc j) (row ∷ rows) r a h m =
    let e : suc i + j ≡ i + suc j = omega arith in
    or_right (p i && has row k) (any_row p k (suc i) rows) (At-any_row p k (suc i) j rows r a (ap p e ∙ h) m)
At-any_row p k i j [] r a h m = elim a [ ]

later_round : (roots : List ℕ) (rows : List (List ℕ)) (a r k : ℕ) → is_met_in roots rows r k ≡ true → is_met_in roots rows (a + r) k ≡ true
later_round roots rows zero r k h = let e : 0 + r ≡ r = omega arith in rw e h
later_round roots rows (suc a) r k h =
    let e : suc a + r ≡ suc (a + r) = omega arith in
    rw e (or_left (is_met_in roots rows (a + r) k) (any_row (is_met_in roots rows (a + r)) k 0 rows) (later_round roots rows a r k h))

pub round_le : (roots : List ℕ) (rows : List (List ℕ)) (r m k : ℕ) → r ≤ m → is_met_in roots rows r k ≡ true → is_met_in roots rows m k ≡ true
round_le roots rows r m k l h = let e : (m - r) + r ≡ m = omega arith in subst (λ z. is_met_in roots rows z k ≡ true) e (later_round roots rows (m - r) r k h)

-- ---- the worklist, whose first h numbers are done

pub record Fits (n : ℕ) (roots : List ℕ) (rows : List (List ℕ)) (h : ℕ) (s : Marks) : Type 0 where
  pub len : length s.0 ≡ n
  pub well : Well s
  pub sound : (k : ℕ) → get_or s.0 k false ≡ true → is_met_in roots rows (length s.1) k ≡ true
  pub rooted : (k : ℕ) → In k roots → k < n → get_or s.0 k false ≡ true
  pub closed : (i j k : ℕ) (row : List ℕ) → i < h → StandsAt s.1 i j → StandsAt rows j row → In k row → k < n → get_or s.0 k false ≡ true

pub fits_start : (n : ℕ) (roots : List ℕ) (rows : List (List ℕ)) → Fits n roots rows 0 (mark_all roots (replicate n false, []))
fits_start n roots rows =
    let s : Marks = (replicate n false, []) in
    let t : Marks = mark_all roots s in
    let w = spread roots s in
    let ws : Well s = record { count = trues_cleared n; listed = λ k h. absurd (cleared n k h); flagged = λ i k h. elim h [ ] } in
    record {
      len = w.len ∙ length-cleared n;
      well = w.well ws;
      sound = λ k h. ⊎_elim (λ l. absurd (cleared n k l)) (λ r. round_le roots rows 0 (length t.1) k (omega arith) (In-has roots k r.0)) (w.from k h);
      rooted = λ k m l. w.all k m (omega (arith, l, length-cleared n));
      closed = λ i j k row l. absurd (omega arith);
    }

pub fits_step : (n : ℕ) (roots : List ℕ) (rows : List (List ℕ)) (h j : ℕ) (row : List ℕ) (s : Marks)
    → Fits n roots rows h s → StandsAt s.1 h j → StandsAt rows j row → Fits n roots rows (suc h) (mark_all row s)
fits_step n roots rows h j row s f a b =
    let t : Marks = mark_all row s in
    let w = spread row s in
    record {
      len = w.len ∙ f.len;
      well = w.well f.well;
      sound = λ k e. ⊎_elim (λ l. round_le roots rows (length s.1) (length t.1) k w.longer (f.sound k l))
          (λ r. round_le roots rows (suc (length s.1)) (length t.1) k (omega (arith, r.1))
          (or_right (is_met_in roots rows (length s.1) k) (any_row (is_met_in roots rows (length s.1)) k 0 rows)
          (At-any_row (is_met_in roots rows (length s.1)) k 0 j rows row b (let z : 0 + j ≡ j = omega arith in rw z (f.sound j (f.well.flagged h j a))) r.0))) (w.from k e);
      rooted = λ k m l. w.keeps k (f.rooted k m l);
      closed = λ i j' k row' l a' b' m lt. done i j' k row' l a' b' m lt;
    }
  where
    done : (i j' k : ℕ) (row' : List ℕ) → i < suc h → StandsAt (mark_all row s).1 i j' → StandsAt rows j' row' → In k row' → k < n → get_or (mark_all row s).0 k false ≡ true
    done i j' k row' l a' b' m lt = pick (before_or_at i h (omega (arith, l)))
      where
        pick : (i < h) ⊎ (i ≡ h) → get_or (mark_all row s).0 k false ≡ true
        pick (inl less) =
            let q = (spread row s).before i j' a' (omega (arith, less, At-below s.1 h j a)) in
            (spread row s).keeps k (f.closed i j' k row' less q b' m lt)
        pick (inr e) =
            let q = (spread row s).before h j' (subst (λ z. StandsAt (mark_all row s).1 z j') e a') (At-below s.1 h j a) in
            let same : j' ≡ j = At-same s.1 h j' j q a in
            let r : row' ≡ row = At-same rows j row' row (subst (λ z. StandsAt rows z row') same b') b in
            (spread row s).all k (subst (λ z. In k z) r m) (omega (arith, lt, f.len))

pub short_order : (n : ℕ) (roots : List ℕ) (rows : List (List ℕ)) (h : ℕ) (s : Marks) → Fits n roots rows h s → length s.1 ≤ n
short_order n roots rows h s f = omega (arith, f.len, f.well.count, trues_le s.0)

complete : (n : ℕ) (roots : List ℕ) (rows : List (List ℕ)) (h : ℕ) (s : Marks) → Fits n roots rows h s → length s.1 ≤ h → length rows ≡ n
    → (r k : ℕ) → k < n → is_met_in roots rows r k ≡ true → get_or s.0 k false ≡ true
complete n roots rows h s f l e zero k lt d = f.rooted k (has-In roots k d) lt
complete n roots rows h s f l e (suc r) k lt d =
    ⊎_elim (λ a. complete n roots rows h s f l e r k lt a)
    (λ b. let w = any_row-At (is_met_in roots rows r) k 0 rows b in
    let z : 0 + w.0 ≡ w.0 = omega arith in
    let q = complete n roots rows h s f l e r w.0 (omega (arith, At-below rows w.0 w.1 w.2, e)) (ap (is_met_in roots rows r) (sym z) ∙ w.3) in
    let v = f.well.listed w.0 q in
    f.closed v.0 w.0 k w.1 (omega (arith, l, At-below s.1 v.0 w.0 v.1)) v.1 w.2 w.4 lt)
    (or_cases (is_met_in roots rows r k) (any_row (is_met_in roots rows r) k 0 rows) d)

pub exact : (n : ℕ) (roots : List ℕ) (rows : List (List ℕ)) (h : ℕ) (s : Marks) → Fits n roots rows h s → length s.1 ≤ h → length rows ≡ n
    → (k : ℕ) → k < n → get_or s.0 k false ≡ is_met_in roots rows n k
exact n roots rows h s f l e k lt = go (get_or s.0 k false) refl (is_met_in roots rows n k) refl
  where
    go : (a : Bool) → get_or s.0 k false ≡ a → (b : Bool) → is_met_in roots rows n k ≡ b → a ≡ b
    go true p true q = refl
    go false p false q = refl
    go true p false q = let z = round_le roots rows (length s.1) n k (short_order n roots rows h s f) (f.sound k p) in cc
    go false p true q = let z = complete n roots rows h s f l e n k lt q in cc

-- ---- steps of the loops

pub At-index : (xs : List ℕ) (i k d : ℕ) → i < length xs → k ≡ get_or xs i d → StandsAt xs i k
At-index (x ∷ xs) zero k d l e = e
At-index (x ∷ xs) (suc i) k d l e = At-index xs i k d (omega arith) e
At-index [] i k d l e = absurd (omega arith)

pub At-row : (rows : List (List ℕ)) (j : ℕ) (row : List ℕ) → j < length rows → row ≡ get_or rows j [] → StandsAt rows j row
At-row (x ∷ xs) zero k l e = e
At-row (x ∷ xs) (suc i) k l e = At-row xs i k (omega arith) e
At-row [] i k l e = absurd (omega arith)

flag_below : (xs : List Bool) (k : ℕ) → get_or xs k false ≡ true → k < length xs
flag_below (b ∷ bs) zero h = omega arith
flag_below (b ∷ bs) (suc k) h = omega (arith, flag_below bs k h)
flag_below [] zero h = cc
flag_below [] (suc k) h = cc

-- what is in the order is below n
pub order_below : (n : ℕ) (roots : List ℕ) (rows : List (List ℕ)) (h : ℕ) (fs : List Bool) (os : List ℕ) (i j : ℕ) → Fits n roots rows h (fs, os) → i < length os → j ≡ get_or os i j → j < n
order_below n roots rows h fs os i j f l e = omega (arith, f.len, flag_below fs j (f.well.flagged i j (At-index os i j j l e)))

pub reach_start : (n : ℕ) (roots : List ℕ) (rows : List (List ℕ)) (fs gs : List Bool) (os ps : List ℕ) → fs ≡ replicate n false → os ≡ []
    → gs ≡ (mark_all roots (fs, os)).0 → ps ≡ (mark_all roots (fs, os)).1 → Fits n roots rows 0 (gs, ps)
reach_start n roots rows fs gs os ps a b c d =
    let q : ◌≡◌ {A = Marks} (mark_all roots (replicate n false, [])) (gs, ps) = rw (c, d, a, b) refl in
    subst (λ z. Fits n roots rows 0 z) q (fits_start n roots rows)

pub reach_step : (n : ℕ) (roots : List ℕ) (rows : List (List ℕ)) (h j : ℕ) (row : List ℕ) (fs gs : List Bool) (os ps : List ℕ)
    → Fits n roots rows h (fs, os) → length rows ≡ n → h < length os → j ≡ get_or os h j → row ≡ get_or rows j []
    → gs ≡ (mark_all row (fs, os)).0 → ps ≡ (mark_all row (fs, os)).1 → Fits n roots rows (h + 1) (gs, ps) × (h + 1 ≤ length ps)
reach_step n roots rows h j row fs gs os ps f e l a b c d =
    let q : ◌≡◌ {A = Marks} (mark_all row (fs, os)) (gs, ps) = rw (c, d) refl in
    let m : suc h ≡ h + 1 = omega arith in
    let lt : j < length rows = omega (arith, e, order_below n roots rows h fs os h j f l a) in
    let r : Fits n roots rows (suc h) (mark_all row (fs, os)) = fits_step n roots rows h j row (fs, os) f (At-index os h j j l a) (At-row rows j row lt b) in (
      subst (λ z. Fits n roots rows z (gs, ps)) m (subst (λ z. Fits n roots rows (suc h) z) q r),
      omega (arith, l, (spread row (fs, os)).longer, ap length d),
    )
