-- What holds of the numbers of digests holds of the digests.
use Rattle.std.proofs.Common.{◌≡◌, ℕ, zero, suc, ◌+◌, ◌-◌, ◌<◌, ◌≤◌, List, [], ◌∷◌, ◌++◌, map, length, get_or, take, drop, Bool, true, false, cond, ◌||◌, ◌&&◌, eqb, ◌⊎◌, inl, inr, ⊎_elim, refl, sym, ap, ap₂, ◌∙◌, subst, arith, length-append}
use Rattle.std.specs.Prelude.{bytes_eq}
use Rattle.std.specs.List.{list_any}
use Rattle.std.specs.Cmp.{both_ways}
use Rattle.std.proofs.lemmas.List.{length-map, drop-drop}
use Rattle.std.proofs.lemmas.Bool.{cases_lt, eqb-true, eq-eqb}
use Rattle.marked_tree.specs.Numbers.{has}
use Rattle.claim_tree.specs.Tree.{Text, Tree, IsOrdered}
use Rattle.sd_outside.specs.Lists.{StandsAt, In, Repeats, AtNone}
use Rattle.digest_sites.specs.Sites.{Site, sites}
use Rattle.digest_sites.specs.SiteCalls.{digests}
use Rattle.digest_sites.specs.Given.{Given}
use Rattle.rebuild_core.specs.Reached.{stands, is_in_round, is_reached, OwnedSite, owned_site, Owner, payload, value_of, value_sites, met, owned_digests, all_sites}
use Rattle.rebuild_core.specs.Conditions.{RepeatedDigest, Unreferenced}
use Rattle.sd_outside.proofs.Lists.{bytes_same, bytes_refl, At-left, At-same, At-below, At-In, At-get, one_place}
use Rattle.digest_index.specs.Index.{position_or_end, interned}
use Rattle.rebuild_core.specs.DigestNumbers.{numbers, all_interned, AllAt, IsFlatList}
use Rattle.rebuild_core.specs.Graph.{pieces_at, Ascends, roots_in, rows_in, any_row, is_met_in, flagged_rows}
use Rattle.digest_index.proofs.Positions.{position_or_end-within}
use Rattle.digest_index.proofs.Interned.{interned-new, interned-there}
use Rattle.rebuild_core.specs.Payload.{without_alg}
use Rattle.rebuild_core.specs.Answer.{IsPayload}
use Rattle.rebuild_core.specs.Rows.{tree_rows, value_ends}
use Rattle.rebuild_core.proofs.RowFacts.{length_tree_rows, length_top_rows}
use Rattle.rebuild_core.proofs.Repeated.{place_there, place_absent}
use Rattle.rebuild_core.proofs.Cuts.{length-cut}

-- ---- the index grows

last_at : {X : Type 0} (xs : List X) (x : X) → StandsAt (xs ++ x ∷ []) (length xs) x
last_at [] x = refl
last_at (z ∷ zs) x = last_at zs x

at_end : {X : Type 0} (xs : List X) (y : X) (i : ℕ) (x : X) → StandsAt (xs ++ y ∷ []) i x → StandsAt xs i x ⊎ ((x ≡ y) × (i ≡ length xs))
at_end [] y zero x h = inr (h, refl)
at_end [] y (suc i) x h = elim h [ ]
at_end (z ∷ zs) y zero x h = inl h
at_end (z ∷ zs) y (suc i) x h = ⊎_elim (λ l. inl l) (λ r. inr (r.0, ap suc r.1)) (at_end zs y i x h)

abbrev pub Apart : List Text → Type 0
Apart xs = AtNone (Repeats xs)

apart_last : (xs : List Text) (d : Text) → Apart xs → length xs ≤ position_or_end d xs → Apart (xs ++ d ∷ [])
apart_last xs d a h q r = go (at_end xs d q r.0 r.1) (at_end xs d r.2 r.0 r.4)
  where
    go : (StandsAt xs q r.0 ⊎ ((r.0 ≡ d) × (q ≡ length xs))) → (StandsAt xs r.2 r.0 ⊎ ((r.0 ≡ d) × (r.2 ≡ length xs))) → ⊥
    go (inl l) (inl m) = a q (r.0, l, r.2, r.3, m)
    go (inr l) (inl m) = place_absent xs d h (At-In xs r.2 d (subst (λ z. StandsAt xs r.2 z) l.0 m))
    go (inl l) (inr m) = omega (arith, At-below xs q r.0 l, r.3, m.1)
    go (inr l) (inr m) = omega (arith, l.1, m.1, r.3)

-- every text keeps its place
pub record Grows (ix jx : List Text) : Type 0 where
  pub keeps : (k : ℕ) (d : Text) → StandsAt ix k d → StandsAt jx k d
  pub apart : Apart ix → Apart jx

grows_refl : (ix : List Text) → Grows ix ix
grows_refl ix = record { keeps = λ k d h. h; apart = λ a. a }

grows_join : (ix jx kx : List Text) → Grows ix jx → Grows jx kx → Grows ix kx
grows_join ix jx kx a b = record { keeps = λ k d h. b.keeps k d (a.keeps k d h); apart = λ h. b.apart (a.apart h) }

pub grows_text : (ix : List Text) (d : Text) → Grows ix (interned d ix) × StandsAt (interned d ix) (position_or_end d ix) d
grows_text ix d = go (cases_lt (position_or_end d ix) (length ix))
  where
    go : (position_or_end d ix < length ix) ⊎ (length ix ≤ position_or_end d ix) → Grows ix (interned d ix) × StandsAt (interned d ix) (position_or_end d ix) d
    go (inl l) = rw (interned-there d ix l) (grows_refl ix, place_there ix d l)
    go (inr l) =
        let e : position_or_end d ix ≡ length ix = omega (arith, l, position_or_end-within d ix) in
        subst (λ z. Grows ix z × StandsAt z (position_or_end d ix) d) (sym (interned-new d ix e))
        (record { keeps = λ k c h. At-left ix (d ∷ []) k c h; apart = λ a. apart_last ix d a l }, rw e (last_at ix d))

pub grows_texts : (ix ds : List Text) → Grows ix (all_interned ix ds)
grows_texts ix [] = grows_refl ix
grows_texts ix (d ∷ ds) = grows_join ix (interned d ix) (all_interned (interned d ix) ds) (grows_text ix d).0 (grows_texts (interned d ix) ds)

-- ---- numbers stand for texts

pub numbers_stand : (ix ds : List Text) → AllAt (all_interned ix ds) (numbers ix ds) ds
numbers_stand ix [] = tt
numbers_stand ix (d ∷ ds) = ((grows_texts (interned d ix) ds).keeps (position_or_end d ix) d (grows_text ix d).1, numbers_stand (interned d ix) ds)

pub all_join : (ix : List Text) (ks ls : List ℕ) (ds es : List Text) → AllAt ix ks ds → AllAt ix ls es → AllAt ix (ks ++ ls) (ds ++ es)
all_join ix [] ls [] es a b = b
all_join ix (k ∷ ks) ls (d ∷ ds) es a b = (a.0, all_join ix ks ls ds es a.1 b)
all_join ix [] ls (d ∷ ds) es a b = elim a [ ]
all_join ix (k ∷ ks) ls [] es a b = elim a [ ]

abbrev pub Rows : List Text → List (List ℕ) → List Given → Type 0
Rows ix [] [] = Unit {0}
Rows ix [] (x ∷ g) = ⊥
Rows ix (r ∷ rows) [] = ⊥
Rows ix (r ∷ rows) (x ∷ g) = AllAt ix r (digests (sites x.value)) × Rows ix rows g

pub all_at : (ix : List Text) (ks : List ℕ) (ds : List Text) (q k : ℕ) → AllAt ix ks ds → StandsAt ks q k → (d : Text) × StandsAt ds q d × StandsAt ix k d
all_at ix (k ∷ ks) (d ∷ ds) zero j a h = (d, refl, subst (λ z. StandsAt ix z d) (sym h) a.0)
all_at ix (k ∷ ks) (d ∷ ds) (suc q) j a h = all_at ix ks ds q j a.1 h
all_at ix [] ds q j a h = elim h [ ]
all_at ix (k ∷ ks) [] q j a h = elim a [ ]

pub all_of : (ix : List Text) (ks : List ℕ) (ds : List Text) (q : ℕ) (d : Text) → AllAt ix ks ds → StandsAt ds q d → (k : ℕ) × StandsAt ks q k × StandsAt ix k d
all_of ix (k ∷ ks) (e ∷ ds) zero d a h = (k, refl, subst (λ z. StandsAt ix k z) (sym h) a.0)
all_of ix (k ∷ ks) (e ∷ ds) (suc q) d a h = all_of ix ks ds q d a.1 h
all_of ix ks [] q d a h = elim h [ ]
all_of ix [] (e ∷ ds) q d a h = elim a [ ]

pub all_below : (ix : List Text) (ks : List ℕ) (ds : List Text) → AllAt ix ks ds → (k : ℕ) → In k ks → k < length ix
all_below ix (k ∷ ks) (d ∷ ds) a j (inl e) = omega (arith, At-below ix k d a.0, e)
all_below ix (k ∷ ks) (d ∷ ds) a j (inr m) = all_below ix ks ds a.1 j m
all_below ix [] ds a j m = elim m [ ]
all_below ix (k ∷ ks) [] a j m = elim a [ ]

-- a number repeats where its text does
pub recurs_repeats : (ix : List Text) (ks : List ℕ) (ds : List Text) → AllAt ix ks ds → (q : ℕ) → Repeats ks q → Repeats ds q
recurs_repeats ix ks ds a q r =
    let w = all_at ix ks ds q r.0 a r.1 in
    let v = all_at ix ks ds r.2 r.0 a r.4 in
    (w.0, w.1, r.2, r.3, subst (λ z. StandsAt ds r.2 z) (At-same ix r.0 v.0 w.0 v.2 w.2) v.1)

pub repeats_recurs : (ix : List Text) (ks : List ℕ) (ds : List Text) → Apart ix → AllAt ix ks ds → (q : ℕ) → Repeats ds q → Repeats ks q
repeats_recurs ix ks ds ok a q r =
    let w = all_of ix ks ds q r.0 a r.1 in
    let v = all_of ix ks ds r.2 r.0 a r.4 in
    (w.0, w.1, r.2, r.3, subst (λ z. StandsAt ks r.2 z) (one_place ix ok v.0 w.0 r.0 v.2 w.2) v.1)

-- ---- rounds

module _ (ix : List Text) (ok : Apart ix) where
  same_test : (j k : ℕ) (c d : Text) → StandsAt ix j c → StandsAt ix k d → eqb k j ≡ bytes_eq c d
  same_test j k c d a b =
      both_ways (eqb k j) (bytes_eq c d)
      (λ h. let e : j ≡ k = sym (eqb-true k j h) in bytes_refl c d (At-same ix k c d (subst (λ z. StandsAt ix z c) e a) b))
      (λ h. let e : c ≡ d = bytes_same c d h in eq-eqb k j (sym (one_place ix ok j k d (subst (λ z. StandsAt ix j z) e a) b)))

  has_stands : (ks : List ℕ) (ss : List Site) (k : ℕ) (d : Text) → AllAt ix ks (digests ss) → StandsAt ix k d → has ks k ≡ stands d ss
  has_stands [] [] k d a b = refl
  has_stands (j ∷ ks) (s ∷ ss) k d a b = ap₂ (λ (x y : Bool). x || y) (same_test j k s.digest d a.0 b) (has_stands ks ss k d a.1 b)
  has_stands [] (s ∷ ss) k d a b = elim a [ ]
  has_stands (j ∷ ks) [] k d a b = elim a [ ]

  any_stands : (p : ℕ → Bool) (q : Text → Bool) (i : ℕ) (rows : List (List ℕ)) (xs : List Given) (k : ℕ) (d : Text) → Rows ix rows xs → StandsAt ix k d
      → ((j : ℕ) (x : Given) → StandsAt xs j x → p (i + j) ≡ q x.digest) → any_row p k i rows ≡ list_any (λ x. q x.digest && stands d (sites x.value)) xs
  any_stands p q i [] [] k d r b h = refl
  any_stands p q i (row ∷ rows) (x ∷ xs) k d r b h =
      let z : i + 0 ≡ i = omega arith in
      ap₂ (λ (a c : Bool). a || c)
      (ap₂ (λ (a c : Bool). a && c) (ap p (sym z) ∙ h 0 x refl) (has_stands row (sites x.value) k d r.0 b))
      (any_stands p q (suc i) rows xs k d r.1 b (λ j y a. let e : suc i + j ≡ i + suc j = omega arith in ap p e ∙ h (suc j) y a))
  any_stands p q i [] (x ∷ xs) k d r b h = elim r [ ]
  any_stands p q i (row ∷ rows) [] k d r b h = elim r [ ]

  pub rounds_same : (p : Tree) (g : List Given) (roots : List ℕ) (rows : List (List ℕ)) → AllAt ix roots (digests (sites p)) → Rows ix rows g
      → ((i : ℕ) (x : Given) → StandsAt g i x → StandsAt ix i x.digest) → (r k : ℕ) (d : Text) → StandsAt ix k d → is_met_in roots rows r k ≡ is_in_round p g r d
  rounds_same p g roots rows a b h zero k d c = has_stands roots (sites p) k d a c
  rounds_same p g roots rows a b h (suc r) k d c =
      ap₂ (λ (x y : Bool). x || y) (rounds_same p g roots rows a b h r k d c)
      (any_stands (is_met_in roots rows r) (is_in_round p g r) 0 rows g k d b c
      (λ j x m. let e : 0 + j ≡ j = omega arith in ap (is_met_in roots rows r) e ∙ rounds_same p g roots rows a b h r j x.digest (h j x m)))

-- ---- the met list

pub digests_payload : (o : Owner) (ss : List Site) → owned_digests (map (owned_site o) ss) ≡ digests ss
digests_payload o [] = refl
digests_payload o (s ∷ ss) = ap (λ ds. s.digest ∷ ds) (digests_payload o ss)

pub digests_join : (xs ys : List OwnedSite) → owned_digests (xs ++ ys) ≡ owned_digests xs ++ owned_digests ys
digests_join [] ys = refl
digests_join (x ∷ xs) ys = ap (λ ds. x.site.digest ∷ ds) (digests_join xs ys)

abbrev pub FlagsSay : (Given → Bool) → List Bool → List Given → Type 0
FlagsSay q [] [] = Unit {0}
FlagsSay q [] (x ∷ g) = ⊥
FlagsSay q (f ∷ fs) [] = ⊥
FlagsSay q (f ∷ fs) (x ∷ g) = (f ≡ q x) × FlagsSay q fs g

pub flags_say : (q : Given → Bool) (fs : List Bool) (g : List Given) → length fs ≡ length g → ((k : ℕ) (x : Given) → StandsAt g k x → get_or fs k false ≡ q x) → FlagsSay q fs g
flags_say q [] [] e h = tt
flags_say q (f ∷ fs) (x ∷ g) e h = (h 0 x refl, flags_say q fs g (omega (arith, e)) (λ k y a. h (suc k) y a))
flags_say q [] (x ∷ g) e h = absurd (omega (arith, e))
flags_say q (f ∷ fs) [] e h = absurd (omega (arith, e))

pub rows_met : (ix : List Text) (q : Given → Bool) (i : ℕ) (fs : List Bool) (rows : List (List ℕ)) (g : List Given) → Rows ix rows g → FlagsSay q fs g
    → AllAt ix (flagged_rows fs rows) (owned_digests (value_sites q i g))
rows_met ix q i [] [] [] r f = tt
rows_met ix q i (b ∷ fs) (row ∷ rows) (x ∷ g) r f =
    subst (λ z. AllAt ix (cond b row [] ++ flagged_rows fs rows) z) (sym (digests_join (cond (q x) (map (owned_site (value_of i)) (sites x.value)) []) (value_sites q (suc i) g)))
    (all_join ix (cond b row []) (flagged_rows fs rows) (owned_digests (cond (q x) (map (owned_site (value_of i)) (sites x.value)) [])) (owned_digests (value_sites q (suc i) g))
    (one b (q x) f.0) (rows_met ix q (suc i) fs rows g r.1 f.1))
  where
    one : (b c : Bool) → b ≡ c → AllAt ix (cond b row []) (owned_digests (cond c (map (owned_site (value_of i)) (sites x.value)) []))
    one true true e = subst (λ z. AllAt ix row z) (sym (digests_payload (value_of i) (sites x.value))) r.0
    one false false e = tt
    one true false e = cc
    one false true e = cc
rows_met ix q i [] (row ∷ rows) g r f = hole_fs row rows g r f
  where
    hole_fs : (row : List ℕ) (rows : List (List ℕ)) (g : List Given) → Rows ix (row ∷ rows) g → FlagsSay q [] g → AllAt ix [] (owned_digests (value_sites q i g))
    hole_fs row rows [] r f = elim r [ ]
    hole_fs row rows (x ∷ g) r f = elim f [ ]
rows_met ix q i [] [] (x ∷ g) r f = elim r [ ]
rows_met ix q i (b ∷ fs) [] [] r f = elim f [ ]
rows_met ix q i (b ∷ fs) [] (x ∷ g) r f = elim r [ ]
rows_met ix q i (b ∷ fs) (row ∷ rows) [] r f = elim r [ ]

-- ---- the flat list, cut

-- the digests of the sites of each value
abbrev pub value_digests : List Given → List Text
value_digests [] = []
value_digests (x ∷ g) = digests (sites x.value) ++ value_digests g

value_items_digests : (i : ℕ) (g : List Given) → owned_digests (value_sites (λ _. true) i g) ≡ value_digests g
value_items_digests i [] = refl
value_items_digests i (x ∷ g) =
    digests_join (map (owned_site (value_of i)) (sites x.value)) (value_sites (λ _. true) (suc i) g)
    ∙ ap₂ (λ (ds es : List Text). ds ++ es) (digests_payload (value_of i) (sites x.value)) (value_items_digests (suc i) g)

pub all_digests : (p : Tree) (g : List Given) → owned_digests (all_sites p g) ≡ digests (sites p) ++ value_digests g
all_digests p g =
    digests_join (map (owned_site payload) (sites p)) (value_sites (λ _. true) 0 g)
    ∙ ap₂ (λ (ds es : List Text). ds ++ es) (digests_payload payload (sites p)) (value_items_digests 0 g)

all_split : (ix : List Text) (ks : List ℕ) (ds es : List Text) → AllAt ix ks (ds ++ es) → AllAt ix (take (length ds) ks) ds × AllAt ix (drop (length ds) ks) es
all_split ix ks [] es h = (tt, h)
all_split ix (k ∷ ks) (d ∷ ds) es h = let w = all_split ix ks ds es h.1 in ((h.0, w.0), w.1)
all_split ix [] (d ∷ ds) es h = elim h [ ]

length-digests_of : (ss : List Site) → length (digests ss) ≡ length ss
length-digests_of ss = length-map ss (λ (s : Site). s.digest)

-- the numbers of the first value, and of those after it, where those of the values start at n
first_cut : (ix : List Text) (x : Given) (g : List Given) (ks : List ℕ) (n : ℕ) → AllAt ix (drop n ks) (value_digests (x ∷ g))
    → AllAt ix (take (n + length (tree_rows false n x.value) - n) (drop n ks)) (digests (sites x.value)) × AllAt ix (drop (n + length (tree_rows false n x.value)) ks) (value_digests g)
first_cut ix x g ks n h =
    let ds = digests (sites x.value) in
    let many = length (tree_rows false n x.value) in
    let same : length ds ≡ many = length-digests_of (sites x.value) ∙ sym (length_tree_rows n x.value) in
    let few : length ds ≡ n + many - n = omega (arith, same) in
    let w = all_split ix (drop n ks) ds (value_digests g) h in
    let next : drop (length ds) (drop n ks) ≡ drop (n + many) ks = ap (λ m. drop m (drop n ks)) same ∙ drop-drop many n ks in
    (subst (λ m. AllAt ix (take m (drop n ks)) ds) few w.0, subst (λ us. AllAt ix us (value_digests g)) next w.1)

cut_rows : (ix : List Text) (g : List Given) (ks : List ℕ) (n : ℕ) → AllAt ix (drop n ks) (value_digests g) → Rows ix (pieces_at n (value_ends n g) ks) g
cut_rows ix [] ks n h = tt
cut_rows ix (x ∷ g) ks n h = let w = first_cut ix x g ks n h in (w.0, cut_rows ix g ks (n + length (tree_rows false n x.value)) w.1)

-- the numbers of value j start at place j of the ends
cut_start : (ix : List Text) (g : List Given) (ks : List ℕ) (n : ℕ) → AllAt ix (drop n ks) (value_digests g) → (j : ℕ) (x : Given) → StandsAt g j x
    → (start : ℕ) × StandsAt (n ∷ value_ends n g) j start × (m : ℕ) × AllAt ix (take m (drop start ks)) (digests (sites x.value))
cut_start ix (y ∷ g) ks n h zero x a =
    let w = first_cut ix y g ks n h in
    (n, refl, n + length (tree_rows false n y.value) - n, subst (λ (z : Given). AllAt ix (take (n + length (tree_rows false n y.value) - n) (drop n ks)) (digests (sites z.value))) (sym a) w.0)
cut_start ix (y ∷ g) ks n h (suc j) x a = let w = first_cut ix y g ks n h in cut_start ix g ks (n + length (tree_rows false n y.value)) w.1 j x a
cut_start ix [] ks n h j x a = elim a [ ]

length-value_ends : (n : ℕ) (g : List Given) → length (value_ends n g) ≡ length g
length-value_ends n [] = refl
length-value_ends n (x ∷ g) = ap suc (length-value_ends (n + length (tree_rows false n x.value)) g)

pub length-all_at : (ix : List Text) (ks : List ℕ) (ds : List Text) → AllAt ix ks ds → length ks ≡ length ds
length-all_at ix [] [] h = refl
length-all_at ix (k ∷ ks) (d ∷ ds) h = ap suc (length-all_at ix ks ds h.1)
length-all_at ix [] (d ∷ ds) h = elim h [ ]
length-all_at ix (k ∷ ks) [] h = elim h [ ]

value_ends_ascend : (n : ℕ) (g : List Given) (m : ℕ) → n + length (value_digests g) ≡ m → Ascends n (value_ends n g) m
value_ends_ascend n [] m h = omega (arith, h)
value_ends_ascend n (x ∷ g) m h =
    let many = length (tree_rows false n x.value) in
    let same : length (digests (sites x.value)) ≡ many = length-digests_of (sites x.value) ∙ sym (length_tree_rows n x.value) in
    (omega arith, value_ends_ascend (n + many) g m (omega (arith, h, same, length-append (digests (sites x.value)) (value_digests g))))

-- the index, with the roots and the rows of numbers
pub record IsGraph (p : Tree) (g : List Given) (ix : List Text) (roots : List ℕ) (rows : List (List ℕ)) : Type 0 where
  pub apart : Apart ix
  pub given : (i : ℕ) (x : Given) → StandsAt g i x → StandsAt ix i x.digest
  pub roots_stand : AllAt ix roots (digests (sites p))
  pub table : Rows ix rows g
  pub length : length rows ≡ length g

module _ (t : Tree) (g : List Given) (o : IsOrdered t) (is : IsPayload t) (ix : List Text) (ks ends : List ℕ) (w : IsFlatList t g ix ks ends) where
  abbrev pub first_end : ℕ
  first_end = length (tree_rows true 0 t)

  pub two_parts : AllAt ix (take first_end ks) (digests (sites (without_alg t))) × AllAt ix (drop first_end ks) (value_digests g)
  two_parts =
      let ds = digests (sites (without_alg t)) in
      let same : length ds ≡ first_end = length-digests_of (sites (without_alg t)) ∙ sym (length_top_rows t o is) in
      let v = all_split ix ks ds (value_digests g) (subst (λ z. AllAt ix ks z) (all_digests (without_alg t) g) w.all) in
      (subst (λ m. AllAt ix (take m ks) ds) same v.0, subst (λ m. AllAt ix (drop m ks) (value_digests g)) same v.1)

  pub graph_of_flat : IsGraph (without_alg t) g ix (roots_in ends ks) (rows_in ends ks)
  graph_of_flat =
      subst (λ es. IsGraph (without_alg t) g ix (roots_in es ks) (rows_in es ks)) (sym w.cuts)
      (record {
        apart = w.apart;
        given = w.given_first;
        roots_stand = subst (λ m. AllAt ix (take m ks) (digests (sites (without_alg t)))) (omega arith) two_parts.0;
        table = cut_rows ix g ks first_end two_parts.1;
        length = length-cut first_end (value_ends first_end g) ks ∙ length-value_ends first_end g;
      })

  pub ends_ascend : Ascends 0 ends (length ks)
  ends_ascend =
      let same : length (digests (sites (without_alg t))) ≡ first_end = length-digests_of (sites (without_alg t)) ∙ sym (length_top_rows t o is) in
      let many : length ks ≡ length (owned_digests (all_sites (without_alg t) g)) = length-all_at ix ks (owned_digests (all_sites (without_alg t) g)) w.all in
      let sum : length (owned_digests (all_sites (without_alg t) g)) ≡ length (digests (sites (without_alg t))) + length (value_digests g) =
      ap length (all_digests (without_alg t) g) ∙ length-append (digests (sites (without_alg t))) (value_digests g)
      in
      subst (λ es. Ascends 0 es (length ks)) (sym w.cuts) (omega arith, value_ends_ascend first_end g (length ks) (omega (arith, same, many, sum)))

  pub many_ends : length ends ≡ suc (length g)
  many_ends = ap length w.cuts ∙ ap suc (length-value_ends first_end g)

  pub starts : (j : ℕ) (x : Given) → StandsAt g j x → (start : ℕ) × StandsAt ends j start × (m : ℕ) × AllAt ix (take m (drop start ks)) (digests (sites x.value))
  starts j x a =
      let v = cut_start ix g ks first_end two_parts.1 j x a in
      (v.0, subst (λ es. StandsAt es j v.0) (sym w.cuts) v.1, v.2, v.3)

-- flags that say which numbers are reached
abbrev pub Reaches : ℕ → List ℕ → List (List ℕ) → List Bool → Type 0
Reaches n roots rows fs = (k : ℕ) → k < n → get_or fs k false ≡ is_met_in roots rows n k

module _ (p : Tree) (g : List Given) (ix : List Text) (roots : List ℕ) (rows : List (List ℕ)) (w : IsGraph p g ix roots rows) (fs : List Bool) (e : length fs ≡ length g) (h : Reaches (length g) roots rows fs) where
  pub flag_is : (k : ℕ) (x : Given) → StandsAt g k x → get_or fs k false ≡ is_reached p g x
  flag_is k x a = h k (At-below g k x a) ∙ rounds_same ix w.apart p g roots rows w.roots_stand w.table w.given (length g) k x.digest (w.given k x a)

  pub met_stand : AllAt ix (roots ++ flagged_rows fs rows) (owned_digests (met p g))
  met_stand =
      subst (λ z. AllAt ix (roots ++ flagged_rows fs rows) z) (sym (digests_join (map (owned_site payload) (sites p)) (value_sites (is_reached p g) 0 g)))
      (all_join ix roots (flagged_rows fs rows) (owned_digests (map (owned_site payload) (sites p))) (owned_digests (value_sites (is_reached p g) 0 g))
      (subst (λ z. AllAt ix roots z) (sym (digests_payload payload (sites p))) w.roots_stand)
      (rows_met ix (is_reached p g) 0 fs rows g w.table (flags_say (is_reached p g) fs g e flag_is)))

  pub digest_recurs : (q : ℕ) → RepeatedDigest p g q → Repeats (roots ++ flagged_rows fs rows) q
  digest_recurs q r = repeats_recurs ix (roots ++ flagged_rows fs rows) (owned_digests (met p g)) w.apart met_stand q r

  pub recurs_digest : (q : ℕ) → Repeats (roots ++ flagged_rows fs rows) q → RepeatedDigest p g q
  recurs_digest q r = recurs_repeats ix (roots ++ flagged_rows fs rows) (owned_digests (met p g)) met_stand q r

  pub unreferenced_clear : (k : ℕ) → Unreferenced p g k → (k < length g) × (get_or fs k false ≡ false)
  unreferenced_clear k u = (At-below g k u.0 u.1, flag_is k u.0 u.1 ∙ u.2)

  pub clear_unreferenced : (k : ℕ) → k < length g → get_or fs k false ≡ false → Unreferenced p g k
  clear_unreferenced k l c = let x = At-get g k l in (x.0, x.1, sym (flag_is k x.0 x.1) ∙ c)
