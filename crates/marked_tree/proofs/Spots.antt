-- The spots of a marked tree: each mark weighs what its spots do, and each mark above a spot stands on its way.
use Rattle.std.proofs.Common.{◌≡◌, ℕ, suc, ◌≤◌, List, [], ◌∷◌, ◌++◌, map, Bool, true, false, cond, eqb, inl, inr, ⊎_elim, Option, Some, None, refl, sym, ap, ap₂, ◌∙◌, subst, arith, eqb-true, eq-eqb, decimal}
use Rattle.std.specs.Prelude.{bytes_eq}
use Rattle.std.proofs.lemmas.Bool.Decides.{nat_tests}
use Rattle.std.proofs.lemmas.List.{map-append}
use Rattle.std.proofs.lemmas.Bool.{and_parts, and_from}
use Rattle.claim_tree.specs.Tree.{Text}
use Rattle.claim_tree.specs.Path.{is_front}
use Rattle.marked_tree.specs.Marked.{Marked, marked_leaf, marked_array, marked_object, MarkedElements, no_marked_elements, marked_element, MarkedMembers, no_marked_members, marked_member}
use Rattle.marked_tree.specs.Ways.{ways, elements_ways, members_ways, way_of, mark_weight, weight, elements_weight, members_weight, only}
use Rattle.sd_outside.specs.Lists.{In}
use Rattle.marked_tree.specs.Closed.{IsClosed}
use Rattle.marked_tree.specs.Paths.{Path, Spot, inside, own_spot, spots, elements_spots, members_spots, first_with}
use Rattle.sd_outside.proofs.Lists.{bytes_refl, bytes_same, In-left, In-right, In-append, In-map, In-of_map}
use Rattle.marked_tree.proofs.Sums.{sum_of, sum_of-append, sum_of-map}

-- ---- each way is that of a spot

abbrev pub Way : Type 0
Way = ℕ × List ℕ

abbrev pub way : Spot → Way
way s = (s.mark, s.above)

way_inside : (k : Text) (i : Option ℕ) (ss : List Spot) → map way (own_spot k i ++ map (inside k i) ss) ≡ way_of i (map way ss)
way_inside k None [] = refl
way_inside k None (s ∷ ss) = ap (λ (ws : List Way). way s ∷ ws) (way_inside k None ss)
way_inside k (Some i) ss = ap (λ (ws : List Way). (i, []) ∷ ws) (go ss)
  where
    go : (ss : List Spot) → map way (map (inside k (Some i)) ss) ≡ map (λ (w : Way). (w.0, i ∷ w.1)) (map way ss)
    go [] = refl
    go (s ∷ ss) = ap (λ (ws : List Way). (s.mark, i ∷ s.above) ∷ ws) (go ss)

mutual
  pub ways_of_spots : (m : Marked) → map way (spots m) ≡ ways m
  ways_of_spots (marked_leaf l) = refl
  ways_of_spots (marked_array es) = elements_ways_of 0 es
  ways_of_spots (marked_object ms) = members_ways_of ms

  elements_ways_of : (n : ℕ) (es : MarkedElements) → map way (elements_spots n es) ≡ elements_ways es
  elements_ways_of n no_marked_elements = refl
  elements_ways_of n (marked_element i t es) =
      map-append way (own_spot (decimal n) i ++ map (inside (decimal n) i) (spots t)) (elements_spots (suc n) es)
      ∙ ap₂ (λ (a b : List Way). a ++ b) (way_inside (decimal n) i (spots t) ∙ ap (way_of i) (ways_of_spots t)) (elements_ways_of (suc n) es)

  members_ways_of : (ms : MarkedMembers) → map way (members_spots ms) ≡ members_ways ms
  members_ways_of no_marked_members = refl
  members_ways_of (marked_member k i t ms) =
      map-append way (own_spot k i ++ map (inside k i) (spots t)) (members_spots ms)
      ∙ ap₂ (λ (a b : List Way). a ++ b) (way_inside k i (spots t) ∙ ap (way_of i) (ways_of_spots t)) (members_ways_of ms)

-- a set is closed just where the ways say so
abbrev pub ClosedWays : Marked → (ℕ → Bool) → Type 0
ClosedWays m s = (w : Way) → In w (ways m) → s w.0 ≡ true → (j : ℕ) → In j w.1 → s j ≡ true

pub ways_closed : (m : Marked) (s : ℕ → Bool) → IsClosed m s → ClosedWays m s
ways_closed m s closed w there chosen j above =
    let a = In-of_map way w (spots m) (subst (λ (ws : List Way). In w ws) (sym (ways_of_spots m)) there) in
    closed a.0 a.1 (subst (λ (z : Way). s z.0 ≡ true) a.2 chosen) j (subst (λ (z : Way). In j z.1) a.2 above)

pub closed_by_ways : (m : Marked) (s : ℕ → Bool) → ClosedWays m s → IsClosed m s
closed_by_ways m s closed node there = closed (way node) (subst (λ (ws : List Way). In (way node) ws) (ways_of_spots m) (In-map way node (spots m) there))

-- ---- a mark on one node has one spot

own_weighs : (w : ℕ → ℕ) (k : Text) (i : Option ℕ) → sum_of (λ (s : Spot). w s.mark) (own_spot k i) ≡ mark_weight w i
own_weighs w k None = refl
own_weighs w k (Some i) = omega arith

mutual
  pub spots_weigh : (w : ℕ → ℕ) (m : Marked) → sum_of (λ s. w s.mark) (spots m) ≡ weight w m
  spots_weigh w (marked_leaf l) = refl
  spots_weigh w (marked_array es) = elements_spots_weigh w 0 es
  spots_weigh w (marked_object ms) = members_spots_weigh w ms

  elements_spots_weigh : (w : ℕ → ℕ) (n : ℕ) (es : MarkedElements) → sum_of (λ s. w s.mark) (elements_spots n es) ≡ elements_weight w es
  elements_spots_weigh w n no_marked_elements = refl
  elements_spots_weigh w n (marked_element i t es) =
      omega (
        arith,
        sum_of-append (λ (s : Spot). w s.mark) (own_spot (decimal n) i ++ map (inside (decimal n) i) (spots t)) (elements_spots (suc n) es),
        sum_of-append (λ (s : Spot). w s.mark) (own_spot (decimal n) i) (map (inside (decimal n) i) (spots t)),
        sum_of-map (λ (s : Spot). w s.mark) (inside (decimal n) i) (spots t),
        own_weighs w (decimal n) i,
        spots_weigh w t,
        elements_spots_weigh w (suc n) es,
      )

  members_spots_weigh : (w : ℕ → ℕ) (ms : MarkedMembers) → sum_of (λ s. w s.mark) (members_spots ms) ≡ members_weight w ms
  members_spots_weigh w no_marked_members = refl
  members_spots_weigh w (marked_member k i t ms) =
      omega (
        arith,
        sum_of-append (λ (s : Spot). w s.mark) (own_spot k i ++ map (inside k i) (spots t)) (members_spots ms),
        sum_of-append (λ (s : Spot). w s.mark) (own_spot k i) (map (inside k i) (spots t)),
        sum_of-map (λ (s : Spot). w s.mark) (inside k i) (spots t),
        own_weighs w k i,
        spots_weigh w t,
        members_spots_weigh w ms,
      )

only_same : (i k : ℕ) → k ≡ i → only i k ≡ 1
only_same i k e = grind (arith, nat_tests)

pub at_least_one : (i : ℕ) (ss : List Spot) (s : Spot) → In s ss → s.mark ≡ i → 1 ≤ sum_of (λ z. only i z.mark) ss
at_least_one i (z ∷ ss) s (inl e) q = omega (arith, only_same i z.mark (ap (λ (c : Spot). c.mark) (sym e) ∙ q))
at_least_one i (z ∷ ss) s (inr m) q = omega (arith, at_least_one i ss s m q)
at_least_one i [] s m q = elim m [ ]

pub same_spot : (i : ℕ) (ss : List Spot) (s z : Spot) → sum_of (λ c. only i c.mark) ss ≤ 1 → In s ss → In z ss → s.mark ≡ i → z.mark ≡ i → s ≡ z
same_spot i (c ∷ ss) s z le (inl e) (inl f) q r = e ∙ sym f
same_spot i (c ∷ ss) s z le (inl e) (inr n) q r = absurd (omega (arith, le, at_least_one i ss z n r, only_same i c.mark (ap (λ (x : Spot). x.mark) (sym e) ∙ q)))
same_spot i (c ∷ ss) s z le (inr m) (inl f) q r = absurd (omega (arith, le, at_least_one i ss s m q, only_same i c.mark (ap (λ (x : Spot). x.mark) (sym f) ∙ r)))
same_spot i (c ∷ ss) s z le (inr m) (inr n) q r = same_spot i ss s z (omega (arith, le)) m n q r
same_spot i [] s z le m n q r = elim m [ ]

-- ---- each mark above a spot stands on its way

leads_step : (k : Text) (p q : Path) → is_front p q ≡ true → is_front (k ∷ p) (k ∷ q) ≡ true
leads_step k p q h = and_from (bytes_eq k k) (is_front p q) (bytes_refl k k refl) h

pub leads_through : (p q w : Path) → is_front p q ≡ true → is_front q w ≡ true → is_front p w ≡ true
leads_through [] q w h k = refl
leads_through (a ∷ p) [] w h k = cc
leads_through (a ∷ p) (b ∷ q) [] h k = cc
leads_through (a ∷ p) (b ∷ q) (c ∷ w) h k =
    let x = and_parts (bytes_eq a b) (is_front p q) h in
    let y = and_parts (bytes_eq b c) (is_front q w) k in
    and_from (bytes_eq a c) (is_front p w) (same_both a b c x.0 y.0) (leads_through p q w x.1 y.1)
  where
    same_both : (a b c : Text) → bytes_eq a b ≡ true → bytes_eq b c ≡ true → bytes_eq a c ≡ true
    same_both a b c x y = bytes_refl a c (bytes_same a b x ∙ bytes_same b c y)

-- a spot with mark j leads to s
pub record Stands (ss : List Spot) (s : Spot) (j : ℕ) : Type 0 where
  pub spot : Spot
  pub there : In spot ss
  pub is : spot.mark ≡ j
  pub before : is_front spot.at s.at ≡ true

abbrev pub Above : List Spot → Type 0
Above ss = (s : Spot) → In s ss → (j : ℕ) → In j s.above → Stands ss s j

above_append : (xs ys : List Spot) → Above xs → Above ys → Above (xs ++ ys)
above_append xs ys a b s m j h =
    ⊎_elim
    (λ n. let w = a s n j h in record { spot = w.spot; there = In-left w.spot xs ys w.there; is = w.is; before = w.before })
    (λ n. let w = b s n j h in record { spot = w.spot; there = In-right w.spot xs ys w.there; is = w.is; before = w.before })
    (In-append s xs ys m)

above_inside : (k : Text) (i : Option ℕ) (ss : List Spot) → Above ss → Above (own_spot k i ++ map (inside k i) ss)
above_inside k None ss a s m j h =
    let w = In-of_map (inside k None) s ss m in
    let v = a w.0 w.1 j (subst (λ (z : Spot). In j z.above) w.2 h) in
    record {
      spot = inside k None v.spot;
      there = In-map (inside k None) v.spot ss v.there;
      is = v.is;
      before = subst (λ (z : Spot). is_front (k ∷ v.spot.at) z.at ≡ true) (sym w.2) (leads_step k v.spot.at w.0.at v.before);
    }
above_inside k (Some i) ss a s (inl e) j h = elim (subst (λ (z : Spot). In j z.above) e h) [ ]
above_inside k (Some i) ss a s (inr m) j h =
    let w = In-of_map (inside k (Some i)) s ss m in
    let own : Spot = record { mark = i; at = k ∷ []; above = [] } in
    ⊎_elim
    (λ q. record {
      spot = own;
      there = inl refl;
      is = sym q;
      before = subst (λ (z : Spot). is_front (k ∷ []) z.at ≡ true) (sym w.2) (leads_step k [] w.0.at refl);
    })
    (λ n.
    let v = a w.0 w.1 j n in
    record {
      spot = inside k (Some i) v.spot;
      there = inr (In-map (inside k (Some i)) v.spot ss v.there);
      is = v.is;
      before = subst (λ (z : Spot). is_front (k ∷ v.spot.at) z.at ≡ true) (sym w.2) (leads_step k v.spot.at w.0.at v.before);
    })
    (let n : In j (i ∷ w.0.above) = subst (λ (z : Spot). In j z.above) w.2 h in n)

mutual
  pub spots_above : (m : Marked) → Above (spots m)
  spots_above (marked_leaf l) = λ s n j h. elim n [ ]
  spots_above (marked_array es) = elements_above 0 es
  spots_above (marked_object ms) = members_above ms

  elements_above : (n : ℕ) (es : MarkedElements) → Above (elements_spots n es)
  elements_above n no_marked_elements = λ s m j h. elim m [ ]
  elements_above n (marked_element i t es) =
      above_append (own_spot (decimal n) i ++ map (inside (decimal n) i) (spots t)) (elements_spots (suc n) es) (above_inside (decimal n) i (spots t) (spots_above t)) (elements_above (suc n) es)

  members_above : (ms : MarkedMembers) → Above (members_spots ms)
  members_above no_marked_members = λ s m j h. elim m [ ]
  members_above (marked_member k i t ms) =
      above_append (own_spot k i ++ map (inside k i) (spots t)) (members_spots ms) (above_inside k i (spots t) (spots_above t)) (members_above ms)

-- ---- the first with a mark

pub first_is : (i : ℕ) (ss : List Spot) (s : Spot) → sum_of (λ c. only i c.mark) ss ≤ 1 → In s ss → s.mark ≡ i → first_with i ss ≡ Some s.at
first_is i (c ∷ ss) s le m q = go (eqb c.mark i) refl m (λ n. first_is i ss s (omega (arith, le)) n q)
  where
    go : (b : Bool) → eqb c.mark i ≡ b → In s (c ∷ ss) → (In s ss → first_with i ss ≡ Some s.at) → cond b (Some c.at) (first_with i ss) ≡ Some s.at
    go true e m ih = ap (λ (z : Spot). Some z.at) (same_spot i (c ∷ ss) c s le (inl refl) m (eqb-true c.mark i e) q)
    go false e (inl r) ih = let t : eqb c.mark i ≡ true = eq-eqb c.mark i (ap (λ (z : Spot). z.mark) (sym r) ∙ q) in cc
    go false e (inr n) ih = ih n
first_is i [] s le m q = elim m [ ]

-- the spot of a path that is found
pub spot_of : (i : ℕ) (ss : List Spot) (at : Path) → first_with i ss ≡ Some at → (s : Spot) × In s ss × (s.mark ≡ i) × (s.at ≡ at)
spot_of i [] at e = cc e
spot_of i (s ∷ ss) at e = go (eqb s.mark i) refl e (spot_of i ss at)
  where
    go : (b : Bool) → eqb s.mark i ≡ b → cond b (Some s.at) (first_with i ss) ≡ Some at → (first_with i ss ≡ Some at → (z : Spot) × In z ss × (z.mark ≡ i) × (z.at ≡ at))
        → (z : Spot) × In z (s ∷ ss) × (z.mark ≡ i) × (z.at ≡ at)
    go true q f ih = let same : s.at ≡ at = cc f in (s, inl refl, eqb-true s.mark i q, same)
    go false q f ih = let w = ih f in (w.0, inr w.1, w.2, w.3)
