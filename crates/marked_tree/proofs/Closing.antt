-- Marks are numbered in closing order.
use Rattle.std.proofs.Common.{◌≡◌, ℕ, zero, suc, ◌+◌, List, [], ◌∷◌, ◌++◌, map, length, Bool, true, false, inl, ⊎_elim, Some, refl, sym, ap, ◌∙◌, arith, decimal}
use Rattle.std.proofs.lemmas.List.{length-append, length-map}
use Rattle.claim_tree.specs.Tree.{Text, Tree, leaf, array, object, Elements, no_elements, element, Members, no_members, member}
use Rattle.marked_tree.specs.Marked.{Marked}
use Rattle.marked_tree.specs.Ways.{only, own_path, closing, closing_elements, closing_members}
use Rattle.sd_outside.specs.Lists.{StandsAt, In}
use Rattle.marked_tree.specs.Paths.{Path, Spot, inside, own_spot, spots, elements_spots, members_spots, below, one_if, hidden_in, hidden_elements, hidden_members, mark_if, mark_from, mark_elements, mark_members, is_among, mark, hidden_count}
use Rattle.marked_tree.specs.Laws.{MarksClose}
use Rattle.sd_outside.proofs.Lists.{In-left, In-right, In-map, At-of_map, At-either}
use Rattle.marked_tree.proofs.MarkFacts.{marks_once_holds, up_to_le}
use Rattle.marked_tree.proofs.Spots.{spots_weigh, first_is}

pub own_length : (b : Bool) (k : Text) → length (own_path b k) ≡ one_if b
own_length true k = refl
own_length false k = refl

mutual
  pub count : (h : Path → Bool) (t : Tree) → length (closing h t) ≡ hidden_in h t
  count h (leaf l) = refl
  count h (array es) = count_elements h 0 es
  count h (object ms) = count_members h ms

  count_elements : (h : Path → Bool) (i : ℕ) (es : Elements) → length (closing_elements h i es) ≡ hidden_elements h i es
  count_elements h i no_elements = refl
  count_elements h i (element t es) =
      let cs = map (λ (p : Path). decimal i ∷ p) (closing (below (decimal i) h) t) in
      let own = own_path (h (decimal i ∷ [])) (decimal i) in
      omega (
        arith,
        length-append (cs ++ own) (closing_elements h (suc i) es),
        length-append cs own,
        length-map (closing (below (decimal i) h) t) (λ (p : Path). decimal i ∷ p),
        own_length (h (decimal i ∷ [])) (decimal i),
        count (below (decimal i) h) t,
        count_elements h (suc i) es,
      )

  count_members : (h : Path → Bool) (ms : Members) → length (closing_members h ms) ≡ hidden_members h ms
  count_members h no_members = refl
  count_members h (member k t ms) =
      let cs = map (λ (p : Path). k ∷ p) (closing (below k h) t) in
      let own = own_path (h (k ∷ [])) k in
      omega (
        arith,
        length-append (cs ++ own) (closing_members h ms),
        length-append cs own,
        length-map (closing (below k h) t) (λ (p : Path). k ∷ p),
        own_length (h (k ∷ [])) k,
        count (below k h) t,
        count_members h ms,
      )

abbrev Closes : ℕ → List Path → List Spot → Type 0
Closes n cs ss = (j : ℕ) (q : Path) → StandsAt cs j q → (s : Spot) × In s ss × (s.mark ≡ n + j) × (s.at ≡ q)

own_closes : (b : Bool) (k : Text) (n : ℕ) (rest : List Spot) → Closes n (own_path b k) (own_spot k (mark_if b n) ++ rest)
own_closes true k n rest zero q a = (record { mark = n; at = k ∷ []; above = [] }, inl refl, omega arith, sym a)
own_closes true k n rest (suc j) q a = elim a [ ]
own_closes false k n rest j q a = elim a [ ]

step : (b : Bool) (k : Text) (n a : ℕ) (u : Marked) (cs rest : List Path) (others : List Spot) → length cs ≡ a → Closes n cs (spots u) → Closes (n + (a + one_if b)) rest others
    → Closes n ((map (λ p. k ∷ p) cs ++ own_path b k) ++ rest) ((own_spot k (mark_if b (n + a)) ++ map (inside k (mark_if b (n + a))) (spots u)) ++ others)
step b k n a u cs rest others l inner outer j q h =
    let i = mark_if b (n + a) in
    let here = own_spot k i ++ map (inside k i) (spots u) in
    let front = map (λ (p : Path). k ∷ p) cs in
    ⊎_elim
    (λ x. ⊎_elim
    (λ y.
    let w = At-of_map (λ (p : Path). k ∷ p) cs j q y in
    let v = inner j w.0 w.1 in
    (inside k i v.0, In-left (inside k i v.0) here others (In-right (inside k i v.0) (own_spot k i) (map (inside k i) (spots u)) (In-map (inside k i) v.0 (spots u) v.1)), v.2, ap (λ (p : Path). k ∷ p) v.3 ∙ sym w.2))
    (λ y.
    let v = own_closes b k (n + a) (map (inside k i) (spots u)) y.0 q y.2 in
    (v.0, In-left v.0 here others v.1, omega (arith, v.2, y.1, l, length-map cs (λ (p : Path). k ∷ p)), v.3))
    (At-either front (own_path b k) j q x))
    (λ x.
    let v = outer x.0 q x.2 in
    (v.0, In-right v.0 here others v.1, omega (arith, v.2, x.1, l, length-append front (own_path b k), length-map cs (λ (p : Path). k ∷ p), own_length b k), v.3))
    (At-either (front ++ own_path b k) rest j q h)

mutual
  closes : (h : Path → Bool) (n : ℕ) (t : Tree) → Closes n (closing h t) (spots (mark_from h n t))
  closes h n (leaf l) = λ j q a. elim a [ ]
  closes h n (array es) = elements_close h n 0 es
  closes h n (object ms) = members_close h n ms

  elements_close : (h : Path → Bool) (n i : ℕ) (es : Elements) → Closes n (closing_elements h i es) (elements_spots i (mark_elements h n i es))
  elements_close h n i no_elements = λ j q a. elim a [ ]
  elements_close h n i (element t es) =
      let a = hidden_in (below (decimal i) h) t in
      let b = h (decimal i ∷ []) in
      step b (decimal i) n a (mark_from (below (decimal i) h) n t) (closing (below (decimal i) h) t) (closing_elements h (suc i) es)
      (elements_spots (suc i) (mark_elements h (n + (a + one_if b)) (suc i) es)) (count (below (decimal i) h) t) (closes (below (decimal i) h) n t) (elements_close h (n + (a + one_if b)) (suc i) es)

  members_close : (h : Path → Bool) (n : ℕ) (ms : Members) → Closes n (closing_members h ms) (members_spots (mark_members h n ms))
  members_close h n no_members = λ j q a. elim a [ ]
  members_close h n (member k t ms) =
      let a = hidden_in (below k h) t in
      let b = h (k ∷ []) in
      step b k n a (mark_from (below k h) n t) (closing (below k h) t) (closing_members h ms)
      (members_spots (mark_members h (n + (a + one_if b)) ms)) (count (below k h) t) (closes (below k h) n t) (members_close h (n + (a + one_if b)) ms)

pub marks_close_holds : MarksClose
marks_close_holds t hide = record {
  count = count (is_among hide) t;
  places = λ k q a.
      let w = closes (is_among hide) 0 t k q a in
      first_is k (spots (mark t hide)) w.0
      (omega (arith, spots_weigh (only k) (mark t hide), marks_once_holds t hide k, up_to_le k (hidden_count t hide))) w.1 (omega (arith, w.2)) ∙ ap Some w.3;
}
