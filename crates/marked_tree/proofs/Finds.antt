-- The first spot with a mark.
use Rattle.std.proofs.Common.{◌≡◌, ℕ, suc, ◌+◌, ◌<◌, List, [], ◌∷◌, ◌++◌, map, length, reverse, drop, get_or, Bool, true, false, cond, eqb, Option, Some, None, option_map, arith, refl, sym, ap, ◌∙◌, eq-eqb, eqb-true, decimal}
use Rattle.std.specs.Option.{option_eq}
use Rattle.std.proofs.lemmas.List.{drop_more, reverse-append}
use Rattle.claim_tree.specs.Tree.{Text}
use Rattle.marked_tree.specs.Marked as spec
use Rattle.marked_tree.specs.Paths.{Path, Spot, inside, own_spot, spots, elements_spots, members_spots, first_with}
use Rattle.marked_tree.specs.View.{marked_of, marked_elements_of, marked_members_of}
use Rattle.marked_tree.proofs.MarkedViews.{Element, Entry}

abbrev or_path : Option Path → Option Path → Option Path
or_path None q = q
or_path (Some p) q = Some p

first-append : (i : ℕ) (ss zs : List Spot) → first_with i (ss ++ zs) ≡ or_path (first_with i ss) (first_with i zs)
first-append i [] zs = refl
first-append i (s ∷ ss) zs = go (eqb s.mark i) (first-append i ss zs)
  where
    go : (b : Bool) → first_with i (ss ++ zs) ≡ or_path (first_with i ss) (first_with i zs) → cond b (Some s.at) (first_with i (ss ++ zs)) ≡ or_path (cond b (Some s.at) (first_with i ss)) (first_with i zs)
    go true ih = refl
    go false ih = ih

first-inside : (i : ℕ) (step : Text) (own : Option ℕ) (ss : List Spot) → first_with i (map (inside step own) ss) ≡ option_map (λ p. step ∷ p) (first_with i ss)
first-inside i step own [] = refl
first-inside i step own (s ∷ ss) = go (eqb s.mark i) (first-inside i step own ss)
  where
    go : (b : Bool) → first_with i (map (inside step own) ss) ≡ option_map (λ p. step ∷ p) (first_with i ss)
        → cond b (Some (step ∷ s.at)) (first_with i (map (inside step own) ss)) ≡ option_map (λ p. step ∷ p) (cond b (Some s.at) (first_with i ss))
    go true ih = refl
    go false ih = ih

abbrev pub node_spots : Text → Option ℕ → spec.Marked → List Spot
node_spots step own t = own_spot step own ++ map (inside step own) (spots t)

-- a node with another mark, or none
pub found_inside : (i : ℕ) (step : Text) (own : Option ℕ) (t : spec.Marked) → (own ≡ Some i → ⊥) → first_with i (node_spots step own t) ≡ option_map (λ p. step ∷ p) (first_with i (spots t))
found_inside i step None t other = first-inside i step None (spots t)
found_inside i step (Some j) t other = go (eqb j i) refl
  where
    go : (b : Bool) → eqb j i ≡ b → cond b (Some (step ∷ [])) (first_with i (map (inside step (Some j)) (spots t))) ≡ option_map (λ p. step ∷ p) (first_with i (spots t))
    go true e = absurd (other (ap (λ (n : ℕ). Some n) (eqb-true j i e)))
    go false e = first-inside i step (Some j) (spots t)

pub step_behind : {X : Type 0} (xs : List X) (x : X) → reverse (xs ++ x ∷ []) ≡ x ∷ reverse xs
step_behind xs x = reverse-append xs (x ∷ [])

-- ---- elements that are left

abbrev pub left_elements : ℕ → ℕ → List Element → Option Path
left_elements i n es = first_with i (elements_spots n (marked_elements_of (drop n es)))

elements_left : (i n : ℕ) (es : List Element) (e : Element) → n < length es → e ≡ get_or es n e
    → left_elements i n es ≡ or_path (first_with i (node_spots (decimal n) e.0 (marked_of e.1))) (left_elements i (n + 1) es)
elements_left i n es e within is =
    let there : drop n es ≡ e ∷ drop (n + 1) es = drop_more es n e within ∙ ap (λ (d : Element). d ∷ drop (n + 1) es) (sym is) in
    ap (λ us. first_with i (elements_spots n (marked_elements_of us))) there
    ∙ first-append i (node_spots (decimal n) e.0 (marked_of e.1)) (elements_spots (suc n) (marked_elements_of (drop (n + 1) es)))
    ∙ ap (λ m. or_path (first_with i (node_spots (decimal n) e.0 (marked_of e.1))) (first_with i (elements_spots m (marked_elements_of (drop (n + 1) es))))) (let more : suc n ≡ n + 1 = omega arith in more)

pub element_passed : (i n : ℕ) (es : List Element) (e : Element) → n < length es → e ≡ get_or es n e
    → first_with i (node_spots (decimal n) e.0 (marked_of e.1)) ≡ None → left_elements i (n + 1) es ≡ left_elements i n es
element_passed i n es e within is none = sym (elements_left i n es e within is ∙ ap (λ p. or_path p (left_elements i (n + 1) es)) none)

pub element_found : (i n : ℕ) (es : List Element) (e : Element) (p : Path) → n < length es → e ≡ get_or es n e
    → first_with i (node_spots (decimal n) e.0 (marked_of e.1)) ≡ Some p → left_elements i n es ≡ Some p
element_found i n es e p within is some = elements_left i n es e within is ∙ ap (λ q. or_path q (left_elements i (n + 1) es)) some

-- ---- members that are left

abbrev pub left_members : ℕ → ℕ → List Entry → Option Path
left_members i n ms = first_with i (members_spots (marked_members_of (drop n ms)))

members_left : (i n : ℕ) (ms : List Entry) (m : Entry) → n < length ms → m ≡ get_or ms n m
    → left_members i n ms ≡ or_path (first_with i (node_spots m.0 m.1 (marked_of m.2))) (left_members i (n + 1) ms)
members_left i n ms m within is =
    let there : drop n ms ≡ m ∷ drop (n + 1) ms = drop_more ms n m within ∙ ap (λ (d : Entry). d ∷ drop (n + 1) ms) (sym is) in
    ap (λ us. first_with i (members_spots (marked_members_of us))) there
    ∙ first-append i (node_spots m.0 m.1 (marked_of m.2)) (members_spots (marked_members_of (drop (n + 1) ms)))

pub member_passed : (i n : ℕ) (ms : List Entry) (m : Entry) → n < length ms → m ≡ get_or ms n m
    → first_with i (node_spots m.0 m.1 (marked_of m.2)) ≡ None → left_members i (n + 1) ms ≡ left_members i n ms
member_passed i n ms m within is none = sym (members_left i n ms m within is ∙ ap (λ p. or_path p (left_members i (n + 1) ms)) none)

pub member_found : (i n : ℕ) (ms : List Entry) (m : Entry) (p : Path) → n < length ms → m ≡ get_or ms n m
    → first_with i (node_spots m.0 m.1 (marked_of m.2)) ≡ Some p → left_members i n ms ≡ Some p
member_found i n ms m p within is some = members_left i n ms m within is ∙ ap (λ q. or_path q (left_members i (n + 1) ms)) some

-- ---- at a node

pub not_own : (own : Option ℕ) (i : ℕ) → option_eq eqb own (Some i) ≡ false → own ≡ Some i → ⊥
not_own None i e f = cc
not_own (Some j) i e f =
    let same : j ≡ i = cc in
    let w : eqb j i ≡ true = eq-eqb j i same in
    cc

pub stepped : {V : Type 0} (f : V → Path) (step : Text) (o : Option V) → option_map (λ s. step ∷ f s) o ≡ option_map (λ p. step ∷ p) (option_map f o)
stepped f step None = refl
stepped f step (Some s) = refl
