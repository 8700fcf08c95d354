-- One step into a marked tree: what it finds, and which marks are on the way.
use Rattle.std.proofs.Common.{◌≡◌, ◌≢◌, ℕ, zero, suc, ◌+◌, ◌<◌, ◌≤◌, ◌^◌, List, [], ◌∷◌, map, Bool, true, false, cond, ◌⊎◌, inl, inr, eqb, ◌&&◌, ◌||◌, Option, Some, None, option_map, refl, sym, ap, ap₂, subst, ◌∙◌, arith, bytes_eq, decimal, get_or, Bor, IfSome}
use Rattle.std.specs.List.{list_any}
use Rattle.std.proofs.Math.Bool.{and-false, and-true, or-false}
use Rattle.std.proofs.lemmas.Fmt.{decimal_injective}
use Rattle.std.proofs.lemmas.List.Folds.{list_any-append}
use Rattle.std.proofs.lemmas.Slice.Eq.{bytes_eq-Decides}
use Rattle.std.proofs.lemmas.Bool.{cases_lt}
use Rattle.claim_tree.specs.Tree.{Text, Tree, IsBeforeAll, IsOrdered, member_named}
use Rattle.sd_outside.specs.Lists.{StandsAt}
use Rattle.claim_tree.specs.Path.{is_front, stepped, element_on}
use Rattle.sd_outside.proofs.Lists.{bytes_same, bytes_refl}
use Rattle.claim_tree.proofs.Positions.{unequal}
use Rattle.marked_tree.specs.Marked as spec
use Rattle.marked_tree.specs.Marked.{marked_leaf, marked_array, marked_object, MarkedElements, no_marked_elements, marked_element, MarkedMembers, no_marked_members, marked_member, strip, strip_elements, strip_members}
use Rattle.marked_tree.specs.MarkedCalls.{marked_names, marked_elements_len, marked_element_at}
use Rattle.marked_tree.specs.Paths.{Path, Spot, inside, own_spot, spots, elements_spots, members_spots}
use Rattle.marked_tree.specs.Choice.{is_on_way, has_mark}
use Rattle.marked_tree.specs.Steps.{marked_element_on, marked_member_named, marked_stepped, IsShortList}
use Rattle.marked_tree.specs.NamePositions.{IsNameGap}
use Rattle.marked_tree.specs.declared.marked.Marked.{Marked}
use Rattle.marked_tree.specs.View.{marked_of, marked_members_of}
use Rattle.marked_tree.proofs.MarkedViews.{Entry}
use Rattle.marked_tree.proofs.Names.{Ascend, names_of, ascend}
use Rattle.marked_tree.proofs.Lookups.{apart, apart_back}
use Rattle.marked_tree.proofs.Finds.{node_spots}

-- ---- the tree one step inside is that of the tree without marks

abbrev Node : Type 0
Node = Option ℕ × spec.Marked

abbrev bare : Option Node → Option Tree
bare o = option_map (λ (e : Node). strip e.1) o

bare_if : (b : Bool) (e : Node) (o : Option Node) (t : Option Tree) → bare o ≡ t → bare (cond b (Some e) o) ≡ cond b (Some (strip e.1)) t
bare_if true e o t h = refl
bare_if false e o t h = h

bare_element : (es : MarkedElements) (n : ℕ) (step : Text) → bare (marked_element_on es n step) ≡ element_on (strip_elements es) n step
bare_element no_marked_elements n step = refl
bare_element (marked_element i t es) n step = bare_if (bytes_eq (decimal n) step) (i, t) (marked_element_on es (suc n) step) (element_on (strip_elements es) (suc n) step) (bare_element es (suc n) step)

bare_member : (ms : MarkedMembers) (step : Text) → bare (marked_member_named ms step) ≡ member_named (strip_members ms) step
bare_member no_marked_members step = refl
bare_member (marked_member k i t ms) step = bare_if (bytes_eq k step) (i, t) (marked_member_named ms step) (member_named (strip_members ms) step) (bare_member ms step)

pub stepped_strip : (m : spec.Marked) (step : Text) → option_map (λ (e : Node). strip e.1) (marked_stepped m step) ≡ stepped (strip m) step
stepped_strip (marked_leaf l) step = refl
stepped_strip (marked_array es) step = bare_element es 0 step
stepped_strip (marked_object ms) step = bare_member ms step

-- ---- where a name or a position stands

pub named_at : (ms : List Entry) (name : Text) (i : ℕ) (d : Entry) → Ascend (names_of ms) → StandsAt (names_of ms) i name
    → marked_member_named (marked_members_of ms) name ≡ Some ((get_or ms i d).1, marked_of (get_or ms i d).2)
named_at (m ∷ ms) name zero d o h = rw (bytes_refl m.0 name (sym h)) refl
named_at (m ∷ ms) name (suc i) d o h = rw (before m.0 name (names_of ms) i o.0 h) (named_at ms name i d o.1 h)
  where
    before : (k name : Text) (ns : List Text) (i : ℕ) → IsBeforeAll k ns → StandsAt ns i name → bytes_eq k name ≡ false
    before k name (n ∷ ns) zero all h = subst (λ x. bytes_eq k x ≡ false) (sym h) (apart k n all.0)
    before k name (n ∷ ns) (suc i) all h = before k name ns i all.1 h
    before k name [] i all h = elim h [ ]
named_at [] name i d o h = elim h [ ]

pub named_gap : (ms : List Entry) (name : Text) (i : ℕ) → IsNameGap (names_of ms) name i → marked_member_named (marked_members_of ms) name ≡ None
named_gap ms name i gap = none ms (λ k other at. go k other at (cases_lt k i))
  where
    go : (k : ℕ) (other : Text) → StandsAt (names_of ms) k other → (k < i) ⊎ (i ≤ k) → bytes_eq other name ≡ false
    go k other at (inl l) = apart other name (gap.before k other at l)
    go k other at (inr l) = apart_back name other (gap.after k other at l)

    none : (ms : List Entry) → ((k : ℕ) (other : Text) → StandsAt (names_of ms) k other → bytes_eq other name ≡ false) → marked_member_named (marked_members_of ms) name ≡ None
    none [] h = refl
    none (m ∷ ms) h = rw (h 0 m.0 refl) (none ms (λ k. h (suc k)))

pub element_nowhere : (es : MarkedElements) (i : ℕ) (step : Text) → ((j : ℕ) → j < i + marked_elements_len es → decimal j ≢ step) → marked_element_on es i step ≡ None
element_nowhere no_marked_elements i step none = refl
element_nowhere (marked_element j t es) i step none =
    rw (unequal (decimal i) step (none i (omega arith))) (element_nowhere es (suc i) step (λ j below. none j (omega (arith, below))))

pub element_there : (es : MarkedElements) (i j : ℕ) (step : Text) → i + j < 2 ^ 64 → decimal (i + j) ≡ step → marked_element_on es i step ≡ marked_element_at es j
element_there no_marked_elements i j step fits e = refl
element_there (marked_element k t es) i zero step fits e =
    let same : decimal i ≡ step = subst (λ k. decimal k ≡ step) (omega arith) e in
    rw ((bytes_eq-Decides (decimal i) step).1 same) refl
element_there (marked_element k t es) i (suc j) step fits e =
    let other : decimal i ≢ step = λ h. let same = decimal_injective i (i + suc j) (omega (arith, fits)) fits (h ∙ sym e) in omega (arith, same) in
    let next : suc i + j ≡ i + suc j = omega arith in
    rw (unequal (decimal i) step other) (element_there es (suc i) j step (omega (arith, fits)) (ap decimal next ∙ e))

-- ---- which marks are on the way

-- the spot has mark i and leads to p
abbrev on : Path → ℕ → Spot → Bool
on p i s = eqb s.mark i && is_front s.at p

inside_here : (k step : Text) (own : Option ℕ) (p : Path) (i : ℕ) (ss : List Spot) → bytes_eq k step ≡ true → list_any (on (step ∷ p) i) (map (inside k own) ss) ≡ list_any (on p i) ss
inside_here k step own p i [] e = refl
inside_here k step own p i (s ∷ ss) e = ap₂ (λ a b. a || b) (rw e refl) (inside_here k step own p i ss e)

inside_other : (k step : Text) (own : Option ℕ) (p : Path) (i : ℕ) (ss : List Spot) → bytes_eq k step ≡ false → list_any (on (step ∷ p) i) (map (inside k own) ss) ≡ false
inside_other k step own p i [] e = refl
inside_other k step own p i (s ∷ ss) e = rw e (rw (and-false (eqb s.mark i)) (inside_other k step own p i ss e))

own_here : (k step : Text) (own : Option ℕ) (p : Path) (i : ℕ) → bytes_eq k step ≡ true → list_any (on (step ∷ p) i) (own_spot k own) ≡ has_mark own i
own_here k step None p i e = refl
own_here k step (Some j) p i e = rw e (or-false (eqb j i && true) ∙ and-true (eqb j i))

own_other : (k step : Text) (own : Option ℕ) (p : Path) (i : ℕ) → bytes_eq k step ≡ false → list_any (on (step ∷ p) i) (own_spot k own) ≡ false
own_other k step None p i e = refl
own_other k step (Some j) p i e = rw e (or-false (eqb j i && false) ∙ and-false (eqb j i))

node_here : (k step : Text) (own : Option ℕ) (t : spec.Marked) (p : Path) (i : ℕ) → bytes_eq k step ≡ true
    → list_any (on (step ∷ p) i) (node_spots k own t) ≡ (has_mark own i || is_on_way t p i)
node_here k step own t p i e =
    list_any-append (on (step ∷ p) i) (own_spot k own) (map (inside k own) (spots t))
    ∙ ap₂ (λ a b. a || b) (own_here k step own p i e) (inside_here k step own p i (spots t) e)

node_other : (k step : Text) (own : Option ℕ) (t : spec.Marked) (p : Path) (i : ℕ) → bytes_eq k step ≡ false
    → list_any (on (step ∷ p) i) (node_spots k own t) ≡ false
node_other k step own t p i e =
    list_any-append (on (step ∷ p) i) (own_spot k own) (map (inside k own) (spots t))
    ∙ ap₂ (λ a b. a || b) (own_other k step own p i e) (inside_other k step own p i (spots t) e)

members_none : (ms : MarkedMembers) (step : Text) (p : Path) (i : ℕ) → IsBeforeAll step (marked_names ms) → list_any (on (step ∷ p) i) (members_spots ms) ≡ false
members_none no_marked_members step p i all = refl
members_none (marked_member k own t ms) step p i all =
    list_any-append (on (step ∷ p) i) (node_spots k own t) (members_spots ms)
    ∙ ap₂ (λ a b. a || b) (node_other k step own t p i (apart_back step k all.0)) (members_none ms step p i all.1)

members_way : (ms : MarkedMembers) (step : Text) (e : Node) → Ascend (marked_names ms) → marked_member_named ms step ≡ Some e
    → (p : Path) (i : ℕ) → list_any (on (step ∷ p) i) (members_spots ms) ≡ (has_mark e.0 i || is_on_way e.1 p i)
members_way no_marked_members step e o h p i = cc
members_way (marked_member k own t ms) step e o h p i =
    list_any-append (on (step ∷ p) i) (node_spots k own t) (members_spots ms) ∙ go (bytes_eq k step) refl h (λ s. members_way ms step e o.1 s p i)
  where
    go : (b : Bool) → bytes_eq k step ≡ b → cond b (Some (own, t)) (marked_member_named ms step) ≡ Some e
        → (marked_member_named ms step ≡ Some e → list_any (on (step ∷ p) i) (members_spots ms) ≡ (has_mark e.0 i || is_on_way e.1 p i))
        → (list_any (on (step ∷ p) i) (node_spots k own t) || list_any (on (step ∷ p) i) (members_spots ms)) ≡ (has_mark e.0 i || is_on_way e.1 p i)
    go true q s ih =
        let same : (own, t) ≡ e = cc in
        ap₂ (λ a b. a || b) (node_here k step own t p i q) (members_none ms step p i (subst (λ x. IsBeforeAll x (marked_names ms)) (bytes_same k step q) o.0))
        ∙ or-false (has_mark own i || is_on_way t p i) ∙ ap (λ (e : Node). has_mark e.0 i || is_on_way e.1 p i) same
    go false q s ih = ap₂ (λ a b. a || b) (node_other k step own t p i q) (ih s)

elements_none : (n : ℕ) (es : MarkedElements) (step : Text) (p : Path) (i : ℕ) → ((j : ℕ) → n ≤ j → j < n + marked_elements_len es → bytes_eq (decimal j) step ≡ false)
    → list_any (on (step ∷ p) i) (elements_spots n es) ≡ false
elements_none n no_marked_elements step p i none = refl
elements_none n (marked_element own t es) step p i none =
    list_any-append (on (step ∷ p) i) (node_spots (decimal n) own t) (elements_spots (suc n) es)
    ∙ ap₂ (λ a b. a || b) (node_other (decimal n) step own t p i (none n (omega arith) (omega arith))) (elements_none (suc n) es step p i (λ j l u. none j (omega (arith, l)) (omega (arith, u))))

elements_way : (n : ℕ) (es : MarkedElements) (step : Text) (e : Node) → n + marked_elements_len es ≤ 2 ^ 64 → marked_element_on es n step ≡ Some e
    → (p : Path) (i : ℕ) → list_any (on (step ∷ p) i) (elements_spots n es) ≡ (has_mark e.0 i || is_on_way e.1 p i)
elements_way n no_marked_elements step e fits h p i = cc
elements_way n (marked_element own t es) step e fits h p i =
    list_any-append (on (step ∷ p) i) (node_spots (decimal n) own t) (elements_spots (suc n) es)
    ∙ go (bytes_eq (decimal n) step) refl h (λ s. elements_way (suc n) es step e (omega (arith, fits)) s p i)
  where
    apart_from : bytes_eq (decimal n) step ≡ true → (j : ℕ) → suc n ≤ j → j < suc n + marked_elements_len es → bytes_eq (decimal j) step ≡ false
    apart_from q j l u =
        unequal (decimal j) step
        (λ same. let one = decimal_injective j n (omega (arith, u, fits)) (omega (arith, fits)) (same ∙ sym (bytes_same (decimal n) step q)) in omega (arith, one, l))

    go : (b : Bool) → bytes_eq (decimal n) step ≡ b → cond b (Some (own, t)) (marked_element_on es (suc n) step) ≡ Some e
        → (marked_element_on es (suc n) step ≡ Some e → list_any (on (step ∷ p) i) (elements_spots (suc n) es) ≡ (has_mark e.0 i || is_on_way e.1 p i))
        → (list_any (on (step ∷ p) i) (node_spots (decimal n) own t) || list_any (on (step ∷ p) i) (elements_spots (suc n) es)) ≡ (has_mark e.0 i || is_on_way e.1 p i)
    go true q s ih =
        let same : (own, t) ≡ e = cc in
        ap₂ (λ a b. a || b) (node_here (decimal n) step own t p i q) (elements_none (suc n) es step p i (apart_from q))
        ∙ or-false (has_mark own i || is_on_way t p i) ∙ ap (λ (e : Node). has_mark e.0 i || is_on_way e.1 p i) same
    go false q s ih = ap₂ (λ a b. a || b) (node_other (decimal n) step own t p i q) (ih s)

pub way_stepped : (m : spec.Marked) (step : Text) (e : Node) → IsOrdered (strip m) → IsShortList m → marked_stepped m step ≡ Some e
    → (p : Path) (i : ℕ) → is_on_way m (step ∷ p) i ≡ (has_mark e.0 i || is_on_way e.1 p i)
way_stepped (marked_leaf l) step e o short h p i = cc
way_stepped (marked_array es) step e o short h p i = elements_way 0 es step e (omega (arith, short)) h p i
way_stepped (marked_object ms) step e o short h p i = members_way ms step e (ascend ms o) h p i

-- ---- nothing marked stands at the root

node_root : (k : Text) (own : Option ℕ) (t : spec.Marked) (i : ℕ) → list_any (on [] i) (node_spots k own t) ≡ false
node_root k own t i = list_any-append (on [] i) (own_spot k own) (map (inside k own) (spots t)) ∙ ap₂ (λ a b. a || b) (here own) (below (spots t))
  where
    here : (own : Option ℕ) → list_any (on [] i) (own_spot k own) ≡ false
    here None = refl
    here (Some j) = or-false (eqb j i && false) ∙ and-false (eqb j i)

    below : (ss : List Spot) → list_any (on [] i) (map (inside k own) ss) ≡ false
    below [] = refl
    below (s ∷ ss) = rw (and-false (eqb s.mark i)) (below ss)

elements_root : (n : ℕ) (es : MarkedElements) (i : ℕ) → list_any (on [] i) (elements_spots n es) ≡ false
elements_root n no_marked_elements i = refl
elements_root n (marked_element own t es) i =
    list_any-append (on [] i) (node_spots (decimal n) own t) (elements_spots (suc n) es) ∙ ap₂ (λ a b. a || b) (node_root (decimal n) own t i) (elements_root (suc n) es i)

members_root : (ms : MarkedMembers) (i : ℕ) → list_any (on [] i) (members_spots ms) ≡ false
members_root no_marked_members i = refl
members_root (marked_member k own t ms) i =
    list_any-append (on [] i) (node_spots k own t) (members_spots ms) ∙ ap₂ (λ a b. a || b) (node_root k own t i) (members_root ms i)

pub none_at_root : (m : spec.Marked) (i : ℕ) → is_on_way m [] i ≡ false
none_at_root (marked_leaf l) i = refl
none_at_root (marked_array es) i = elements_root 0 es i
none_at_root (marked_object ms) i = members_root ms i

-- ---- the same of what the code finds

abbrev Found : Type 0
Found = Option (Option ℕ × Bor Marked)

abbrev node_of : (Option ℕ × Bor Marked) → Node
node_of e = (e.0, marked_of e.1.now)

pub found_strip : (m : spec.Marked) (step : Text) (r : Found) → option_map node_of r ≡ marked_stepped m step → option_map (λ e. strip (marked_of e.1.now)) r ≡ stepped (strip m) step
found_strip m step r h = twice r ∙ ap bare h ∙ stepped_strip m step
  where
    twice : (r : Found) → option_map (λ e. strip (marked_of e.1.now)) r ≡ bare (option_map node_of r)
    twice None = refl
    twice (Some e) = refl

pub found_way : (m : spec.Marked) (step : Text) (r : Found) → IsOrdered (strip m) → IsShortList m → option_map node_of r ≡ marked_stepped m step
    → IfSome r (λ e. (p : Path) (i : ℕ) → is_on_way m (step ∷ p) i ≡ (has_mark e.0 i || is_on_way (marked_of e.1.now) p i))
found_way m step None o short h = tt
found_way m step (Some e) o short h = way_stepped m step (node_of e) o short (sym h)
