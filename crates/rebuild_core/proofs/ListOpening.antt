-- The loop that opens the elements of an array.
use Rattle.std.proofs.Common.{◌≡◌, ℕ, zero, suc, ◌+◌, ◌^◌, ◌<◌, ◌≤◌, List, [], ◌∷◌, ◌++◌, length, get_or, drop, true, false, Option, Some, None, sym, ap, ◌∙◌, subst, arith}
use Rattle.std.specs.Prelude.{slice_index, option_map}
use Rattle.std.specs.Option.{is_some}
use Rattle.std.proofs.lemmas.Grind.{get_or_default_zero}
use Rattle.claim_tree.specs.Tree.{Text, Tree, Elements, no_elements, element, depth}
use Rattle.sd_outside.specs.Lists.{StandsAt}
use Rattle.claim_tree.specs.View.{tree_of}
use Rattle.claim_tree.specs.ListViews.{elements_of}
use Rattle.claim_tree.specs.declared.tree.Tree.{Tree as Code}
use Rattle.sd_outside.proofs.Lists.{At-below}
use Rattle.digest_sites.specs.Reserved.{element_digest}
use Rattle.digest_sites.specs.Given.{Given}
use Rattle.marked_tree.specs.Marked.{Marked, MarkedElements, marked_element, strip}
use Rattle.marked_tree.specs.MarkedCalls.{marked_pushed, joined}
use Rattle.rebuild_core.specs.Opening.{Shown, shown, show_element, open_tree, open_element, open_elements}
use Rattle.rebuild_core.specs.Cursor.{digests_on, tree_digests, elements_digests, NumberTells, TellFirst}
use Rattle.rebuild_core.specs.Whole.{settled, shown_depth, IfTooDeep, IsElement, WholeOn, OpensWhole, ElementsWhole, IsOpenable, OpensFrom, TakesOnly}
use Rattle.rebuild_core.specs.declared.errors.ProcessError.{ProcessError}
use Rattle.rebuild_core.proofs.Goes.{Goes, goes_past, first_part}
use Rattle.rebuild_core.proofs.Taking.{Taking, taking_past, opens_part}
use Rattle.marked_tree.proofs.MarkSame.{joined-none}
use Rattle.rebuild_core.proofs.ShownDepths.{list_depth, joined_push, joined_depth, pushed_shown_depth, pushed_depth, element_keeps}

-- ---- what was refused below is refused here

pub still_deep : {P Q : Type 0} → (e : ProcessError) → (P → Q) → IfTooDeep e P → IfTooDeep e Q
still_deep ProcessError.Memory f h = tt
still_deep ProcessError.TooDeep f h = f h
still_deep (ProcessError.RepeatedDisclosure i) f h = h
still_deep (ProcessError.ReservedMisused i) f h = h
still_deep (ProcessError.RepeatedDigest i) f h = h
still_deep (ProcessError.Unreferenced i) f h = h
still_deep (ProcessError.WrongShape i) f h = h
still_deep (ProcessError.ReservedName i) f h = h
still_deep (ProcessError.NameClash i) f h = h

-- ---- a disclosure by its number

read_at : (ks : List ℕ) (i k d : ℕ) → StandsAt ks i k → get_or ks i d ≡ k
read_at (j ∷ ks) zero k d h = sym h
read_at (j ∷ ks) (suc i) k d h = read_at ks i k d h
read_at [] i k d h = elim h [ ]

-- the number that is read at the cursor, and where the numbers of its disclosure begin
module _ (g : List Given) (ks ends : List ℕ) (ready : IsOpenable g ks ends) (j : ℕ) (x : Given) (there : StandsAt g j x) where
  pub few_numbers : j < 2 ^ 32
  few_numbers = omega (arith, ready.few, At-below g j x there)

  pub has_end : j < length ends
  has_end = let w = ready.told j x there in At-below ends j w.0 w.1

  pub value_at : (start : ℕ) → start ≡ get_or ends j start → TellFirst g (drop start ks) (tree_digests x.value) × OpensWhole (settled g) x.value
  value_at start read =
      let w = ready.told j x there in
      let e : start ≡ w.0 = read ∙ read_at ends j w.0 start w.1 in
      (subst (λ n. TellFirst g (drop n ks) (tree_digests x.value)) (sym e) w.2, ready.whole j x there)

  pub shows : (at : ℕ) (d : Text) → at < length ks → j ≡ get_or ks at j → NumberTells g (slice_index ks at) d → settled g d ≡ shown j x.name (open_tree (settled g) x.value)
  shows at d within read tells =
      let e : j ≡ slice_index ks at = read ∙ get_or_default_zero ks at j within in
      let w : StandsAt g (slice_index ks at) x = subst (λ i. StandsAt g i x) e there in
      tells.known x w ∙ ap (λ i. shown i x.name (open_tree (settled g) x.value)) (sym e)

-- ---- the elements

-- whether the code finds a digest
pub has_digest : {X : Type 0} (f : X → Text) (r : Option X) (o : Option Text) → option_map f r ≡ o → is_some r ≡ true → (d : Text) × (Some d ≡ o)
has_digest f (Some x) o e h = (f x, e)
has_digest f None o e h = cc

pub has_none : {X : Type 0} (f : X → Text) (r : Option X) (o : Option Text) → option_map f r ≡ o → is_some r ≡ false → None ≡ o
has_none f None o e h = e
has_none f (Some x) o e h = cc

-- some elements are opened, the cursor stands at the digests of the rest
pub record ListState (g : List Given) (ks : List ℕ) (limit : ℕ) (all : Elements) (end : ℕ) (rest : Elements) (out : MarkedElements) (at : ℕ) : Type 0 where
  pub goes : Goes g ks (elements_digests rest) at end
  pub joins : joined out (open_elements (settled g) rest) ≡ open_elements (settled g) all
  pub whole : ElementsWhole (settled g) rest
  pub low : list_depth out ≤ limit

-- the next element
pub list_here : (g old now : List Given) (ks : List ℕ) (limit : ℕ) (all : Elements) (end : ℕ) (ts : List Code) (t : Code) (rest : List Code) (out : MarkedElements) (at : ℕ) (ds : List Text)
    → ts ≡ t ∷ rest → ListState g ks limit all end (elements_of ts) out at × Taking g old now ds (elements_digests (elements_of ts))
    → ListState g ks limit all end (element (tree_of t) (elements_of rest)) out at × Taking g old now ds (elements_digests (element (tree_of t) (elements_of rest)))
list_here g old now ks limit all end ts t rest out at ds e w = subst (λ us. ListState g ks limit all end (elements_of us) out at × Taking g old now ds (elements_digests (elements_of us))) e w

pub list_ends : (g : List Given) (ks : List ℕ) (limit : ℕ) (all : Elements) (end : ℕ) (rest : Elements) (out : MarkedElements) (at : ℕ) → ListState g ks limit all end rest out at → rest ≡ no_elements
    → (at ≡ end) × (out ≡ open_elements (settled g) all) × (list_depth out ≤ limit)
list_ends g ks limit all end rest out at s e = (
  (let l : at + length (elements_digests rest) ≡ end = s.goes.1 in omega (arith, l, ap (λ es. length (elements_digests es)) e)),
  sym (joined-none out) ∙ ap (λ es. joined out (open_elements (settled g) es)) (sym e) ∙ s.joins,
  s.low,
)

module _ (g : List Given) (ks : List ℕ) (limit : ℕ) (all : Elements) (end : ℕ) (t : Tree) (rest : Elements) (out : MarkedElements) (at : ℕ) (s : ListState g ks limit all end (element t rest) out at) where
  -- ---- an element with no digest

  module _ (plain : None ≡ element_digest t) where
    goes_plain : Goes g ks (tree_digests t ++ elements_digests rest) at end
    goes_plain = subst (λ o. Goes g ks (digests_on o (tree_digests t) ++ elements_digests rest) at end) (sym plain) s.goes

    joins_plain : joined out (marked_element None (open_tree (settled g) t) (open_elements (settled g) rest)) ≡ open_elements (settled g) all
    joins_plain = subst (λ o. joined out (open_element (settled g) o (open_tree (settled g) t) (open_elements (settled g) rest)) ≡ open_elements (settled g) all) (sym plain) s.joins

    plain_at : TellFirst g (drop at ks) (tree_digests t) × OpensWhole (settled g) t
    plain_at = (
      first_part g (drop at ks) (tree_digests t) (elements_digests rest) goes_plain.0,
      subst (λ o. WholeOn (settled g) o (OpensWhole (settled g) t)) (sym plain) s.whole.0,
    )

    pub plain_after : (next : ℕ) (m : Marked) (new : MarkedElements) → next ≡ at + length (tree_digests t) → m ≡ open_tree (settled g) t → depth (strip m) ≤ limit
        → new ≡ marked_pushed out None m → ListState g ks limit all end rest new next
    plain_after next m new q is low pushed =
        let e : (es : MarkedElements) → joined new es ≡ joined out (marked_element None m es) = λ es. ap (λ xs. joined xs es) pushed ∙ joined_push out es None m in
        record {
          goes = goes_past g ks (tree_digests t) (elements_digests rest) at next end goes_plain q;
          joins = e (open_elements (settled g) rest) ∙ ap (λ (z : Marked). joined out (marked_element None z (open_elements (settled g) rest))) is ∙ joins_plain;
          whole = s.whole.1;
          low = omega (arith, pushed_depth out new m e, s.low, low);
        }

    pub plain_deep : limit < depth (strip (open_tree (settled g) t)) → limit < list_depth (open_elements (settled g) all)
    plain_deep h = omega (arith, h, joined_depth out (marked_element None (open_tree (settled g) t) (open_elements (settled g) rest)), ap list_depth joins_plain)

  -- ---- an element with a digest

  module _ (d : Text) (hidden : Some d ≡ element_digest t) where
    goes_hidden : Goes g ks (d ∷ elements_digests rest) at end
    goes_hidden = subst (λ o. Goes g ks (digests_on o (tree_digests t) ++ elements_digests rest) at end) (sym hidden) s.goes

    joins_hidden : joined out (show_element (settled g d) (open_elements (settled g) rest)) ≡ open_elements (settled g) all
    joins_hidden = subst (λ o. joined out (open_element (settled g) o (open_tree (settled g) t) (open_elements (settled g) rest)) ≡ open_elements (settled g) all) (sym hidden) s.joins

    pub hidden_after : (next : ℕ) (x : Shown) (new : MarkedElements) → next ≡ at + 1 → x ≡ settled g d → shown_depth x ≤ limit
        → ((es : MarkedElements) → joined new es ≡ joined out (show_element x es)) → ListState g ks limit all end rest new next
    hidden_after next x new q is low pushed =
        record {
          goes = goes_past g ks (d ∷ []) (elements_digests rest) at next end goes_hidden q;
          joins = pushed (open_elements (settled g) rest) ∙ ap (λ z. joined out (show_element z (open_elements (settled g) rest))) is ∙ joins_hidden;
          whole = s.whole.1;
          low = omega (arith, pushed_shown_depth out new x pushed, s.low, low);
        }

    pub hidden_deep : limit < shown_depth (settled g d) → limit < list_depth (open_elements (settled g) all)
    hidden_deep h =
        let w : IsElement (settled g d) = subst (λ o. WholeOn (settled g) o (OpensWhole (settled g) t)) (sym hidden) s.whole.0 in
        omega (arith, h, element_keeps (settled g d) (open_elements (settled g) rest) w, joined_depth out (show_element (settled g d) (open_elements (settled g) rest)), ap list_depth joins_hidden)

-- ---- what is taken with an element

module _ (g old now : List Given) (ks ends : List ℕ) (limit : ℕ) (all : Elements) (end : ℕ) (t : Tree) (rest : Elements) (out : MarkedElements) (at : ℕ) (ds : List Text)
    (ready : IsOpenable g ks ends) (s : ListState g ks limit all end (element t rest) out at) (w : Taking g old now ds (elements_digests (element t rest))) where
  module _ (plain : None ≡ element_digest t) where
    taking_plain : Taking g old now ds (tree_digests t ++ elements_digests rest)
    taking_plain = subst (λ o. Taking g old now ds (digests_on o (tree_digests t) ++ elements_digests rest)) (sym plain) w

    pub plain_opens : OpensFrom g now ks ends at (tree_digests t) (OpensWhole (settled g) t)
    plain_opens =
        let p = plain_at g ks limit all end t rest out at s plain in
        opens_part g old now ks ends at ds (tree_digests t) (elements_digests rest) (OpensWhole (settled g) t) taking_plain ready p.0 p.1

    pub plain_taken : (new : List Given) → TakesOnly g now new (tree_digests t) → Taking g old new ds (elements_digests rest)
    plain_taken new o = taking_past g old now new ds (tree_digests t) (elements_digests rest) taking_plain o

  module _ (d : Text) (hidden : Some d ≡ element_digest t) where
    taking_hidden : Taking g old now ds (d ∷ elements_digests rest)
    taking_hidden = subst (λ o. Taking g old now ds (digests_on o (tree_digests t) ++ elements_digests rest)) (sym hidden) w

    pub hidden_opens : OpensFrom g now ks ends at (d ∷ []) (Unit {0})
    hidden_opens =
        let told = first_part g (drop at ks) (d ∷ []) (elements_digests rest) (goes_hidden g ks limit all end t rest out at s d hidden).0 in
        opens_part g old now ks ends at ds (d ∷ []) (elements_digests rest) (Unit {0}) taking_hidden ready told tt

    pub hidden_taken : (new : List Given) → TakesOnly g now new (d ∷ []) → Taking g old new ds (elements_digests rest)
    hidden_taken new o = taking_past g old now new ds (d ∷ []) (elements_digests rest) taking_hidden o
