-- What follows for a token without disclosures: its payload has no mark, so nothing is chosen and pruning leaves it as it is.
use Rattle.std.proofs.Common.{◌≡◌, ℕ, List, [], length, Bool, true, false, Option, Some, None, refl, sym, ap, ap₂, subst, ◌∙◌, arith, eq-eqb}
use Rattle.std.specs.Prelude.{if◌then◌else◌, ltb}
use Rattle.std.specs.Option.{option_map, is_some}
use Rattle.std.proofs.lemmas.Bool.Decides.{nat_tests}
use Rattle.std.proofs.lemmas.Slice.Zip.{AllZip-long}
use Rattle.claim_tree.specs.Tree.{Tree}
use Rattle.claim_tree.specs.View.{tree_of}
use Rattle.claim_tree.specs.declared.tree.Tree as declared
use Rattle.sd_outside.specs.Lists.{IsLeast, AtNone}
use Rattle.json_form.specs.declared.token.Token.{Token}
use Rattle.marked_tree.specs.Laws.{HasEachMarkOnce}
use Rattle.marked_tree.specs.Marked.{Marked, marked_leaf, marked_array, marked_object, MarkedElements, no_marked_elements, marked_element, MarkedMembers, no_marked_members, marked_member, remark_elements, remark_members, kept, prune, strip}
use Rattle.marked_tree.specs.Ways.{weight, elements_weight, members_weight, only}
use Rattle.marked_tree.specs.Numbers.{has}
use Rattle.marked_tree.specs.Paths.{Path, chosen}
use Rattle.marked_tree.proofs.LeastChoice.{chosen_below}
use Rattle.rebuild_core.proofs.Presented.{one_node_holds}
use Rattle.selection_core.specs.Consent.{RuleAnswers}
use Rattle.selection_core.specs.ChoiceRefusals.{IsMissing}
use Rattle.verifier_core.specs.Verdict.{Rules, Gives, IsChecked}
use Rattle.verifier_core.specs.Verdicts.{IsCheckedAs}
use Rattle.verifier_core.proofs.ContentFacts.{content_sound, content_readable}
use Rattle.holder_core.specs.Asked.{Asked, BindingAsked}
use Rattle.holder_core.specs.declared.errors.PresentError.{PresentError}
use Rattle.holder_core.specs.declared.errors.PresentError.TheVariants.{Memory, NoSuchPlace, BindingKeyDiffers}
use Rattle.holder_core.specs.Present.{IsHeld, NamesKey}
use Rattle.holder_core.specs.PresentSteps.{IsChosen, IsOtherKey, IsShown, IsReady, IsUnready, IsWholeReady, IsWholeUnready}
use Rattle.holder_core.specs.declared.presenting.Unbound.{Unbound}
use Rattle.holder_core.proofs.Steps.{unchosen, other_key, ready}

-- ---- a tree without marks

abbrev pub HasNoMark : Marked → Type 0
HasNoMark m = (i : ℕ) → weight (only i) m ≡ 0

own_mark : (j : ℕ) → only j j ≡ 1
own_mark j = ap (λ (b : Bool). if b then 1 else 0) (eq-eqb j j refl)

mutual
  pub prune_unmarked : (s : ℕ → Bool) (m : Marked) → HasNoMark m → prune m s ≡ m
  prune_unmarked s (marked_leaf l) none = refl
  prune_unmarked s (marked_array es) none = ap marked_array (elements_unmarked s es none)
  prune_unmarked s (marked_object ms) none = ap marked_object (members_unmarked s ms none)

  elements_unmarked : (s : ℕ → Bool) (es : MarkedElements) → ((i : ℕ) → elements_weight (only i) es ≡ 0) → remark_elements (kept s) es ≡ es
  elements_unmarked s no_marked_elements none = refl
  elements_unmarked s (marked_element None m es) none =
      ap₂ (λ (n : Marked) (ns : MarkedElements). marked_element None n ns)
      (prune_unmarked s m (λ i. (let w = none i in omega (arith, w))))
      (elements_unmarked s es (λ i. (let w = none i in omega (arith, w))))
  elements_unmarked s (marked_element (Some j) m es) none = absurd (let w = none j in let o = own_mark j in omega (arith, w, o))

  members_unmarked : (s : ℕ → Bool) (ms : MarkedMembers) → ((i : ℕ) → members_weight (only i) ms ≡ 0) → remark_members (kept s) ms ≡ ms
  members_unmarked s no_marked_members none = refl
  members_unmarked s (marked_member k None m ms) none =
      ap₂ (λ (n : Marked) (ns : MarkedMembers). marked_member k None n ns)
      (prune_unmarked s m (λ i. (let w = none i in omega (arith, w))))
      (members_unmarked s ms (λ i. (let w = none i in omega (arith, w))))
  members_unmarked s (marked_member k (Some j) m ms) none = absurd (let w = none j in let o = own_mark j in omega (arith, w, o))

no_mark : (m : Marked) → HasEachMarkOnce m 0 → HasNoMark m
no_mark m once i = once i ∙ none i
  where
    none : (i : ℕ) → ◌≡◌ {A = ℕ} (if ltb i 0 then 1 else 0) 0
    none i = grind (arith, nat_tests)

none_chosen : (m : Marked) → HasEachMarkOnce m 0 → (want : List Path) (i : ℕ) → false ≡ chosen m want i
none_chosen m once want i = go (chosen m want i) refl
  where
    go : (b : Bool) → chosen m want i ≡ b → false ≡ b
    go true is = absurd (let low = chosen_below m 0 once want i is in omega (arith, low))
    go false is = refl

-- ---- a token without disclosures

checked_once : (token : Token) (rules : Rules) (marked : Marked) → length token.parts.disclosures ≡ 0 → IsChecked token rules marked → HasEachMarkOnce marked 0
checked_once token rules marked none checked =
    let p = checked.opens.0 in
    let g = checked.opens.1 in
    let has_content = checked.opens.2 in
    let few : length g ≡ 0 = AllZip-long (Gives has_content.hash) token.parts.disclosures g has_content.disclosures ∙ none in
    subst (λ (m : Marked). HasEachMarkOnce m 0) (sym checked.opens.3)
    (subst (HasEachMarkOnce _) few (one_node_holds p g (content_readable token p g has_content) (content_sound token rules p g has_content checked.passes)))

module _ {F : Type 0} (answers : RuleAnswers F) (rule : F) (token : Token) (asked : Asked) (none : length token.parts.disclosures ≡ 0) (unbound : token.parts.binding ≡ None) (payload : Tree) (is : IsCheckedAs token asked.rules payload) where
  held : IsHeld token asked is.0
  held = record { unbound = unbound; checked = is.1 }

  once : HasEachMarkOnce is.0 0
  once = checked_once token asked.rules is.0 none is.1

  same_shown : payload ≡ strip (prune is.0 (has []))
  same_shown = is.2 ∙ ap strip (sym (prune_unmarked (has []) is.0 (no_mark is.0 once)))

  nothing : AtNone (IsMissing payload asked.want) → IsChosen answers rule is.0 asked.want []
  nothing there = record {
    same = none_chosen is.0 once asked.want;
    there = subst (λ (t : Tree). AtNone (IsMissing t asked.want)) is.2 there;
    allowed = λ i at yes stands. (let clash : false ≡ true = none_chosen is.0 once asked.want i ∙ yes in absurd (cc clash));
  }

  pub whole_ready : (alone : Unbound) → IsWholeReady token asked payload alone → IsReady answers rule token asked is.0 alone
  whole_ready alone h =
      ready answers rule token asked is.0 held [] (nothing h.there) (subst (NamesKey asked.binding) same_shown h.key) alone h.presents.signed h.presents.disclosures h.presents.binding_is
      (subst (λ (t : Tree). IsShown asked.binding t alone.payload) same_shown h.shown)

  pub whole_unready : (e : PresentError) → IsWholeUnready asked payload e → IsUnready answers rule token asked e
  whole_unready Memory h = tt
  whole_unready (NoSuchPlace k) h = unchosen answers rule token asked is.0 held (NoSuchPlace k) (subst (λ (t : Tree). IsLeast (IsMissing t asked.want) k) is.2 h)
  whole_unready BindingKeyDiffers h =
      other_key answers rule token asked is.0 held [] (nothing h.0) BindingKeyDiffers (subst (λ (t : Tree). IsOtherKey asked.binding t BindingKeyDiffers) same_shown h.1)
  whole_unready _ h = absurd h

-- ---- the wanted places

pub nothing_found : {X Y : Type 0} (f : X → Y) (o : Option X) (p : Option Y) → option_map f o ≡ p → is_some o ≡ false → false ≡ is_some p
nothing_found f None p same e = ap is_some same
nothing_found f (Some x) p same e = absurd (cc e)

pub something_found : {X Y : Type 0} (f : X → Y) (o : Option X) (p : Option Y) → option_map f o ≡ p → is_some o ≡ true → true ≡ is_some p
something_found f None p same e = absurd (cc e)
something_found f (Some x) p same e = ap is_some same

-- ---- the key

-- where nothing is told, no name is
pub none_told : {X Y : Type 0} (f : X → Y) (o : Option X) (p : Option Y) (y : Y) → option_map f o ≡ p → o ≡ None → p ≡ Some y → ⊥
none_told f None p y told none same = let both = told ∙ same in cc both
none_told f (Some x) p y told none same = cc none

pub some_told : {X Y : Type 0} (f : X → Y) (o : Option X) (p : Option Y) (x : X) (y : Y) → option_map f o ≡ p → o ≡ Some x → p ≡ Some y → f x ≡ y
some_told f o p x y told is same = let both : Some (f x) ≡ Some y = ap (option_map f) (sym is) ∙ (told ∙ same) in cc both

pub other_named : (asked : Asked) (payload : Tree) → AtNone (IsMissing payload asked.want) → (e : PresentError) → IsOtherKey asked.binding payload e → IsWholeUnready asked payload e
other_named asked payload there Memory h = tt
other_named asked payload there BindingKeyDiffers h = (there, h)
other_named asked payload there _ h = absurd h

-- ---- what is shown

pub all_shown : (binding : Option BindingAsked) (payload : declared.Tree) → IsShown binding (tree_of payload) (Some payload)
all_shown None payload = tt
all_shown (Some ask) payload = refl
