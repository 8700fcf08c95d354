-- The disclosure whose number stands at the cursor.
use Rattle.std.proofs.Common.{◌≡◌, ℕ, ◌^◌, ◌<◌, ◌≤◌, List, [], ◌∷◌, length, get_or, Option, sym, ap, ap₂, ◌∙◌, subst, arith}
use Rattle.std.specs.Prelude.{slice_index}
use Rattle.std.proofs.lemmas.Grind.{get_or_default_zero}
use Rattle.claim_tree.specs.Tree.{Text, Tree}
use Rattle.sd_outside.specs.Lists.{StandsAt}
use Rattle.sd_outside.proofs.Lists.{At-below, At-same, At-get}
use Rattle.digest_sites.specs.Given.{Given}
use Rattle.digest_sites.specs.GivenView.{emptied}
use Rattle.rebuild_core.specs.Opening.{nothing_shown, shown, open_tree}
use Rattle.rebuild_core.specs.Cursor.{tree_digests}
use Rattle.rebuild_core.specs.Whole.{settled, OpensWhole, OpensFrom, TakesOnly}
use Rattle.rebuild_core.proofs.Goes.{IsTold, told_here}
use Rattle.rebuild_core.proofs.Taking.{takes_none, is_left, opens_value, takes_value}
use Rattle.rebuild_core.proofs.ListOpening.{few_numbers, has_end, value_at, shows}

module _ (g left : List Given) (ks ends : List ℕ) (at : ℕ) (d : Text) (o : OpensFrom g left ks ends at (d ∷ []) (Unit {0})) where
  told_next : IsTold g ks at d
  told_next = told_here g d [] at ks o.told

  next_within : at < length ks
  next_within = told_next.within

  module _ (j : ℕ) (read : j ≡ get_or ks at j) where
    -- ---- no disclosure has it

    pub none_shown : length left ≤ j → nothing_shown ≡ settled g d
    none_shown l =
        let e : j ≡ slice_index ks at = read ∙ get_or_default_zero ks at j next_within in
        sym (told_next.tells.unknown (omega (arith, l, e, o.as_many)))

    pub none_taken : length left ≤ j → (new : List Given) → new ≡ emptied left j → TakesOnly g left new (d ∷ [])
    none_taken l new e = subst (λ z. TakesOnly g left z (d ∷ [])) (sym e) (takes_none g left j (d ∷ []) l)

    -- ---- one has it

    module _ (name : Option Text) (value : Tree) (taken : (x : Given) × StandsAt left j x × (name ≡ x.name) × (value ≡ x.value)) where
      abbrev Here : Given → Type 0
      Here x = StandsAt g j x × (settled g d ≡ shown j x.name (open_tree (settled g) x.value)) × (name ≡ x.name) × (value ≡ x.value)

      here : (x : Given) × Here x
      here =
          let w = At-get g j (omega (arith, At-below left j taken.0 taken.1, o.as_many)) in
          let is = shows g ks ends o.ready j w.0 w.1 at d next_within read told_next.tells in
          let e : taken.0 ≡ w.0 = At-same left j taken.0 w.0 taken.1 (is_left g left ks ends at d o j w.0 w.1 is) in
          (w.0, (w.1, is, taken.2 ∙ ap (λ (x : Given). x.name) e, taken.3 ∙ ap (λ (x : Given). x.value) e))

      pub few_here : j < 2 ^ 32
      few_here = few_numbers g ks ends o.ready j here.0 here.1.0

      pub end_here : j < length ends
      end_here = has_end g ks ends o.ready j here.0 here.1.0

      pub shown_here : settled g d ≡ shown j name (open_tree (settled g) value)
      shown_here = here.1.1 ∙ ap₂ (λ (n : Option Text) (v : Tree). shown j n (open_tree (settled g) v)) (sym here.1.2) (sym here.1.3)

      pub opens_here : (start : ℕ) → start ≡ get_or ends j start → (now : List Given) → now ≡ emptied left j → OpensFrom g now ks ends start (tree_digests value) (OpensWhole (settled g) value)
      opens_here start at_end now e =
          let w = value_at g ks ends o.ready j here.0 here.1.0 start at_end in
          subst (λ z. OpensFrom g z ks ends start (tree_digests value) (OpensWhole (settled g) value)) (sym e)
          (subst (λ v. OpensFrom g (emptied left j) ks ends start (tree_digests v) (OpensWhole (settled g) v)) (sym here.1.3)
          (opens_value g left ks ends at d o j here.0 here.1.0 here.1.1 start w.0 w.1))

      pub taken_here : (now new : List Given) → now ≡ emptied left j → TakesOnly g now new (tree_digests value) → TakesOnly g left new (d ∷ [])
      taken_here now new e t =
          takes_value g left ks ends at d o j here.0 here.1.0 here.1.1 new
          (subst (λ v. TakesOnly g (emptied left j) new (tree_digests v)) here.1.3 (subst (λ z. TakesOnly g z new (tree_digests value)) e t))
