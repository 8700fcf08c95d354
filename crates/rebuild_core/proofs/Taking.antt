-- The list of disclosures while its values are taken.
use Rattle.std.proofs.Common.{◌≡◌, ℕ, zero, suc, ◌+◌, ◌<◌, ◌≤◌, List, [], ◌∷◌, ◌++◌, length, drop, refl, ap, ◌∙◌, arith}
use Rattle.claim_tree.specs.Tree.{Text}
use Rattle.sd_outside.specs.Lists.{StandsAt}
use Rattle.sd_outside.proofs.Lists.{At-below}
use Rattle.digest_sites.specs.Given.{Given}
use Rattle.digest_sites.specs.GivenView.{emptied}
use Rattle.marked_tree.specs.Ways.{only}
use Rattle.marked_tree.proofs.MarkFacts.{one_if_same}
use Rattle.rebuild_core.specs.Opening.{shown, open_tree}
use Rattle.rebuild_core.specs.Cursor.{tree_digests, TellFirst}
use Rattle.rebuild_core.specs.Whole.{settled, shown_weight, uses, OpensWhole, IsOpenable, OpensFrom, TakesOnly}

uses_join : (g : List Given) (k : ℕ) (ds es : List Text) → uses g k (ds ++ es) ≡ uses g k ds + uses g k es
uses_join g k [] es = omega arith
uses_join g k (d ∷ ds) es = omega (arith, uses_join g k ds es)

-- some are taken, and those of the rest are still there
pub record Taking (g old now : List Given) (all rest : List Text) : Type 0 where
  pub once : (k : ℕ) → uses g k rest ≤ 1
  pub there : (k : ℕ) (x : Given) → StandsAt g k x → 0 < uses g k rest → StandsAt now k x
  pub spared : (k : ℕ) (x : Given) → uses g k all ≡ 0 → StandsAt old k x → StandsAt now k x
  pub part : (k : ℕ) → uses g k rest ≤ uses g k all
  pub as_many : length old ≡ length g
  pub same_many : length now ≡ length old

pub taking_start : (g old : List Given) (ks ends : List ℕ) (at : ℕ) (ds : List Text) (Whole : Type 0) → OpensFrom g old ks ends at ds Whole → Taking g old old ds ds
taking_start g old ks ends at ds Whole o = record {
  once = o.once;
  there = o.there;
  spared = λ k x z a. a;
  part = λ k. omega arith;
  as_many = o.as_many;
  same_many = refl;
}

pub taking_past : (g old now new : List Given) (all ds es : List Text) → Taking g old now all (ds ++ es) → TakesOnly g now new ds → Taking g old new all es
taking_past g old now new all ds es s o = record {
  once = λ k. omega (arith, s.once k, uses_join g k ds es);
  there = λ k x a l. o.spared k x (omega (arith, s.once k, uses_join g k ds es, l)) (s.there k x a (omega (arith, uses_join g k ds es, l)));
  spared = λ k x z a. o.spared k x (omega (arith, s.part k, uses_join g k ds es, z)) (s.spared k x z a);
  part = λ k. omega (arith, s.part k, uses_join g k ds es);
  as_many = s.as_many;
  same_many = o.as_many ∙ s.same_many;
}

pub taking_end : (g old now : List Given) (all rest : List Text) → Taking g old now all rest → TakesOnly g old now all
taking_end g old now all rest s = record { spared = s.spared; as_many = s.same_many }

pub taking_last : (g old now new : List Given) (all rest : List Text) → Taking g old now all rest → TakesOnly g now new rest → TakesOnly g old new all
taking_last g old now new all rest s o = record {
  spared = λ k x z a. o.spared k x (omega (arith, s.part k, z)) (s.spared k x z a);
  as_many = o.as_many ∙ s.same_many;
}

-- what opening the first of the rest asks
pub opens_part : (g old now : List Given) (ks ends : List ℕ) (at : ℕ) (all ds es : List Text) (Whole : Type 0) → Taking g old now all (ds ++ es) → IsOpenable g ks ends
    → TellFirst g (drop at ks) ds → Whole → OpensFrom g now ks ends at ds Whole
opens_part g old now ks ends at all ds es Whole s ready told whole = record {
  ready = ready;
  told = told;
  whole = whole;
  once = λ k. omega (arith, s.once k, uses_join g k ds es);
  there = λ k x a l. s.there k x a (omega (arith, uses_join g k ds es, l));
  as_many = s.same_many ∙ s.as_many;
}

-- what opening all of the rest asks
pub opens_rest : (g old now : List Given) (ks ends : List ℕ) (at : ℕ) (all rest : List Text) (Whole : Type 0) → Taking g old now all rest → IsOpenable g ks ends
    → TellFirst g (drop at ks) rest → Whole → OpensFrom g now ks ends at rest Whole
opens_rest g old now ks ends at all rest Whole s ready told whole =
    record { ready = ready; told = told; whole = whole; once = s.once; there = s.there; as_many = s.same_many ∙ s.as_many }

-- ---- one is taken

length_emptied : (g : List Given) (i : ℕ) → length (emptied g i) ≡ length g
length_emptied [] i = refl
length_emptied (x ∷ g) zero = refl
length_emptied (x ∷ g) (suc i) = ap suc (length_emptied g i)

other_stays : (g : List Given) (i k : ℕ) (x : Given) → (k ≡ i → ⊥) → StandsAt g k x → StandsAt (emptied g i) k x
other_stays [] i k x differ h = elim h [ ]
other_stays (y ∷ g) zero zero x differ h = absurd (differ refl)
other_stays (y ∷ g) zero (suc k) x differ h = h
other_stays (y ∷ g) (suc i) zero x differ h = h
other_stays (y ∷ g) (suc i) (suc k) x differ h = other_stays g i k x (λ e. differ (ap suc e)) h

pub takes_none : (g left : List Given) (j : ℕ) (ds : List Text) → length left ≤ j → TakesOnly g left (emptied left j) ds
takes_none g left j ds l = record {
  spared = λ k x z a. other_stays left j k x (λ e. omega (arith, l, At-below left k x a, e)) a;
  as_many = length_emptied left j;
}

module _ (g left : List Given) (ks ends : List ℕ) (at : ℕ) (d : Text) (o : OpensFrom g left ks ends at (d ∷ []) (Unit {0}))
    (j : ℕ) (x : Given) (there : StandsAt g j x) (is : settled g d ≡ shown j x.name (open_tree (settled g) x.value)) where
  uses_value : (k : ℕ) → uses g k (d ∷ []) ≡ only k j + uses g k (tree_digests x.value)
  uses_value k = let e : uses g k (d ∷ []) ≡ shown_weight (only k) (settled g d) = omega arith in e ∙ ap (shown_weight (only k)) is ∙ ap (λ n. only k j + n) (o.ready.shows j k x there)

  one_self : only j j ≡ 1
  one_self = one_if_same j j refl

  pub is_left : StandsAt left j x
  is_left = o.there j x there (omega (arith, uses_value j, one_self))

  differs : (k : ℕ) → only k j ≡ 0 → k ≡ j → ⊥
  differs k z e = omega (arith, z, one_if_same k j e)

  pub opens_value : (start : ℕ) → TellFirst g (drop start ks) (tree_digests x.value) → OpensWhole (settled g) x.value
      → OpensFrom g (emptied left j) ks ends start (tree_digests x.value) (OpensWhole (settled g) x.value)
  opens_value start told whole = record {
    ready = o.ready;
    told = told;
    whole = whole;
    once = λ k. omega (arith, o.once k, uses_value k);
    there = λ k y a l. other_stays left j k y
        (λ e. omega (arith, o.once k, uses_value k, l, one_if_same k j e)) (o.there k y a (omega (arith, uses_value k, l)));
    as_many = length_emptied left j ∙ o.as_many;
  }

  pub takes_value : (new : List Given) → TakesOnly g (emptied left j) new (tree_digests x.value) → TakesOnly g left new (d ∷ [])
  takes_value new t = record {
    spared = λ k y z a. t.spared k y (omega (arith, uses_value k, z)) (other_stays left j k y (differs k (omega (arith, uses_value k, z))) a);
    as_many = t.as_many ∙ length_emptied left j;
  }
