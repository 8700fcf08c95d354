-- The lowest condition that fails, sought step by step.
use Rattle.std.proofs.Common.{◌≡◌, ℕ, suc, ◌<◌, ◌≤◌, ◌⊎◌, inl, inr, ⊎_elim, sym, ap, subst, ◌∙◌, arith}
use Rattle.std.proofs.Math.Arith.{lt_of_le-ne}
use Rattle.refusals.specs.declared.fault.Fault.{Fault}
use Rattle.refusals.specs.declared.fault.Place.{Place}
use Rattle.refusals.specs.declared.fault.Place.TheVariants.{Nowhere}
use Rattle.refusals.specs.declared.condition.Condition.{Condition}
use Rattle.refusals.specs.Condition.{number_of}
use Rattle.refusals.specs.Lowest.{IsNoLater, IsLowest, NoneFails}
use Rattle.refusals.specs.Faults.{unplaced, failed_of}
use Rattle.refusals.specs.Passing.{Passes}
use Rattle.refusals.specs.Numbered.{one_condition}

-- the condition fails at no place
abbrev pub Holds : (Condition → Place → Type 0) → Condition → Type 0
Holds FailsSo c = (place : Place) → FailsSo c place → ⊥

pub below_or_at : (number other : ℕ) → number ≤ other → (number < other) ⊎ (number ≡ other)
below_or_at number other h = grind arith

-- the condition holds as well
pub holds_too : (FailsSo : Condition → Place → Type 0) (held : Condition) → Passes (number_of held) FailsSo → Holds FailsSo held → Passes (suc (number_of held)) FailsSo
holds_too FailsSo held below holds c place fails =
    lt_of_le-ne (below c place fails) (λ same. holds place (subst (λ d. FailsSo d place) (one_condition c held (sym same)) fails))

-- the condition of the fault is the lowest that fails, at its least place
pub lowest_at : (FailsSo : Condition → Place → Type 0) (fault : Fault) → Passes fault.number FailsSo → FailsSo (failed_of fault) fault.place
    → ((place : Place) → FailsSo (failed_of fault) place → IsNoLater fault.place place) → IsLowest FailsSo fault
lowest_at FailsSo fault below fails least = record {
  fails = fails;
  lowest = λ other place h. ⊎_elim (λ less. inl less) (λ same.
      let is : other ≡ failed_of fault = one_condition other (failed_of fault) (sym same ∙ fault.of_condition.1) in
      inr (is, least place (subst (λ c. FailsSo c place) is h)))
      (below_or_at fault.number (number_of other) (below other place h));
}

-- where all that may fail are below, none fails
pub none_fails : (FailsSo : Condition → Place → Type 0) (number : ℕ) → Passes number FailsSo → ((c : Condition) (place : Place) → FailsSo c place → number_of c < number) → NoneFails FailsSo
none_fails FailsSo number below all c place h = omega (arith, below c place h, all c place h)

-- a condition without a place
pub refuse_unplaced : (FailsSo : Condition → Place → Type 0) (d : Condition) (fault : Fault) → fault ≡ unplaced d → Passes (number_of d) FailsSo → FailsSo d Nowhere → IsLowest FailsSo fault
refuse_unplaced FailsSo d fault is passes fails =
    subst (IsLowest FailsSo) (sym is) (lowest_at FailsSo (unplaced d) passes fails (λ place h. tt))

-- two lowest conditions are one, and neither place is later
pub one_failed : (FailsSo : Condition → Place → Type 0) (f g : Fault) → IsLowest FailsSo f → IsLowest FailsSo g
    → (failed_of g ≡ failed_of f) × (IsNoLater f.place g.place × IsNoLater g.place f.place)
one_failed FailsSo f g l m = go (l.lowest (failed_of g) g.place m.fails) (m.lowest (failed_of f) f.place l.fails)
  where
    go : (f.number < number_of (failed_of g)) ⊎ ((failed_of g ≡ failed_of f) × IsNoLater f.place g.place)
        → (g.number < number_of (failed_of f)) ⊎ ((failed_of f ≡ failed_of g) × IsNoLater g.place f.place)
        → (failed_of g ≡ failed_of f) × (IsNoLater f.place g.place × IsNoLater g.place f.place)
    go (inl less) (inl more) = absurd (omega (arith, less, more, f.of_condition.1, g.of_condition.1))
    go (inl less) (inr (same, _)) = let e : number_of (failed_of f) ≡ number_of (failed_of g) = ap number_of same in absurd (omega (arith, less, e, f.of_condition.1))
    go (inr (same, _)) (inl more) = let e : number_of (failed_of g) ≡ number_of (failed_of f) = ap number_of same in absurd (omega (arith, more, e, g.of_condition.1))
    go (inr (same, there)) (inr (_, back)) = (same, (there, back))

-- so they have one number
pub one_number : (FailsSo : Condition → Place → Type 0) (f g : Fault) → IsLowest FailsSo f → IsLowest FailsSo g → f.number ≡ g.number
one_number FailsSo f g l m = f.of_condition.1 ∙ (ap number_of (sym (one_failed FailsSo f g l m).0) ∙ sym g.of_condition.1)
