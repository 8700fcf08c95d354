-- A run that nothing stops is done, where whatever its words ask for has this one reply.
use Rattle.std.proofs.Common.{◌≡◌, ◌⊎◌, inl, inr, ℕ, List, [], ◌∷◌, Option, None, Some, take, refl, sym, ap₂, ◌∙◌, subst}
use Rattle.std.specs.Prelude.{IfSome, IsSomeAnd}
use Rattle.std.specs.List.{AllZip}
use Rattle.std.specs.Io.KnownBytes.{Appends}
use Rattle.sd_outside.specs.Causes.{Rose}
use Rattle.sd_outside.specs.declared.status.Status.{Status}
use Rattle.sd_outside.specs.declared.status.Status.TheVariants.{Done, Refused, Usage, Unread, Unwritten, Memory, Unreadable}
use Rattle.cli_parts.specs.Outside.{Outside}
use Rattle.cli_parts.specs.Replies.{Reply, gives, refuses, unreadable}
use Rattle.cli_parts.specs.Runs.{RunEnds}

-- ---- what the cabinet tells is what was fetched

-- of a file of which so many bytes are read
pub told_as_fetched : (o : Option (List ℕ)) (most : ℕ) (told fetched : List ℕ) → IsSomeAnd o (λ content. told ≡ take most content) → IfSome o (λ content. fetched ≡ take most content) → told ≡ fetched
told_as_fetched None most told fetched t f = absurd t
told_as_fetched (Some content) most told fetched t f = t ∙ sym f

-- of all files, by what is so of each
pub all_as_fetched : {Name : Type 0} (IsTold WasFetched : Name → List ℕ → Type 0) → ((name : Name) (told fetched : List ℕ) → IsTold name told → WasFetched name fetched → told ≡ fetched)
    → (names : List Name) (told fetched : List (List ℕ)) → AllZip IsTold names told → AllZip WasFetched names fetched → told ≡ fetched
all_as_fetched IsTold WasFetched same [] [] [] t f = refl
all_as_fetched IsTold WasFetched same [] [] (g ∷ fetched) t f = absurd f
all_as_fetched IsTold WasFetched same [] (x ∷ told) fetched t f = absurd t
all_as_fetched IsTold WasFetched same (n ∷ names) [] fetched t f = absurd t
all_as_fetched IsTold WasFetched same (n ∷ names) (x ∷ told) [] t f = absurd f
all_as_fetched IsTold WasFetched same (n ∷ names) (x ∷ told) (g ∷ fetched) t f =
    ap₂ (λ (y : List ℕ) (ys : List (List ℕ)). y ∷ ys) (same n x g t.0 f.0) (all_as_fetched IsTold WasFetched same names told fetched t.1 f.1)

-- ---- the run

given_refused : (a t : List ℕ) → gives a ≡ refuses t → ⊥
given_refused a t e = cc

given_unreadable : (a t : List ℕ) → gives a ≡ unreadable t → ⊥
given_unreadable a t e = cc

given_given : (a b : List ℕ) → gives a ≡ gives b → b ≡ a
given_given a b e = cc

module _ {Asked : Type 0} (Named : Asked → Type 0) (Is : Asked → Reply → Type 0) (Misses : Asked → ℕ → Option (List ℕ) → Type 0) (before after : Outside) (asked : Asked) (named : Named asked)
    (answer : List ℕ) (only : (other : Asked) (reply : Reply) → Named other → Is other reply → gives answer ≡ reply)
    (read : Rose before.faults after.faults → ⊥) (written : Rose before.out.faults after.out.faults → ⊥) where
  pub run_completes : (status : Status) → RunEnds Named Is Misses before after status → ((status ≡ Done) × Appends before.out.written after.out.written answer) ⊎ (status ≡ Memory)
  run_completes Done e =
      let is = given_given answer e.answer (only e.asked (gives e.answer) e.named e.answered) in
      inl (refl, subst (λ (a : List ℕ). Appends before.out.written after.out.written a) is e.out)
  run_completes Refused e = absurd (given_refused answer e.text (only e.asked (refuses e.text) e.named e.answered))
  run_completes Usage e = absurd (e.none asked named)
  run_completes Unread e = absurd (read e.rose)
  run_completes Unwritten e = absurd (written e.rose)
  run_completes Memory e = inr refl
  run_completes Unreadable e = absurd (given_unreadable answer e.text (only e.asked (unreadable e.text) e.named e.answered))
