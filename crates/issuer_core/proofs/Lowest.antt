-- The lowest refusal that applies, sought step by step.
use Rattle.std.proofs.Common.{◌≡◌, ◌≤◌, ℕ, suc, refl, subst, sym, arith, ◌∙◌}
use Rattle.std.proofs.Math.Arith.{lt_of_le-ne}
use Rattle.sd_outside.specs.Lists.{IsLeast, AtNone}
use Rattle.claim_tree.proofs.Counting.{not_below}
use Rattle.issuer_core.specs.declared.errors.IssueError.{IssueError}
use Rattle.issuer_core.specs.declared.errors.IssueError.TheVariants.{RootMarked, NoSuchPlace, ProtectedClaim, DecoyPlace}
use Rattle.issuer_core.specs.Order.{Order}
use Rattle.issuer_core.specs.OrderRefusals.{AppliesToOrder, issue_number, refusal_place, IsLowestRefusal}
use Rattle.issuer_core.specs.Judging.{PassesBelow}

-- ---- none below a number

-- no refusal with this number applies
abbrev pub NoneWith : ℕ → Order → Type 0
NoneWith number o = (error : IssueError) → AppliesToOrder o error → issue_number error ≡ number → ⊥

pub one_more : (o : Order) (number : ℕ) → PassesBelow number o → NoneWith number o → PassesBelow (suc number) o
one_more o number below none error h = lt_of_le-ne (below error h) (λ e. none error h (sym e))

-- ---- the refusals with a place

pub data Placed : Type 0 where
  root : Placed
  nowhere : Placed
  protected : Placed
  misplaced : Placed

abbrev pub refused_at : Placed → ℕ → IssueError
refused_at root k = RootMarked k
refused_at nowhere k = NoSuchPlace k
refused_at protected k = ProtectedClaim k
refused_at misplaced k = DecoyPlace k

-- its number tells which of them a refusal is
which : (kind : Placed) (error : IssueError) → issue_number error ≡ issue_number (refused_at kind 0) → error ≡ refused_at kind (refusal_place error)
which root (RootMarked k) same = refl
which nowhere (NoSuchPlace k) same = refl
which protected (ProtectedClaim k) same = refl
which misplaced (DecoyPlace k) same = refl
which kind error same = absurd (omega (arith, same))

number_at : (kind : Placed) (k : ℕ) → (issue_number (refused_at kind k) ≡ issue_number (refused_at kind 0)) × (refusal_place (refused_at kind k) ≡ k)
number_at root k = (refl, refl)
number_at nowhere k = (refl, refl)
number_at protected k = (refl, refl)
number_at misplaced k = (refl, refl)

-- one of them that applies to no place applies to none
pub none_at : (o : Order) (kind : Placed) → AtNone (λ k. AppliesToOrder o (refused_at kind k)) → NoneWith (issue_number (refused_at kind 0)) o
none_at o kind none error h same = none (refusal_place error) (subst (AppliesToOrder o) (which kind error same) h)

-- one of them is the lowest at the least place to which it applies
pub lowest_at : (o : Order) (kind : Placed) (k : ℕ) → PassesBelow (issue_number (refused_at kind k)) o → IsLeast (λ j. AppliesToOrder o (refused_at kind j)) k
    → IsLowestRefusal (AppliesToOrder o) (refused_at kind k)
lowest_at o kind k below least =
    let at = number_at kind k in
    record {
      applies = least.fails;
      lowest = below;
      first = λ error h same.
          let applies = subst (AppliesToOrder o) (which kind error (same ∙ at.0)) h in
          subst (λ j. j ≤ refusal_place error) (sym at.1) (not_below k (refusal_place error) (λ less. least.first (refusal_place error) less applies));
    }
