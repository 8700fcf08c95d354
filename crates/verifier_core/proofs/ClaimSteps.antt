-- What each condition on the claims says of the payload.
use Rattle.std.proofs.Common.{◌≡◌, ◌≢◌, ℕ, true, false, Bor, option_map, is_some, ◌<◌, List, Option, Some, None, codes, sym, ◌∙◌, subst, ◌+◌, ⊎_elim, arith, rules}
use Rattle.refusals.specs.declared.fault.Place.{Place}
use Rattle.jws_part.specs.Times.{IsTimeUnreadable, IsExpired}
use Rattle.claim_tree.specs.Tree.{Text, Tree, get}
use Rattle.claim_tree.specs.View.{tree_of}
use Rattle.claim_tree.specs.declared.tree.Tree as tree
use Rattle.sd_outside.specs.Lists.{StandsAt}
use Rattle.claim_tree.proofs.Counting.{before_or_at}
use Rattle.sd_outside.proofs.Lists.{At-same}
use Rattle.refusals.specs.declared.condition.Condition.{Condition}
use Rattle.refusals.specs.Condition.{number_of}
use Rattle.verifier_core.specs.Verdict.{Demands, ClaimFails, IsIssuerRefused}
use Rattle.refusals.specs.Passing.{Passes}
use Rattle.refusals.proofs.Lowest.{holds_too}

-- a condition on the claims has a number from 22 to 26
pub claim_numbers : (payload : Tree) (demands : Demands) (now : ℕ) (c : Condition) (place : Place) → ClaimFails payload demands now c place → (21 < number_of c) × (number_of c < 27)
claim_numbers payload demands now Condition.IssuerRefused place h = search rules
claim_numbers payload demands now _ place h = search rules

-- ---- one condition after another

module _ (payload : Tree) (demands : Demands) (now : ℕ) where
  pub before_issuer : Passes 22 (ClaimFails payload demands now)
  before_issuer c place h = let n = claim_numbers payload demands now c place h in omega (arith, n.0)

  pub before_missing : (IsIssuerRefused demands.iss (get payload (codes "iss")) → ⊥) → Passes 23 (ClaimFails payload demands now)
  before_missing holds = holds_too (ClaimFails payload demands now) Condition.IssuerRefused before_issuer (λ place h. holds h.1)

  pub before_times : Passes 23 (ClaimFails payload demands now) → ((i : ℕ) (name : Text) → StandsAt demands.require i name → get payload name ≢ None) → Passes 24 (ClaimFails payload demands now)
  before_times below holds = holds_too (ClaimFails payload demands now) Condition.ClaimMissing below (λ place h. holds h.0 h.2.0 h.2.1 h.2.2)

  pub before_expiry : Passes 24 (ClaimFails payload demands now) → (IsTimeUnreadable payload → ⊥) → Passes 25 (ClaimFails payload demands now)
  before_expiry below holds = holds_too (ClaimFails payload demands now) Condition.TimeUnreadable below (λ place h. holds h.1)

  pub before_start : Passes 25 (ClaimFails payload demands now) → (IsExpired payload demands.skew now → ⊥) → Passes 26 (ClaimFails payload demands now)
  before_start below holds = holds_too (ClaimFails payload demands now) Condition.Expired below (λ place h. holds h.1)

  -- ---- all of them up to one

  pub to_times : (IsIssuerRefused demands.iss (get payload (codes "iss")) → ⊥) → ((i : ℕ) (name : Text) → StandsAt demands.require i name → get payload name ≢ None) → Passes 24 (ClaimFails payload demands now)
  to_times issuer claims = before_times (before_missing issuer) claims

  pub to_expiry : (IsIssuerRefused demands.iss (get payload (codes "iss")) → ⊥) → ((i : ℕ) (name : Text) → StandsAt demands.require i name → get payload name ≢ None) → (IsTimeUnreadable payload → ⊥) → Passes 25 (ClaimFails payload demands now)
  to_expiry issuer claims times = before_expiry (to_times issuer claims) times

  pub to_start : (IsIssuerRefused demands.iss (get payload (codes "iss")) → ⊥) → ((i : ℕ) (name : Text) → StandsAt demands.require i name → get payload name ≢ None) → (IsTimeUnreadable payload → ⊥) → (IsExpired payload demands.skew now → ⊥)
      → Passes 26 (ClaimFails payload demands now)
  to_start issuer claims times expiry = before_start (to_expiry issuer claims times) expiry

-- the first so many names are names of claims
abbrev pub HasFirst : Tree → List Text → ℕ → Type 0
HasFirst payload names i = (j : ℕ) (name : Text) → j < i → StandsAt names j name → get payload name ≢ None

pub has_more : (payload : Tree) (names : List Text) (i : ℕ) (name : Text) → HasFirst payload names i → StandsAt names i name → get payload name ≢ None → HasFirst payload names (i + 1)
has_more payload names i name first at there j other less stands none = ⊎_elim (λ below. first j other below stands none) (λ same. there (subst (λ n. get payload n ≡ None) (At-same names i other name (subst (λ k. StandsAt names k other) same stands) at) none)) (before_or_at j i less)

-- where nothing is found, there is no claim
pub no_claim : (found : Option (Bor tree.Tree)) (claim : Option Tree) → option_map (λ t. tree_of t.now) found ≡ claim → is_some found ≡ false → claim ≡ None
no_claim None claim e none = sym e
no_claim (Some t) claim e none = cc none

pub some_claim : (found : Option (Bor tree.Tree)) (claim : Option Tree) → option_map (λ t. tree_of t.now) found ≡ claim → is_some found ≡ true → claim ≢ None
some_claim None claim e some none = cc some
some_claim (Some t) claim e some none = cc (e ∙ none)
