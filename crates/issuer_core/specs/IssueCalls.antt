-- Not needed to believe the program's promises: why no token is issued, and
-- when the signer is asked.
use Rattle.std.specs.Prelude.{◌≡◌, ℕ, ◌<◌}
use Rattle.claim_tree.specs.Tree.{Text}
use Rattle.hmac_sign.specs.Signatures.{Meaning}
use Rattle.hmac_sign.specs.declared.sign.SignError.{SignError}
use Rattle.issuer_core.specs.declared.errors.IssueError.{IssueError}
use Rattle.issuer_core.specs.declared.errors.IssueError.TheVariants.{Memory, SignFailed}
use Rattle.issuer_core.specs.Order.{Order}
use Rattle.issuer_core.specs.Digests.{Maker}
use Rattle.refusals.specs.Lowest.{NoneApplies}
use Rattle.issuer_core.specs.OrderRefusals.{AppliesToOrder, IsLowestRefusal}
use Rattle.issuer_core.specs.Issue.{AppliesToIssue, HasNoClash}

-- the first n differ from each other
abbrev pub AllDiffer : (ℕ → Text) → ℕ → Type 0
AllDiffer dg n = (i j : ℕ) → i < j → j < n → dg i ≡ dg j → ⊥

-- nothing is refused before the token is signed
pub record IsToBeSigned (maker : Maker) (o : Order) : Type 0 where
  pub passes : NoneApplies (AppliesToOrder o)
  pub differ : HasNoClash maker o

-- why an order is not issued: by the lowest refusal that applies, or a signer failed where none of
-- 51 to 60 does; want of memory says nothing of it
abbrev pub IsNotIssued : Maker → Order → Text → Meaning → IssueError → Type 0
IsNotIssued maker o alg good Memory = Unit {0}
IsNotIssued maker o alg good SignFailed = IsToBeSigned maker o
IsNotIssued maker o alg good error = IsLowestRefusal (AppliesToIssue maker o alg good) error

-- for conversions: the answer where nothing is signed
abbrev pub issue_unsigned : SignError → IssueError
issue_unsigned SignError.Memory = Memory
issue_unsigned SignError.Failed = SignFailed
