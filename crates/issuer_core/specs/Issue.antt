-- Why an order is not issued.
use Rattle.std.specs.Prelude.{ℕ, ◌+◌, ◌<◌, List, length}
use Rattle.claim_tree.specs.Tree.{Text, Tree}
use Rattle.sd_outside.specs.Limits.{issue_max}
use Rattle.compact_form.specs.declared.parts.Parts.{Parts}
use Rattle.compact_form.specs.Compact.{compact}
use Rattle.hmac_sign.specs.Signatures.{Meaning}
use Rattle.digest_sites.specs.Given.{Given}
use Rattle.issuer_core.specs.declared.errors.IssueError.{IssueError}
use Rattle.issuer_core.specs.declared.errors.IssueError.TheVariants.{DigestClash, TooLong}
use Rattle.issuer_core.specs.Order.{Order}
use Rattle.issuer_core.specs.Decoys.{decoys_of}
use Rattle.issuer_core.specs.Digests.{Maker, hidden_of, digests_from}
use Rattle.issuer_core.specs.Laid.{IsLaid}
use Rattle.issuer_core.specs.Clash.{IsFirstClash}
use Rattle.issuer_core.specs.OrderRefusals.{AppliesToOrder}
use Rattle.issuer_core.specs.Written.{IsLaidOut}

-- the digests of the disclosures, and then of the decoys
abbrev pub laid_digests : Order → (ℕ → Text) → List Text
laid_digests o dg = digests_from dg 0 (hidden_of o + length (decoys_of o))

-- two digests of what is laid for the order are equal, first at these places
pub record ClashesAt (maker : Maker) (o : Order) (i j : ℕ) : Type 0 where
  pub payload : Tree
  pub given : List Given
  pub digests : ℕ → Text
  pub laid : IsLaid maker o payload given digests
  pub clash : IsFirstClash (laid_digests o digests) i j

abbrev pub HasNoClash : Maker → Order → Type 0
HasNoClash maker o = (i j : ℕ) → ClashesAt maker o i j → ⊥

-- what is laid for the order is too long with some good signature
pub record IsIssueTooLong (maker : Maker) (o : Order) (alg : Text) (good : Meaning) : Type 0 where
  pub parts : Parts
  pub laid : IsLaidOut maker o alg good parts
  pub long : issue_max < length (compact parts)

-- what each refusal says, where none with a lower number applies
abbrev pub AppliesToIssue : Maker → Order → Text → Meaning → IssueError → Type 0
AppliesToIssue maker o alg good (DigestClash i j) = ClashesAt maker o i j
AppliesToIssue maker o alg good TooLong = IsIssueTooLong maker o alg good
AppliesToIssue maker o alg good error = AppliesToOrder o error
