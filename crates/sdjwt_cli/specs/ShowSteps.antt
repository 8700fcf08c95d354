-- For private functions: what the steps of `show` answer.
use Rattle.std.specs.Prelude.{◌≡◌, ℕ, List, ◌++◌}
use Rattle.std.specs.List.{AllZip}
use Rattle.sd_outside.specs.Lists.{IsSuchAt, IsLeast}
use Rattle.claim_tree.specs.Tree.{Text}
use Rattle.refusals.specs.Faults.{placed}
use Rattle.refusals.specs.declared.condition.Condition.{Condition}
use Rattle.refusals.specs.declared.fault.Fault.{Fault}
use Rattle.claim_tree.specs.View.{tree_of}
use Rattle.disclosure.specs.Digest.{digest_of}
use Rattle.disclosure.specs.declared.digests.HashAlg.{HashAlg}
use Rattle.disclosure.specs.declared.disclosure.Disclosed.{Disclosed}
use Rattle.digest_sites.specs.Given.{Given}
use Rattle.verifier_core.specs.Verdict.{Gives, IsNoDisclosure}
use Rattle.sdjwt_cli.specs.Show.{shown_line, shown_lines}

-- what is shown of a disclosure's text and of what is read of it
abbrev pub disclosure_shown : HashAlg → Text → Disclosed → Given
disclosure_shown hash text d =
    record { digest = digest_of hash text; name = d.name; value = tree_of d.value }

-- a line, or all lines, put behind a text
pub record AddsLine (hash : HashAlg) (i : ℕ) (disclosure : Text) (old new : Text) : Type 0 where
  pub shown : Given
  pub is : Gives hash disclosure shown
  pub more : new ≡ old ++ shown_line i shown

pub record AddsLines (hash : HashAlg) (disclosures : List Text) (old new : Text) : Type 0 where
  pub shown : List Given
  pub are : AllZip (Gives hash) disclosures shown
  pub more : new ≡ old ++ shown_lines 0 shown

-- the fault is that of the first disclosure that is not read
pub record IsUnread (disclosures : List Text) (fault : Fault) : Type 0 where
  pub i : ℕ
  pub first : IsLeast (IsSuchAt IsNoDisclosure disclosures) i
  pub fault_is : fault ≡ placed Condition.DisclosureUnreadable i
