-- What the steps of `issue` say of its files.
use Rattle.std.proofs.Common.{◌≡◌, ◌≢◌, ℕ, List, Result, Err, IfErr, refl, subst, arith}
use Rattle.std.specs.Array.{IsFirstChunk}
use Rattle.sd_outside.specs.Causes.{Rose}
use Rattle.file_members.specs.declared.file_fault.FileFault.{FileFault}
use Rattle.cli_parts.specs.Stops.{OnUnreadable}
use Rattle.cli_parts.specs.Telling.{TellsFileFault}
use Rattle.cli_parts.specs.declared.stop.Stop.{Stop}
use Rattle.cli_parts.specs.declared.stop.Stop.TheVariants as stop
use Rattle.claim_tree.specs.Tree.{Text}
use Rattle.hmac_sign.specs.Signatures.{Meaning}
use Rattle.issuer_core.specs.declared.errors.IssueError.{IssueError}
use Rattle.issuer_core.specs.declared.errors.IssueError.TheVariants.{Memory, SignFailed}
use Rattle.issuer_core.specs.declared.order_file.IssueFile.{IssueFile}
use Rattle.issuer_core.specs.Order.{Order, order_of}
use Rattle.issuer_core.specs.OrderFile.{IsOrderFile, IsOrderFileRefused}
use Rattle.issuer_core.specs.Digests.{Maker}
use Rattle.issuer_core.specs.OrderRefusals.{IsLowestRefusal}
use Rattle.issuer_core.specs.Issue.{AppliesToIssue}
use Rattle.issuer_core.specs.IssueCalls.{IsNotIssued}
use Rattle.sd_outside.specs.Limits.{seed_len}
use Rattle.sdjwt_cli.specs.Issuing.{IsAsked, HasNoOrder, no_order}

pub is_asked : (order_file seed_file seed : List ℕ) (said : IssueFile) → IsOrderFile order_file said → IsFirstChunk seed_file seed seed_len → IsAsked order_file seed_file (order_of said.order) said.key seed
is_asked order_file seed_file seed said is_order chunk = record { asks = record { said = said; is_order = is_order; order_is = refl; key_is = refl }; enough = chunk.enough; seed_is = chunk.same }

-- what tells that the file is no order tells that the two files ask for nothing
pub has_no_order : (order_file seed_file : List ℕ) (read : Result IssueFile FileFault) → IfErr read (IsOrderFileRefused order_file)
    → (told : Stop) → OnUnreadable told (TellsFileFault (λ fault. read ≡ Err fault)) → OnUnreadable told (HasNoOrder order_file seed_file)
has_no_order order_file seed_file read refused stop.Memory told = tt
has_no_order order_file seed_file read refused (stop.Unread word) told = tt
has_no_order order_file seed_file read refused (stop.Unreadable text) told =
    no_order told.fault (subst (λ (r : Result IssueFile FileFault). IfErr r (IsOrderFileRefused order_file)) told.refused refused) told.cause told.line_is
has_no_order order_file seed_file read refused (stop.Refused text) told = tt

-- a count that is always 0 does not rise
pub never : Rose 0 0 → ⊥
never h = omega (arith, h)

-- beside want of memory and a signer that fails an error is a refusal
module _ (maker : Maker) (o : Order) (alg : Text) (good : Meaning) where
  pub lowest : (error : IssueError) → error ≢ Memory → error ≢ SignFailed → IsNotIssued maker o alg good error → IsLowestRefusal (AppliesToIssue maker o alg good) error
  lowest Memory memory failed h = absurd (memory refl)
  lowest SignFailed memory failed h = absurd (failed refl)
  lowest error memory failed h = h
