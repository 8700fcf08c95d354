-- The command `issue`: what it prints for an order file and a seed file, and
-- when it refuses the order.
use Rattle.std.specs.Prelude.{◌≡◌, ◌≢◌, ℕ, ◌<◌, ◌≤◌, List, length, take}
use Rattle.file_members.specs.declared.file_fault.FileFault.{FileFault}
use Rattle.sd_outside.specs.Limits.{count_max, issue_max, seed_len}
use Rattle.compact_form.specs.declared.parts.Parts.{Parts}
use Rattle.compact_form.specs.Compact.{compact, AreWords}
use Rattle.hmac_sign.specs.Algs.{alg_text}
use Rattle.hmac_sign.specs.Hmac.{AlgKey, IsGood}
use Rattle.issuer_core.specs.declared.errors.IssueError.{IssueError}
use Rattle.issuer_core.specs.declared.order_file.IssueFile.{IssueFile}
use Rattle.issuer_core.specs.Order.{Order}
use Rattle.issuer_core.specs.OrderFile.{AsksFor, IsOrderFile, IsOrderFileRefused}
use Rattle.issuer_core.specs.GoodOrder.{IsWritable}
use Rattle.refusals.specs.Lowest.{NoneApplies}
use Rattle.issuer_core.specs.OrderRefusals.{AppliesToOrder, IsLowestRefusal}
use Rattle.issuer_core.specs.RefusalLine.{issue_refusal_text}
use Rattle.issuer_core.specs.Seed.{maker_of}
use Rattle.issuer_core.specs.Written.{IsIssued, IsLaidOut}
use Rattle.issuer_core.specs.Issue.{AppliesToIssue, HasNoClash}
use Rattle.cli_parts.specs.Lines.{line, unreadable_line, short_seed}

-- what one file asks for with its order and its key, and the seed with which the other begins
pub record IsAsked (order_file seed_file : List ℕ) (order : Order) (key : AlgKey) (seed : List ℕ)
    : Type 0 where
  pub asks : AsksFor order_file order key
  pub enough : seed_len ≤ length seed_file
  pub seed_is : seed ≡ take seed_len seed_file

-- what an issuer with this key answers for an order and a seed: the parts are
-- issued, and none of the refusals applies
pub record IsIssuedBy (seed : List ℕ) (order : Order) (key : AlgKey) (parts : Parts) : Type 0 where
  pub issued : IsIssued (maker_of seed) order (alg_text key.alg) (IsGood key) parts
  pub laid : IsLaidOut (maker_of seed) order (alg_text key.alg) (IsGood key) parts
  pub passes : NoneApplies (AppliesToOrder order)
  pub differ : HasNoClash (maker_of seed) order
  pub writable : IsWritable order
  pub words : AreWords parts
  pub few : length parts.disclosures ≤ count_max
  pub short : length (compact parts) ≤ issue_max

-- the token is issued, and this is the line of its compact text
pub record Issues (order_file seed_file answer : List ℕ) : Type 0 where
  pub order : Order
  pub key : AlgKey
  pub seed : List ℕ
  pub asked : IsAsked order_file seed_file order key seed
  pub parts : Parts
  pub answered : IsIssuedBy seed order key parts
  pub line_is : answer ≡ line (compact parts)

-- the lowest refusal that applies to the order, with its line
pub record TellsRefusal (seed : List ℕ) (order : Order) (key : AlgKey) (text : List ℕ)
    : Type 0 where
  pub error : IssueError
  pub lowest : IsLowestRefusal
      (AppliesToIssue (maker_of seed) order (alg_text key.alg) (IsGood key)) error
  pub line_is : text ≡ line (issue_refusal_text error)

-- what is asked for is refused
pub record DoesNotIssue (order_file seed_file text : List ℕ) : Type 0 where
  pub order : Order
  pub key : AlgKey
  pub seed : List ℕ
  pub asked : IsAsked order_file seed_file order key seed
  pub refused : TellsRefusal seed order key text

-- a file is not of its form, with this line: the order is judged first, where
-- want of memory is no cause, and then the seed
pub data HasNoOrder (order_file seed_file text : List ℕ) : Type 0 where
  no_order : (fault : FileFault) → IsOrderFileRefused order_file fault → fault ≢ FileFault.Memory
      → text ≡ unreadable_line 1 fault → HasNoOrder order_file seed_file text
  no_seed : (said : IssueFile) → IsOrderFile order_file said → length seed_file < seed_len
      → text ≡ short_seed → HasNoOrder order_file seed_file text
