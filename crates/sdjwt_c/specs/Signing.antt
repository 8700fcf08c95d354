-- Not needed to believe the program's promises: what is told of a token that someone else signs.
use Rattle.std.specs.Prelude.{◌≡◌, ◌≢◌, ◌<◌, ◌≤◌, ◌⊎◌, ◌++◌, ℕ, List, [], codes, length, take}
use Rattle.std.specs.Str.{IsUtf8}
use Rattle.file_members.specs.declared.file_fault.FileFault.{FileFault}
use Rattle.hmac_sign.specs.AlgNames.{IsNoAlgName}
use Rattle.cli_parts.specs.Lines.{line, unreadable_line, short_seed}
use Rattle.cli_parts.specs.Replies.{Reply, Replies}
use Rattle.compact_form.specs.Compact.{compact}
use Rattle.compact_form.specs.declared.parts.Parts.{Parts}
use Rattle.issuer_core.specs.declared.errors.IssueError.{IssueError}
use Rattle.issuer_core.specs.declared.errors.IssueError.TheVariants.{Memory}
use Rattle.issuer_core.specs.declared.order.Order as code
use Rattle.issuer_core.specs.declared.unsigned_token.UnsignedToken.{UnsignedToken}
use Rattle.issuer_core.specs.Order.{Order, order_of}
use Rattle.issuer_core.specs.RefusalLine.{issue_refusal_text}
use Rattle.issuer_core.specs.Seed.{maker_of}
use Rattle.issuer_core.specs.ToSign.{IsToSign, IsNotToSign, IsTokenWith, IsUnmadeWith}
use Rattle.issuer_core.specs.UnsignedOrder.{IsUnsignedOrderFile, IsUnsignedOrderRefused}
use Rattle.sd_outside.specs.Limits.{seed_len}

-- the bytes are no name of an algorithm: no text, or one that nobody signs by
abbrev pub AreNoAlgName : List ℕ → Type 0
AreNoAlgName bytes = (IsUtf8 bytes → ⊥) ⊎ IsNoAlgName bytes

-- what one file asks for, and the seed with which the other begins
pub record IsAskedApart (order_file seed_file : List ℕ) (order : Order) (seed : List ℕ)
    : Type 0 where
  pub said : code.Order
  pub is_order : IsUnsignedOrderFile order_file said
  pub order_is : order ≡ order_of said
  pub enough : seed_len ≤ length seed_file
  pub seed_is : seed ≡ take seed_len seed_file

-- this is to be signed for them
pub record IsUnsignedFor (order_file alg seed_file : List ℕ) (token : UnsignedToken) : Type 0 where
  pub order : Order
  pub seed : List ℕ
  pub asked : IsAskedApart order_file seed_file order seed
  pub to_sign : IsToSign (maker_of seed) order alg token

-- ---- why nothing is to be signed

-- the lowest refusal that applies to the order, with its line
pub record TellsNotToSign (seed : List ℕ) (order : Order) (text : List ℕ) : Type 0 where
  pub error : IssueError
  pub other : error ≢ Memory
  pub refused : IsNotToSign (maker_of seed) order error
  pub line_is : text ≡ line (issue_refusal_text error)

pub record RefusesToSign (order_file seed_file text : List ℕ) : Type 0 where
  pub order : Order
  pub seed : List ℕ
  pub asked : IsAskedApart order_file seed_file order seed
  pub tells : TellsNotToSign seed order text

-- a file is not of its form, with this line: the order is judged first, and then the seed
pub data HasNoUnsignedOrder (order_file seed_file text : List ℕ) : Type 0 where
  no_order : (fault : FileFault) → IsUnsignedOrderRefused order_file fault
      → fault ≢ FileFault.Memory → text ≡ unreadable_line 1 fault
      → HasNoUnsignedOrder order_file seed_file text
  no_seed : (said : code.Order) → IsUnsignedOrderFile order_file said → length seed_file < seed_len
      → text ≡ short_seed → HasNoUnsignedOrder order_file seed_file text

-- ---- what is asked

-- the text is what is signed: the JWS header and the payload with the full stop
-- between them (RFC 7515 section 5.1)
pub record GivesSignedText (order_file alg seed_file text : List ℕ) : Type 0 where
  pub token : UnsignedToken
  pub is_unsigned : IsUnsignedFor order_file alg seed_file token
  pub text_is : text ≡ token.jwt.protected ++ (codes "." ++ token.jwt.payload)

abbrev pub AsksToSign : List ℕ → List ℕ → List ℕ → Reply → Type 0
AsksToSign order alg seed reply =
    Replies (GivesSignedText order alg seed) (RefusesToSign order seed)
    (HasNoUnsignedOrder order seed) reply

-- ---- the token

-- the line of the token with this signature
pub record IsTokenLine (token : UnsignedToken) (signature text : List ℕ) : Type 0 where
  pub parts : Parts
  pub with_it : IsTokenWith token signature parts
  pub text_is : text ≡ line (compact parts)

-- with this signature it is too long, and this is the line of that refusal
pub record IsOverlongLine (token : UnsignedToken) (signature text : List ℕ) : Type 0 where
  pub error : IssueError
  pub other : error ≢ Memory
  pub long : IsUnmadeWith token signature error
  pub line_is : text ≡ line (issue_refusal_text error)

-- what is so of what is to be signed for the files
pub record OfUnsigned (order_file alg seed_file : List ℕ) (P : UnsignedToken → Type 0)
    : Type 0 where
  pub token : UnsignedToken
  pub is_unsigned : IsUnsignedFor order_file alg seed_file token
  pub is_so : P token

abbrev pub GivesToken : List ℕ → List ℕ → List ℕ → List ℕ → List ℕ → Type 0
GivesToken order alg seed signature text =
    OfUnsigned order alg seed (λ token. IsTokenLine token signature text)

abbrev pub RefusesToken : List ℕ → List ℕ → List ℕ → List ℕ → List ℕ → Type 0
RefusesToken order alg seed signature text =
    RefusesToSign order seed text
    ⊎ OfUnsigned order alg seed (λ token. IsOverlongLine token signature text)

abbrev pub SignsToken : List ℕ → List ℕ → List ℕ → List ℕ → Reply → Type 0
SignsToken order alg seed signature reply =
    Replies (GivesToken order alg seed signature) (RefusesToken order alg seed signature)
    (HasNoUnsignedOrder order seed) reply
