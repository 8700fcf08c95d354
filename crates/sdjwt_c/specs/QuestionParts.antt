-- Not needed to believe the program's promises: what C takes out of the line of a
-- question, so that it needs no reader of JSON.
use Rattle.std.specs.Prelude.{◌≡◌, ◌≢◌, ◌⊎◌, ℕ, List, Option, None, Some, codes, option_and_then}
use Rattle.b64url_text.specs.Base64url.{Decodes}
use Rattle.b64url_text.specs.NotBase64.{IsNotBase64}
use Rattle.claim_tree.specs.JsonText.{Reads, IsNotJson, IsNotWhole}
use Rattle.claim_tree.specs.Path.{pointer_text, tree_at}
use Rattle.claim_tree.specs.Tree.{Text, Tree, object, Members, member_named, text_of}
use Rattle.cli_parts.specs.Replies.{Reply, Replies}
use Rattle.cli_parts.specs.Telling.{TellsFileFault}
use Rattle.file_members.specs.declared.file_fault.FileFault.{FileFault}
use Rattle.file_members.specs.declared.file_fault.FileFault.TheVariants.{Memory, NotJson, NotWhole, NotObject}
use Rattle.sdjwt_c.specs.Handed.{HandsBy, IsLeft}

-- ---- what a question says

-- the text under a name, where there is one
abbrev pub text_under : Members → Text → Option Text
text_under members name = option_and_then text_of (member_named members name)

-- the question is the JSON of an object, and says this text under the name, or none
pub record SaysUnder (question name : Text) (said : Option Text) : Type 0 where
  pub members : Members
  pub reads : Reads question (object members)
  pub said_is : said ≡ text_under members name

-- it says a signature by this text, in base64url
pub record SaysBy (question : Text) (Is : Text → Type 0) : Type 0 where
  pub word : Text
  pub says : SaysUnder question (codes "signature") (Some word)
  pub is : Is word

-- the signature of the question, where it says one
abbrev pub SaysSignature : Text → Option (List ℕ) → Type 0
SaysSignature question (Some bytes) = SaysBy question (λ word. Decodes word bytes)
SaysSignature question None =
    SaysUnder question (codes "signature") None ⊎ SaysBy question IsNotBase64

-- the text at a path, where there is one
abbrev pub text_at : Tree → List Text → Option Text
text_at tree path = option_and_then text_of (tree_at tree path)

-- the text at the path of this JSON Pointer (RFC 6901); there is none either where it is no pointer
abbrev pub IsTextAt : Tree → Text → Option Text → Type 0
IsTextAt tree pointer (Some said) =
    (path : List Text) × (pointer ≡ pointer_text path) × (text_at tree path ≡ Some said)
IsTextAt tree pointer None =
    (path : List Text) → pointer ≡ pointer_text path → text_at tree path ≡ None

-- the question is the JSON of an object, and says this text at the pointer, or none
pub record SaysAt (question pointer : Text) (said : Option Text) : Type 0 where
  pub members : Members
  pub reads : Reads question (object members)
  pub is_text : IsTextAt (object members) pointer said

-- ---- what is no question

-- the bytes are JSON, but no object
pub record IsNoObject (bytes : Text) : Type 0 where
  pub tree : Tree
  pub reads : Reads bytes tree
  pub other : (members : Members) → tree ≢ object members

-- why the bytes are no question; want of memory says nothing
abbrev pub IsNoQuestion : Text → FileFault → Type 0
IsNoQuestion bytes Memory = Unit {0}
IsNoQuestion bytes NotJson = IsNotJson bytes
IsNoQuestion bytes NotWhole = IsNotWhole bytes
IsNoQuestion bytes NotObject = IsNoObject bytes
IsNoQuestion bytes _ = ⊥

-- ---- what is handed

abbrev pub RepliesPart : (Option (List ℕ) → Type 0) → Text → Reply → Type 0
RepliesPart Is question reply =
    Replies (λ part. Is (Some part)) (λ _. ⊥) (TellsFileFault (IsNoQuestion question)) reply

-- a part of a question is handed as by every call, with no line end; where the caller broke no rule
-- and the question has no such part, the number is 10 and nothing is written
pub data HandsPartBy
    (Misused : Type 0) (Is : Option (List ℕ) → Type 0) (question before after : List ℕ)
    (len number : ℕ) : Type 0 where
  replied :
      HandsBy Misused (RepliesPart Is question) before after len number
      → HandsPartBy Misused Is question before after len number
  missing :
      (Misused → ⊥) → Is None → number ≡ 10 → IsLeft before after len
      → HandsPartBy Misused Is question before after len number
