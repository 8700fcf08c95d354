-- Not needed to believe the program's promises: why a text is no disclosure.
use Rattle.std.specs.Prelude.{◌≢◌, Option}
use Rattle.b64url_text.specs.Base64url.{Decodes}
use Rattle.b64url_text.specs.NotBase64.{IsNotBase64}
use Rattle.claim_tree.specs.Tree.{Text, Tree}
use Rattle.claim_tree.specs.JsonText.{Reads, IsNotJson, IsNotWhole}
use Rattle.disclosure.specs.Disclosure.{array_of}
use Rattle.disclosure.specs.declared.errors.DisclosureError.{DisclosureError}

-- the text is that of bytes of which this holds
pub record DecodesTo (holds : Text → Type 0) (text : Text) : Type 0 where
  pub json : Text
  pub decodes : Decodes text json
  pub so : holds json

-- the tree is the list of no salt, name and value
abbrev pub IsNoArray : Tree → Type 0
IsNoArray t = (salt : Tree) (name : Option Text) (value : Tree) → t ≢ array_of salt name value

-- the text is that of bytes that read to something else
pub record IsNotDisclosure (text : Text) : Type 0 where
  pub json : Text
  pub decodes : Decodes text json
  pub tree : Tree
  pub reads : Reads json tree
  pub other : IsNoArray tree

-- the cause of each refusal
abbrev pub IsDisclosureRefused : Text → DisclosureError → Type 0
IsDisclosureRefused text DisclosureError.Memory = Unit {0}
IsDisclosureRefused text DisclosureError.NotBase64 = IsNotBase64 text
IsDisclosureRefused text DisclosureError.NotJson = DecodesTo IsNotJson text
IsDisclosureRefused text DisclosureError.NotWhole = DecodesTo IsNotWhole text
IsDisclosureRefused text DisclosureError.NotDisclosure = IsNotDisclosure text
