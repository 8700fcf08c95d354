-- The command `show`: what it prints of a token file, unchecked, and when it refuses one.
use Rattle.std.specs.Prelude.{◌≡◌, ℕ, ◌+◌, List, [], ◌∷◌, ◌++◌, Option, None, Some, codes}
use Rattle.std.specs.Fmt.{decimal}
use Rattle.std.specs.List.{AllZip}
use Rattle.sd_outside.specs.Lists.{IsSuchAt, IsLeast}
use Rattle.claim_tree.specs.Tree.{Text, Tree, Members, leaf, text}
use Rattle.claim_tree.specs.JsonText.{json_text}
use Rattle.jws_part.specs.Part.{IsBody, IsNoObject}
use Rattle.jws_part.specs.Header.{IsHeaderUnreadable}
use Rattle.disclosure.specs.Digest.{payload_hash}
use Rattle.disclosure.specs.declared.digests.HashAlg.{HashAlg}
use Rattle.digest_sites.specs.Given.{Given}
use Rattle.refusals.specs.declared.condition.Condition.{Condition}
use Rattle.refusals.specs.Faults.{unplaced, placed}
use Rattle.refusals.specs.declared.fault.Fault.{Fault}
use Rattle.compact_form.specs.declared.parts.JwtParts.{JwtParts}
use Rattle.json_form.specs.declared.token.Token.{Token}
use Rattle.json_form.specs.Token.{IsTextRefused, IsToken}
use Rattle.verifier_core.specs.Verdict.{Gives, IsNoDisclosure}
use Rattle.cli_parts.specs.Lines.{line}
use Rattle.sdjwt_cli.specs.Split.{binding_line}

-- the name of a member as JSON, or that it is an element
abbrev pub kind_text : Option Text → Text
kind_text None = codes " element "
kind_text (Some name) = codes " member " ++ (json_text (leaf (text name)) ++ codes " ")

abbrev pub shown_line : ℕ → Given → Text
shown_line i shown =
    line
    (codes "disclosure "
    ++ (decimal i
    ++ (codes " " ++ (shown.digest ++ (kind_text shown.name ++ json_text shown.value)))))

-- numbered from i
abbrev pub shown_lines : ℕ → List Given → Text
shown_lines i [] = []
shown_lines i (shown ∷ more) = shown_line i shown ++ shown_lines (i + 1) more

abbrev pub show_lines : Tree → Tree → List Given → Option JwtParts → Text
show_lines header payload shown binding =
    line (codes "header " ++ json_text header)
    ++ (line (codes "payload " ++ json_text payload)
    ++ (shown_lines 0 shown ++ binding_line binding))

-- the protected header is read: the text carries an object, and with the
-- unprotected one beside it is not refused as unreadable
pub record IsHead (protected : Text) (outer : Members) (header : Tree) : Type 0 where
  pub body : IsBody protected header
  pub readable : IsHeaderUnreadable protected outer → ⊥

-- the payload is read, and the hash of its digests is known
pub record IsShownPayload (payload : Text) (tree : Tree) (hash : HashAlg) : Type 0 where
  pub body : IsBody payload tree
  pub hash_is : payload_hash tree ≡ Some hash

-- the file is a token in one of its serializations, and these are its lines. Of
-- the headers the protected one is printed
pub record Shows (file answer : List ℕ) : Type 0 where
  pub token : Token
  pub reads : IsToken file token
  pub header : Tree
  pub head : IsHead token.parts.signed.protected token.outer header
  pub payload : Tree
  pub hash : HashAlg
  pub body : IsShownPayload token.parts.signed.payload payload hash
  pub shown : List Given
  pub disclosures : AllZip (Gives hash) token.parts.disclosures shown
  pub lines : answer ≡ show_lines header payload shown token.parts.binding

-- the lowest condition that fails: of the form, then of the headers, of the
-- payload, of its hash, and of the disclosures the first
pub data IsShowRefused (file : List ℕ) (fault : Fault) : Type 0 where
  form : IsTextRefused file fault → IsShowRefused file fault
  header : (t : Token) → IsToken file t → IsHeaderUnreadable t.parts.signed.protected t.outer
      → fault ≡ unplaced Condition.HeaderUnreadable → IsShowRefused file fault
  payload : (t : Token) (head : Tree) → IsToken file t
      → IsHead t.parts.signed.protected t.outer head → IsNoObject t.parts.signed.payload
      → fault ≡ unplaced Condition.PayloadUnreadable → IsShowRefused file fault
  hash : (t : Token) (head body : Tree) → IsToken file t
      → IsHead t.parts.signed.protected t.outer head → IsBody t.parts.signed.payload body
      → payload_hash body ≡ None → fault ≡ unplaced Condition.HashUnknown → IsShowRefused file fault
  disclosure : (t : Token) (head body : Tree) (alg : HashAlg) → IsToken file t
      → IsHead t.parts.signed.protected t.outer head
      → IsShownPayload t.parts.signed.payload body alg → (i : ℕ)
      → IsLeast (IsSuchAt IsNoDisclosure t.parts.disclosures) i
      → fault ≡ placed Condition.DisclosureUnreadable i → IsShowRefused file fault
