-- The JSON serializations that are written, RFC 9901 section 8: the object of
-- which the text is the compact JSON.
use Rattle.std.specs.Prelude.{Option, Some, None}
use Rattle.claim_tree.specs.Tree.{text, Tree, leaf, array, object, no_elements, element, Members, no_members, member, inserted}
use Rattle.claim_tree.specs.TreeValues.{text_elements}
use Rattle.compact_form.specs.Compact.{jwt}
use Rattle.refusals.specs.PartWords.{part_word}
use Rattle.compact_form.specs.declared.parts.JwtParts.{JwtParts}
use Rattle.refusals.specs.declared.fault.Part.TheVariants.{Payload, Protected, Signature, Signatures, Header, Disclosures, KbJwt}
use Rattle.json_form.specs.declared.token.Token.{Token}

-- the members, with the key binding token where there is one
abbrev pub with_binding : Option JwtParts → Members → Members
with_binding None ms = ms
with_binding (Some j) ms = inserted ms (part_word KbJwt) (leaf (text (jwt j)))

-- the unprotected header: always the disclosures, the key binding token where
-- there is one, and the other members
abbrev pub written_header : Token → Members
written_header token =
    inserted (with_binding token.parts.binding token.outer) (part_word Disclosures)
    (array (text_elements token.parts.disclosures))

abbrev pub signature_members : Token → Members
signature_members token =
    member (part_word Protected) (leaf (text token.parts.signed.protected))
    (member (part_word Signature) (leaf (text token.parts.signed.signature)) no_members)

abbrev pub flat_members : Token → Members
flat_members token =
    member (part_word Header) (object (written_header token))
    (member (part_word Payload) (leaf (text token.parts.signed.payload)) (signature_members token))

abbrev pub flat_of : Token → Tree
flat_of token = object (flat_members token)

-- what belongs to the one signature
abbrev pub entry_of : Token → Members
entry_of token = member (part_word Header) (object (written_header token)) (signature_members token)

abbrev pub general_members : Token → Members
general_members token =
    member (part_word Payload) (leaf (text token.parts.signed.payload))
    (member (part_word Signatures) (array (element (object (entry_of token)) no_elements))
    no_members)

abbrev pub general_of : Token → Tree
general_of token = object (general_members token)
