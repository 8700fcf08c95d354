-- The header of a JWS, RFC 7515 sections 4 and 7.2.1: the members of the
-- protected one, and of an outer one beside it.
use Rattle.std.specs.Prelude.{◌≡◌, Bool, ◌||◌, true, false, Option, Some, None, codes}
use Rattle.std.specs.List.{list_any}
use Rattle.std.specs.Option.{is_some, option_map, option_or}
use Rattle.claim_tree.specs.Tree.{Text, text, Tree, leaf, object, Members, no_members, member, names, member_named, text_of}
use Rattle.jws_part.specs.Part.{Carries, IsNoObject}
use Rattle.jws_part.specs.declared.header.Header.{Header}

-- the tree of a text
abbrev pub text_tree : Text → Tree
text_tree s = leaf (text s)

abbrev pub has_name : Members → Text → Bool
has_name ms name = is_some (member_named ms name)

-- a name stands in both headers
abbrev pub shares_name : Members → Members → Bool
shares_name ms outer = list_any (has_name ms) (names outer)

-- one of the headers has a member `crit` (section 4.1.11)
abbrev pub has_crit : Members → Members → Bool
has_crit ms outer = has_name ms (codes "crit") || has_name outer (codes "crit")

-- what the two headers say together: a text under each name that is there, the
-- key in either of them
pub record HeadersSay (ms outer : Members) (header : Header) : Type 0 where
  pub apart : shares_name ms outer ≡ false
  pub alg : member_named ms (codes "alg") ≡ Some (text_tree header.alg)
  pub typ : member_named ms (codes "typ") ≡ option_map text_tree header.typ
  pub kid : option_or (member_named ms (codes "kid")) (member_named outer (codes "kid"))
      ≡ option_map text_tree header.kid

-- the protected header is read, both together say this, and whether one of them is critical
pub record ReadsHeader (protected : Text) (outer : Members) (header : Header) (critical : Bool)
    : Type 0 where
  pub members : Members
  pub carried : Carries protected (object members)
  pub says : HeadersSay members outer header
  pub crit : has_crit members outer ≡ critical

-- the headers are read, and neither is critical
abbrev pub IsHeader : Text → Members → Header → Type 0
IsHeader protected outer header = ReadsHeader protected outer header false

-- the headers are read, and want an extension to be understood
abbrev pub IsHeaderCritical : Text → Members → Type 0
IsHeaderCritical protected outer = (header : Header) × ReadsHeader protected outer header true

-- what stands under the name is no text
pub record IsNoText (ms : Members) (name : Text) : Type 0 where
  pub found : Tree
  pub stands : member_named ms name ≡ Some found
  pub no_text : text_of found ≡ None

-- why the headers say nothing together
pub data SayNothing (ms outer : Members) : Type 0 where
  shared_name : shares_name ms outer ≡ true → SayNothing ms outer
  no_alg : member_named ms (codes "alg") ≡ None → SayNothing ms outer
  odd_alg : IsNoText ms (codes "alg") → SayNothing ms outer
  odd_typ : IsNoText ms (codes "typ") → SayNothing ms outer
  odd_kid : IsNoText ms (codes "kid") → SayNothing ms outer
  odd_outer_kid : IsNoText outer (codes "kid") → SayNothing ms outer

-- why the headers are not read
pub data IsHeaderUnreadable (protected : Text) (outer : Members) : Type 0 where
  no_object : IsNoObject protected → IsHeaderUnreadable protected outer
  nothing_said : (ms : Members) → Carries protected (object ms) → SayNothing ms outer
      → IsHeaderUnreadable protected outer

-- the text as a member, where it is some, and then these
abbrev pub given : Text → Option Text → Members → Members
given name None ms = ms
given name (Some s) ms = member name (text_tree s) ms

-- the members that are written of a header
abbrev pub header_members : Header → Members
header_members h =
    member (codes "alg") (text_tree h.alg)
    (given (codes "kid") h.kid (given (codes "typ") h.typ no_members))
