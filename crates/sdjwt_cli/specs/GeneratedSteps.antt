-- For private functions: how the members of what is generated are put in the
-- order of their names, and the set of its key as JSON.
use Rattle.std.specs.Prelude.{◌≡◌, ℕ, zero, suc, ◌/◌, codes, replicate}
use Rattle.sd_outside.specs.Limits.{key_min}
use Rattle.b64url_text.specs.Base64url.{b64}
use Rattle.claim_tree.specs.Tree.{Tree, leaf, text, array, object, element, no_elements, Members, member, no_members, inserted}
use Rattle.sdjwt_cli.specs.Generated.{member_name, member_value, members_below}

-- ---- the members

-- the members, with that of a number
abbrev pub with_member : ℕ → Members → Members
with_member i ms = inserted ms (member_name i) (member_value i)

abbrev pub HasMember : Members → ℕ → Type 0
HasMember ms i = with_member i ms ≡ ms

-- the members, with those of the numbers below n
abbrev pub completed : ℕ → Members → Members
completed zero ms = ms
completed (suc n) ms = with_member n (completed n ms)

-- nothing is there but members whose numbers are below n
abbrev pub HasNoOther : ℕ → Members → Type 0
HasNoOther n ms = completed n ms ≡ members_below n

-- the number without so many of its last digits
abbrev pub cut : ℕ → ℕ → ℕ
cut zero i = i
cut (suc k) i = cut k i / 10

-- the digits of the number begin with those of the other
pub record BeginsWith (first i : ℕ) : Type 0 where
  pub behind : ℕ
  pub is : cut behind i ≡ first

-- ---- the key

abbrev pub key_tree : Tree
key_tree =
    object
    (member (codes "k") (leaf (text (b64 (replicate key_min 1))))
    (member (codes "kty") (leaf (text (codes "oct"))) no_members))

abbrev pub set_tree : Tree
set_tree = object (member (codes "keys") (array (element key_tree no_elements)) no_members)
