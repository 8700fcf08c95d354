-- For private functions: what is read of the members of an object.
use Rattle.std.specs.Prelude.{◌≡◌, ℕ, false, Option, Some, None}
use Rattle.claim_tree.specs.Tree.{Tree, object, Elements, element, Members}
use Rattle.claim_tree.specs.TreeValues.{Says}
use Rattle.sd_outside.specs.Lists.{IsLeast, AtNone}
use Rattle.claim_tree.specs.declared.text.ReadError.{ReadError}
use Rattle.refusals.specs.declared.fault.Part.TheVariants.{Payload, Signatures}
use Rattle.refusals.specs.Faults.{fault_at}
use Rattle.refusals.specs.declared.condition.Condition.{Condition}
use Rattle.refusals.specs.declared.fault.Place.TheVariants.{Json}
use Rattle.refusals.specs.declared.fault.JsonPlace.TheVariants.{NotJson, NotWhole}
use Rattle.json_form.specs.declared.token.Token.{Token}
use Rattle.json_form.specs.declared.token.TokenError.{TokenError}
use Rattle.json_form.specs.declared.signatures.Entries.{Entries}
use Rattle.json_form.specs.declared.json_error.JsonFormError.{JsonFormError}
use Rattle.json_form.specs.Json.{found_part, has_beside, AreEntries, IsStray, IsWordTree, EntrySays}

-- the answer for a text that is not read
abbrev pub unread_place : ReadError → JsonFormError
unread_place ReadError.Memory = JsonFormError.Memory
unread_place ReadError.NotJson = JsonFormError.Fault NotJson
unread_place ReadError.NotWhole = JsonFormError.Fault NotWhole

-- the answer for a text that is no JSON serialization
abbrev pub misformed : JsonFormError → TokenError
misformed JsonFormError.Memory = TokenError.Memory
misformed (JsonFormError.Fault place) = TokenError.Fault (fault_at Condition.Form (Json place))

-- the first entry that is stray, where there is one
abbrev pub IsFirstStray : Elements → Option ℕ → Type 0
IsFirstStray entries None = AtNone (IsStray entries)
IsFirstStray entries (Some place) = IsLeast (IsStray entries) place

-- the tree is a list of entries, of which this is the first one and this the first stray one
pub record ListHas (list : Tree) (entries : Entries) : Type 0 where
  pub later : Elements
  pub are : AreEntries list entries.first later
  pub stray : IsFirstStray (element (object entries.first) later) entries.stray

-- the object is flattened and itself the entry, or is general and has these entries
pub data HasEntries (ms : Members) (entries : Entries) : Type 0 where
  itself : found_part ms Signatures ≡ None → entries.first ≡ ms → entries.stray ≡ None
      → HasEntries ms entries
  listed : (list : Tree) → found_part ms Signatures ≡ Some list → ListHas list entries
      → has_beside ms ≡ false → HasEntries ms entries

-- the members of an object say the token
pub record MembersSay (ms : Members) (token : Token) : Type 0 where
  pub entries : Entries
  pub has : HasEntries ms entries
  pub none_stray : entries.stray ≡ None
  pub payload : Says IsWordTree (found_part ms Payload) token.parts.signed.payload
  pub entry : EntrySays entries.first token
