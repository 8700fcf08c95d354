-- An object says a token, or fails by a first place.
use Rattle.std.proofs.Common.{◌≡◌, ◌≢◌, ℕ, ◌≤◌, true, false, Some, None, inl, inr, refl, sym, ap, subst, ◌∙◌, arith}
use Rattle.std.proofs.lemmas.Bool.{cases_lt}
use Rattle.claim_tree.specs.Tree.{Text, Tree, array, object, Elements, element, Members}
use Rattle.claim_tree.specs.Removed.{removed}
use Rattle.claim_tree.specs.TreeValues.{Says}
use Rattle.claim_tree.specs.JsonText.{Reads}
use Rattle.sd_outside.specs.Lists.{IsLeast, AtNone}
use Rattle.claim_tree.proofs.OneTree.{is_json, is_whole, one_tree}
use Rattle.refusals.specs.PartWords.{part_word}
use Rattle.refusals.specs.declared.fault.Part.TheVariants.{Payload, Protected, Signature, Signatures, Header}
use Rattle.refusals.specs.declared.fault.JsonPlace.{JsonPlace}
use Rattle.refusals.specs.declared.fault.JsonPlace.TheVariants.{NotObject, Wrong, Stray}
use Rattle.json_form.specs.declared.token.Token.{Token}
use Rattle.json_form.specs.declared.signatures.Entries.{Entries}
use Rattle.json_form.specs.Json.{found_part, has_beside, IsWordTree, AreEntries, IsStray, EntrySays, IsJson}
use Rattle.refusals.specs.Lowest.{IsLowestBy}
use Rattle.json_form.specs.JsonPlaces.{row_of, IsNoWord, IsEntry, flat, first, AreNoEntries, no_list, beside, EntryFails, ObjectFails, payload, signatures, entry, stray, JsonFails, not_json, not_whole, not_object, members, IsJsonPlace}
use Rattle.json_form.specs.MembersRead.{IsFirstStray, ListHas, HasEntries, itself, listed, MembersSay}
use Rattle.json_form.proofs.Members.{found_other, beside_kept}
use Rattle.json_form.proofs.SayOrFail.{says_word, row_no_word, SameEntry, first_at, entry_says_at, lower, upper, entry_says}

-- ---- the entries of an object

pub one_entry : (ms : Members) (entries : Entries) (m : Members) → HasEntries ms entries → IsEntry ms m → m ≡ entries.first
one_entry ms entries m (itself none is unstray) (flat absent same) = same ∙ sym is
one_entry ms entries m (itself none is unstray) (first later at) = let both : None ≡ Some (array (element (object m) later)) = sym none ∙ at in cc both
one_entry ms entries m (listed list at has alone) (flat absent same) = let both : Some list ≡ None = sym at ∙ absent in cc both
one_entry ms entries m (listed list at has alone) (first later there) =
    let both : Some list ≡ Some (array (element (object m) later)) = sym at ∙ there in
    let same : list ≡ array (element (object m) later) = cc both in
    let lists : array (element (object m) later) ≡ array (element (object entries.first) has.later) = sym same ∙ has.are.are in
    cc lists

pub is_entry : (ms : Members) (entries : Entries) → HasEntries ms entries → IsEntry ms entries.first
is_entry ms entries (itself none is unstray) = flat none is
is_entry ms entries (listed list at has alone) = first has.later (at ∙ ap Some has.are.are)

entries_wrong : (ms : Members) (entries : Entries) → HasEntries ms entries → AreNoEntries ms → ⊥
entries_wrong ms entries (itself none is unstray) (no_list t at odd) = let both : None ≡ Some t = sym none ∙ at in cc both
entries_wrong ms entries (itself none is unstray) (beside t at has) = let both : None ≡ Some t = sym none ∙ at in cc both
entries_wrong ms entries (listed list at has alone) (no_list t there odd) =
    let both : Some list ≡ Some t = sym at ∙ there in
    let same : list ≡ t = cc both in
    odd entries.first has.later (subst (λ u. AreEntries u entries.first has.later) same has.are)
entries_wrong ms entries (listed list at has alone) (beside t there odd) = let clash : true ≡ false = sym odd ∙ alone in cc clash

-- the elements of the list are the entries
same_list : (ms : Members) (entries : Entries) (list : Tree) (es : Elements) → found_part ms Signatures ≡ Some list → (has : ListHas list entries) → found_part ms Signatures ≡ Some (array es) → es ≡ element (object entries.first) has.later
same_list ms entries list es at has there =
    let both : Some list ≡ Some (array es) = sym at ∙ there in
    let same : list ≡ array es = cc both in
    let lists : array es ≡ array (element (object entries.first) has.later) = sym same ∙ has.are.are in
    cc lists

-- no entry is stray where none was found
none_stray : (ms : Members) (entries : Entries) (es : Elements) (e : ℕ) → HasEntries ms entries → entries.stray ≡ None → found_part ms Signatures ≡ Some (array es) → IsStray es e → ⊥
none_stray ms entries es e (itself none is unstray) gone there s = let both : None ≡ Some (array es) = sym none ∙ there in cc both
none_stray ms entries es e (listed list at has alone) gone there s =
    let nowhere : AtNone (IsStray (element (object entries.first) has.later)) = subst (IsFirstStray (element (object entries.first) has.later)) gone has.stray in
    nowhere e (subst (λ (us : Elements). IsStray us e) (same_list ms entries list es at has there) s)

least_of : (ms : Members) (entries : Entries) (list : Tree) (k : ℕ) (has : ListHas list entries) → entries.stray ≡ Some k → IsLeast (IsStray (element (object entries.first) has.later)) k
least_of ms entries list k has is = subst (IsFirstStray (element (object entries.first) has.later)) is has.stray

-- the one that was found is the first that is stray
least_stray : (ms : Members) (entries : Entries) (k : ℕ) (es : Elements) (e : ℕ) → HasEntries ms entries → entries.stray ≡ Some k → found_part ms Signatures ≡ Some (array es) → IsStray es e → k ≤ e
least_stray ms entries k es e (itself none is unstray) some there s = let both : None ≡ Some (array es) = sym none ∙ there in cc both
least_stray ms entries k es e (listed list at has alone) some there s =
    let here = subst (λ (us : Elements). IsStray us e) (same_list ms entries list es at has there) s in
    elim (cases_lt e k) [
      | inl low ↦ absurd ((least_of ms entries list k has some).first e low here)
      | inr high ↦ omega (arith, high)
    ]

stray_applies : (ms : Members) (entries : Entries) (k : ℕ) (p : JsonPlace) → HasEntries ms entries → entries.stray ≡ Some k → p ≡ Stray k → ObjectFails ms p
stray_applies ms entries k p (itself none is unstray) some named = let both : None ≡ Some k = sym unstray ∙ some in cc both
stray_applies ms entries k p (listed list at has alone) some named =
    stray (element (object entries.first) has.later) k named (at ∙ ap Some has.are.are) (least_of ms entries list k has some).fails

-- ---- an object whose payload is taken out

-- the same entries, of the whole object
pub record Settled (ms : Members) (entries : Entries) : Type 0 where
  pub whole : Entries
  pub has : HasEntries ms whole
  pub stray : whole.stray ≡ entries.stray
  pub same : SameEntry entries.first whole.first

settled_from : (ms rest : Members) (entries : Entries) → rest ≡ removed ms (part_word Payload) → found_part rest Signatures ≡ found_part ms Signatures → has_beside rest ≡ has_beside ms → HasEntries rest entries → Settled ms entries
settled_from ms rest entries gone list kept (itself none is unstray) =
    record {
      whole = record { first = ms; stray = entries.stray };
      has = itself (sym list ∙ none) refl unstray;
      stray = refl;
      same = record {
        protected = ap (λ (us : Members). found_part us Protected) (is ∙ gone) ∙ found_other ms Payload Protected refl;
        signature = ap (λ (us : Members). found_part us Signature) (is ∙ gone) ∙ found_other ms Payload Signature refl;
        header = ap (λ (us : Members). found_part us Header) (is ∙ gone) ∙ found_other ms Payload Header refl;
      };
    }
settled_from ms rest entries gone list kept (listed t at has alone) =
    record { whole = entries; has = listed t (sym list ∙ at) has (sym kept ∙ alone); stray = refl; same = record { protected = refl; signature = refl; header = refl } }

-- ---- the first place at which an object fails

pub from_payload : (ms : Members) (o : JsonPlace) → ObjectFails ms o → 3 ≤ row_of o
from_payload ms o (payload v) = omega (arith, row_no_word ms Payload o v)
from_payload ms o (signatures named odd) = omega (arith, ap row_of named)
from_payload ms o (entry m is v) = omega (arith, lower m o v)
from_payload ms o (stray es e named at s) = omega (arith, ap row_of named)

pub first_payload : (ms : Members) (p : JsonPlace) → IsNoWord ms Payload p → IsLowestBy row_of (ObjectFails ms) p
first_payload ms p w = record { applies = payload w; lowest = λ o applies. omega (arith, row_no_word ms Payload p w, from_payload ms o applies) }

pub first_signatures : (ms : Members) (s : Text) (p : JsonPlace) → Says IsWordTree (found_part ms Payload) s → p ≡ Wrong Signatures → AreNoEntries ms → IsLowestBy row_of (ObjectFails ms) p
first_signatures ms s p says is odd = record { applies = signatures is odd; lowest = go }
  where
    go : (o : JsonPlace) → ObjectFails ms o → row_of p ≤ row_of o
    go o (payload v) = absurd (says_word ms Payload s o says v)
    go o (signatures named w) = omega (arith, ap row_of is, ap row_of named)
    go o (entry m at v) = omega (arith, ap row_of is, lower m o v)
    go o (stray es e named at w) = omega (arith, ap row_of is, ap row_of named)

pub first_entry : (ms : Members) (s : Text) (entries : Entries) (p : JsonPlace) → Says IsWordTree (found_part ms Payload) s → HasEntries ms entries → IsLowestBy row_of (EntryFails entries.first) p → IsLowestBy row_of (ObjectFails ms) p
first_entry ms s entries p says has is = record { applies = entry entries.first (is_entry ms entries has) is.applies; lowest = go }
  where
    go : (o : JsonPlace) → ObjectFails ms o → row_of p ≤ row_of o
    go o (payload v) = absurd (says_word ms Payload s o says v)
    go o (signatures named w) = absurd (entries_wrong ms entries has w)
    go o (entry m at v) = is.lowest o (subst (λ (us : Members). EntryFails us o) (one_entry ms entries m has at) v)
    go o (stray es e named at w) = omega (arith, upper entries.first p is.applies, ap row_of named)

pub first_stray : (ms : Members) (token : Token) (entries : Entries) (k : ℕ) (p : JsonPlace) → Says IsWordTree (found_part ms Payload) token.parts.signed.payload → HasEntries ms entries → EntrySays entries.first token
    → entries.stray ≡ Some k → p ≡ Stray k → IsLowestBy row_of (ObjectFails ms) p
first_stray ms token entries k p says has said some is = record { applies = stray_applies ms entries k p has some is; lowest = go }
  where
    go : (o : JsonPlace) → ObjectFails ms o → row_of p ≤ row_of o
    go o (payload v) = absurd (says_word ms Payload token.parts.signed.payload o says v)
    go o (signatures named w) = absurd (entries_wrong ms entries has w)
    go o (entry m at v) = absurd (entry_says entries.first token o said (subst (λ (us : Members). EntryFails us o) (one_entry ms entries m has at) v))
    go o (stray es e named at w) = omega (arith, ap row_of is, ap row_of named, least_stray ms entries k es e has some at w)

-- ---- the same, where the payload was taken out

record Rest (ms rest : Members) : Type 0 where
  gone : rest ≡ removed ms (part_word Payload)
  list : found_part rest Signatures ≡ found_part ms Signatures
  kept : has_beside rest ≡ has_beside ms

rest_of : (ms rest : Members) → rest ≡ removed ms (part_word Payload) → Rest ms rest
rest_of ms rest gone =
    record {
      gone = gone;
      list = ap (λ (us : Members). found_part us Signatures) gone ∙ found_other ms Payload Signatures refl;
      kept = ap has_beside gone ∙ beside_kept ms Payload refl refl refl;
    }

pub settled : (ms rest : Members) (entries : Entries) → rest ≡ removed ms (part_word Payload) → HasEntries rest entries → Settled ms entries
settled ms rest entries gone has = let r = rest_of ms rest gone in settled_from ms rest entries gone r.list r.kept has

pub no_entries_at : (ms rest : Members) → rest ≡ removed ms (part_word Payload) → AreNoEntries rest → AreNoEntries ms
no_entries_at ms rest gone (no_list t at odd) = no_list t (sym (rest_of ms rest gone).list ∙ at) odd
no_entries_at ms rest gone (beside t at has) = beside t (sym (rest_of ms rest gone).list ∙ at) (sym (rest_of ms rest gone).kept ∙ has)

pub first_of_rest : (ms : Members) (s : Text) (entries : Entries) (p : JsonPlace) → Says IsWordTree (found_part ms Payload) s → Settled ms entries → IsLowestBy row_of (EntryFails entries.first) p → IsLowestBy row_of (ObjectFails ms) p
first_of_rest ms s entries p says at is = first_entry ms s at.whole p says at.has (first_at entries.first at.whole.first p at.same is)

pub stray_of_rest : (ms : Members) (token : Token) (entries : Entries) (k : ℕ) (p : JsonPlace) → Says IsWordTree (found_part ms Payload) token.parts.signed.payload → Settled ms entries → EntrySays entries.first token
    → entries.stray ≡ Some k → p ≡ Stray k → IsLowestBy row_of (ObjectFails ms) p
stray_of_rest ms token entries k p says at said some is = first_stray ms token at.whole k p says at.has (entry_says_at entries.first at.whole.first token at.same said) (at.stray ∙ some) is

pub token_of_rest : (ms : Members) (token : Token) (entries : Entries) → Says IsWordTree (found_part ms Payload) token.parts.signed.payload → Settled ms entries → EntrySays entries.first token → entries.stray ≡ None → MembersSay ms token
token_of_rest ms token entries says at said none =
    record { entries = at.whole; has = at.has; none_stray = at.stray ∙ none; payload = says; entry = entry_says_at entries.first at.whole.first token at.same said }

-- an object that says a token fails by nothing
pub members_say : (ms : Members) (token : Token) (o : JsonPlace) → MembersSay ms token → ObjectFails ms o → ⊥
members_say ms token o says (payload v) = says_word ms Payload token.parts.signed.payload o says.payload v
members_say ms token o says (signatures named w) = entries_wrong ms says.entries says.has w
members_say ms token o says (entry m at v) = entry_says says.entries.first token o says.entry (subst (λ (us : Members). EntryFails us o) (one_entry ms says.entries m says.has at) v)
members_say ms token o says (stray es e named at w) = none_stray ms says.entries es e says.has says.none_stray at w

-- ---- a text

pub first_not_object : (bytes : Text) (t : Tree) (p : JsonPlace) → p ≡ NotObject → Reads bytes t → ((ms : Members) → t ≢ object ms) → IsJsonPlace bytes p
first_not_object bytes t p is reads odd = record { applies = not_object t is reads odd; lowest = go }
  where
    go : (o : JsonPlace) → JsonFails bytes o → row_of p ≤ row_of o
    go o (not_json named w) = absurd (is_json bytes t reads w)
    go o (not_whole named w) = absurd (is_whole bytes t reads w)
    go o (not_object u named r w) = omega (arith, ap row_of is, ap row_of named)
    go o (members ms r w) = omega (arith, ap row_of is, from_payload ms o w)

pub one_object : (bytes : Text) (ms ns : Members) → Reads bytes (object ms) → Reads bytes (object ns) → ms ≡ ns
one_object bytes ms ns r q = let same : object ms ≡ object ns = one_tree bytes (object ms) (object ns) r q in cc same

pub first_of_members : (bytes : Text) (ms : Members) (p : JsonPlace) → Reads bytes (object ms) → IsLowestBy row_of (ObjectFails ms) p → IsJsonPlace bytes p
first_of_members bytes ms p reads is = record { applies = members ms reads is.applies; lowest = go }
  where
    go : (o : JsonPlace) → JsonFails bytes o → row_of p ≤ row_of o
    go o (not_json named w) = absurd (is_json bytes (object ms) reads w)
    go o (not_whole named w) = absurd (is_whole bytes (object ms) reads w)
    go o (not_object t named r odd) = absurd (odd ms (one_tree bytes t (object ms) r reads))
    go o (members ns r w) = is.lowest o (subst (λ (us : Members). ObjectFails us o) (one_object bytes ns ms r reads) w)

pub says_nothing_wrong : (bytes : Text) (ms : Members) (token : Token) (o : JsonPlace) → Reads bytes (object ms) → MembersSay ms token → JsonFails bytes o → ⊥
says_nothing_wrong bytes ms token o reads says (not_json named w) = is_json bytes (object ms) reads w
says_nothing_wrong bytes ms token o reads says (not_whole named w) = is_whole bytes (object ms) reads w
says_nothing_wrong bytes ms token o reads says (not_object t named r odd) = odd ms (one_tree bytes t (object ms) r reads)
says_nothing_wrong bytes ms token o reads says (members ns r w) = members_say ms token o says (subst (λ (us : Members). ObjectFails us o) (one_object bytes ns ms r reads) w)

-- ---- the two forms

pub json_of : (bytes : Text) (ms : Members) (token : Token) → Reads bytes (object ms) → MembersSay ms token → IsJson token bytes
json_of bytes ms token reads says = go says.has
  where
    go : HasEntries ms says.entries → IsJson token bytes
    go (itself none is unstray) = inl (record { members = ms; reads = reads; flat = none; payload = says.payload; entry = subst (λ (us : Members). EntrySays us token) is says.entry })
    go (listed list at has alone) =
        inr (
        record {
          members = ms;
          reads = reads;
          first = says.entries.first;
          later = has.later;
          list = list;
          general = at;
          entries = has.are;
          alone = alone;
          payload = says.payload;
          entry = says.entry;
          no_stray = subst (IsFirstStray (element (object says.entries.first) has.later)) says.none_stray has.stray;
        }
        )

-- what a text says, by its members
pub record SaysJson (token : Token) (bytes : Text) : Type 0 where
  pub members : Members
  pub reads : Reads bytes (object members)
  pub says : MembersSay members token

pub of_json : (token : Token) (bytes : Text) → IsJson token bytes → SaysJson token bytes
of_json token bytes (inl is) =
    record {
      members = is.members;
      reads = is.reads;
      says = record { entries = record { first = is.members; stray = None }; has = itself is.flat refl refl; none_stray = refl; payload = is.payload; entry = is.entry };
    }
of_json token bytes (inr is) =
    record {
      members = is.members;
      reads = is.reads;
      says = record {
        entries = record { first = is.first; stray = None };
        has = listed is.list is.general (record { later = is.later; are = is.entries; stray = is.no_stray }) is.alone;
        none_stray = refl;
        payload = is.payload;
        entry = is.entry;
      };
    }
