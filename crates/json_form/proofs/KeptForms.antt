-- What is kept of an object by the names of its members says the token that the whole says, and fails by the same places.
use Rattle.std.proofs.Common.{◌≡◌, ◌≢◌, ℕ, true, false, List, [], ◌∷◌, Option, Some, None, option_map, refl, sym, ap, subst, ◌∙◌}
use Rattle.std.specs.Prelude.{bytes_eq}
use Rattle.std.specs.Option.{is_some}
use Rattle.claim_tree.specs.Tree.{Text, text, Tree, leaf, array, object, Elements, no_elements, element, element_at, Members, no_members, get}
use Rattle.claim_tree.specs.Kept.{kept, kept_elements, kept_members, ReadsKept}
use Rattle.claim_tree.specs.TreeValues.{Says, SaysOr, HasValue}
use Rattle.claim_tree.specs.JsonText.{Reads}
use Rattle.refusals.specs.PartWords.{part_word}
use Rattle.refusals.specs.declared.fault.Part.{Part}
use Rattle.refusals.specs.declared.fault.Part.TheVariants.{Payload, Protected, Signature, Signatures, Header}
use Rattle.refusals.specs.declared.fault.JsonPlace.{JsonPlace}
use Rattle.refusals.specs.declared.fault.JsonPlace.TheVariants.{NotObject}
use Rattle.refusals.specs.Lowest.{IsLowestBy}
use Rattle.json_form.specs.declared.token.Token.{Token}
use Rattle.json_form.specs.declared.signatures.Entries.{Entries}
use Rattle.json_form.specs.Json.{found_part, has_part, has_beside, has_first_only, are_objects, IsWordTree, IsObjectOf, AreEntries, IsStray, EntrySays, IsJson}
use Rattle.json_form.specs.JsonPlaces.{row_of, IsNoWord, missing, other, IsEntry, flat, first, AreNoEntries, no_list, beside, EntryFails, protected, signature, header, disclosures, kb_jwt, ObjectFails, payload, signatures, entry, stray, IsJsonPlace}
use Rattle.json_form.specs.MembersRead.{IsFirstStray, HasEntries, itself, listed, MembersSay}
use Rattle.json_form.proofs.Members.{either_of}
use Rattle.json_form.proofs.SayOrFail.{wrong_at}
use Rattle.json_form.proofs.Objects.{first_not_object, first_of_members, json_of}
use Rattle.claim_tree.proofs.KeptTrees.{some_of, none_of, is_some_of, is_kept, named_kept, under_kept, whole_kept, element_kept, leaf_kept, array_kept, object_kept, first_kept}

-- ---- what is kept

-- the names of the members that the form knows, but for those in a header
abbrev pub form_names : List Text
form_names = part_word Payload ∷ part_word Signatures ∷ part_word Protected ∷ part_word Signature ∷ part_word Header ∷ []

abbrev pub form_tree : Tree → Tree
form_tree = kept form_names (part_word Header)

abbrev pub form_elements : Elements → Elements
form_elements = kept_elements form_names (part_word Header)

abbrev pub form_members : Members → Members
form_members = kept_members form_names (part_word Header)

-- ---- members that are found

found_kept : (ms : Members) (part : Part) → is_kept form_names (part_word part) ≡ true → bytes_eq (part_word Header) (part_word part) ≡ false → found_part (form_members ms) part ≡ option_map form_tree (found_part ms part)
found_kept ms part known apart = under_kept form_names (part_word Header) ms (part_word part) known apart

header_kept : (ms : Members) → found_part (form_members ms) Header ≡ found_part ms Header
header_kept ms = whole_kept form_names (part_word Header) ms refl

has_kept : (ms : Members) (part : Part) → is_kept form_names (part_word part) ≡ true → has_part (form_members ms) part ≡ has_part ms part
has_kept ms part known = ap is_some (named_kept form_names (part_word Header) ms (part_word part) known) ∙ is_some_of _ (found_part ms part)

beside_same : (ms : Members) → has_beside (form_members ms) ≡ has_beside ms
beside_same ms =
    either_of _ _ _ (has_part ms Protected) (has_part ms Signature) (has_part ms Header) (has_kept ms Protected refl) (has_kept ms Signature refl) (has_kept ms Header refl)

-- ---- words

word_whole : (t : Tree) (s : Text) → IsWordTree (form_tree t) s → IsWordTree t s
word_whole t s h = record { is = leaf_kept form_names (part_word Header) t (text s) h.is; word = h.word }

word_kept : (t : Tree) (s : Text) → IsWordTree t s → IsWordTree (form_tree t) s
word_kept t s h = record { is = ap form_tree h.is; word = h.word }

says_whole : (ms : Members) (part : Part) (s : Text) → found_part (form_members ms) part ≡ option_map form_tree (found_part ms part) → Says IsWordTree (found_part (form_members ms) part) s → Says IsWordTree (found_part ms part) s
says_whole ms part s e says = go (found_part ms part) (subst (λ t. Says IsWordTree t s) e says)
  where
    go : (o : Option Tree) → Says IsWordTree (option_map form_tree o) s → Says IsWordTree o s
    go None h = h
    go (Some t) h = word_whole t s h

no_word_whole : (ms : Members) (part : Part) (p : JsonPlace) → found_part (form_members ms) part ≡ option_map form_tree (found_part ms part) → IsNoWord (form_members ms) part p → IsNoWord ms part p
no_word_whole ms part p e (missing is none) = missing is (none_of form_tree (found_part ms part) (sym e ∙ none))
no_word_whole ms part p e (other t is stands odd) =
    let of = some_of form_tree (found_part ms part) t (sym e ∙ stands) in
    other of.value is of.is (λ (h : HasValue IsWordTree of.value). odd (h.0, subst (λ u. IsWordTree u h.0) (sym of.made) (word_kept of.value h.0 h.1)))

no_word_kept : (ms : Members) (part : Part) (p : JsonPlace) → found_part (form_members ms) part ≡ option_map form_tree (found_part ms part) → IsNoWord ms part p → IsNoWord (form_members ms) part p
no_word_kept ms part p e (missing is none) = missing is (e ∙ ap (option_map form_tree) none)
no_word_kept ms part p e (other t is stands odd) = other (form_tree t) is (e ∙ ap (option_map form_tree) stands) (λ (h : HasValue IsWordTree (form_tree t)). odd (h.0, word_whole t h.0 h.1))

-- ---- an entry

entry_whole : (e : Members) (p : JsonPlace) → EntryFails (form_members e) p → EntryFails e p
entry_whole e p (protected v) = protected (no_word_whole e Protected p (found_kept e Protected refl refl) v)
entry_whole e p (signature v) = signature (no_word_whole e Signature p (found_kept e Signature refl refl) v)
entry_whole e p (header v) = header (wrong_at IsObjectOf (form_members e) e Header p (header_kept e) v)
entry_whole e p (disclosures h at v) = disclosures h (sym (header_kept e) ∙ at) v
entry_whole e p (kb_jwt h at v) = kb_jwt h (sym (header_kept e) ∙ at) v

entry_kept : (e : Members) (p : JsonPlace) → EntryFails e p → EntryFails (form_members e) p
entry_kept e p (protected v) = protected (no_word_kept e Protected p (found_kept e Protected refl refl) v)
entry_kept e p (signature v) = signature (no_word_kept e Signature p (found_kept e Signature refl refl) v)
entry_kept e p (header v) = header (wrong_at IsObjectOf e (form_members e) Header p (sym (header_kept e)) v)
entry_kept e p (disclosures h at v) = disclosures h (header_kept e ∙ at) v
entry_kept e p (kb_jwt h at v) = kb_jwt h (header_kept e ∙ at) v

entry_says_whole : (e : Members) (token : Token) → EntrySays (form_members e) token → EntrySays e token
entry_says_whole e token says =
    record {
      protected = says_whole e Protected token.parts.signed.protected (found_kept e Protected refl refl) says.protected;
      signature = says_whole e Signature token.parts.signed.signature (found_kept e Signature refl refl) says.signature;
      header = says.header;
      unprotected = subst (λ t. SaysOr IsObjectOf no_members t says.header) (header_kept e) says.unprotected;
      says = says.says;
    }

-- ---- the list of the entries

objects_kept : (es : Elements) → are_objects (form_elements es) ≡ are_objects es
objects_kept no_elements = refl
objects_kept (element (leaf l) es) = refl
objects_kept (element (array us) es) = refl
objects_kept (element (object ms) es) = objects_kept es

are_kept : (t : Tree) (m : Members) (later : Elements) → AreEntries t m later → AreEntries (form_tree t) (form_members m) (form_elements later)
are_kept t m later h = record { are = ap form_tree h.are; objects = objects_kept later ∙ h.objects }

-- the tree is a list of entries, of which these are kept
record Entered (t : Tree) (m : Members) (later : Elements) : Type 0 where
  one : Members
  rest : Elements
  are : AreEntries t one rest
  made : m ≡ form_members one
  behind : later ≡ form_elements rest

entered : (t : Tree) (m : Members) (later : Elements) → AreEntries (form_tree t) m later → Entered t m later
entered t m later h =
    let list = array_kept form_names (part_word Header) t (element (object m) later) h.are in
    let head = first_kept form_names (part_word Header) list.all (object m) later (sym list.made) in
    let one = object_kept form_names (part_word Header) head.first m (sym head.made) in
    record {
      one = one.all;
      rest = head.rest;
      are = record { are = list.is ∙ ap array (head.are ∙ ap (λ u. element u head.rest) one.is); objects = sym (objects_kept head.rest) ∙ ap are_objects (sym head.behind) ∙ h.objects };
      made = one.made;
      behind = head.behind;
    }

-- ---- stray entries

header_inside : (t : Tree) → get (form_tree t) (part_word Header) ≡ get t (part_word Header)
header_inside (leaf l) = refl
header_inside (array es) = refl
header_inside (object ms) = header_kept ms

stray_kept : (es : Elements) (place : ℕ) → IsStray es place → IsStray (form_elements es) place
stray_kept es place h =
    record {
      later = h.later;
      entry = form_tree h.entry;
      stands = element_kept form_names (part_word Header) es place ∙ ap (option_map form_tree) h.stands;
      odd = ap has_first_only (header_inside h.entry) ∙ h.odd;
    }

stray_whole : (es : Elements) (place : ℕ) → IsStray (form_elements es) place → IsStray es place
stray_whole es place h =
    let of = some_of form_tree (element_at es place) h.entry (sym (element_kept form_names (part_word Header) es place) ∙ h.stands) in
    record {
      later = h.later;
      entry = of.value;
      stands = of.is;
      odd = ap has_first_only (sym (header_inside of.value) ∙ ap (λ t. get t (part_word Header)) (sym of.made)) ∙ h.odd;
    }

first_stray_whole : (es : Elements) (o : Option ℕ) → IsFirstStray (form_elements es) o → IsFirstStray es o
first_stray_whole es None h = λ place s. h place (stray_kept es place s)
first_stray_whole es (Some k) h = record { fails = stray_whole es k h.fails; first = λ earlier low s. h.first earlier low (stray_kept es earlier s) }

-- ---- the entries of an object

-- the same entries, of the whole object
record Whole (ms : Members) (entries : Entries) : Type 0 where
  all : Entries
  has : HasEntries ms all
  stray : all.stray ≡ entries.stray
  made : entries.first ≡ form_members all.first

list_kept : (ms : Members) → found_part (form_members ms) Signatures ≡ option_map form_tree (found_part ms Signatures)
list_kept ms = found_kept ms Signatures refl refl

entries_whole : (ms : Members) (entries : Entries) → HasEntries (form_members ms) entries → Whole ms entries
entries_whole ms entries (itself none is unstray) =
    record { all = record { first = ms; stray = entries.stray }; has = itself (none_of form_tree (found_part ms Signatures) (sym (list_kept ms) ∙ none)) refl unstray; stray = refl; made = is }
entries_whole ms entries (listed list at has alone) =
    let of = some_of form_tree (found_part ms Signatures) list (sym (list_kept ms) ∙ at) in
    let here = entered of.value entries.first has.later (subst (λ t. AreEntries t entries.first has.later) of.made has.are) in
    let both : element (object entries.first) has.later ≡ form_elements (element (object here.one) here.rest) = ap (λ (m : Members). element (object m) has.later) here.made ∙ ap (element (object (form_members here.one))) here.behind in
    record {
      all = record { first = here.one; stray = entries.stray };
      has =
          listed of.value of.is
          (record { later = here.rest; are = here.are; stray = first_stray_whole (element (object here.one) here.rest) entries.stray (subst (λ es. IsFirstStray es entries.stray) both has.stray) })
          (sym (beside_same ms) ∙ alone);
      stray = refl;
      made = here.made;
    }

no_entries_whole : (ms : Members) → AreNoEntries (form_members ms) → AreNoEntries ms
no_entries_whole ms (no_list t at odd) =
    let of = some_of form_tree (found_part ms Signatures) t (sym (list_kept ms) ∙ at) in
    no_list of.value of.is (λ m later h. odd (form_members m) (form_elements later) (subst (λ u. AreEntries u (form_members m) (form_elements later)) (sym of.made) (are_kept of.value m later h)))
no_entries_whole ms (beside t at has) = let of = some_of form_tree (found_part ms Signatures) t (sym (list_kept ms) ∙ at) in beside of.value of.is (sym (beside_same ms) ∙ has)

no_entries_kept : (ms : Members) → AreNoEntries ms → AreNoEntries (form_members ms)
no_entries_kept ms (no_list t at odd) = no_list (form_tree t) (list_kept ms ∙ ap (option_map form_tree) at) (λ m later h. let here = entered t m later h in odd here.one here.rest here.are)
no_entries_kept ms (beside t at has) = beside (form_tree t) (list_kept ms ∙ ap (option_map form_tree) at) (beside_same ms ∙ has)

-- the list of the whole object, of which these elements are kept
record Listed (ms : Members) (es : Elements) : Type 0 where
  all : Elements
  at : found_part ms Signatures ≡ Some (array all)
  made : es ≡ form_elements all

listed_whole : (ms : Members) (es : Elements) → found_part (form_members ms) Signatures ≡ Some (array es) → Listed ms es
listed_whole ms es at =
    let of = some_of form_tree (found_part ms Signatures) (array es) (sym (list_kept ms) ∙ at) in
    let list = array_kept form_names (part_word Header) of.value es (sym of.made) in
    record { all = list.all; at = of.is ∙ ap Some list.is; made = list.made }

-- the entry of the whole object, of which these members are kept
record Entry (ms m : Members) : Type 0 where
  all : Members
  is : IsEntry ms all
  made : m ≡ form_members all

is_entry_whole : (ms m : Members) → IsEntry (form_members ms) m → Entry ms m
is_entry_whole ms m (flat none is) = record { all = ms; is = flat (none_of form_tree (found_part ms Signatures) (sym (list_kept ms) ∙ none)) refl; made = is }
is_entry_whole ms m (first later at) =
    let list = listed_whole ms (element (object m) later) at in
    let head = first_kept form_names (part_word Header) list.all (object m) later (sym list.made) in
    let one = object_kept form_names (part_word Header) head.first m (sym head.made) in
    record { all = one.all; is = first head.rest (list.at ∙ ap (λ es. Some (array es)) (head.are ∙ ap (λ u. element u head.rest) one.is)); made = one.made }

is_entry_kept : (ms m : Members) → IsEntry ms m → IsEntry (form_members ms) (form_members m)
is_entry_kept ms m (flat none is) = flat (list_kept ms ∙ ap (option_map form_tree) none) (ap form_members is)
is_entry_kept ms m (first later at) = first (form_elements later) (list_kept ms ∙ ap (option_map form_tree) at)

-- ---- an object

fails_whole : (ms : Members) (p : JsonPlace) → ObjectFails (form_members ms) p → ObjectFails ms p
fails_whole ms p (payload v) = payload (no_word_whole ms Payload p (found_kept ms Payload refl refl) v)
fails_whole ms p (signatures named v) = signatures named (no_entries_whole ms v)
fails_whole ms p (entry m at v) = let e = is_entry_whole ms m at in entry e.all e.is (entry_whole e.all p (subst (λ (us : Members). EntryFails us p) e.made v))
fails_whole ms p (stray es e named at v) = let list = listed_whole ms es at in stray list.all e named list.at (stray_whole list.all e (subst (λ (us : Elements). IsStray us e) list.made v))

fails_kept : (ms : Members) (p : JsonPlace) → ObjectFails ms p → ObjectFails (form_members ms) p
fails_kept ms p (payload v) = payload (no_word_kept ms Payload p (found_kept ms Payload refl refl) v)
fails_kept ms p (signatures named v) = signatures named (no_entries_kept ms v)
fails_kept ms p (entry m at v) = entry (form_members m) (is_entry_kept ms m at) (entry_kept m p v)
fails_kept ms p (stray es e named at v) = stray (form_elements es) e named (list_kept ms ∙ ap (option_map form_tree) at) (stray_kept es e v)

lowest_whole : (ms : Members) (p : JsonPlace) → IsLowestBy row_of (ObjectFails (form_members ms)) p → IsLowestBy row_of (ObjectFails ms) p
lowest_whole ms p h = record { applies = fails_whole ms p h.applies; lowest = λ o v. h.lowest o (fails_kept ms o v) }

say_whole : (ms : Members) (token : Token) → MembersSay (form_members ms) token → MembersSay ms token
say_whole ms token says =
    let at = entries_whole ms says.entries says.has in
    record {
      entries = at.all;
      has = at.has;
      none_stray = at.stray ∙ says.none_stray;
      payload = says_whole ms Payload token.parts.signed.payload (found_kept ms Payload refl refl) says.payload;
      entry = entry_says_whole at.all.first token (subst (λ (us : Members). EntrySays us token) at.made says.entry);
    }

-- ---- a text

-- the names are those of the form, as the code spells them
pub as_form : (bytes : Text) (t : Tree) (a b c d e : Text) → a ≡ part_word Payload → b ≡ part_word Signatures → c ≡ part_word Protected → d ≡ part_word Signature → e ≡ part_word Header
    → ReadsKept (a ∷ b ∷ c ∷ d ∷ e ∷ []) e bytes t → ReadsKept form_names (part_word Header) bytes t
as_form bytes t a b c d e is_a is_b is_c is_d is_e reads =
    let names : (a ∷ b ∷ c ∷ d ∷ e ∷ []) ≡ form_names = cc in
    subst (λ (whole : Text). ReadsKept form_names whole bytes t) is_e (subst (λ (ns : List Text). ReadsKept ns e bytes t) names reads)

-- the text is that of an object, of which these members are kept
record ReadsObject (bytes : Text) (ms : Members) : Type 0 where
  all : Members
  reads : Reads bytes (object all)
  made : ms ≡ form_members all

reads_object : (bytes : Text) (ms : Members) → ReadsKept form_names (part_word Header) bytes (object ms) → ReadsObject bytes ms
reads_object bytes ms h =
    let one = object_kept form_names (part_word Header) h.all ms (sym h.is) in
    record { all = one.all; reads = subst (Reads bytes) one.is h.reads; made = one.made }

pub kept_json : (bytes : Text) (ms : Members) (token : Token) → ReadsKept form_names (part_word Header) bytes (object ms) → MembersSay ms token → IsJson token bytes
kept_json bytes ms token reads says =
    let one = reads_object bytes ms reads in
    json_of bytes one.all token one.reads (say_whole one.all token (subst (λ (us : Members). MembersSay us token) one.made says))

pub kept_place : (bytes : Text) (ms : Members) (p : JsonPlace) → ReadsKept form_names (part_word Header) bytes (object ms) → IsLowestBy row_of (ObjectFails ms) p → IsJsonPlace bytes p
kept_place bytes ms p reads is =
    let one = reads_object bytes ms reads in
    first_of_members bytes one.all p one.reads (lowest_whole one.all p (subst (λ (us : Members). IsLowestBy row_of (ObjectFails us) p) one.made is))

pub kept_no_object : (bytes : Text) (t : Tree) (p : JsonPlace) → p ≡ NotObject → ReadsKept form_names (part_word Header) bytes t → ((ms : Members) → t ≢ object ms) → IsJsonPlace bytes p
kept_no_object bytes t p named reads odd = first_not_object bytes reads.all p named reads.reads (λ ms is. odd (form_members ms) (reads.is ∙ ap form_tree is))
