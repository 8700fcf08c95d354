-- A member says its value, or fails by it, and never both.
use Rattle.std.proofs.Common.{◌≡◌, ◌≤◌, List, [], Option, Some, None, Result, Ok, Err, IsErrAnd, refl, sym, ap, subst, ◌∙◌, arith}
use Rattle.claim_tree.specs.Tree.{Text, Tree, object, Members, no_members}
use Rattle.claim_tree.specs.Removed.{removed}
use Rattle.claim_tree.specs.TreeValues.{Says, MaySay, SaysOr, HasValue}
use Rattle.refusals.specs.PartWords.{part_word}
use Rattle.refusals.specs.declared.fault.Part.{Part}
use Rattle.refusals.specs.declared.fault.Part.TheVariants.{Protected, Signature, Header, Disclosures, KbJwt}
use Rattle.refusals.specs.declared.fault.JsonPlace.{JsonPlace}
use Rattle.refusals.specs.declared.fault.JsonPlace.TheVariants.{Wrong}
use Rattle.json_form.specs.declared.token.Token.{Token}
use Rattle.json_form.specs.declared.json_error.JsonFormError.{JsonFormError}
use Rattle.json_form.specs.Json.{found_part, IsWordTree, AreWordTrees, IsJwtTree, IsObjectOf, EntrySays}
use Rattle.refusals.specs.Lowest.{IsLowestBy}
use Rattle.json_form.specs.JsonPlaces.{part_row, row_of, IsNoWord, missing, other, IsWrongMember, EntryFails, protected, signature, header, disclosures, kb_jwt}
use Rattle.json_form.proofs.Members.{found_other}

-- ---- one member

pub says_word : (ms : Members) (part : Part) (s : Text) (o : JsonPlace) → Says IsWordTree (found_part ms part) s → IsNoWord ms part o → ⊥
says_word ms part s o says (missing is none) = subst (λ t. Says IsWordTree t s) none says
says_word ms part s o says (other t is stands odd) = odd (s, subst (λ u. Says IsWordTree u s) stands says)

says_or : {X : Type 0} (Is : Tree → X → Type 0) (default : X) (ms : Members) (part : Part) (x : X) (o : JsonPlace) → SaysOr Is default (found_part ms part) x → IsWrongMember Is ms part o → ⊥
says_or Is default ms part x o says wrong = wrong.no_value (x, subst (λ t. SaysOr Is default t x) wrong.stands says)

may_say : {X : Type 0} (Is : Tree → X → Type 0) (ms : Members) (part : Part) (x : Option X) (o : JsonPlace) → MaySay Is (found_part ms part) x → IsWrongMember Is ms part o → ⊥
may_say Is ms part None o says wrong = subst (λ t. MaySay Is t None) wrong.stands says
may_say Is ms part (Some y) o says wrong = wrong.no_value (y, subst (λ t. MaySay Is t (Some y)) wrong.stands says)

pub row_no_word : (ms : Members) (part : Part) (o : JsonPlace) → IsNoWord ms part o → row_of o ≡ part_row part
row_no_word ms part o (missing is none) = ap row_of is
row_no_word ms part o (other t is stands odd) = ap row_of is

pub row_wrong : {X : Type 0} (Is : Tree → X → Type 0) (ms : Members) (part : Part) (o : JsonPlace) → IsWrongMember Is ms part o → row_of o ≡ part_row part
row_wrong Is ms part o wrong = ap row_of wrong.named

pub wrong_here : {X : Type 0} (Is : Tree → X → Type 0) (ms : Members) (part : Part) (o : JsonPlace) (t : Tree) → o ≡ Wrong part → found_part ms part ≡ Some t → (HasValue Is t → ⊥) → IsWrongMember Is ms part o
wrong_here Is ms part o t named stands odd = record { named = named; tree = t; stands = stands; no_value = odd }

-- ---- the same member of other members

pub no_word_at : (ms ns : Members) (part : Part) (o : JsonPlace) → found_part ms part ≡ found_part ns part → IsNoWord ms part o → IsNoWord ns part o
no_word_at ms ns part o e (missing is none) = missing is (sym e ∙ none)
no_word_at ms ns part o e (other t is stands odd) = other t is (sym e ∙ stands) odd

pub wrong_at : {X : Type 0} (Is : Tree → X → Type 0) (ms ns : Members) (part : Part) (o : JsonPlace) → found_part ms part ≡ found_part ns part → IsWrongMember Is ms part o → IsWrongMember Is ns part o
wrong_at Is ms ns part o e wrong = record { named = wrong.named; tree = wrong.tree; stands = sym e ∙ wrong.stands; no_value = wrong.no_value }

-- what stands under the name in both
pub record SameEntry (ms ns : Members) : Type 0 where
  pub protected : found_part ms Protected ≡ found_part ns Protected
  pub signature : found_part ms Signature ≡ found_part ns Signature
  pub header : found_part ms Header ≡ found_part ns Header

pub back : (ms ns : Members) → SameEntry ms ns → SameEntry ns ms
back ms ns same = record { protected = sym same.protected; signature = sym same.signature; header = sym same.header }

entry_at : (ms ns : Members) (o : JsonPlace) → SameEntry ms ns → EntryFails ms o → EntryFails ns o
entry_at ms ns o same (protected v) = protected (no_word_at ms ns Protected o same.protected v)
entry_at ms ns o same (signature v) = signature (no_word_at ms ns Signature o same.signature v)
entry_at ms ns o same (header v) = header (wrong_at IsObjectOf ms ns Header o same.header v)
entry_at ms ns o same (disclosures h at v) = disclosures h (sym same.header ∙ at) v
entry_at ms ns o same (kb_jwt h at v) = kb_jwt h (sym same.header ∙ at) v

pub first_at : (ms ns : Members) (p : JsonPlace) → SameEntry ms ns → IsLowestBy row_of (EntryFails ms) p → IsLowestBy row_of (EntryFails ns) p
first_at ms ns p same is = record { applies = entry_at ms ns p same is.applies; lowest = λ o applies. is.lowest o (entry_at ns ms o (back ms ns same) applies) }

pub entry_says_at : (ms ns : Members) (token : Token) → SameEntry ms ns → EntrySays ms token → EntrySays ns token
entry_says_at ms ns token same says =
    record {
      protected = subst (λ t. Says IsWordTree t token.parts.signed.protected) same.protected says.protected;
      signature = subst (λ t. Says IsWordTree t token.parts.signed.signature) same.signature says.signature;
      header = says.header;
      unprotected = subst (λ t. SaysOr IsObjectOf no_members t says.header) same.header says.unprotected;
      says = says.says;
    }

-- ---- the header

pub same_header : (e h k : Members) → SaysOr IsObjectOf no_members (found_part e Header) h → found_part e Header ≡ Some (object k) → k ≡ h
same_header e h k says at = let same : object k ≡ object h = subst (λ t. SaysOr IsObjectOf no_members t h) at says in cc same

-- where a member of the header stands, the header does
header_there : (e h : Members) (part : Part) (t : Tree) → SaysOr IsObjectOf no_members (found_part e Header) h → found_part h part ≡ Some t → found_part e Header ≡ Some (object h)
header_there e h part t says stands = go (found_part e Header) says
  where
    go : (o : Option Tree) → SaysOr IsObjectOf no_members o h → o ≡ Some (object h)
    go None is = let both : None ≡ Some t = sym (ap (λ (ms : Members). found_part ms part) is) ∙ stands in cc both
    go (Some u) is = ap Some is

-- ---- an entry

pub lower : (e : Members) (o : JsonPlace) → EntryFails e o → 5 ≤ row_of o
lower e o (protected v) = omega (arith, row_no_word e Protected o v)
lower e o (signature v) = omega (arith, row_no_word e Signature o v)
lower e o (header v) = omega (arith, row_wrong IsObjectOf e Header o v)
lower e o (disclosures h at v) = omega (arith, row_wrong AreWordTrees h Disclosures o v)
lower e o (kb_jwt h at v) = omega (arith, row_wrong IsJwtTree h KbJwt o v)

pub upper : (e : Members) (o : JsonPlace) → EntryFails e o → row_of o ≤ 9
upper e o (protected v) = omega (arith, row_no_word e Protected o v)
upper e o (signature v) = omega (arith, row_no_word e Signature o v)
upper e o (header v) = omega (arith, row_wrong IsObjectOf e Header o v)
upper e o (disclosures h at v) = omega (arith, row_wrong AreWordTrees h Disclosures o v)
upper e o (kb_jwt h at v) = omega (arith, row_wrong IsJwtTree h KbJwt o v)

pub first_protected : (e : Members) (p : JsonPlace) → IsNoWord e Protected p → IsLowestBy row_of (EntryFails e) p
first_protected e p w = record { applies = protected w; lowest = λ o applies. omega (arith, row_no_word e Protected p w, lower e o applies) }

pub first_signature : (e : Members) (s : Text) (p : JsonPlace) → Says IsWordTree (found_part e Protected) s → IsNoWord e Signature p → IsLowestBy row_of (EntryFails e) p
first_signature e s p says w = record { applies = signature w; lowest = go }
  where
    go : (o : JsonPlace) → EntryFails e o → row_of p ≤ row_of o
    go o (protected v) = absurd (says_word e Protected s o says v)
    go o (signature v) = omega (arith, row_no_word e Signature p w, row_no_word e Signature o v)
    go o (header v) = omega (arith, row_no_word e Signature p w, row_wrong IsObjectOf e Header o v)
    go o (disclosures h at v) = omega (arith, row_no_word e Signature p w, row_wrong AreWordTrees h Disclosures o v)
    go o (kb_jwt h at v) = omega (arith, row_no_word e Signature p w, row_wrong IsJwtTree h KbJwt o v)

-- both words of the entry are there
pub record HasBoth (e : Members) (s u : Text) : Type 0 where
  pub protected : Says IsWordTree (found_part e Protected) s
  pub signature : Says IsWordTree (found_part e Signature) u

pub first_header : (e : Members) (s u : Text) (p : JsonPlace) → HasBoth e s u → IsWrongMember IsObjectOf e Header p → IsLowestBy row_of (EntryFails e) p
first_header e s u p both w = record { applies = header w; lowest = go }
  where
    go : (o : JsonPlace) → EntryFails e o → row_of p ≤ row_of o
    go o (protected v) = absurd (says_word e Protected s o both.protected v)
    go o (signature v) = absurd (says_word e Signature u o both.signature v)
    go o (header v) = omega (arith, row_wrong IsObjectOf e Header p w, row_wrong IsObjectOf e Header o v)
    go o (disclosures h at v) = omega (arith, row_wrong IsObjectOf e Header p w, row_wrong AreWordTrees h Disclosures o v)
    go o (kb_jwt h at v) = omega (arith, row_wrong IsObjectOf e Header p w, row_wrong IsJwtTree h KbJwt o v)

pub first_disclosures : (e : Members) (s u : Text) (k : Members) (p : JsonPlace) → HasBoth e s u → SaysOr IsObjectOf no_members (found_part e Header) k → IsWrongMember AreWordTrees k Disclosures p → IsLowestBy row_of (EntryFails e) p
first_disclosures e s u k p both says w = record { applies = disclosures k (header_there e k Disclosures w.tree says w.stands) w; lowest = go }
  where
    go : (o : JsonPlace) → EntryFails e o → row_of p ≤ row_of o
    go o (protected v) = absurd (says_word e Protected s o both.protected v)
    go o (signature v) = absurd (says_word e Signature u o both.signature v)
    go o (header v) = absurd (says_or IsObjectOf no_members e Header k o says v)
    go o (disclosures h at v) = omega (arith, row_wrong AreWordTrees k Disclosures p w, row_wrong AreWordTrees h Disclosures o v)
    go o (kb_jwt h at v) = omega (arith, row_wrong AreWordTrees k Disclosures p w, row_wrong IsJwtTree h KbJwt o v)

pub first_kb_jwt : (e : Members) (s u : Text) (k : Members) (texts : List Text) (p : JsonPlace) → HasBoth e s u → SaysOr IsObjectOf no_members (found_part e Header) k → SaysOr AreWordTrees [] (found_part k Disclosures) texts
    → IsWrongMember IsJwtTree k KbJwt p → IsLowestBy row_of (EntryFails e) p
first_kb_jwt e s u k texts p both says list w = record { applies = kb_jwt k (header_there e k KbJwt w.tree says w.stands) w; lowest = go }
  where
    go : (o : JsonPlace) → EntryFails e o → row_of p ≤ row_of o
    go o (protected v) = absurd (says_word e Protected s o both.protected v)
    go o (signature v) = absurd (says_word e Signature u o both.signature v)
    go o (header v) = absurd (says_or IsObjectOf no_members e Header k o says v)
    go o (disclosures h at v) = absurd (says_or AreWordTrees [] k Disclosures texts o list (subst (λ (ms : Members). IsWrongMember AreWordTrees ms Disclosures o) (same_header e k h says at) v))
    go o (kb_jwt h at v) = omega (arith, row_wrong IsJwtTree k KbJwt p w, row_wrong IsJwtTree h KbJwt o v)

-- an entry that says a token fails by nothing
pub entry_says : (e : Members) (token : Token) (o : JsonPlace) → EntrySays e token → EntryFails e o → ⊥
entry_says e token o says (protected v) = says_word e Protected token.parts.signed.protected o says.protected v
entry_says e token o says (signature v) = says_word e Signature token.parts.signed.signature o says.signature v
entry_says e token o says (header v) = says_or IsObjectOf no_members e Header says.header o says.unprotected v
entry_says e token o says (disclosures h at v) =
    says_or AreWordTrees [] says.header Disclosures token.parts.disclosures o says.says.disclosures (subst (λ (ms : Members). IsWrongMember AreWordTrees ms Disclosures o) (same_header e says.header h says.unprotected at) v)
entry_says e token o says (kb_jwt h at v) =
    may_say IsJwtTree says.header KbJwt token.parts.binding o says.says.binding (subst (λ (ms : Members). IsWrongMember IsJwtTree ms KbJwt o) (same_header e says.header h says.unprotected at) v)

-- ---- an entry whose words are taken out one by one

signature_kept : (e after : Members) → after ≡ removed e (part_word Protected) → found_part after Signature ≡ found_part e Signature
signature_kept e after gone = ap (λ (ms : Members). found_part ms Signature) gone ∙ found_other e Protected Signature refl

-- the second word is there no more than before
pub no_signature : (e after : Members) (o : JsonPlace) → after ≡ removed e (part_word Protected) → IsNoWord after Signature o → IsNoWord e Signature o
no_signature e after o gone none = no_word_at after e Signature o (signature_kept e after gone) none

pub both_said : (e after : Members) (s u : Text) → after ≡ removed e (part_word Protected) → Says IsWordTree (found_part e Protected) s → Says IsWordTree (found_part after Signature) u → HasBoth e s u
both_said e after s u gone first second = record { protected = first; signature = subst (λ t. Says IsWordTree t u) (signature_kept e after gone) second }

pub header_kept : (e after last : Members) → after ≡ removed e (part_word Protected) → last ≡ removed after (part_word Signature) → found_part last Header ≡ found_part e Header
header_kept e after last first second =
    ap (λ (ms : Members). found_part ms Header) second ∙ found_other after Signature Header refl ∙ ap (λ (ms : Members). found_part ms Header) first ∙ found_other e Protected Header refl

pub header_said : (e after last h : Members) → after ≡ removed e (part_word Protected) → last ≡ removed after (part_word Signature) → SaysOr IsObjectOf no_members (found_part last Header) h → SaysOr IsObjectOf no_members (found_part e Header) h
header_said e after last h first second = subst (λ t. SaysOr IsObjectOf no_members t h) (header_kept e after last first second)

pub binding_kept : (h rest : Members) → rest ≡ removed h (part_word Disclosures) → found_part rest KbJwt ≡ found_part h KbJwt
binding_kept h rest gone = ap (λ (ms : Members). found_part ms KbJwt) gone ∙ found_other h Disclosures KbJwt refl

-- ---- answers

-- an error that is handed on
pub same_error : {T : Type 0} (r : Result T JsonFormError) (inner : JsonFormError) (place : JsonPlace) → IsErrAnd r (λ error. error ≡ inner) → r ≡ Err (JsonFormError.Fault place) → inner ≡ JsonFormError.Fault place
same_error (Ok x) inner place handed wanted = absurd handed
same_error (Err error) inner place handed wanted = let same : error ≡ JsonFormError.Fault place = cc wanted in sym handed ∙ same

-- a place that is handed on as an error
pub same_place : {T : Type 0} (r : Result T JsonFormError) (p place : JsonPlace) → IsErrAnd r (λ error. error ≡ JsonFormError.Fault p) → r ≡ Err (JsonFormError.Fault place) → p ≡ place
same_place r p place handed wanted = let faults : JsonFormError.Fault p ≡ JsonFormError.Fault place = same_error r (JsonFormError.Fault p) place handed wanted in cc faults
