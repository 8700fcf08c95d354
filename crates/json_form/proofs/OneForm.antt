-- A text says one token, or fails at one first place.
use Rattle.std.proofs.Common.{◌≡◌, ℕ, List, [], Option, Some, None, ◌==◌, if◌then◌else◌, refl, sym, ap, subst, ◌∙◌, arith}
use Rattle.claim_tree.specs.Tree.{Text, text, Tree, leaf, array, object, element, Members, no_members}
use Rattle.claim_tree.specs.Removed.{removed}
use Rattle.claim_tree.specs.TreeValues.{MaySay, SaysOr}
use Rattle.claim_tree.proofs.TreeValues.{SaysOne, says_one, may_say_one, says_or_one, one_texts}
use Rattle.claim_tree.proofs.OneTree.{is_json, is_whole, one_cause, one_tree}
use Rattle.compact_form.specs.Compact.{jwt, HasWords, compact, IsCompact}
use Rattle.refusals.specs.PartWords.{part_word}
use Rattle.compact_form.specs.declared.parts.JwtParts.{JwtParts}
use Rattle.compact_form.specs.declared.parts.Parts.{Parts}
use Rattle.refusals.specs.declared.fault.Part.{Part}
use Rattle.refusals.specs.declared.fault.Part.TheVariants.{Payload, Protected, Signature, Header, Disclosures, KbJwt}
use Rattle.refusals.specs.declared.fault.JsonPlace.{JsonPlace}
use Rattle.refusals.specs.declared.fault.JsonPlace.TheVariants.{Missing, Wrong, Stray}
use Rattle.compact_form.proofs.Unique.{one_spelling}
use Rattle.json_form.specs.declared.token.Token.{Token}
use Rattle.json_form.specs.Json.{found_part, IsWordTree, AreWordTrees, IsJwtTree, IsObjectOf, EntrySays, IsJson}
use Rattle.json_form.specs.JsonPlaces.{row_of, IsNoWord, missing, other, IsEntry, flat, first, EntryFails, protected, signature, header, disclosures, kb_jwt, ObjectFails, payload, signatures, entry, stray, JsonFails, not_json, not_whole, not_object, members, IsJsonPlace}
use Rattle.json_form.specs.MembersRead.{MembersSay}
use Rattle.json_form.proofs.SayOrFail.{row_no_word, row_wrong, lower, upper}
use Rattle.json_form.proofs.Objects.{one_entry, is_entry, one_object, of_json, says_nothing_wrong}

-- ---- one value

one_word : SaysOne IsWordTree
one_word t x y h k = let both : leaf (text x) ≡ leaf (text y) = sym h.is ∙ k.is in cc both

one_list : SaysOne AreWordTrees
one_list t x y h k = one_texts t x y h.are k.are

abbrev alone : JwtParts → Parts
alone j = record { signed = j; disclosures = []; binding = None }

alone_is : (j : JwtParts) (bytes : Text) → HasWords j → bytes ≡ compact (alone j) → IsCompact (alone j) bytes
alone_is j bytes words is = record { signed = words; disclosures = tt; binding = tt; spelling = is }

one_jwt : SaysOne IsJwtTree
one_jwt t x y h k =
    let both : leaf (text (jwt x)) ≡ leaf (text (jwt y)) = sym h.is ∙ k.is in
    let same : jwt x ≡ jwt y = cc both in
    let spelled : compact (alone x) ≡ compact (alone y) = rw same refl in
    ap (λ (p : Parts). p.signed) (one_spelling (alone x) (alone y) (compact (alone x)) (alone_is x (compact (alone x)) h.words refl) (alone_is y (compact (alone x)) k.words spelled))

one_header : SaysOne IsObjectOf
one_header t x y h k = let both : object x ≡ object y = sym h ∙ k in cc both

-- ---- one token

record SameToken (t u : Token) : Type 0 where
  payload : t.parts.signed.payload ≡ u.parts.signed.payload
  protected : t.parts.signed.protected ≡ u.parts.signed.protected
  signature : t.parts.signed.signature ≡ u.parts.signed.signature
  disclosures : t.parts.disclosures ≡ u.parts.disclosures
  binding : t.parts.binding ≡ u.parts.binding
  outer : t.outer ≡ u.outer

abbrev made : Text → Text → Text → List Text → Option JwtParts → Members → Token
made p q s texts b o = record { parts = record { signed = record { protected = q; payload = p; signature = s }; disclosures = texts; binding = b }; outer = o }

same_made : (p q s : Text) (texts : List Text) (b : Option JwtParts) (o : Members) (p' q' s' : Text) (texts' : List Text) (b' : Option JwtParts) (o' : Members)
    → p ≡ p' → q ≡ q' → s ≡ s' → texts ≡ texts' → b ≡ b' → o ≡ o' → made p q s texts b o ≡ made p' q' s' texts' b' o'
same_made p q s texts b o p' q' s' texts' b' o' e f g h i j = cc

same_token : (t u : Token) → SameToken t u → t ≡ u
same_token t u same =
    same_made t.parts.signed.payload t.parts.signed.protected t.parts.signed.signature t.parts.disclosures t.parts.binding t.outer
    u.parts.signed.payload u.parts.signed.protected u.parts.signed.signature u.parts.disclosures u.parts.binding u.outer
    same.payload same.protected same.signature same.disclosures same.binding same.outer

one_said : (e : Members) (t u : Token) → EntrySays e t → EntrySays e u → t.parts.signed.payload ≡ u.parts.signed.payload → t ≡ u
one_said e t u h k same =
    let headers : h.header ≡ k.header = says_or_one IsObjectOf no_members (found_part e Header) h.header k.header one_header h.unprotected k.unprotected in
    let a = h.says in
    let b = subst (λ (ms : Members). SaysOr AreWordTrees [] (found_part ms Disclosures) u.parts.disclosures) (sym headers) k.says.disclosures in
    same_token t u (
    record {
      payload = same;
      protected = says_one IsWordTree (found_part e Protected) t.parts.signed.protected u.parts.signed.protected one_word h.protected k.protected;
      signature = says_one IsWordTree (found_part e Signature) t.parts.signed.signature u.parts.signed.signature one_word h.signature k.signature;
      disclosures = says_or_one AreWordTrees [] (found_part h.header Disclosures) t.parts.disclosures u.parts.disclosures one_list a.disclosures b;
      binding = may_say_one IsJwtTree (found_part h.header KbJwt) t.parts.binding u.parts.binding one_jwt a.binding (subst (λ (ms : Members). MaySay IsJwtTree (found_part ms KbJwt) u.parts.binding) (sym headers) k.says.binding);
      outer = a.outer ∙ ap (λ (ms : Members). removed (removed ms (part_word Disclosures)) (part_word KbJwt)) headers ∙ sym k.says.outer;
    }
    )

one_of_members : (ms : Members) (t u : Token) → MembersSay ms t → MembersSay ms u → t ≡ u
one_of_members ms t u h k =
    let same : k.entries.first ≡ h.entries.first = one_entry ms h.entries k.entries.first h.has (is_entry ms k.entries k.has) in
    one_said h.entries.first t u h.entry (subst (λ (e : Members). EntrySays e u) same k.entry) (says_one IsWordTree (found_part ms Payload) t.parts.signed.payload u.parts.signed.payload one_word h.payload k.payload)

pub one_json : (bytes : Text) (t u : Token) → IsJson t bytes → IsJson u bytes → t ≡ u
one_json bytes t u h k =
    let a = of_json t bytes h in
    let b = of_json u bytes k in
    one_of_members a.members t u a.says (subst (λ (ms : Members). MembersSay ms u) (one_object bytes b.members a.members b.reads a.reads) b.says)

pub no_fault : (bytes : Text) (t : Token) (p : JsonPlace) → IsJson t bytes → JsonFails bytes p → ⊥
no_fault bytes t p h = let a = of_json t bytes h in says_nothing_wrong bytes a.members t p a.reads a.says

-- ---- one fault

no_word_one : (ms : Members) (part : Part) (f g : JsonPlace) → IsNoWord ms part f → IsNoWord ms part g → f ≡ g
no_word_one ms part f g (missing is none) (missing was gone) = is ∙ sym was
no_word_one ms part f g (missing is none) (other t was stands odd) = let both : None ≡ Some t = sym none ∙ stands in cc both
no_word_one ms part f g (other t is stands odd) (missing was gone) = let both : Some t ≡ None = sym stands ∙ gone in cc both
no_word_one ms part f g (other t is stands odd) (other u was there even) = is ∙ sym was

-- the place that an entry names in a row
abbrev word_place : Option Tree → Part → JsonPlace
word_place None part = Missing part
word_place (Some t) part = Wrong part

word_place_is : (ms : Members) (part : Part) (o : JsonPlace) → IsNoWord ms part o → o ≡ word_place (found_part ms part) part
word_place_is ms part o (missing is none) = is ∙ ap (λ t. word_place t part) (sym none)
word_place_is ms part o (other t is stands odd) = is ∙ ap (λ t. word_place t part) (sym stands)

abbrev named : Members → ℕ → JsonPlace
named e row = if row == 5 then word_place (found_part e Protected) Protected else if row == 6 then word_place (found_part e Signature) Signature else if row == 7 then Wrong Header else if row == 8 then Wrong Disclosures else Wrong KbJwt

named_is : (e : Members) (o : JsonPlace) → EntryFails e o → o ≡ named e (row_of o)
named_is e o (protected v) = word_place_is e Protected o v ∙ sym (ap (named e) (row_no_word e Protected o v))
named_is e o (signature v) = word_place_is e Signature o v ∙ sym (ap (named e) (row_no_word e Signature o v))
named_is e o (header v) = v.named ∙ sym (ap (named e) (row_wrong IsObjectOf e Header o v))
named_is e o (disclosures h at v) = v.named ∙ sym (ap (named e) (row_wrong AreWordTrees h Disclosures o v))
named_is e o (kb_jwt h at v) = v.named ∙ sym (ap (named e) (row_wrong IsJwtTree h KbJwt o v))

entry_one : (e : Members) (f g : JsonPlace) → EntryFails e f → EntryFails e g → row_of f ≡ row_of g → f ≡ g
entry_one e f g h k same = named_is e f h ∙ ap (named e) same ∙ sym (named_is e g k)

same_entry : (ms m n : Members) → IsEntry ms m → IsEntry ms n → m ≡ n
same_entry ms m n (flat none is) (flat absent was) = is ∙ sym was
same_entry ms m n (flat none is) (first later at) = let both : None ≡ Some (array (element (object n) later)) = sym none ∙ at in cc both
same_entry ms m n (first later at) (flat absent was) = let both : Some (array (element (object m) later)) ≡ None = sym at ∙ absent in cc both
same_entry ms m n (first later at) (first others there) =
    let both : Some (array (element (object m) later)) ≡ Some (array (element (object n) others)) = sym at ∙ there in
    cc both

-- the rows of an object, by what it fails by
members_one : (ms : Members) (f g : JsonPlace) → ObjectFails ms f → ObjectFails ms g → row_of f ≡ row_of g → f ≡ g
members_one ms f g (payload v) (payload w) same = no_word_one ms Payload f g v w
members_one ms f g (payload v) (signatures was w) same = absurd (omega (arith, same, row_no_word ms Payload f v, ap row_of was))
members_one ms f g (payload v) (entry n at w) same = absurd (omega (arith, same, row_no_word ms Payload f v, lower n g w))
members_one ms f g (payload v) (stray es e was at w) same = absurd (omega (arith, same, row_no_word ms Payload f v, ap row_of was))
members_one ms f g (signatures is v) (payload w) same = absurd (omega (arith, same, ap row_of is, row_no_word ms Payload g w))
members_one ms f g (signatures is v) (signatures was w) same = is ∙ sym was
members_one ms f g (signatures is v) (entry n at w) same = absurd (omega (arith, same, ap row_of is, lower n g w))
members_one ms f g (signatures is v) (stray es e was at w) same = absurd (omega (arith, same, ap row_of is, ap row_of was))
members_one ms f g (entry m here v) (payload w) same = absurd (omega (arith, same, lower m f v, row_no_word ms Payload g w))
members_one ms f g (entry m here v) (signatures was w) same = absurd (omega (arith, same, lower m f v, ap row_of was))
members_one ms f g (entry m here v) (entry n at w) same = entry_one m f g v (subst (λ (us : Members). EntryFails us g) (same_entry ms n m at here) w) same
members_one ms f g (entry m here v) (stray es e was at w) same = absurd (omega (arith, same, upper m f v, ap row_of was))
members_one ms f g (stray us d is here v) (payload w) same = absurd (omega (arith, same, ap row_of is, row_no_word ms Payload g w))
members_one ms f g (stray us d is here v) (signatures was w) same = absurd (omega (arith, same, ap row_of is, ap row_of was))
members_one ms f g (stray us d is here v) (entry n at w) same = absurd (omega (arith, same, ap row_of is, upper n g w))
members_one ms f g (stray us d is here v) (stray es e was at w) same = let places : d ≡ e = omega (arith, same, ap row_of is, ap row_of was) in is ∙ ap Stray places ∙ sym was

row_one : (bytes : Text) (f g : JsonPlace) → JsonFails bytes f → JsonFails bytes g → row_of f ≡ row_of g → f ≡ g
row_one bytes f g (not_json is v) (not_json was w) same = is ∙ sym was
row_one bytes f g (not_json is v) (not_whole was w) same = absurd (one_cause bytes v w)
row_one bytes f g (not_json is v) (not_object t was r w) same = absurd (is_json bytes t r v)
row_one bytes f g (not_json is v) (members ms r w) same = absurd (is_json bytes (object ms) r v)
row_one bytes f g (not_whole is v) (not_json was w) same = absurd (one_cause bytes w v)
row_one bytes f g (not_whole is v) (not_whole was w) same = is ∙ sym was
row_one bytes f g (not_whole is v) (not_object t was r w) same = absurd (is_whole bytes t r v)
row_one bytes f g (not_whole is v) (members ms r w) same = absurd (is_whole bytes (object ms) r v)
row_one bytes f g (not_object u is q v) (not_json was w) same = absurd (is_json bytes u q w)
row_one bytes f g (not_object u is q v) (not_whole was w) same = absurd (is_whole bytes u q w)
row_one bytes f g (not_object u is q v) (not_object t was r w) same = is ∙ sym was
row_one bytes f g (not_object u is q v) (members ms r w) same = absurd (v ms (one_tree bytes u (object ms) q r))
row_one bytes f g (members ns q v) (not_json was w) same = absurd (is_json bytes (object ns) q w)
row_one bytes f g (members ns q v) (not_whole was w) same = absurd (is_whole bytes (object ns) q w)
row_one bytes f g (members ns q v) (not_object t was r w) same = absurd (w ns (one_tree bytes t (object ns) r q))
row_one bytes f g (members ns q v) (members ms r w) same = members_one ns f g v (subst (λ (us : Members). ObjectFails us g) (one_object bytes ms ns r q) w) same

pub one_fault : (bytes : Text) (f g : JsonPlace) → IsJsonPlace bytes f → IsJsonPlace bytes g → f ≡ g
one_fault bytes f g h k = row_one bytes f g h.applies k.applies (let a = h.lowest g k.applies in let b = k.lowest f h.applies in omega (arith, a, b))
