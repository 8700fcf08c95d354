-- What is written of a token with no other members in its unprotected header: it is read as the token, and is not too long.
use Rattle.std.proofs.Common.{◌≡◌, ℕ, ◌+◌, ◌*◌, ◌<◌, ◌≤◌, Bool, true, false, List, [], ◌∷◌, ◌++◌, length, length-append, Option, Some, None, IfSome, IsUtf8, inl, inr, refl, sym, ap, subst, ◌∙◌, arith}
use Rattle.std.specs.List.{AllByRecursion}
use Rattle.std.proofs.lemmas.Grind.{flat_map-append}
use Rattle.std.proofs.lemmas.Str.{IsUtf8-append, IsUtf8-from_ascii}
use Rattle.json.specs.Print.{escape, escape_byte, quoted}
use Rattle.json.proofs.Printed.Utf8.{IsUtf8-are_ascii, IsUtf8-quoted}
use Rattle.serde_json.specs.Written.{items_text, members_text, comma_if}
use Rattle.b64url_text.specs.Base64url.{letters, is_letter, IsWord}
use Rattle.b64url_text.proofs.Words.{IsAscii-letters}
use Rattle.claim_tree.specs.Tree.{Text, text, Tree, leaf, array, object, no_elements, element, Members, no_members, member, IsOrdered, MembersOrdered, inserted}
use Rattle.claim_tree.specs.TreeValues.{text_elements}
use Rattle.claim_tree.specs.JsonText.{elements_data, members_data, json_text}
use Rattle.claim_tree.proofs.RoundTrip.{read_of_text}
use Rattle.refusals.specs.declared.condition.Condition.{Condition}
use Rattle.refusals.specs.Faults.{unplaced}
use Rattle.sd_outside.specs.Limits.{compact_max, count_max}
use Rattle.compact_form.specs.Compact.{jwt, spelled, hashed, ending, compact, HasWords, AreWords}
use Rattle.refusals.specs.PartWords.{part_word}
use Rattle.refusals.specs.declared.fault.Part.{Part}
use Rattle.refusals.specs.declared.fault.Part.TheVariants.{Payload, Protected, Signature, Signatures, Header, Disclosures, KbJwt}
use Rattle.compact_form.specs.declared.parts.JwtParts.{JwtParts}
use Rattle.compact_form.specs.declared.parts.Parts.{Parts}
use Rattle.json_form.specs.declared.token.Token.{Token}
use Rattle.compact_form.specs.Trim.{trimmed, is_json}
use Rattle.compact_form.proofs.Printed.{reads_printed}
use Rattle.compact_form.proofs.Trimmed.{printed_plainly}
use Rattle.json_form.specs.Json.{found_part, IsFlat, IsGeneral}
use Rattle.json_form.specs.Token.{Spells, spells_compact, spells_json, IsTooMuch, too_much, IsToken}
use Rattle.json_form.specs.Written.{with_binding, written_header, flat_members, flat_of, entry_of, general_members, general_of}
use Rattle.json_form.specs.Printable.{IsPrintable}
use Rattle.json_form.proofs.Lines.{read_json_text}
use Rattle.b64url_text.proofs.PlainLetters.{plain_letters}
use Rattle.json_form.proofs.Tokens.{read_plainly}
use Rattle.json_form.proofs.WrittenForms.{entry_words, flat_ranged, flat_depth, flat_says, general_ranged, general_depth, general_says}
use Rattle.claim_tree.proofs.TextElements.{texts_ordered}

-- ---- texts that are UTF-8 and no longer than a number

record IsWithin (x : Text) (n : ℕ) : Type 0 where
  utf8 : IsUtf8 x
  short : length x ≤ n

within_both : (x y : Text) (m n : ℕ) → IsWithin x m → IsWithin y n → IsWithin (x ++ y) (m + n)
within_both x y m n a b = record { utf8 = IsUtf8-append x y a.utf8 b.utf8; short = omega (arith, length-append x y, a.short, b.short) }

within_byte : (b : ℕ) (x : Text) (n : ℕ) → IsUtf8 (b ∷ []) → IsWithin x n → IsWithin (b ∷ x) (1 + n)
within_byte b x n one a = within_both (b ∷ []) x 1 n (record { utf8 = one; short = omega arith }) a

-- a text of letters and dots, in quotes
record IsBare (x : Text) : Type 0 where
  utf8 : IsUtf8 x
  bare : escape x ≡ x

bare_word : (w : Text) → IsWord w → IsBare w
bare_word w word = record { utf8 = IsUtf8-from_ascii w (IsAscii-letters w word.letters); bare = plain_letters w word.letters }

bare_both : (x y : Text) → IsBare x → IsBare y → IsBare (x ++ y)
bare_both x y a b = record { utf8 = IsUtf8-append x y a.utf8 b.utf8; bare = flat_map-append escape_byte x y ∙ rw (a.bare, b.bare) refl }

bare_dot : IsBare (46 ∷ [])
unfolding escape_byte
bare_dot = record { utf8 = IsUtf8-are_ascii (46 ∷ []) refl; bare = refl }

bare_jwt : (j : JwtParts) → HasWords j → IsBare (jwt j)
bare_jwt j words =
    bare_both j.protected (46 ∷ (j.payload ++ (46 ∷ j.signature))) (bare_word j.protected words.protected)
    (bare_both (46 ∷ []) (j.payload ++ (46 ∷ j.signature)) bare_dot
    (bare_both j.payload (46 ∷ j.signature) (bare_word j.payload words.payload) (bare_both (46 ∷ []) j.signature bare_dot (bare_word j.signature words.signature))))

within_quotes : (x : Text) → IsBare x → IsWithin (quoted x) (length x + 2)
within_quotes x a = record { utf8 = IsUtf8-quoted x a.utf8; short = omega (arith, length-append (escape x) (34 ∷ []), ap length a.bare) }

-- ---- lists and members

within_comma : (later : Bool) (x : Text) (n : ℕ) → IsWithin x n → IsWithin (comma_if later ++ x) (1 + n)
within_comma true x n a = within_byte 44 x n (IsUtf8-are_ascii (44 ∷ []) refl) a
within_comma false x n a = record { utf8 = a.utf8; short = omega (arith, a.short) }

within_items : (later : Bool) (ds : List Text) → AllByRecursion IsWord ds → IsWithin (items_text later (elements_data (text_elements ds))) (length (spelled ds) + 2 * length ds + 1)
within_items later [] words = record { utf8 = IsUtf8-are_ascii (93 ∷ []) refl; short = omega arith }
within_items later (d ∷ ds) words =
    let rest = items_text true (elements_data (text_elements ds)) in
    let n = length (spelled ds) + 2 * length ds + 1 in
    let both = within_comma later (quoted d ++ rest) (length d + 2 + n) (within_both (quoted d) rest (length d + 2) n (within_quotes d (bare_word d words.0)) (within_items true ds words.1)) in
    record { utf8 = both.utf8; short = omega (arith, both.short, length-append (d ++ 126 ∷ []) (spelled ds), length-append d (126 ∷ [])) }

abbrev members_after : Bool → Members → Text
members_after later ms = members_text later (members_data ms)

within_member : (later : Bool) (name : Text) (t : Tree) (ms : Members) (m n : ℕ) → IsBare name → IsWithin (json_text t) m → IsWithin (members_after true ms) n
    → IsWithin (members_after later (member name t ms)) (length name + m + n + 4)
within_member later name t ms m n bare a b =
    let rest = json_text t ++ members_after true ms in
    let colon = within_byte 58 rest (m + n) (IsUtf8-are_ascii (58 ∷ []) refl) (within_both (json_text t) (members_after true ms) m n a b) in
    let all = within_comma later (quoted name ++ 58 ∷ rest) (length name + 2 + (1 + (m + n))) (within_both (quoted name) (58 ∷ rest) (length name + 2) (1 + (m + n)) (within_quotes name bare) colon) in
    record { utf8 = all.utf8; short = omega (arith, all.short) }

within_none : IsWithin (members_after true no_members) 1
within_none = record { utf8 = IsUtf8-are_ascii (125 ∷ []) refl; short = omega arith }

-- a member that is a text
within_word : (later : Bool) (name s : Text) (ms : Members) (n : ℕ) → IsBare name → IsBare s → IsWithin (members_after true ms) n
    → IsWithin (members_after later (member name (leaf (text s)) ms)) (length name + length s + n + 6)
within_word later name s ms n bare is a =
    let all = within_member later name (leaf (text s)) ms (length s + 2) n bare (within_quotes s is) a in
    record { utf8 = all.utf8; short = omega (arith, all.short) }

within_object : (ms : Members) (n : ℕ) → IsWithin (members_after false ms) n → IsWithin (json_text (object ms)) (1 + n)
within_object ms n a = within_byte 123 (members_after false ms) n (IsUtf8-are_ascii (123 ∷ []) refl) a

-- ---- the names of the members

bare_part : (part : Part) → IsBare (part_word part)
unfolding is_letter letters
bare_part Payload = bare_word (part_word Payload) (record { some = omega arith; letters = refl })
bare_part Protected = bare_word (part_word Protected) (record { some = omega arith; letters = refl })
bare_part Signature = bare_word (part_word Signature) (record { some = omega arith; letters = refl })
bare_part Signatures = bare_word (part_word Signatures) (record { some = omega arith; letters = refl })
bare_part Header = bare_word (part_word Header) (record { some = omega arith; letters = refl })
bare_part Disclosures = bare_word (part_word Disclosures) (record { some = omega arith; letters = refl })
bare_part KbJwt = bare_word (part_word KbJwt) (record { some = omega arith; letters = refl })

-- ---- the header

abbrev alone : Parts → Token
alone parts = record { parts = parts; outer = no_members }

header_is : (b : Option JwtParts) (list : Tree) → inserted (with_binding b no_members) (part_word Disclosures) list ≡ member (part_word Disclosures) list (with_binding b no_members)
header_is None list = refl
header_is (Some j) list = refl

within_binding : (b : Option JwtParts) → IfSome b HasWords → IsWithin (members_after true (with_binding b no_members)) (length (ending b) + 13)
within_binding None words = record { utf8 = within_none.utf8; short = omega arith }
within_binding (Some j) words =
    let all = within_word true (part_word KbJwt) (jwt j) no_members 1 (bare_part KbJwt) (bare_jwt j words) within_none in
    record { utf8 = all.utf8; short = omega (arith, all.short) }

abbrev header_limit : Parts → ℕ
header_limit parts = length (spelled parts.disclosures) + 2 * length parts.disclosures + length (ending parts.binding) + 31

within_header : (parts : Parts) → AreWords parts → IsWithin (json_text (object (written_header (alone parts)))) (header_limit parts)
within_header parts words =
    let ds = parts.disclosures in
    let es = text_elements ds in
    let more = with_binding parts.binding no_members in
    let list = within_byte 91 (items_text false (elements_data es)) (length (spelled ds) + 2 * length ds + 1) (IsUtf8-are_ascii (91 ∷ []) refl) (within_items false ds words.disclosures) in
    let all = within_member false (part_word Disclosures) (array es) more _ _ (bare_part Disclosures) list (within_binding parts.binding words.binding) in
    let whole = within_object (member (part_word Disclosures) (array es) more) _ all in
    subst (λ (ms : Members). IsWithin (json_text (object ms)) (header_limit parts)) (sym (header_is parts.binding (array es))) (record { utf8 = whole.utf8; short = omega (arith, whole.short) })

-- ---- the forms

-- no longer than the compact text and three bytes a disclosure, but for so many
abbrev limit : Parts → ℕ
limit parts = length (compact parts) + 2 * length parts.disclosures + 150

compact_length : (parts : Parts)
    → length parts.signed.protected + length parts.signed.payload + length parts.signed.signature + length (spelled parts.disclosures) + length (ending parts.binding) + 3 ≡ length (compact parts)
compact_length parts =
    let j = parts.signed in
    omega (
      arith,
      length-append (hashed parts) (ending parts.binding),
      length-append (jwt j) (126 ∷ spelled parts.disclosures),
      length-append j.protected (46 ∷ (j.payload ++ (46 ∷ j.signature))),
      length-append j.payload (46 ∷ j.signature),
    )

-- the members that are words
abbrev signature_members : Parts → Members
signature_members parts = member (part_word Signature) (leaf (text parts.signed.signature)) no_members

abbrev protected_members : Parts → Members
protected_members parts = member (part_word Protected) (leaf (text parts.signed.protected)) (signature_members parts)

within_protected : (parts : Parts) → AreWords parts → IsWithin (members_after true (protected_members parts)) (length parts.signed.protected + length parts.signed.signature + 31)
within_protected parts words =
    let j = parts.signed in
    let signature = within_word true (part_word Signature) j.signature no_members 1 (bare_part Signature) (bare_word j.signature words.signed.signature) within_none in
    let all = within_word true (part_word Protected) j.protected (signature_members parts) _ (bare_part Protected) (bare_word j.protected words.signed.protected) signature in
    record { utf8 = all.utf8; short = omega (arith, all.short) }

within_flat : (parts : Parts) → AreWords parts → IsWithin (json_text (flat_of (alone parts))) (limit parts)
within_flat parts words =
    let j = parts.signed in
    let payload = within_word true (part_word Payload) j.payload (protected_members parts) _ (bare_part Payload) (bare_word j.payload words.signed.payload) (within_protected parts words) in
    let all = within_member false (part_word Header) (object (written_header (alone parts))) (member (part_word Payload) (leaf (text j.payload)) (protected_members parts)) _ _ (bare_part Header) (within_header parts words) payload in
    let whole = within_object (flat_members (alone parts)) _ all in
    record { utf8 = whole.utf8; short = omega (arith, whole.short, compact_length parts) }

within_general : (parts : Parts) → AreWords parts → IsWithin (json_text (general_of (alone parts))) (limit parts)
within_general parts words =
    let j = parts.signed in
    let entry = object (entry_of (alone parts)) in
    let list = array (element entry no_elements) in
    let all = within_member false (part_word Header) (object (written_header (alone parts))) (protected_members parts) _ _ (bare_part Header) (within_header parts words) (within_protected parts words) in
    let end : IsWithin (93 ∷ []) 1 = record { utf8 = IsUtf8-are_ascii (93 ∷ []) refl; short = omega arith } in
    let entries = within_byte 91 (json_text entry ++ 93 ∷ []) _ (IsUtf8-are_ascii (91 ∷ []) refl) (within_both (json_text entry) (93 ∷ []) _ 1 (within_object (entry_of (alone parts)) _ all) end) in
    let signatures = within_member true (part_word Signatures) list no_members _ 1 (bare_part Signatures) entries within_none in
    let whole = within_object (general_members (alone parts)) _ (within_word false (part_word Payload) j.payload (member (part_word Signatures) list no_members) _ (bare_part Payload) (bare_word j.payload words.signed.payload) signatures) in
    record { utf8 = whole.utf8; short = omega (arith, whole.short, compact_length parts) }

-- ---- they are read

header_ordered : (parts : Parts) → MembersOrdered (written_header (alone parts))
header_ordered parts = go parts.binding
  where
    go : (b : Option JwtParts) → MembersOrdered (inserted (with_binding b no_members) (part_word Disclosures) (array (text_elements parts.disclosures)))
    go None = (tt, texts_ordered parts.disclosures, tt)
    go (Some j) = ((refl, tt), texts_ordered parts.disclosures, (tt, tt, tt))

flat_ordered : (parts : Parts) → IsOrdered (flat_of (alone parts))
flat_ordered parts = ((refl, (refl, (refl, tt))), header_ordered parts, ((refl, (refl, tt)), tt, ((refl, tt), tt, (tt, tt, tt))))

general_ordered : (parts : Parts) → IsOrdered (general_of (alone parts))
general_ordered parts = ((refl, tt), tt, (tt, (((refl, (refl, tt)), header_ordered parts, ((refl, tt), tt, (tt, tt, tt))), tt), tt))

printable_alone : (parts : Parts) → AreWords parts → IsPrintable (alone parts)
printable_alone parts words = record { words = words; no_disclosures = refl; no_binding = refl; shallow = omega arith }

flat_is : (parts : Parts) → AreWords parts → IsFlat (alone parts) (json_text (flat_of (alone parts)))
flat_is parts words =
    let token = alone parts in
    let good = printable_alone parts words in
    let within = within_flat parts words in
    flat_says token (json_text (flat_of token)) good (record { utf8 = within.utf8; value = read_of_text (flat_of token) (flat_ranged token tt) (flat_ordered parts) (flat_depth token good) })

general_is : (parts : Parts) → AreWords parts → IsGeneral (alone parts) (json_text (general_of (alone parts)))
general_is parts words =
    let token = alone parts in
    let good = printable_alone parts words in
    let within = within_general parts words in
    general_says token (json_text (general_of token)) good (record { utf8 = within.utf8; value = read_of_text (general_of token) (general_ranged token tt) (general_ordered parts) (general_depth token (omega arith)) })

-- ---- each form of a token that is read is read as it

-- the parts are no more than a token may have
record AreFew (parts : Parts) : Type 0 where
  count : length parts.disclosures ≤ count_max
  short : length (compact parts) ≤ compact_max

few_of : (parts : Parts) → (IsTooMuch parts → ⊥) → AreFew parts
few_of parts few =
    let count : count_max < length parts.disclosures → ⊥ = λ many. few (inl many) in
    let short : compact_max < length (compact parts) → ⊥ = λ long. few (inr long) in
    record { count = omega (arith, count); short = omega (arith, short) }

module _ (parts : Parts) (words : AreWords parts) (few : IsTooMuch parts → ⊥) where
  flat_alone : IsToken (json_text (flat_of (alone parts))) (alone parts)
  flat_alone =
      let f = few_of parts few in
      read_json_text (alone parts) (flat_members (alone parts)) (inl (flat_is parts words)) (omega (arith, (within_flat parts words).short, f.count, f.short)) few

  general_alone : IsToken (json_text (general_of (alone parts))) (alone parts)
  general_alone =
      let f = few_of parts few in
      read_json_text (alone parts) (general_members (alone parts)) (inr (general_is parts words)) (omega (arith, (within_general parts words).short, f.count, f.short)) few

  compact_alone : IsToken (compact parts) (alone parts)
  compact_alone =
      let f = few_of parts few in
      let reads = reads_printed parts words f.short f.count in
      read_plainly (compact parts) (alone parts) (ap is_json reads.spelling.spelling ∙ printed_plainly parts words) reads refl

words_spelled : (content : Text) (token : Token) → Spells content token → AreWords token.parts
words_spelled content token (spells_compact plainly is none) = record { signed = is.signed; disclosures = is.disclosures; binding = is.binding }
words_spelled content token (spells_json json (inl flat)) = entry_words flat.members token (found_part flat.members Payload) flat.payload flat.entry
words_spelled content token (spells_json json (inr general)) = entry_words general.first token (found_part general.members Payload) general.payload general.entry

module _ (content : Text) (token : Token) (is : IsToken content token) (none : token.outer ≡ no_members) where
  few_read : IsTooMuch token.parts → ⊥
  few_read much = is.passes (unplaced Condition.TooMuch) (too_much token refl is.spells much)

  whole : alone token.parts ≡ token
  whole = ap (λ (ms : Members). let t : Token = record { parts = token.parts; outer = ms } in t) (sym none)

  pub flat_read : IsToken (json_text (flat_of token)) token
  flat_read = subst (λ (t : Token). IsToken (json_text (flat_of t)) t) whole (flat_alone token.parts (words_spelled (trimmed content) token is.spells) few_read)

  pub general_read : IsToken (json_text (general_of token)) token
  general_read = subst (λ (t : Token). IsToken (json_text (general_of t)) t) whole (general_alone token.parts (words_spelled (trimmed content) token is.spells) few_read)

  pub compact_read : IsToken (compact token.parts) token
  compact_read = subst (λ (t : Token). IsToken (compact t.parts) t) whole (compact_alone token.parts (words_spelled (trimmed content) token is.spells) few_read)
