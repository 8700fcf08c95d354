-- What is written of a token says it, and what says a token can be written.
use Rattle.std.proofs.Common.{◌≡◌, ℕ, zero, suc, ◌+◌, ◌≤◌, max, List, [], Option, Some, None, IfSome, refl, sym, ap, subst, ◌∙◌, arith}
use Rattle.std.specs.List.{AllByRecursion}
use Rattle.b64url_text.specs.Base64url.{IsWord}
use Rattle.claim_tree.specs.Tree.{Text, text, Tree, leaf, array, object, no_elements, element, Elements, Members, no_members, inserted, depth, elements_depth, members_depth, IsRanged, MembersRanged}
use Rattle.claim_tree.specs.TreeCalls.{pushed}
use Rattle.claim_tree.specs.Removed.{removed}
use Rattle.claim_tree.specs.TreeValues.{Says, MaySay, SaysOr, text_elements}
use Rattle.claim_tree.specs.JsonText.{Reads}
use Rattle.claim_tree.proofs.Datas.{MembersRanged-inserted}
use Rattle.claim_tree.proofs.OtherMembers.{named_other, named_gone, removed_absent, depth-removed, depth-member_named, named_inserted, other_inserted, removed_inserted, depth-inserted}
use Rattle.compact_form.specs.Compact.{jwt, HasWords, AreWords}
use Rattle.refusals.specs.PartWords.{part_word}
use Rattle.compact_form.specs.declared.parts.JwtParts.{JwtParts}
use Rattle.refusals.specs.declared.fault.Part.TheVariants.{Payload, Protected, Signature, Signatures, Header, Disclosures, KbJwt}
use Rattle.json_form.specs.declared.token.Token.{Token}
use Rattle.json_form.specs.declared.signatures.Entries.{Entries}
use Rattle.json_form.specs.Json.{found_part, IsWordTree, AreWordTrees, IsJwtTree, IsObjectOf, HeaderSays, EntrySays, IsStray, IsFlat, IsGeneral}
use Rattle.json_form.specs.MembersRead.{HasEntries, itself, listed, MembersSay}
use Rattle.json_form.specs.Written.{with_binding, written_header, flat_members, flat_of, entry_of, general_members, general_of}
use Rattle.json_form.specs.Printable.{IsPrintable}
use Rattle.json_form.proofs.SayOrFail.{entry_says_at}
use Rattle.claim_tree.proofs.TextElements.{texts_depth, texts_ranged}

-- ---- the header that is written

binding_disclosures : (b : Option JwtParts) (ms : Members) → found_part ms Disclosures ≡ None → found_part (with_binding b ms) Disclosures ≡ None
binding_disclosures None ms none = none
binding_disclosures (Some j) ms none = other_inserted ms (part_word KbJwt) (leaf (text (jwt j))) (part_word Disclosures) refl ∙ none

binding_said : (b : Option JwtParts) (ms : Members) → found_part ms KbJwt ≡ None → IfSome b HasWords → MaySay IsJwtTree (found_part (with_binding b ms) KbJwt) b
binding_said None ms none words = subst (λ t. MaySay IsJwtTree t None) (sym none) tt
binding_said (Some j) ms none words = subst (λ t. MaySay IsJwtTree t (Some j)) (sym (named_inserted ms (part_word KbJwt) (leaf (text (jwt j))))) (record { is = refl; words = words })

binding_out : (b : Option JwtParts) (ms : Members) → found_part ms KbJwt ≡ None → removed (with_binding b ms) (part_word KbJwt) ≡ ms
binding_out None ms none = removed_absent ms (part_word KbJwt) none
binding_out (Some j) ms none = removed_inserted ms (part_word KbJwt) (leaf (text (jwt j))) none

header_says : (token : Token) → IsPrintable token → HeaderSays (written_header token) token
header_says token good =
    let more = with_binding token.parts.binding token.outer in
    let list = array (text_elements token.parts.disclosures) in
    let kept : found_part (written_header token) KbJwt ≡ found_part more KbJwt = other_inserted more (part_word Disclosures) list (part_word KbJwt) refl in
    record {
      disclosures = subst (λ t. SaysOr AreWordTrees [] t token.parts.disclosures) (sym (named_inserted more (part_word Disclosures) list)) (record { are = refl; words = good.words.disclosures });
      binding = subst (λ t. MaySay IsJwtTree t token.parts.binding) (sym kept) (binding_said token.parts.binding token.outer good.no_binding good.words.binding);
      outer = sym (
          ap (λ (ms : Members). removed ms (part_word KbJwt)) (removed_inserted more (part_word Disclosures) list (binding_disclosures token.parts.binding token.outer good.no_disclosures))
          ∙ binding_out token.parts.binding token.outer good.no_binding
          );
    }

binding_depth : (b : Option JwtParts) (ms : Members) → members_depth (with_binding b ms) ≤ members_depth ms
binding_depth None ms = omega arith
binding_depth (Some j) ms = omega (arith, depth-inserted ms (part_word KbJwt) (leaf (text (jwt j))))

header_depth : (token : Token) → members_depth (written_header token) ≤ max 1 (members_depth token.outer)
header_depth token =
    let more = with_binding token.parts.binding token.outer in
    omega (
      arith,
      depth-inserted more (part_word Disclosures) (array (text_elements token.parts.disclosures)),
      texts_depth token.parts.disclosures,
      binding_depth token.parts.binding token.outer,
    )

binding_ranged : (b : Option JwtParts) (ms : Members) → MembersRanged ms → MembersRanged (with_binding b ms)
binding_ranged None ms ranged = ranged
binding_ranged (Some j) ms ranged = MembersRanged-inserted ms (part_word KbJwt) (leaf (text (jwt j))) ranged tt

header_ranged : (token : Token) → MembersRanged token.outer → MembersRanged (written_header token)
header_ranged token ranged =
    MembersRanged-inserted (with_binding token.parts.binding token.outer) (part_word Disclosures) (array (text_elements token.parts.disclosures)) (binding_ranged token.parts.binding token.outer ranged) (texts_ranged token.parts.disclosures)

-- ---- the flattened form

pub flat_ranged : (token : Token) → MembersRanged token.outer → IsRanged (flat_of token)
flat_ranged token ranged = (header_ranged token ranged, (tt, (tt, (tt, tt))))

pub flat_depth : (token : Token) → IsPrintable token → depth (flat_of token) ≤ 127
flat_depth token good = omega (arith, header_depth token, good.shallow)

flat_entry : (token : Token) → IsPrintable token → EntrySays (flat_members token) token
flat_entry token good =
    record {
      protected = record { is = refl; word = good.words.signed.protected };
      signature = record { is = refl; word = good.words.signed.signature };
      header = written_header token;
      unprotected = refl;
      says = header_says token good;
    }

pub flat_says : (token : Token) (bytes : Text) → IsPrintable token → Reads bytes (flat_of token) → IsFlat token bytes
flat_says token bytes good reads =
    record {
      members = flat_members token;
      reads = reads;
      flat = refl;
      payload = record { is = refl; word = good.words.signed.payload };
      entry = flat_entry token good;
    }

-- ---- the general form

pub general_ranged : (token : Token) → MembersRanged token.outer → IsRanged (general_of token)
general_ranged token ranged = (tt, (((header_ranged token ranged, (tt, (tt, tt))), tt), tt))

-- the object that is put together
pub general_made : (token : Token) (empty front all : Members) (none list : Elements) (entry : Members) (payload : Text) → empty ≡ no_members → none ≡ no_elements → entry ≡ entry_of token → payload ≡ token.parts.signed.payload
    → front ≡ inserted empty (part_word Payload) (leaf (text payload)) → list ≡ pushed none (object entry) → all ≡ inserted front (part_word Signatures) (array list) → object all ≡ general_of token
general_made token empty front all none list entry payload empty_is none_is entry_is payload_is put_first pushed_is put_last =
    ap object (rw (put_last, put_first, pushed_is, empty_is, none_is, entry_is, payload_is) refl)

pub general_depth : (token : Token) → members_depth token.outer ≤ 123 → depth (general_of token) ≤ 127
general_depth token shallow = omega (arith, header_depth token, shallow)

one_alone : (first : Members) (place : ℕ) → IsStray (element (object first) no_elements) place → ⊥
one_alone first zero stray = omega (arith, stray.later)
one_alone first (suc place) stray = let both : Some stray.entry ≡ None = sym stray.stands in cc both

pub general_says : (token : Token) (bytes : Text) → IsPrintable token → Reads bytes (general_of token) → IsGeneral token bytes
general_says token bytes good reads =
    record {
      members = general_members token;
      reads = reads;
      first = entry_of token;
      later = no_elements;
      list = array (element (object (entry_of token)) no_elements);
      general = refl;
      entries = record { are = refl; objects = refl };
      alone = refl;
      payload = record { is = refl; word = good.words.signed.payload };
      entry = entry_says_at (flat_members token) (entry_of token) token (record { protected = refl; signature = refl; header = refl }) (flat_entry token good);
      no_stray = one_alone (entry_of token);
    }

-- ---- what says a token can be written

word_of_says : (o : Option Tree) (s : Text) → Says IsWordTree o s → IsWord s
word_of_says None s says = absurd says
word_of_says (Some t) s says = says.word

words_of_says : (o : Option Tree) (texts : List Text) → SaysOr AreWordTrees [] o texts → AllByRecursion IsWord texts
words_of_says None texts none = subst (AllByRecursion IsWord) (sym none) tt
words_of_says (Some t) texts says = says.words

jwt_of_says : (o : Option Tree) (b : Option JwtParts) → MaySay IsJwtTree o b → IfSome b HasWords
jwt_of_says None None says = tt
jwt_of_says None (Some j) says = absurd says
jwt_of_says (Some t) None says = absurd says
jwt_of_says (Some t) (Some j) says = says.words

-- each text of what is said is a word
pub entry_words : (entry : Members) (token : Token) (payload : Option Tree) → Says IsWordTree payload token.parts.signed.payload → EntrySays entry token → AreWords token.parts
entry_words entry token payload says entry_says =
    let parts = token.parts in
    let h = entry_says.header in
    record {
      signed = record {
        protected = word_of_says (found_part entry Protected) parts.signed.protected entry_says.protected;
        payload = word_of_says payload parts.signed.payload says;
        signature = word_of_says (found_part entry Signature) parts.signed.signature entry_says.signature;
      };
      disclosures = words_of_says (found_part h Disclosures) parts.disclosures entry_says.says.disclosures;
      binding = jwt_of_says (found_part h KbJwt) parts.binding entry_says.says.binding;
    }

-- the header of an entry is no deeper than the entry allows
header_inside : (e h : Members) → SaysOr IsObjectOf no_members (found_part e Header) h → members_depth h + 1 ≤ max 1 (members_depth e)
header_inside e h says = go (found_part e Header) refl says
  where
    go : (o : Option Tree) → found_part e Header ≡ o → SaysOr IsObjectOf no_members o h → members_depth h + 1 ≤ max 1 (members_depth e)
    go None at is = omega (arith, ap members_depth is)
    go (Some t) at is =
        let low : suc (members_depth h) ≤ members_depth e = depth-member_named e (part_word Header) (object h) (at ∙ ap Some is) in
        omega (arith, low)

-- the entry of an object is no deeper than the object allows
entry_inside : (ms : Members) (entries : Entries) → HasEntries ms entries → members_depth entries.first ≤ members_depth ms
entry_inside ms entries (itself none is unstray) = omega (arith, ap members_depth is)
entry_inside ms entries (listed list at has alone) =
    let low : suc (max (suc (members_depth entries.first)) (elements_depth has.later)) ≤ members_depth ms = depth-member_named ms (part_word Signatures) (array (element (object entries.first) has.later)) (at ∙ ap Some has.are.are) in
    omega (arith, low)

pub printable : (ms : Members) (token : Token) → MembersSay ms token → depth (object ms) ≤ 127 → IsPrintable token
printable ms token says low =
    let e = says.entries.first in
    let h = says.entry.header in
    let in_object = entry_inside ms says.entries says.has in
    let in_entry = header_inside e h says.entry.unprotected in
    let without = removed h (part_word Disclosures) in
    let is = says.entry.says.outer in
    record {
      words = entry_words e token (found_part ms Payload) says.payload says.entry;
      no_disclosures = ap (λ (us : Members). found_part us Disclosures) is ∙ named_other without (part_word KbJwt) (part_word Disclosures) refl ∙ named_gone h (part_word Disclosures);
      no_binding = ap (λ (us : Members). found_part us KbJwt) is ∙ named_gone without (part_word KbJwt);
      shallow = omega (arith, ap members_depth is, depth-removed without (part_word KbJwt), depth-removed h (part_word Disclosures), in_entry, in_object, low);
    }
