-- What is written of a token, with a line end behind it, is read as the token.
use Rattle.std.proofs.Common.{◌≡◌, ℕ, ◌+◌, ◌-◌, ◌<◌, ◌≤◌, Bool, true, false, List, [], ◌∷◌, ◌++◌, length, length-append, take, drop, get_or, append_assoc, inr, refl, sym, ap, subst, ◌∙◌, arith}
use Rattle.std.specs.Prelude.{not}
use Rattle.std.specs.List.{prefix_len, suffix_len}
use Rattle.std.proofs.lemmas.Bool.{le-ltb}
use Rattle.std.proofs.Math.Bool.{and-false}
use Rattle.std.proofs.lemmas.List.Sums.{suffix_len_is}
use Rattle.std.proofs.Math.Seq.{get_or-append_seam, take-length}
use Rattle.serde_json.specs.Data as port
use Rattle.serde_json.specs.Written.{members_text, compact_text, comma_if}
use Rattle.json.specs.Print.{quoted}
use Rattle.claim_tree.specs.Tree.{Text, object, Members, no_members}
use Rattle.claim_tree.specs.JsonText.{members_data, json_text}
use Rattle.sd_outside.specs.Limits.{file_max, compact_max}
use Rattle.refusals.specs.declared.fault.Fault.{Fault}
use Rattle.compact_form.specs.declared.parts.Parts.{Parts}
use Rattle.compact_form.specs.Compact.{compact, AreWords}
use Rattle.compact_form.specs.Trim.{is_blank, without_back, trimmed, is_json, is_too_long}
use Rattle.compact_form.proofs.Printed.{is_compact}
use Rattle.compact_form.proofs.Trimmed.{trimmed_line, printed_line, printed_plainly}
use Rattle.compact_form.proofs.Verdicts.{clash}
use Rattle.json_form.specs.declared.token.Token.{Token}
use Rattle.json_form.specs.Json.{IsJson}
use Rattle.json_form.specs.Token.{Spells, spells_compact, spells_json, IsTooMuch, TextFails, too_long, form, too_much, IsToken}
use Rattle.json_form.proofs.Tokens.{spelled_well, one_spelled, short_text}

-- ---- the text of an object

record EndsInBrace (x : Text) : Type 0 where
  front : Text
  is : x ≡ front ++ 125 ∷ []

behind : (a : Text) (x : Text) → EndsInBrace x → EndsInBrace (a ++ x)
behind a x end = record { front = a ++ end.front; is = ap (λ (y : Text). a ++ y) end.is ∙ sym (append_assoc a end.front (125 ∷ [])) }

members_end : (later : Bool) (ms : port.Members) → EndsInBrace (members_text later ms)
members_end later port.no_members = record { front = []; is = refl }
members_end later (port.member k d ms) = behind (comma_if later) _ (behind (quoted k) _ (behind (58 ∷ []) _ (behind (compact_text d) _ (members_end true ms))))

last_brace : (rest front : Text) → rest ≡ front ++ 125 ∷ [] → is_blank (get_or (123 ∷ rest) (length rest) 0) ≡ false
last_brace rest front is =
    let long : length rest ≡ length (123 ∷ front) = ap length is ∙ (length-append front (125 ∷ []) ∙ omega arith) in
    let at : get_or (123 ∷ rest) (length rest) 0 ≡ 125 =
    ap (λ (n : ℕ). get_or (123 ∷ rest) n 0) long
    ∙ (ap (λ (y : Text). get_or (123 ∷ y) (length (123 ∷ front)) 0) is ∙ get_or-append_seam (123 ∷ front) 125 [] 0) in
    ap is_blank at

json_line : (ms : Members) → trimmed (json_text (object ms) ++ 10 ∷ []) ≡ json_text (object ms)
json_line ms = let end = members_end false (members_data ms) in trimmed_line 123 (members_text false (members_data ms)) refl (last_brace (members_text false (members_data ms)) end.front end.is)

-- where neither its first byte nor its last is a blank
bare : (byte : ℕ) (rest : Text) → is_blank byte ≡ false → is_blank (get_or (byte ∷ rest) (length rest) 0) ≡ false → trimmed (byte ∷ rest) ≡ byte ∷ rest
bare byte rest first last =
    let x = byte ∷ rest in
    let front : prefix_len is_blank x ≡ 0 = rw first refl in
    let back : suffix_len is_blank x ≡ length x - length x =
    suffix_len_is is_blank x (length x) 0 (omega arith) (λ k from to. absurd (omega (arith, from, to)))
    (λ some. let before : length x - 1 ≡ length rest = omega arith in rw before last) in
    let kept : length x - suffix_len is_blank x ≡ length x = omega (arith, back) in
    ap (λ (n : ℕ). without_back (drop n x)) front ∙ (ap (λ (n : ℕ). take n x) kept ∙ take-length x)

json_bare : (ms : Members) → trimmed (json_text (object ms)) ≡ json_text (object ms)
json_bare ms = let end = members_end false (members_data ms) in bare 123 (members_text false (members_data ms)) refl (last_brace (members_text false (members_data ms)) end.front end.is)

-- ---- a text that is no longer than it may be

pub read_spelled : (text : List ℕ) (token : Token) → Spells (trimmed text) token → is_too_long text ≡ false → (IsTooMuch token.parts → ⊥) → IsToken text token
read_spelled text token spelled short few = record { spells = spelled; passes = go }
  where
    go : (other : Fault) → TextFails text other → ⊥
    go other (too_long e h) = clash (is_too_long text) h short
    go other (form p e h) = spelled_well (trimmed text) token p spelled h
    go other (too_much t e h i) = few (subst (λ (u : Token). IsTooMuch u.parts) (one_spelled (trimmed text) t token h spelled) i)

-- a JSON serialization
pub read_json_line : (token : Token) (ms : Members) → IsJson token (json_text (object ms)) → length (json_text (object ms) ++ 10 ∷ []) ≤ file_max → (IsTooMuch token.parts → ⊥)
    → IsToken (json_text (object ms) ++ 10 ∷ []) token
read_json_line token ms is small few =
    let whole = json_text (object ms) ++ 10 ∷ [] in
    let bare : trimmed whole ≡ json_text (object ms) = json_line ms in
    let json : is_json (trimmed whole) ≡ true = ap is_json bare in
    read_spelled whole token (subst (λ (x : Text). Spells x token) (sym bare) (spells_json refl is)) (short_text whole json small) few

-- the same without a line end
pub read_json_text : (token : Token) (ms : Members) → IsJson token (json_text (object ms)) → length (json_text (object ms)) ≤ file_max → (IsTooMuch token.parts → ⊥) → IsToken (json_text (object ms)) token
read_json_text token ms is small few =
    let whole = json_text (object ms) in
    let same : trimmed whole ≡ whole = json_bare ms in
    let json : is_json (trimmed whole) ≡ true = ap is_json same in
    read_spelled whole token (subst (λ (x : Text). Spells x token) (sym same) (spells_json refl is)) (short_text whole json small) few

-- the compact serialization
pub read_compact_line : (parts : Parts) → AreWords parts → (IsTooMuch parts → ⊥) → IsToken (compact parts ++ 10 ∷ []) (record { parts = parts; outer = no_members })
read_compact_line parts words few =
    let whole = compact parts ++ 10 ∷ [] in
    let bare : trimmed whole ≡ compact parts = printed_line parts words in
    let no_longer : compact_max < length (compact parts) → ⊥ = λ long. few (inr long) in
    let small : length (compact parts) ≤ compact_max = omega (arith, no_longer) in
    let longer : length whole ≡ length (compact parts) + 1 = length-append (compact parts) (10 ∷ []) in
    let short : is_too_long whole ≡ false = rw (
      le-ltb file_max (length whole) (omega (arith, small, longer)),
      le-ltb compact_max (length (trimmed whole)) (omega (arith, small, ap length bare)),
    ) (and-false (not (is_json (trimmed whole)))) in
    read_spelled whole (record { parts = parts; outer = no_members }) (subst (λ (x : Text). Spells x (record { parts = parts; outer = no_members })) (sym bare) (spells_compact (printed_plainly parts words) (is_compact parts words) refl)) short few
