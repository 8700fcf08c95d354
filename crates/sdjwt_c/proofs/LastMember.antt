-- The text of an object with a member behind its others.
use Rattle.std.proofs.Common.{◌≡◌, ◌≢◌, ℕ, ◌-◌, ◌<◌, List, [], ◌∷◌, ◌++◌, Bool, true, false, length, take, refl, sym, ap, ◌∙◌, subst, append_assoc, length-append, arith}
use Rattle.std.specs.Prelude.{codes, slice_index, string_bytes, string_len}
use Rattle.std.specs.declared.alloc.Global.{Global}
use Rattle.std.specs.declared.string.String.{String}
use Rattle.std.proofs.lemmas.List.{take_at, get_or_at}
use Rattle.json.specs.Print.{quoted}
use Rattle.serde_json.specs.Written.{comma_if, members_text}
use Rattle.claim_tree.specs.Tree.{Text, text, Tree, leaf, object, Members, no_members, member}
use Rattle.claim_tree.specs.JsonText.{members_data, json_text}
use Rattle.sdjwt_c.specs.Questions.{with_last}

-- ---- the front of a list, and its last element

front_len : (xs : List ℕ) (x : ℕ) → length (xs ++ x ∷ []) - 1 ≡ length xs
front_len xs x = rw (length-append xs (x ∷ [])) (omega arith)

front_of : (xs : List ℕ) (x : ℕ) → take (length (xs ++ x ∷ []) - 1) (xs ++ x ∷ []) ≡ xs
front_of xs x = take_at xs (x ∷ []) (length (xs ++ x ∷ []) - 1) (sym (front_len xs x))

last_of : (xs : List ℕ) (x : ℕ) → slice_index (xs ++ x ∷ []) (length (xs ++ x ∷ []) - 1) ≡ x
last_of xs x = get_or_at xs x [] 0 (length (xs ++ x ∷ []) - 1) (sym (front_len xs x))

some_of : (xs : List ℕ) (x : ℕ) → 0 < length (xs ++ x ∷ [])
some_of xs x = rw (length-append xs (x ∷ [])) (omega arith)

-- ---- the text of members

-- without the brace at its end
abbrev open_text : Bool → Members → List ℕ
open_text later no_members = []
open_text later (member name t ms) = comma_if later ++ (quoted name ++ 58 ∷ (json_text t ++ open_text true ms))

regroup : (q r a b c : List ℕ) → q ++ (r ++ 58 ∷ (a ++ (b ++ c))) ≡ (q ++ (r ++ 58 ∷ (a ++ b))) ++ c
regroup q r a b c = sym (append_assoc q (r ++ 58 ∷ (a ++ b)) c ∙ ap (λ s. q ++ s) (append_assoc r (58 ∷ (a ++ b)) c ∙ ap (λ s. r ++ 58 ∷ s) (append_assoc a b c)))

closed : (later : Bool) (ms : Members) → members_text later (members_data ms) ≡ open_text later ms ++ 125 ∷ []
closed later no_members = refl
closed later (member name t ms) =
    ap (λ s. comma_if later ++ (quoted name ++ 58 ∷ (json_text t ++ s))) (closed true ms) ∙ regroup (comma_if later) (quoted name) (json_text t) (open_text true ms) (125 ∷ [])

-- one more member, with the comma before it and the brace at the end
abbrev last_text : Text → Tree → List ℕ
last_text name t = 44 ∷ (quoted name ++ 58 ∷ (json_text t ++ 125 ∷ []))

behind_more : (ms : Members) (name : Text) (t : Tree) → members_text true (members_data (with_last ms name t)) ≡ open_text true ms ++ last_text name t
behind_more no_members name t = refl
behind_more (member other u ms) name t =
    ap (λ s. comma_if true ++ (quoted other ++ 58 ∷ (json_text u ++ s))) (behind_more ms name t) ∙ regroup (comma_if true) (quoted other) (json_text u) (open_text true ms) (last_text name t)

-- ---- the text of an object

abbrev opened : Members → List ℕ
opened ms = 123 ∷ open_text false ms

closes : (ms : Members) → json_text (object ms) ≡ opened ms ++ 125 ∷ []
closes ms = ap (λ s. 123 ∷ s) (closed false ms)

is_some_text : (ms : Members) → 0 < length (json_text (object ms))
is_some_text ms = subst (λ (whole : List ℕ). 0 < length whole) (sym (closes ms)) (some_of (opened ms) 125)

ends_by_brace : (ms : Members) → slice_index (json_text (object ms)) (length (json_text (object ms)) - 1) ≡ 125
ends_by_brace ms = subst (λ (whole : List ℕ). slice_index whole (length whole - 1) ≡ 125) (sym (closes ms)) (last_of (opened ms) 125)

without_brace : (ms : Members) → take (length (json_text (object ms)) - 1) (json_text (object ms)) ≡ opened ms
without_brace ms = subst (λ (whole : List ℕ). take (length whole - 1) whole ≡ opened ms) (sym (closes ms)) (front_of (opened ms) 125)

with_one_more : (other : Text) (u : Tree) (ms : Members) (name : Text) (t : Tree) → json_text (object (with_last (member other u ms) name t)) ≡ opened (member other u ms) ++ last_text name t
with_one_more other u ms name t =
    ap (λ s. 123 ∷ (comma_if false ++ (quoted other ++ 58 ∷ (json_text u ++ s)))) (behind_more ms name t)
    ∙ ap (λ s. 123 ∷ s) (regroup (comma_if false) (quoted other) (json_text u) (open_text true ms) (last_text name t))

spread : (f q p : List ℕ) → ((((f ++ 44 ∷ []) ++ q) ++ 58 ∷ []) ++ p) ++ 125 ∷ [] ≡ f ++ 44 ∷ (q ++ 58 ∷ (p ++ 125 ∷ []))
spread f q p =
    append_assoc (((f ++ 44 ∷ []) ++ q) ++ 58 ∷ []) p (125 ∷ []) ∙ append_assoc ((f ++ 44 ∷ []) ++ q) (58 ∷ []) (p ++ 125 ∷ [])
    ∙ append_assoc (f ++ 44 ∷ []) q (58 ∷ (p ++ 125 ∷ [])) ∙ append_assoc f (44 ∷ []) (q ++ 58 ∷ (p ++ 125 ∷ []))

-- the text of an object without its brace, and then one more member, is that of the object with it
pub text_with_one_more : (ms : Members) (name : Text) (t : Tree) → ms ≢ no_members
    → ((((take (length (json_text (object ms)) - 1) (json_text (object ms)) ++ codes ",") ++ json_text (leaf (text name))) ++ codes ":") ++ json_text t) ++ codes "}"
    ≡ json_text (object (with_last ms name t))
text_with_one_more no_members name t some = absurd (some refl)
text_with_one_more (member other u ms) name t some =
    ap (λ f. ((((f ++ 44 ∷ []) ++ quoted name) ++ 58 ∷ []) ++ json_text t) ++ 125 ∷ []) (without_brace (member other u ms))
    ∙ spread (opened (member other u ms)) (quoted name) (json_text t) ∙ sym (with_one_more other u ms name t)

-- what is left of bytes whose last is a brace, where it is taken off
cut_off : (bytes after whole : List ℕ) (len : ℕ) → bytes ≡ whole → len ≡ length whole → 0 < length whole → slice_index whole (length whole - 1) ≡ 125
    → (0 < len → slice_index bytes (len - 1) < 128 → after ≡ take (len - 1) bytes) → after ≡ take (length whole - 1) whole
cut_off bytes after whole len is same some last pops =
    let by_bytes : 0 < len → slice_index whole (len - 1) < 128 → after ≡ take (len - 1) whole = subst (λ (b : List ℕ). 0 < len → slice_index b (len - 1) < 128 → after ≡ take (len - 1) b) is pops in
    let by_len : 0 < length whole → slice_index whole (length whole - 1) < 128 → after ≡ take (length whole - 1) whole = subst (λ (l : ℕ). 0 < l → slice_index whole (l - 1) < 128 → after ≡ take (l - 1) whole) same by_bytes in
    by_len some (omega (arith, last))

-- the string of an object whose last character was popped
pub without_last : (old new : String Global) (ms : Members) → string_bytes old ≡ json_text (object ms)
    → (0 < string_len old → slice_index (string_bytes old) (string_len old - 1) < 128 → string_bytes new ≡ take (string_len old - 1) (string_bytes old))
    → string_bytes new ≡ take (length (json_text (object ms)) - 1) (json_text (object ms))
without_last old new ms is pops =
    cut_off (string_bytes old) (string_bytes new) (json_text (object ms)) (string_len old) is (old.bytes.ok.0 ∙ ap length is) (is_some_text ms) (ends_by_brace ms) pops
