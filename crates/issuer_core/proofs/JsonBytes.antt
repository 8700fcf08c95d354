-- The JSON text of a tree is bytes, where each text of the tree is.
use Rattle.std.proofs.Common.{◌≡◌, ℕ, zero, suc, ◌<◌, Bool, true, false, nat_lt, List, [], ◌∷◌, ◌++◌, ltb-true, arith, refl}
use Rattle.std.specs.List.{list_all}
use Rattle.std.proofs.lemmas.Bool.{agree_below_at, and_parts}
use Rattle.json.specs.Print.{escape_byte, escape, quoted}
use Rattle.serde_json.specs.Written.{comma_if, items_text, members_text}
use Rattle.b64url_text.specs.Base64url.{AreBytes}
use Rattle.b64url_text.proofs.Codes.{AreBytes-append}
use Rattle.b64url_text.proofs.Texts.{AreBytes-text}
use Rattle.claim_tree.specs.JsonText.{json_text, elements_data, members_data}
use Rattle.claim_tree.specs.Tree.{null, flag, whole, text, Tree, leaf, array, object, Elements, no_elements, element, Members, no_members, member, IsRanged, ElementsRanged, MembersRanged}
use Rattle.claim_tree.proofs.TreeTexts.{json_utf8}
use Rattle.issuer_core.specs.GoodOrder.{EachText}
use Rattle.issuer_core.proofs.EachTexts.{ElementsEach, MembersEach}

no_bytes : AreBytes []
no_bytes i = omega arith

byte_then : (x : ℕ) (xs : List ℕ) → x < 256 → AreBytes xs → AreBytes (x ∷ xs)
byte_then x xs low rest zero = low
byte_then x xs low rest (suc i) = rest i

all_low : (xs : List ℕ) → list_all (λ x. nat_lt x 256) xs ≡ true → AreBytes xs
all_low [] e = no_bytes
all_low (x ∷ xs) e = let p = and_parts (nat_lt x 256) (list_all (λ y. nat_lt y 256) xs) e in byte_then x xs (ltb-true x 256 p.0) (all_low xs p.1)

escape_low : (x : ℕ) → x < 256 → list_all (λ y. nat_lt y 256) (escape_byte x) ≡ true
unfolding escape_byte
escape_low x low = agree_below_at (λ k. list_all (λ y. nat_lt y 256) (escape_byte k)) (λ k. true) 256 x refl low

escape_bytes : (s : List ℕ) → AreBytes s → AreBytes (escape s)
escape_bytes [] h = no_bytes
escape_bytes (x ∷ s) h = AreBytes-append (escape_byte x) (escape s) (all_low (escape_byte x) (escape_low x (h 0))) (escape_bytes s (λ i. h (suc i)))

quoted_bytes : (s : List ℕ) → AreBytes s → AreBytes (quoted s)
quoted_bytes s h = byte_then 34 (escape s ++ 34 ∷ []) (omega arith) (AreBytes-append (escape s) (34 ∷ []) (escape_bytes s h) (byte_then 34 [] (omega arith) no_bytes))

comma_bytes : (later : Bool) (xs : List ℕ) → AreBytes xs → AreBytes (comma_if later ++ xs)
comma_bytes true xs h = byte_then 44 xs (omega arith) h
comma_bytes false xs h = h

mutual
  pub json_bytes : (t : Tree) → EachText AreBytes t → IsRanged t → AreBytes (json_text t)
  json_bytes (leaf null) h r = AreBytes-text (json_text (leaf null)) (json_utf8 (leaf null) tt r)
  json_bytes (leaf (flag b)) h r = AreBytes-text (json_text (leaf (flag b))) (json_utf8 (leaf (flag b)) tt r)
  json_bytes (leaf (whole z)) h r = AreBytes-text (json_text (leaf (whole z))) (json_utf8 (leaf (whole z)) tt r)
  json_bytes (leaf (text s)) h r = quoted_bytes s h
  json_bytes (array es) h r = byte_then 91 (items_text false (elements_data es)) (omega arith) (items_bytes false es h.1 r)
  json_bytes (object ms) h r = byte_then 123 (members_text false (members_data ms)) (omega arith) (members_bytes false ms h r)

  items_bytes : (later : Bool) (es : Elements) → ElementsEach AreBytes es → ElementsRanged es → AreBytes (items_text later (elements_data es))
  items_bytes later no_elements h r = byte_then 93 [] (omega arith) no_bytes
  items_bytes later (element t es) h r =
      comma_bytes later (json_text t ++ items_text true (elements_data es)) (AreBytes-append (json_text t) (items_text true (elements_data es)) (json_bytes t h.0 r.0) (items_bytes true es h.1 r.1))

  members_bytes : (later : Bool) (ms : Members) → MembersEach AreBytes ms → MembersRanged ms → AreBytes (members_text later (members_data ms))
  members_bytes later no_members h r = byte_then 125 [] (omega arith) no_bytes
  members_bytes later (member name t ms) h r =
      let rest = json_text t ++ members_text true (members_data ms) in
      comma_bytes later (quoted name ++ 58 ∷ rest)
      (AreBytes-append (quoted name) (58 ∷ rest) (quoted_bytes name h.0)
      (byte_then 58 rest (omega arith) (AreBytes-append (json_text t) (members_text true (members_data ms)) (json_bytes t h.1 r.0) (members_bytes true ms h.2 r.1))))
