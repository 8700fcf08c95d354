-- Trees whose texts are UTF-8: their JSON text is UTF-8 too, and is read as the tree.
use Rattle.std.proofs.Common.{ℕ, suc, ◌<◌, ◌≤◌, ◌^◌, pos, negsuc, List, [], ◌∷◌, ◌++◌, ℤ, Bool, true, false, IsUtf8, arith, decimal, refl}
use Rattle.std.proofs.lemmas.Fmt.{IsAscii-decimal}
use Rattle.std.proofs.lemmas.Str.{IsUtf8-append, IsUtf8-from_ascii}
use Rattle.json.specs.Print.{quoted}
use Rattle.json.proofs.Printed.Utf8.{IsUtf8-are_ascii, IsUtf8-boolean, IsUtf8-quoted}
use Rattle.serde_json.specs.Written.{comma_if, items_text, members_text}
use Rattle.claim_tree.specs.Tree.{null, flag, whole, text, Tree, leaf, array, object, Elements, no_elements, element, Members, no_members, member, depth, IsOrdered, IsRanged, ElementsRanged, MembersRanged}
use Rattle.claim_tree.specs.Everywhere.{LeafIsUtf8, Everywhere, InElements, InMembers}
use Rattle.claim_tree.specs.JsonText.{json_text, elements_data, members_data, Reads}
use Rattle.claim_tree.proofs.RoundTrip.{read_of_text}

-- each text and each name is UTF-8
abbrev pub HasTexts : Tree → Type 0
HasTexts t = Everywhere LeafIsUtf8 (λ _. Unit {0}) (λ name _. IsUtf8 name) t

abbrev pub ElementsTexts : Elements → Type 0
ElementsTexts es = InElements LeafIsUtf8 (λ _. Unit {0}) (λ name _. IsUtf8 name) es

abbrev pub MembersTexts : Members → Type 0
MembersTexts ms = InMembers LeafIsUtf8 (λ _. Unit {0}) (λ name _. IsUtf8 name) ms

one_byte : (x : ℕ) (xs : List ℕ) → IsUtf8 (x ∷ []) → IsUtf8 xs → IsUtf8 (x ∷ xs)
one_byte x xs one u = IsUtf8-append (x ∷ []) xs one u

whole_utf8 : (z : ℤ) → IsRanged (leaf (whole z)) → IsUtf8 (json_text (leaf (whole z)))
whole_utf8 (pos n) r = IsUtf8-from_ascii (decimal n) (IsAscii-decimal n r)
whole_utf8 (negsuc n) r = go n r
  where
    go : (n : ℕ) → n < 2 ^ 63 → IsUtf8 (json_text (leaf (whole (negsuc n))))
    go n r = one_byte 45 (decimal (suc n)) (IsUtf8-are_ascii (45 ∷ []) refl) (IsUtf8-from_ascii (decimal (suc n)) (IsAscii-decimal (suc n) (omega (arith, r))))

comma_utf8 : (later : Bool) (xs : List ℕ) → IsUtf8 xs → IsUtf8 (comma_if later ++ xs)
comma_utf8 true xs u = one_byte 44 xs (IsUtf8-are_ascii (44 ∷ []) refl) u
comma_utf8 false xs u = u

mutual
  pub json_utf8 : (t : Tree) → HasTexts t → IsRanged t → IsUtf8 (json_text t)
  json_utf8 (leaf null) h r = IsUtf8-are_ascii (json_text (leaf null)) refl
  json_utf8 (leaf (flag b)) h r = IsUtf8-boolean b
  json_utf8 (leaf (whole z)) h r = whole_utf8 z r
  json_utf8 (leaf (text s)) h r = IsUtf8-quoted s h
  json_utf8 (array es) h r = one_byte 91 (items_text false (elements_data es)) (IsUtf8-are_ascii (91 ∷ []) refl) (items_utf8 false es h.1 r)
  json_utf8 (object ms) h r = one_byte 123 (members_text false (members_data ms)) (IsUtf8-are_ascii (123 ∷ []) refl) (members_utf8 false ms h r)

  items_utf8 : (later : Bool) (es : Elements) → ElementsTexts es → ElementsRanged es → IsUtf8 (items_text later (elements_data es))
  items_utf8 later no_elements h r = IsUtf8-are_ascii (93 ∷ []) refl
  items_utf8 later (element t es) h r =
      comma_utf8 later (json_text t ++ items_text true (elements_data es)) (IsUtf8-append (json_text t) (items_text true (elements_data es)) (json_utf8 t h.0 r.0) (items_utf8 true es h.1 r.1))

  members_utf8 : (later : Bool) (ms : Members) → MembersTexts ms → MembersRanged ms → IsUtf8 (members_text later (members_data ms))
  members_utf8 later no_members h r = IsUtf8-are_ascii (125 ∷ []) refl
  members_utf8 later (member name t ms) h r =
      let rest = json_text t ++ members_text true (members_data ms) in
      comma_utf8 later (quoted name ++ 58 ∷ rest)
      (IsUtf8-append (quoted name) (58 ∷ rest) (IsUtf8-quoted name h.0)
      (one_byte 58 rest (IsUtf8-are_ascii (58 ∷ []) refl) (IsUtf8-append (json_text t) (members_text true (members_data ms)) (json_utf8 t h.1 r.0) (members_utf8 true ms h.2 r.1))))

pub read_back : (t : Tree) → HasTexts t → IsRanged t → IsOrdered t → depth t ≤ 127 → Reads (json_text t) t
read_back t texts ranged ordered shallow = record { utf8 = json_utf8 t texts ranged; value = read_of_text t ranged ordered shallow }
