-- What is written is read again, for every tree.
use Rattle.std.proofs.Common.{◌≡◌, ℕ, ℤ, pos, negsuc, suc, ◌≤◌, List, [], Option, Some, option_map, option_and_then, Greater, nat_cmp, refl, sym, ap, ◌∙◌, append-nil}
use Rattle.std.specs.Cmp.Lexicographic.{slice_cmp}
use Rattle.std.specs.Ordering.{ordering_reverse}
use Rattle.std.proofs.lemmas.Cmp.{nat_list_cmp_total}
use Rattle.json.specs.Json as json
use Rattle.json.specs.Tree as tree
use Rattle.json.specs.Token.{Token}
use Rattle.json.specs.Print.{IsNumber}
use Rattle.json.specs.Lex.{tokens}
use Rattle.json.proofs.Printed.Tokens.{tokens-print}
use Rattle.json.proofs.Printed.Trees.{ArePrintable-json_tokens, value-json_tokens}
use Rattle.json.proofs.Printed.Decimals.{IsNumber-decimal, IsNumber-signed_decimal}
use Rattle.serde_json.specs.Data as port
use Rattle.serde_json.specs.Find.{of_integer}
use Rattle.serde_json.specs.Read.{read, number_of, of_json, of_items, of_members}
use Rattle.serde_json.specs.Written.{outline, items_outline, members_outline, number_text}
use Rattle.serde_json.proofs.Texts.{print-outline}
use Rattle.serde_json.proofs.Numbers.{number_of-decimal, number_of-negative}
use Rattle.claim_tree.specs.Tree.{Tree, leaf, null, flag, whole, text, array, object, Elements, no_elements, element, Members, no_members, member, names, depth, elements_depth, members_depth, InRange, IsRanged, ElementsRanged, MembersRanged, IsOrdered, ElementsOrdered, MembersOrdered, IsBeforeAll}
use Rattle.claim_tree.specs.JsonText.{data_of, elements_data, members_data, json_text}

-- the digits of a whole number read back as it
digits_back : (z : ℤ) → InRange z → number_of (number_text (of_integer z)) ≡ Some (of_integer z)
digits_back (pos n) h = number_of-decimal n h
digits_back (negsuc n) h = number_of-negative n h

-- the members of b after those of a
abbrev glue : port.Members → port.Members → port.Members
glue port.no_members b = b
glue (port.member k d a) b = port.member k d (glue a b)

-- each name of ms comes before k
abbrev AreBefore : List ℕ → port.Members → Type 0
AreBefore k port.no_members = Unit {0}
AreBefore k (port.member l d ms) = (slice_cmp nat_cmp k l ≡ Greater) × AreBefore k ms

glue_none : (a : port.Members) → a ≡ glue a port.no_members
glue_none port.no_members = refl
glue_none (port.member k d a) = ap (port.member k d) (glue_none a)

put_after : (k : List ℕ) (d : port.Data) (a : port.Members) → AreBefore k a → port.put k d a ≡ glue a (port.member k d port.no_members)
put_after k d port.no_members h = refl
put_after k d (port.member l e a) h = rw h.0 (ap (port.member l e) (put_after k d a h.1))

glue_more : (a : port.Members) (k : List ℕ) (d : port.Data) (b : port.Members) → glue (glue a (port.member k d port.no_members)) b ≡ glue a (port.member k d b)
glue_more port.no_members k d b = refl
glue_more (port.member l e a) k d b = ap (port.member l e) (glue_more a k d b)

-- k comes before each name of ms
before_more : (k l : List ℕ) (d : port.Data) (a : port.Members) → AreBefore l a → slice_cmp nat_cmp l k ≡ Greater → AreBefore l (glue a (port.member k d port.no_members))
before_more k l d port.no_members h g = (g, tt)
before_more k l d (port.member m e a) h g = (h.0, before_more k l d a h.1 g)

-- each name of ms comes after each of found
abbrev AreAfter : port.Members → Members → Type 0
AreAfter found no_members = Unit {0}
AreAfter found (member name t ms) = AreBefore name found × AreAfter found ms

after_more : (found : port.Members) (k : List ℕ) (d : port.Data) (ms : Members) → AreAfter found ms → IsBeforeAll k (names ms) → AreAfter (glue found (port.member k d port.no_members)) ms
after_more found k d no_members h above = tt
after_more found k d (member l x ms) h above =
    let later : slice_cmp nat_cmp l k ≡ Greater = nat_list_cmp_total.antisymm l k ∙ ap ordering_reverse above.0 in
    (before_more k l d found h.0 later, after_more found k d ms h.1 above.1)

none_after : (ms : Members) → AreAfter port.no_members ms
none_after no_members = tt
none_after (member name t ms) = (tt, none_after ms)

mutual
  value_back : (t : Tree) → IsRanged t → IsOrdered t → of_json (outline (data_of t)) ≡ Some (data_of t)
  value_back (leaf null) r o = refl
  value_back (leaf (flag b)) r o = refl
  value_back (leaf (whole z)) r o = ap (option_map port.number) (digits_back z r)
  value_back (leaf (text s)) r o = refl
  value_back (array es) r o = ap (option_map port.array) (items_back es r o)
  value_back (object ms) r o = ap (option_map port.object) (members_back ms port.no_members r o (none_after ms))

  items_back : (es : Elements) → ElementsRanged es → ElementsOrdered es → of_items (items_outline (elements_data es)) ≡ Some (elements_data es)
  items_back no_elements r o = refl
  items_back (element t es) r o = rw (value_back t r.0 o.0, items_back es r.1 o.1) refl

  members_back : (ms : Members) (found : port.Members) → MembersRanged ms → MembersOrdered ms → AreAfter found ms → of_members (members_outline (members_data ms)) found ≡ Some (glue found (members_data ms))
  members_back no_members found r o a = ap Some (glue_none found)
  members_back (member name t ms) found r o a =
      let rest = members_back ms (glue found (port.member name (data_of t) port.no_members)) r.1 o.2 (after_more found name (data_of t) ms a.1 o.0) in
      rw (value_back t r.0 o.1, put_after name (data_of t) found a.0) (rest ∙ ap Some (glue_more found name (data_of t) (members_data ms)))

digits_number : (z : ℤ) → InRange z → IsNumber (number_text (of_integer z))
digits_number (pos n) h = IsNumber-decimal n h
digits_number (negsuc n) h = IsNumber-signed_decimal (negsuc n) h

mutual
  pub numbers : (t : Tree) → IsRanged t → tree.HasNumbers (outline (data_of t))
  numbers (leaf null) r = tt
  numbers (leaf (flag b)) r = tt
  numbers (leaf (whole z)) r = digits_number z r
  numbers (leaf (text s)) r = tt
  numbers (array es) r = items_numbers es r
  numbers (object ms) r = members_numbers ms r

  items_numbers : (es : Elements) → ElementsRanged es → tree.ItemsHaveNumbers (items_outline (elements_data es))
  items_numbers no_elements r = tt
  items_numbers (element t es) r = (numbers t r.0, items_numbers es r.1)

  members_numbers : (ms : Members) → MembersRanged ms → tree.MembersHaveNumbers (members_outline (members_data ms))
  members_numbers no_members r = tt
  members_numbers (member name t ms) r = (numbers t r.0, members_numbers ms r.1)

mutual
  pub outline_depth : (t : Tree) → tree.depth (outline (data_of t)) ≡ depth t
  outline_depth (leaf null) = refl
  outline_depth (leaf (flag b)) = refl
  outline_depth (leaf (whole z)) = refl
  outline_depth (leaf (text s)) = refl
  outline_depth (array es) = ap suc (items_outline_depth es)
  outline_depth (object ms) = ap suc (members_outline_depth ms)

  items_outline_depth : (es : Elements) → tree.items_depth (items_outline (elements_data es)) ≡ elements_depth es
  items_outline_depth no_elements = refl
  items_outline_depth (element t es) = rw (outline_depth t, items_outline_depth es) refl

  members_outline_depth : (ms : Members) → tree.members_depth (members_outline (members_data ms)) ≡ members_depth ms
  members_outline_depth no_members = refl
  members_outline_depth (member name t ms) = rw (outline_depth t, members_outline_depth ms) refl

finished : Option (json.Json × List Token) → Option port.Data
finished o = option_and_then of_json (option_and_then (λ p. json.if_last p.0 p.1) o)

-- the text of a value reads as the value
pub read_of_text : (t : Tree) → IsRanged t → IsOrdered t → depth t ≤ 127 → read (json_text t) ≡ Some (data_of t)
unfolding finished
read_of_text t ranged ordered shallow =
    let j = outline (data_of t) in
    let low : tree.depth j ≤ 127 = rw (outline_depth t) shallow in
    let same : tokens (json_text t) ≡ tree.json_tokens j = ap tokens (sym (print-outline (data_of t))) ∙ tokens-print (tree.json_tokens j) (ArePrintable-json_tokens j (numbers t ranged)) in
    let all : json.value 127 (tokens (json_text t)) ≡ Some (j, []) = ap (json.value 127) (same ∙ sym (append-nil (tree.json_tokens j))) ∙ value-json_tokens j 127 [] low in
    ap finished all ∙ value_back t ranged ordered
