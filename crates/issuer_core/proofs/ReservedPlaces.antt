-- The first member with a reserved name.
use Rattle.std.proofs.Common.{◌≡◌, ℕ, suc, ◌+◌, ◌<◌, List, [], ◌∷◌, ◌++◌, map, reverse, length, drop, get_or, Bool, true, false, cond, not, ◌||◌, Option, Some, None, option_map, Bor, refl, sym, ap, subst, ◌∙◌, arith, decimal}
use Rattle.std.specs.Prelude.{◌^◌, bytes_eq, slice_get, is_some, codes}
use Rattle.std.proofs.lemmas.List.{drop_more}
use Rattle.claim_tree.specs.Everywhere.{LeafIsUtf8, InElements, InMembers}
use Rattle.claim_tree.proofs.Everywheres.{everywhere_else}
use Rattle.claim_tree.specs.Tree as spec
use Rattle.claim_tree.specs.Tree.{Text, leaf, array, object, Elements, no_elements, element, Members, no_members, member, member_named, elements_len}
use Rattle.claim_tree.specs.declared.tree.Tree.{Tree}
use Rattle.claim_tree.specs.View.{tree_of}
use Rattle.claim_tree.specs.ListViews.{elements_of, members_of}
use Rattle.sd_outside.proofs.Lists.{bytes_same}
use Rattle.claim_tree.proofs.Walks.{Named}
use Rattle.digest_sites.specs.Reserved.{sd_name, dots_name}
use Rattle.marked_tree.specs.Paths.{Path}
use Rattle.rebuild_core.specs.Payload.{alg_name}
use Rattle.rebuild_core.specs.Free.{IsFree, HasNoReserved}
use Rattle.rebuild_core.proofs.FreeMembers.{ElementsNoReserved, MembersNoReserved}
use Rattle.std.specs.Str.{IsUtf8}
use Rattle.issuer_core.specs.GoodOrder.{FitsMachine}
use Rattle.issuer_core.specs.ShortLists.{HasShortLists}
use Rattle.issuer_core.specs.ReservedPaths.{is_sd, is_reserved, own_reserved_path, reserved_paths, reserved_elements, reserved_members}
use Rattle.issuer_core.proofs.Firsts.{first_none, first_some, first_map, no_first, both_empty, none_mapped}

-- ---- a member

abbrev pub places_at : Text → spec.Tree → List Path
places_at name t = own_reserved_path name ++ map (λ p. name ∷ p) (reserved_paths t)

pub found_here : (name : Text) (t : spec.Tree) → is_reserved name ≡ true → slice_get (places_at name t) 0 ≡ Some (name ∷ [])
found_here name t e = rw e refl

-- ---- an object

abbrev pub every : Text → Bool
every name = true

abbrev no_sd : Text → Bool
no_sd name = not (is_sd name)

none_named : (ms : Members) → member_named ms sd_name ≡ None → reserved_members is_sd ms ≡ []
none_named no_members h = refl
none_named (member k t ms) h = go (is_sd k) h (none_named ms)
  where
    go : (b : Bool) → cond b (Some t) (member_named ms sd_name) ≡ None → (member_named ms sd_name ≡ None → reserved_members is_sd ms ≡ []) → cond b (places_at k t) [] ++ reserved_members is_sd ms ≡ []
    go true h ih = cc h
    go false h ih = ih h

all_others : (ms : Members) → member_named ms sd_name ≡ None → reserved_members no_sd ms ≡ reserved_members every ms
all_others no_members h = refl
all_others (member k t ms) h = go (is_sd k) h (all_others ms)
  where
    go : (b : Bool) → cond b (Some t) (member_named ms sd_name) ≡ None → (member_named ms sd_name ≡ None → reserved_members no_sd ms ≡ reserved_members every ms)
        → cond (not b) (places_at k t) [] ++ reserved_members no_sd ms ≡ places_at k t ++ reserved_members every ms
    go true h ih = cc h
    go false h ih = ap (λ ps. places_at k t ++ ps) (ih h)

pub without_sd : (ms : Members) → member_named ms sd_name ≡ None → reserved_paths (object ms) ≡ reserved_members every ms
without_sd ms h = ap (λ ps. ps ++ reserved_members no_sd ms) (none_named ms h) ∙ all_others ms h

sd_first : (ms : Members) (t : spec.Tree) → member_named ms sd_name ≡ Some t → slice_get (reserved_members is_sd ms) 0 ≡ Some (sd_name ∷ [])
sd_first no_members t h = cc h
sd_first (member k u ms) t h = go (is_sd k) refl h (sd_first ms t)
  where
    go : (b : Bool) → is_sd k ≡ b → cond b (Some u) (member_named ms sd_name) ≡ Some t → (member_named ms sd_name ≡ Some t → slice_get (reserved_members is_sd ms) 0 ≡ Some (sd_name ∷ []))
        → slice_get (cond b (places_at k u) [] ++ reserved_members is_sd ms) 0 ≡ Some (sd_name ∷ [])
    go true e h ih =
        let reserved : is_reserved k ≡ true = rw e refl in
        first_some (places_at k u) (reserved_members is_sd ms) (sd_name ∷ []) (found_here k u reserved ∙ ap (λ (name : Text). Some (name ∷ [])) (bytes_same k sd_name e))
    go false e h ih = ih h

pub with_sd : (ms : Members) (t : spec.Tree) → member_named ms sd_name ≡ Some t → slice_get (reserved_paths (object ms)) 0 ≡ Some (sd_name ∷ [])
with_sd ms t h = first_some (reserved_members is_sd ms) (reserved_members no_sd ms) (sd_name ∷ []) (sd_first ms t h)

named_here : (r : Option (Bor Tree)) (o : Option spec.Tree) → option_map (λ t. tree_of t.now) r ≡ o → is_some r ≡ true → (t : spec.Tree) × (o ≡ Some t)
named_here None o e h = cc h
named_here (Some t) o e h = (tree_of t.now, sym e)

named_nowhere : (r : Option (Bor Tree)) (o : Option spec.Tree) → option_map (λ t. tree_of t.now) r ≡ o → is_some r ≡ false → o ≡ None
named_nowhere None o e h = sym e
named_nowhere (Some t) o e h = cc h

pub object_with : (ms : Members) (r : Option (Bor Tree)) → option_map (λ t. tree_of t.now) r ≡ member_named ms (codes "_sd") → is_some r ≡ true
    → (steps : Path) → steps ≡ codes "_sd" ∷ [] → Some (reverse steps) ≡ slice_get (reserved_paths (object ms)) 0
unfolding sd_name
object_with ms r e h steps one = let w = named_here r (member_named ms sd_name) e h in ap (λ (path : Path). Some (reverse path)) one ∙ sym (with_sd ms w.0 w.1)

pub object_without : (ms : Members) (r : Option (Bor Tree)) → option_map (λ t. tree_of t.now) r ≡ member_named ms (codes "_sd") → is_some r ≡ false → member_named ms sd_name ≡ None
unfolding sd_name
object_without ms r e h = named_nowhere r (member_named ms sd_name) e h

-- ---- elements that are left

abbrev pub left_elements : ℕ → List Tree → List Path
left_elements n ts = reserved_elements n (elements_of (drop n ts))

elements_left : (n : ℕ) (ts : List Tree) (t : Tree) → n < length ts → t ≡ get_or ts n t → left_elements n ts ≡ map (λ p. decimal n ∷ p) (reserved_paths (tree_of t)) ++ left_elements (n + 1) ts
elements_left n ts t within is =
    let there : drop n ts ≡ t ∷ drop (n + 1) ts = drop_more ts n t within ∙ ap (λ (d : Tree). d ∷ drop (n + 1) ts) (sym is) in
    ap (λ us. reserved_elements n (elements_of us)) there
    ∙ ap (λ m. map (λ (p : Path). decimal n ∷ p) (reserved_paths (tree_of t)) ++ reserved_elements m (elements_of (drop (n + 1) ts))) (let more : suc n ≡ n + 1 = omega arith in more)

pub element_passed : (n : ℕ) (ts : List Tree) (t : Tree) → n < length ts → t ≡ get_or ts n t → slice_get (reserved_paths (tree_of t)) 0 ≡ None → slice_get (left_elements (n + 1) ts) 0 ≡ slice_get (left_elements n ts) 0
element_passed n ts t within is none =
    let here = first_map (λ (p : Path). decimal n ∷ p) (reserved_paths (tree_of t)) ∙ ap (option_map (λ (p : Path). decimal n ∷ p)) none in
    sym (ap (λ ps. slice_get ps 0) (elements_left n ts t within is) ∙ first_none (map (λ (p : Path). decimal n ∷ p) (reserved_paths (tree_of t))) (left_elements (n + 1) ts) here)

pub element_found : (n : ℕ) (ts : List Tree) (t : Tree) (p : Path) → n < length ts → t ≡ get_or ts n t → slice_get (reserved_paths (tree_of t)) 0 ≡ Some p → slice_get (left_elements n ts) 0 ≡ Some (decimal n ∷ p)
element_found n ts t p within is some =
    let here = first_map (λ (q : Path). decimal n ∷ q) (reserved_paths (tree_of t)) ∙ ap (option_map (λ (q : Path). decimal n ∷ q)) some in
    ap (λ ps. slice_get ps 0) (elements_left n ts t within is) ∙ first_some (map (λ (q : Path). decimal n ∷ q) (reserved_paths (tree_of t))) (left_elements (n + 1) ts) (decimal n ∷ p) here

-- ---- members that are left

abbrev pub left_members : ℕ → List Named → List Path
left_members n ms = reserved_members every (members_of (drop n ms))

members_left : (n : ℕ) (ms : List Named) (m : Named) → n < length ms → m ≡ get_or ms n m → left_members n ms ≡ places_at m.0 (tree_of m.1) ++ left_members (n + 1) ms
members_left n ms m within is =
    let there : drop n ms ≡ m ∷ drop (n + 1) ms = drop_more ms n m within ∙ ap (λ (d : Named). d ∷ drop (n + 1) ms) (sym is) in
    ap (λ us. reserved_members every (members_of us)) there

pub member_passed : (n : ℕ) (ms : List Named) (m : Named) → n < length ms → m ≡ get_or ms n m → slice_get (places_at m.0 (tree_of m.1)) 0 ≡ None → slice_get (left_members (n + 1) ms) 0 ≡ slice_get (left_members n ms) 0
member_passed n ms m within is none = sym (ap (λ ps. slice_get ps 0) (members_left n ms m within is) ∙ first_none (places_at m.0 (tree_of m.1)) (left_members (n + 1) ms) none)

pub member_found : (n : ℕ) (ms : List Named) (m : Named) (p : Path) → n < length ms → m ≡ get_or ms n m → slice_get (places_at m.0 (tree_of m.1)) 0 ≡ Some p → slice_get (left_members n ms) 0 ≡ Some p
member_found n ms m p within is some = ap (λ ps. slice_get ps 0) (members_left n ms m within is) ∙ first_some (places_at m.0 (tree_of m.1)) (left_members (n + 1) ms) p some

-- ---- where there is none

is_free : (name : Text) → own_reserved_path name ≡ [] → IsFree name
is_free name h = go (is_sd name) (bytes_eq name dots_name) (bytes_eq name alg_name) h
  where
    go : (a b c : Bool) → cond (a || (b || c)) ((name ∷ []) ∷ []) [] ≡ [] → (a ≡ false) × (b ≡ false) × (c ≡ false)
    go true b c h = cc h
    go false true c h = cc h
    go false false true h = cc h
    go false false false h = (refl, refl, refl)

none_at : (name : Text) (t : spec.Tree) (b : Bool) → cond b (places_at name t) [] ≡ [] → cond (not b) (places_at name t) [] ≡ [] → places_at name t ≡ []
none_at name t true h k = h
none_at name t false h k = k

mutual
  none_reserved : (t : spec.Tree) → reserved_paths t ≡ [] → HasNoReserved t
  none_reserved (leaf l) h = tt
  none_reserved (array es) h = (tt, none_in_elements 0 es h)
  none_reserved (object ms) h = let both = both_empty (reserved_members is_sd ms) (reserved_members no_sd ms) h in none_in_members ms both.0 both.1

  none_in_elements : (i : ℕ) (es : Elements) → reserved_elements i es ≡ [] → ElementsNoReserved es
  none_in_elements i no_elements h = tt
  none_in_elements i (element t es) h =
      let both = both_empty (map (λ (p : Path). decimal i ∷ p) (reserved_paths t)) (reserved_elements (suc i) es) h in
      (none_reserved t (none_mapped (λ (p : Path). decimal i ∷ p) (reserved_paths t) both.0), none_in_elements (suc i) es both.1)

  none_in_members : (ms : Members) → reserved_members is_sd ms ≡ [] → reserved_members no_sd ms ≡ [] → MembersNoReserved ms
  none_in_members no_members h k = tt
  none_in_members (member name t ms) h k =
      let here = none_at name t (is_sd name) (both_empty (cond (is_sd name) (places_at name t) []) (reserved_members is_sd ms) h).0 (both_empty (cond (no_sd name) (places_at name t) []) (reserved_members no_sd ms) k).0 in
      let both = both_empty (own_reserved_path name) (map (λ (p : Path). name ∷ p) (reserved_paths t)) here in (
        is_free name both.0,
        none_reserved t (none_mapped (λ (p : Path). name ∷ p) (reserved_paths t) both.1),
        none_in_members ms (both_empty (cond (is_sd name) (places_at name t) []) (reserved_members is_sd ms) h).1 (both_empty (cond (no_sd name) (places_at name t) []) (reserved_members no_sd ms) k).1,
      )

pub no_reserved : (t : spec.Tree) → slice_get (reserved_paths t) 0 ≡ None → HasNoReserved t
no_reserved t h = none_reserved t (no_first (reserved_paths t) h)

-- ---- what a machine holds

abbrev pub ElementsFit : Elements → Type 0
ElementsFit es = InElements LeafIsUtf8 (λ us. elements_len us < 2 ^ 64) (λ name _. IsUtf8 name) es

abbrev pub MembersFit : Members → Type 0
MembersFit ms = InMembers LeafIsUtf8 (λ us. elements_len us < 2 ^ 64) (λ name _. IsUtf8 name) ms

pub held_element : (n : ℕ) (ts : List Tree) (t : Tree) → n < length ts → t ≡ get_or ts n t → FitsMachine (tree_of t) → ElementsFit (elements_of (drop (n + 1) ts)) → ElementsFit (elements_of (drop n ts))
held_element n ts t within is here rest =
    let there : drop n ts ≡ t ∷ drop (n + 1) ts = drop_more ts n t within ∙ ap (λ (d : Tree). d ∷ drop (n + 1) ts) (sym is) in
    subst (λ us. ElementsFit (elements_of us)) (sym there) (here, rest)

pub held_member : (n : ℕ) (ms : List Named) (m : Named) → n < length ms → m ≡ get_or ms n m → IsUtf8 m.0 → FitsMachine (tree_of m.1) → MembersFit (members_of (drop (n + 1) ms)) → MembersFit (members_of (drop n ms))
held_member n ms m within is name here rest =
    let there : drop n ms ≡ m ∷ drop (n + 1) ms = drop_more ms n m within ∙ ap (λ (d : Named). d ∷ drop (n + 1) ms) (sym is) in
    subst (λ us. MembersFit (members_of us)) (sym there) (name, here, rest)

pub held_short : (t : spec.Tree) → FitsMachine t → HasShortLists t
held_short t h = everywhere_else (λ l leaf_is. tt) (λ es few. few) (λ name u name_is. tt) t h
