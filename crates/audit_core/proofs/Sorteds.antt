-- What the test of each `_sd` says.
use Rattle.std.proofs.Common.{◌≡◌, inl, inr, Bool, true, false, not, ◌&&◌, ◌||◌, List, [], ◌∷◌, Option, Some, None, refl, sym, ap, subst}
use Rattle.std.specs.Prelude.{bytes_eq, option_map}
use Rattle.std.specs.Ordering.{is_lt, nat_cmp}
use Rattle.std.specs.Cmp.Lexicographic.{slice_cmp}
use Rattle.std.proofs.lemmas.Bool.{and_parts, and_from}
use Rattle.claim_tree.specs.Tree.{Text, Tree, leaf, null, flag, whole, text, array, object, Elements, no_elements, element, IsBefore}
use Rattle.sd_outside.specs.Lists.{In}
use Rattle.digest_sites.specs.Given.{Given}
use Rattle.claim_tree.proofs.EveryMembers.{each_is, is_each}
use Rattle.claim_tree.proofs.MapPlaces.{before_through, is_less}
use Rattle.digest_sites.specs.Reserved.{sd_name, texts_of}
use Rattle.issuer_core.specs.Issued.{Rises, IsDigestList, HasDigestLists}
use Rattle.issuer_core.proofs.LaidLists.{IsSdList}
use Rattle.audit_core.specs.SortedLists.{is_before, rise, is_digest_list, has_digests_in_order, has_digest_lists, values_have}

no : {A : Type 0} → false ≡ true → A
no e = let w : false ≡ true = e in absurd (cc)

before_is : (x y : Text) → is_before x y ≡ true → IsBefore x y
before_is x y e = is_less (slice_cmp nat_cmp x y) e

is_before_so : (x y : Text) → IsBefore x y → is_before x y ≡ true
is_before_so x y e = ap is_lt e

-- ---- one list

record RisesAfter (d : Text) (es : Elements) : Type 0 where
  texts : List Text
  are : texts_of es ≡ Some texts
  rises : Rises (d ∷ texts)

rise_is : (d : Text) (es : Elements) → rise d es ≡ true → RisesAfter d es
rise_is d no_elements e = record { texts = []; are = refl; rises = (tt, tt) }
rise_is d (element (leaf (text s)) es) e =
    let w = and_parts (is_before d s) (rise s es) e in
    let r = rise_is s es w.1 in
    let less = before_is d s w.0 in
    record { texts = s ∷ r.texts; are = ap (option_map (λ (ss : List Text). s ∷ ss)) r.are; rises = ((less, before_through d s r.texts less r.rises.0), r.rises) }
rise_is d (element (leaf null) es) e = no e
rise_is d (element (leaf (flag b)) es) e = no e
rise_is d (element (leaf (whole z)) es) e = no e
rise_is d (element (array fs) es) e = no e
rise_is d (element (object ms) es) e = no e

nothing : {A : Type 0} (ds : List Text) → ◌≡◌ {A = Option (List Text)} None (Some ds) → A
nothing ds e = absurd (cc)

some_same : (a b : List Text) → ◌≡◌ {A = Option (List Text)} (Some a) (Some b) → a ≡ b
some_same a b e = cc

is_rise : (d : Text) (es : Elements) (ds : List Text) → texts_of es ≡ Some ds → Rises (d ∷ ds) → rise d es ≡ true
is_rise d no_elements ds e r = refl
is_rise d (element (leaf (text s)) es) ds e r = go (texts_of es) refl e (is_rise s es)
  where
    go : (o : Option (List Text)) → texts_of es ≡ o → option_map (λ (ss : List Text). s ∷ ss) o ≡ Some ds
        → ((xs : List Text) → texts_of es ≡ Some xs → Rises (s ∷ xs) → rise s es ≡ true) → (is_before d s && rise s es) ≡ true
    go None c f ih = nothing ds f
    go (Some ss) c f ih =
        let r2 = subst (λ xs. Rises (d ∷ xs)) (sym (some_same (s ∷ ss) ds f)) r in
        and_from (is_before d s) (rise s es) (is_before_so d s r2.0.0) (ih ss c r2.1)
is_rise d (element (leaf null) es) ds e r = nothing ds e
is_rise d (element (leaf (flag b)) es) ds e r = nothing ds e
is_rise d (element (leaf (whole z)) es) ds e r = nothing ds e
is_rise d (element (array fs) es) ds e r = nothing ds e
is_rise d (element (object ms) es) ds e r = nothing ds e

list_is : (t : Tree) → is_digest_list t ≡ true → IsDigestList t
list_is (leaf l) e = no e
list_is (object ms) e = no e
list_is (array no_elements) e = no e
list_is (array (element (leaf (text d)) es)) e = let r = rise_is d es e in (d, r.texts, ap (option_map (λ (ss : List Text). d ∷ ss)) r.are, r.rises)
list_is (array (element (leaf null) es)) e = no e
list_is (array (element (leaf (flag b)) es)) e = no e
list_is (array (element (leaf (whole z)) es)) e = no e
list_is (array (element (array fs) es)) e = no e
list_is (array (element (object ms) es)) e = no e

is_list : (t : Tree) → IsDigestList t → is_digest_list t ≡ true
is_list (leaf l) h = nothing _ h.2
is_list (object ms) h = nothing _ h.2
is_list (array no_elements) h = let w = some_same [] (h.0 ∷ h.1) h.2 in absurd (cc)
is_list (array (element (leaf (text s)) es)) h = go (texts_of es) refl h.2
  where
    go : (o : Option (List Text)) → texts_of es ≡ o → option_map (λ (ss : List Text). s ∷ ss) o ≡ Some (h.0 ∷ h.1) → rise s es ≡ true
    go None c e = nothing _ e
    go (Some ss) c e = is_rise s es ss c (subst Rises (sym (some_same (s ∷ ss) (h.0 ∷ h.1) e)) h.3)
is_list (array (element (leaf null) es)) h = nothing _ h.2
is_list (array (element (leaf (flag b)) es)) h = nothing _ h.2
is_list (array (element (leaf (whole z)) es)) h = nothing _ h.2
is_list (array (element (array fs) es)) h = nothing _ h.2
is_list (array (element (object ms) es)) h = nothing _ h.2

-- ---- each list of a tree

member_is : (own : Bool) (t : Tree) → (not own || is_digest_list t) ≡ true → own ≡ true → IsDigestList t
member_is true t e o = list_is t e
member_is false t e o = no o

is_member : (own : Bool) (t : Tree) → (own ≡ true → IsDigestList t) → (not own || is_digest_list t) ≡ true
is_member true t h = is_list t (h refl)
is_member false t h = refl

pub lists_are : (t : Tree) → has_digest_lists t ≡ true → HasDigestLists t
lists_are = each_is has_digests_in_order IsSdList (λ name t. member_is (bytes_eq name sd_name) t)

pub are_lists : (t : Tree) → HasDigestLists t → has_digest_lists t ≡ true
are_lists = is_each has_digests_in_order IsSdList (λ name t. is_member (bytes_eq name sd_name) t)

-- ---- values

pub values_are : (given : List Given) → values_have given ≡ true → (x : Given) → In x given → HasDigestLists x.value
values_are [] e x m = absurd m
values_are (y ∷ given) e x (inl same) =
    let w = and_parts (has_digest_lists y.value) (values_have given) e in
    subst (λ (z : Given). HasDigestLists z.value) (sym same) (lists_are y.value w.0)
values_are (y ∷ given) e x (inr m) = let w = and_parts (has_digest_lists y.value) (values_have given) e in values_are given w.1 x m

pub are_values : (given : List Given) → ((x : Given) → In x given → HasDigestLists x.value) → values_have given ≡ true
are_values [] h = refl
are_values (y ∷ given) h = and_from (has_digest_lists y.value) (values_have given) (are_lists y.value (h y (inl refl))) (are_values given (λ x m. h x (inr m)))
