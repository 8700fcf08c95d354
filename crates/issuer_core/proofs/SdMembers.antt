-- The member `_sd` among others: its digests are read, opening leaves it out, and what is laid is no element with a digest.
use Rattle.std.proofs.Common.{◌≡◌, ℕ, List, [], ◌∷◌, ◌++◌, Equal, Greater, Less, None, Ordering, Some, ap, cond, false, inl, inr, map, option_map, refl, true}
use Rattle.std.proofs.lemmas.Map.Lookups.{exact_bytes}
use Rattle.std.specs.Cmp.Lexicographic.{slice_cmp}
use Rattle.std.specs.Ordering.{match_ordering, nat_cmp}
use Rattle.std.specs.Prelude.{bytes_eq, option_and_then}
use Rattle.claim_tree.specs.TreeValues.{text_elements}
use Rattle.sd_outside.specs.Lists.{In}
use Rattle.claim_tree.specs.Tree.{Members, Text, Tree, array, inserted, member, no_members, object}
use Rattle.digest_sites.specs.Reserved.{dots_name, element_digest, sd_name, sd_texts, texts_of}
use Rattle.digest_sites.specs.Sites.{Site, member_sites, sites, to_member, under}
use Rattle.marked_tree.specs.Marked.{Marked, MarkedMembers, marked_array, marked_leaf, marked_member, marked_object, no_marked_elements, no_marked_members}
use Rattle.rebuild_core.specs.Opening.{Shown, nothing_shown, open_elements, open_members, open_tree}
use Rattle.rebuild_core.proofs.AllShown.{sd_no_dots}
use Rattle.issuer_core.specs.Laid.{digest_elements, digest_object, hidden_digests, lay, lay_members, sorted, with_sd}
use Rattle.sd_outside.proofs.Lists.{bytes_refl}
use Rattle.issuer_core.proofs.Plain.{IsPlain, MembersPlain}

abbrev pub HasNo : Text → Members → Type 0
HasNo n no_members = Unit {0}
HasNo n (member k t ms) = (bytes_eq k n ≡ false) × HasNo n ms

pub lay_has_no : (n : Text) → ((k : Text) → bytes_eq k sd_name ≡ false → bytes_eq k dots_name ≡ false → bytes_eq k n ≡ false)
    → (dec : List Text → List Text) (dg : ℕ → Text) (ms : MarkedMembers) → MembersPlain ms → HasNo n (lay_members dec dg ms)
lay_has_no n f dec dg no_marked_members h = tt
lay_has_no n f dec dg (marked_member k None t ms) h = (f k h.0 h.1, lay_has_no n f dec dg ms h.4)
lay_has_no n f dec dg (marked_member k (Some i) t ms) h = lay_has_no n f dec dg ms h.4

pub texts_are : (ds : List Text) → texts_of (text_elements ds) ≡ Some ds
texts_are [] = refl
texts_are (d ∷ ds) = ap (λ o. option_and_then (λ s. option_map (λ ss. s ∷ ss) o) (Some d)) (texts_are ds)

no_sd_texts : (ms : Members) → HasNo sd_name ms → sd_texts ms ≡ []
no_sd_texts no_members h = refl
no_sd_texts (member k t ms) h = rw h.0 (no_sd_texts ms h.1)

-- a name that is not there is put in its place
abbrev set_by : Ordering → Text → Tree → Text → Tree → Members → Members → Members
set_by o n t l u ms rest = match_ordering o (member l u rest) (member n t ms) (member n t (member l u ms))

not_equal : (l n : Text) → bytes_eq l n ≡ false → slice_cmp nat_cmp l n ≡ Equal → ⊥
not_equal l n h e = let t : bytes_eq l n ≡ true = bytes_refl l n (exact_bytes l n e) in cc

set_sd_texts : (ds : List Text) (ms : Members) → HasNo sd_name ms → sd_texts (inserted ms sd_name (array (text_elements ds))) ≡ ds
set_sd_texts ds no_members h = rw (bytes_refl sd_name sd_name refl, texts_are)
set_sd_texts ds (member l u ms) h = go (slice_cmp nat_cmp l sd_name) refl (set_sd_texts ds ms h.1)
  where
    go : (o : Ordering) → slice_cmp nat_cmp l sd_name ≡ o → sd_texts (inserted ms sd_name (array (text_elements ds))) ≡ ds
        → sd_texts (set_by o sd_name (array (text_elements ds)) l u ms (inserted ms sd_name (array (text_elements ds)))) ≡ ds
    go Less w ih = rw h.0 ih
    go Equal w ih = absurd (not_equal l sd_name h.0 w)
    go Greater w ih = rw (bytes_refl sd_name sd_name refl, texts_are)

set_sd_open : (r : Text → Shown) (t : Tree) (ms : Members) → HasNo sd_name ms → open_members r (inserted ms sd_name t) ≡ open_members r ms
set_sd_open r t no_members h = rw (bytes_refl sd_name sd_name refl)
set_sd_open r t (member l u ms) h = go (slice_cmp nat_cmp l sd_name) refl (set_sd_open r t ms h.1)
  where
    go : (o : Ordering) → slice_cmp nat_cmp l sd_name ≡ o → open_members r (inserted ms sd_name t) ≡ open_members r ms
        → open_members r (set_by o sd_name t l u ms (inserted ms sd_name t)) ≡ open_members r (member l u ms)
    go Less w ih = ap (λ x. cond (bytes_eq l sd_name) x (marked_member l None (open_tree r u) x)) ih
    go Equal w ih = absurd (not_equal l sd_name h.0 w)
    go Greater w ih = rw (bytes_refl sd_name sd_name refl)

pub with_sd_texts : (ds : List Text) (ms : Members) → HasNo sd_name ms → sd_texts (with_sd ds ms) ≡ ds
with_sd_texts [] ms h = no_sd_texts ms h
with_sd_texts (d ∷ ds) ms h = set_sd_texts (d ∷ ds) ms h

pub with_sd_open : (r : Text → Shown) (ds : List Text) (ms : Members) → HasNo sd_name ms → open_members r (with_sd ds ms) ≡ open_members r ms
with_sd_open r [] ms h = refl
with_sd_open r (d ∷ ds) ms h = set_sd_open r (array (text_elements (d ∷ ds))) ms h

-- the sites inside the others stay as they are
set_sites : (t : Tree) (ms : Members) → HasNo sd_name ms → member_sites (inserted ms sd_name t) ≡ member_sites ms
set_sites t no_members h = rw (bytes_refl sd_name sd_name refl)
set_sites t (member l u ms) h = go (slice_cmp nat_cmp l sd_name) refl (set_sites t ms h.1)
  where
    go : (o : Ordering) → slice_cmp nat_cmp l sd_name ≡ o → member_sites (inserted ms sd_name t) ≡ member_sites ms
        → member_sites (set_by o sd_name t l u ms (inserted ms sd_name t)) ≡ member_sites (member l u ms)
    go Less w ih = ap (λ (ss : List Site). cond (bytes_eq l sd_name) [] (map (under (to_member l)) (sites u)) ++ ss) ih
    go Equal w ih = absurd (not_equal l sd_name h.0 w)
    go Greater w ih = rw (bytes_refl sd_name sd_name refl)

pub with_sd_sites : (ds : List Text) (ms : Members) → HasNo sd_name ms → member_sites (with_sd ds ms) ≡ member_sites ms
with_sd_sites [] ms h = refl
with_sd_sites (d ∷ ds) ms h = set_sites (array (text_elements (d ∷ ds))) ms h

-- ---- what is laid from an element is no digest element

two_members : (l : Text) (u : Tree) (n : Text) (t : Tree) (ms : Members) → element_digest (object (member l u (inserted ms n t))) ≡ None
two_members l u n t no_members = refl
two_members l u n t (member k v ms) = go (slice_cmp nat_cmp k n)
  where
    go : (o : Ordering) → element_digest (object (member l u (set_by o n t k v ms (inserted ms n t)))) ≡ None
    go Less = refl
    go Equal = refl
    go Greater = refl

no_dots_only : (ms : Members) → HasNo dots_name ms → element_digest (object ms) ≡ None
no_dots_only no_members h = refl
no_dots_only (member k t no_members) h = rw h.0
no_dots_only (member k t (member l u ms)) h = refl

set_sd_only : (t : Tree) (ms : Members) → HasNo sd_name ms → element_digest (object (inserted ms sd_name t)) ≡ None
set_sd_only t no_members h = rw sd_no_dots
set_sd_only t (member l u ms) h = go (slice_cmp nat_cmp l sd_name) refl
  where
    go : (o : Ordering) → slice_cmp nat_cmp l sd_name ≡ o → element_digest (object (set_by o sd_name t l u ms (inserted ms sd_name t))) ≡ None
    go Less w = two_members l u sd_name t ms
    go Equal w = absurd (not_equal l sd_name h.0 w)
    go Greater w = refl

with_sd_only : (ds : List Text) (ms : Members) → HasNo sd_name ms → HasNo dots_name ms → element_digest (object (with_sd ds ms)) ≡ None
with_sd_only [] ms h k = no_dots_only ms k
with_sd_only (d ∷ ds) ms h k = set_sd_only (array (text_elements (d ∷ ds))) ms h

pub laid_no_digest : (dec : List Text → List Text) (dg : ℕ → Text) (t : Marked) → IsPlain t → element_digest (lay dec dg t) ≡ None
laid_no_digest dec dg (marked_leaf l) h = refl
laid_no_digest dec dg (marked_array es) h = refl
laid_no_digest dec dg (marked_object ms) h =
    with_sd_only (sorted (hidden_digests dg ms ++ dec [])) (lay_members dec dg ms)
    (lay_has_no sd_name (λ k a b. a) dec dg ms h) (lay_has_no dots_name (λ k a b. b) dec dg ms h)

pub digest_read : (d : Text) → element_digest (digest_object d) ≡ Some d
digest_read d = rw (bytes_refl dots_name dots_name refl)

pub decoys_left_out : (r : Text → Shown) (ds : List Text) → ((d : Text) → In d ds → r d ≡ nothing_shown) → open_elements r (digest_elements ds) ≡ no_marked_elements
decoys_left_out r [] h = refl
decoys_left_out r (d ∷ ds) h = rw (digest_read d, h d (inl refl)) (decoys_left_out r ds (λ e m. h e (inr m)))
