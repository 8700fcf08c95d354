-- The rows of a payload and of all values have one object, and stand in the payload's own, where their items do.
use Rattle.std.proofs.Common.{◌≡◌, ℕ, suc, ◌+◌, ◌≤◌, List, [], ◌∷◌, ◌++◌, map, length, Bool, true, false, Option, Some, None, bytes_eq, inl, inr, ⊎_elim, refl, sym, ap, ◌∙◌, subst, arith}
use Rattle.std.specs.Prelude.{if◌then◌else◌}
use Rattle.std.proofs.lemmas.List.{length-append, length-map}
use Rattle.claim_tree.specs.Tree.{Text, Tree, leaf, array, object, Elements, no_elements, element, Members, no_members, member, names, IsOrdered}
use Rattle.sd_outside.specs.Lists.{In}
use Rattle.claim_tree.specs.Removed.{removed}
use Rattle.sd_outside.proofs.Lists.{In-append, In-of_map}
use Rattle.claim_tree.proofs.MapPlaces.{ordered-removed}
use Rattle.digest_sites.specs.Reserved.{sd_name, sd_texts, element_digest}
use Rattle.digest_sites.specs.Sites.{Site, Step, to_member, sites, member_sites, own_site}
use Rattle.digest_sites.specs.Given.{Given}
use Rattle.digest_sites.specs.declared.site.SiteKind.{SiteKind}
use Rattle.rebuild_core.specs.Payload.{alg_name, without_alg}
use Rattle.rebuild_core.specs.Reached.{Owner, payload, value_of, OwnedSite, owned_site, value_sites, all_sites}
use Rattle.rebuild_core.specs.Answer.{IsPayload}
use Rattle.rebuild_core.specs.Readable.{IsReadable}
use Rattle.rebuild_core.specs.Rows.{SeenRow, beside_names, own_row, rows_on, tree_rows, element_rows, member_rows, value_rows, all_rows}
use Rattle.rebuild_core.proofs.AlgFacts.{HasTextAlg, has_text_alg, alg_is_not_sd, sd_texts_without}
use Rattle.rebuild_core.proofs.RowFacts.{length_top_rows}
use Rattle.rebuild_core.proofs.SideBySide.{Both, both_left, both_right, both_append, both_map}
use Rattle.rebuild_core.proofs.ObjectFacts.{IsLaid, laid_none, laid_wider, laid_append, laid_map, site_kind, site_at, object_laid, tree_laid, members_laid, member_starts}

-- ---- the payload without its own `_sd_alg`

rows_without : (n : ℕ) (ms : Members) → HasTextAlg ms → member_rows n ms ≡ member_rows n (removed ms alg_name)
rows_without n no_members h = refl
rows_without n (member name t ms) h = go (bytes_eq name alg_name) refl (λ m. rows_without m ms h.1)
  where
    go : (b : Bool) → bytes_eq name alg_name ≡ b → ((m : ℕ) → member_rows m ms ≡ member_rows m (removed ms alg_name))
        → member_rows n (member name t ms) ≡ member_rows n (if b then removed ms alg_name else member name t (removed ms alg_name))
    go true e ih = let z : n + 0 ≡ n = omega arith in rw (alg_is_not_sd name e, (h.0 e).1) (ap (λ k. member_rows k ms) z ∙ ih n)
    go false e ih =
        ap (λ rs. (if bytes_eq name sd_name then [] else tree_rows false n t) ++ rs) (ih (n + length (if bytes_eq name sd_name then [] else tree_rows false n t)))

payload_laid : (t : Tree) → IsOrdered t → IsPayload t → IsLaid site_kind site_at (sites (without_alg t)) (tree_rows true 0 t) 0 (0 + length (tree_rows true 0 t))
payload_laid (object ms) o h =
    let us = removed ms alg_name in
    let ds = sd_texts ms in
    let rs = member_rows (0 + length ds) ms in
    let inside : IsLaid site_kind site_at (member_sites us) rs (0 + length ds) ((0 + length ds) + length rs) =
    subst (λ z. IsLaid site_kind site_at (member_sites us) z (0 + length ds) ((0 + length ds) + length z)) (sym (rows_without (0 + length ds) ms (has_text_alg ms o h)))
    (members_laid (0 + length ds) us (ordered-removed ms alg_name o)) in
    subst (λ z. IsLaid site_kind site_at (map (own_site (names us)) z ++ member_sites us) (tree_rows true 0 (object ms)) 0 (0 + length (tree_rows true 0 (object ms)))) (sym (sd_texts_without ms))
    (object_laid true 0 (names us) (beside_names true ms) ds us rs inside)
payload_laid (leaf l) o h = elim h [ ]
payload_laid (array es) o h = elim h [ ]

-- ---- the items

-- whose object it is, and where
pub record Object : Type 0 where
  pub owner : Owner
  pub at : List Step

abbrev pub object_of : OwnedSite → Object
object_of m = record { owner = m.owner; at = m.site.at }

abbrev pub item_kind : OwnedSite → SiteKind
item_kind m = m.site.kind

items_laid : (o : Owner) (ss : List Site) (rs : List SeenRow) (low high : ℕ) → IsLaid site_kind site_at ss rs low high → IsLaid item_kind object_of (map (owned_site o) ss) rs low high
items_laid o ss rs low high h =
    laid_map site_kind site_at item_kind object_of (owned_site o) (λ x. refl) (λ x y e. ap (λ (z : Object). z.at) e) (λ x y e. ap (λ (z : List Step). let w : Object = record { owner = o; at = z } in w) e) ss rs low high h

owned : (o : Owner) (ss : List Site) (m : OwnedSite) → In m (map (owned_site o) ss) → m.owner ≡ o
owned o ss m h = let w = In-of_map (owned_site o) m ss h in ap (λ (z : OwnedSite). z.owner) w.2

value_owner : (i : ℕ) (given : List Given) (m : OwnedSite) → In m (value_sites (λ _. true) i given) → (j : ℕ) × (i ≤ j) × (m.owner ≡ value_of j)
value_owner i [] m h = elim h [ ]
value_owner i (x ∷ given) m h = ⊎_elim
    (λ l. (i, omega arith, owned (value_of i) (sites x.value) m l))
    (λ r. let w = value_owner (suc i) given m r in (w.0, omega (arith, w.1), w.2))
    (In-append m (map (owned_site (value_of i)) (sites x.value)) (value_sites (λ _. true) (suc i) given) h)

values_laid : (n i : ℕ) (given : List Given) → ((x : Given) → In x given → IsOrdered x.value) → IsLaid item_kind object_of (value_sites (λ _. true) i given) (value_rows n given) n (n + length (value_rows n given))
values_laid n i [] o = laid_none item_kind object_of n (n + 0)
values_laid n i (x ∷ given) o =
    let here = tree_rows false n x.value in
    let rest = value_rows (n + length here) given in
    laid_wider item_kind object_of _ _ n ((n + length here) + length rest) _ (omega (arith, length-append here rest))
    (laid_append item_kind object_of (map (owned_site (value_of i)) (sites x.value)) (value_sites (λ _. true) (suc i) given) here rest n (n + length here) ((n + length here) + length rest) (omega arith) (omega arith)
    (items_laid (value_of i) (sites x.value) here n (n + length here) (tree_laid false n x.value (o x (inl refl)))) (values_laid (n + length here) (suc i) given (λ y h. o y (inr h)))
    (λ m e a b same.
    let w = value_owner (suc i) given e b in
    let z : value_of i ≡ value_of w.0 = sym (owned (value_of i) (sites x.value) m a) ∙ ap (λ (z : Object). z.owner) same ∙ w.2 in
    let y : i ≡ w.0 = cc in
    omega (arith, y, w.1)))

pub all_laid : (t : Tree) (given : List Given) → IsReadable t given → IsPayload t → IsLaid item_kind object_of (all_sites (without_alg t) given) (all_rows t given) 0 (length (all_rows t given))
all_laid t given o h =
    let here = tree_rows true 0 t in
    let rest = value_rows (length here) given in
    laid_wider item_kind object_of _ _ 0 (length here + length rest) _ (omega (arith, length-append here rest))
    (laid_append item_kind object_of (map (owned_site payload) (sites (without_alg t))) (value_sites (λ _. true) 0 given) here rest 0 (length here) (length here + length rest) (omega arith) (omega arith)
    (laid_wider item_kind object_of _ _ 0 (0 + length here) (length here) (omega arith) (items_laid payload (sites (without_alg t)) here 0 (0 + length here) (payload_laid t o.in_payload h)))
    (values_laid (length here) 0 given o.in_values)
    (λ m e a b same.
    let w = value_owner 0 given e b in
    let z : payload ≡ value_of w.0 = sym (owned payload (sites (without_alg t)) m a) ∙ ap (λ (z : Object). z.owner) same ∙ w.2 in
    cc))

-- ---- the payload's own object

on_not_top : (n : ℕ) (digest : Option Text) (rs : List SeenRow) → ((r : SeenRow) → In r rs → r.top ≡ false) → (r : SeenRow) → In r (rows_on n digest rs) → r.top ≡ false
on_not_top n None rs all r h = all r h
on_not_top n (Some d) rs all r (inl e) = ap (λ (z : SeenRow). z.top) e
on_not_top n (Some d) rs all r (inr h) = elim h [ ]

in_not_top : (own : Bool) (rs : List SeenRow) → ((r : SeenRow) → In r rs → r.top ≡ false) → (r : SeenRow) → In r (if own then [] else rs) → r.top ≡ false
in_not_top true rs all r h = elim h [ ]
in_not_top false rs all r h = all r h

own_top : (top : Bool) (n : ℕ) (beside ds : List Text) (r : SeenRow) → In r (map (own_row top n beside) ds) → r.top ≡ top
own_top top n beside ds r h = let w = In-of_map (own_row top n beside) r ds h in ap (λ (z : SeenRow). z.top) w.2

mutual
  tree_not_top : (n : ℕ) (t : Tree) (r : SeenRow) → In r (tree_rows false n t) → r.top ≡ false
  tree_not_top n (leaf l) r h = elim h [ ]
  tree_not_top n (array es) r h = elements_not_top n es r h
  tree_not_top n (object ms) r h = ⊎_elim
      (λ l. own_top false n (names ms) (sd_texts ms) r l) (λ l. members_not_top (n + length (sd_texts ms)) ms r l)
      (In-append r (map (own_row false n (names ms)) (sd_texts ms)) (member_rows (n + length (sd_texts ms)) ms) h)

  elements_not_top : (n : ℕ) (es : Elements) (r : SeenRow) → In r (element_rows n es) → r.top ≡ false
  elements_not_top n no_elements r h = elim h [ ]
  elements_not_top n (element t es) r h =
      let here = rows_on n (element_digest t) (tree_rows false n t) in
      ⊎_elim (λ l. on_not_top n (element_digest t) (tree_rows false n t) (λ q i. tree_not_top n t q i) r l) (λ l. elements_not_top (n + length here) es r l)
      (In-append r here (element_rows (n + length here) es) h)

  members_not_top : (n : ℕ) (ms : Members) (r : SeenRow) → In r (member_rows n ms) → r.top ≡ false
  members_not_top n no_members r h = elim h [ ]
  members_not_top n (member name t ms) r h =
      let here = if bytes_eq name sd_name then [] else tree_rows false n t in
      ⊎_elim (λ l. in_not_top (bytes_eq name sd_name) (tree_rows false n t) (λ q i. tree_not_top n t q i) r l) (λ l. members_not_top (n + length here) ms r l)
      (In-append r here (member_rows (n + length here) ms) h)

values_not_top : (n : ℕ) (given : List Given) (r : SeenRow) → In r (value_rows n given) → r.top ≡ false
values_not_top n [] r h = elim h [ ]
values_not_top n (x ∷ given) r h =
    let here = tree_rows false n x.value in
    ⊎_elim (λ l. tree_not_top n x.value r l) (λ l. values_not_top (n + length here) given r l) (In-append r here (value_rows (n + length here) given) h)

-- at the payload's own object stand its own digests
abbrev IsTopAt : Site → SeenRow → Type 0
IsTopAt s r = (r.top ≡ true → s.at ≡ []) × (s.at ≡ [] → r.top ≡ true)

object_top : (n : ℕ) (beside others ds : List Text) (ms : Members) (rs : List SeenRow) → ((r : SeenRow) → In r rs → r.top ≡ false)
    → (s : Site) (r : SeenRow) → Both (map (own_site beside) ds ++ member_sites ms) (map (own_row true n others) ds ++ rs) s r → IsTopAt s r
object_top n beside others ds ms rs all s r h = ⊎_elim
    (λ l.
    let w = In-of_map (own_site beside) s ds (both_left _ _ s r l) in
    (λ _. ap (λ (z : Site). z.at) w.2, λ _. own_top true n others ds r (both_right _ _ s r l)))
    (λ l.
    let w = member_starts ms s (both_left (member_sites ms) rs s r l) in
    let f = all r (both_right (member_sites ms) rs s r l) in
    (λ e. let z : true ≡ false = sym e ∙ f in cc, λ e. let z : [] ≡ (to_member w.0 ∷ w.2.0) = sym e ∙ w.2.1 in cc))
    (both_append (map (own_site beside) ds) (member_sites ms) (map (own_row true n others) ds) rs s r (length-map ds (own_site beside) ∙ sym (length-map ds (own_row true n others))) h)

payload_top : (t : Tree) → IsPayload t → (s : Site) (r : SeenRow) → Both (sites (without_alg t)) (tree_rows true 0 t) s r → IsTopAt s r
payload_top (object ms) h s r b =
    let us = removed ms alg_name in
    object_top 0 (names us) (beside_names true ms) (sd_texts ms) us (member_rows (0 + length (sd_texts ms)) ms) (λ q i. members_not_top (0 + length (sd_texts ms)) ms q i) s r
    (subst (λ z. Both (map (own_site (names us)) z ++ member_sites us) (tree_rows true 0 (object ms)) s r) (sd_texts_without ms) b)
payload_top (leaf l) h s r b = elim h [ ]
payload_top (array es) h s r b = elim h [ ]

pub all_top : (t : Tree) (given : List Given) → IsReadable t given → IsPayload t → (m : OwnedSite) (r : SeenRow) → Both (all_sites (without_alg t) given) (all_rows t given) m r
    → (r.top ≡ true → (m.owner ≡ payload) × (m.site.at ≡ [])) × (m.owner ≡ payload → m.site.at ≡ [] → r.top ≡ true)
all_top t given o h m r b = ⊎_elim
    (λ l.
    let w = both_map (owned_site payload) (sites (without_alg t)) (tree_rows true 0 t) m r l in
    let p = payload_top t h w.0 r w.2 in
    let at : m.site.at ≡ w.0.at = ap (λ (z : OwnedSite). z.site.at) w.1 in
    (λ e. (ap (λ (z : OwnedSite). z.owner) w.1, at ∙ p.0 e), λ _ e. p.1 (sym at ∙ e)))
    (λ l.
    let w = value_owner 0 given m (both_left (value_sites (λ _. true) 0 given) (value_rows (length (tree_rows true 0 t)) given) m r l) in
    let f = values_not_top (length (tree_rows true 0 t)) given r (both_right (value_sites (λ _. true) 0 given) (value_rows (length (tree_rows true 0 t)) given) m r l) in
    (λ e. let z : true ≡ false = sym e ∙ f in cc, λ e _. let z : payload ≡ value_of w.0 = sym e ∙ w.2 in cc))
    (both_append (map (owned_site payload) (sites (without_alg t))) (value_sites (λ _. true) 0 given) (tree_rows true 0 t) (value_rows (length (tree_rows true 0 t)) given) m r
    (length-map (sites (without_alg t)) (owned_site payload) ∙ sym (length_top_rows t o.in_payload h)) b)
