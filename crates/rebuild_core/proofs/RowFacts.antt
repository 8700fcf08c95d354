-- The rows of a payload and of all values are their sites.
use Rattle.std.proofs.Common.{◌≡◌, ℕ, suc, ◌+◌, List, [], ◌∷◌, ◌++◌, map, length, Bool, true, false, Option, Some, None, bytes_eq, refl, sym, ap, ap₂, ◌∙◌, subst, arith}
use Rattle.std.specs.Prelude.{if◌then◌else◌, sum_by}
use Rattle.std.proofs.lemmas.List.{map-append, length-map, length-append}
use Rattle.std.proofs.lemmas.List.Sums.{sum_by-cons}
use Rattle.claim_tree.specs.Tree.{Text, Tree, leaf, array, object, Elements, no_elements, element, Members, no_members, member, names, IsOrdered}
use Rattle.sd_outside.specs.Lists.{StandsAt}
use Rattle.claim_tree.specs.Removed.{removed}
use Rattle.sd_outside.proofs.Lists.{At-map, At-same}
use Rattle.digest_sites.specs.Reserved.{sd_name, sd_texts, element_digest}
use Rattle.digest_sites.specs.Sites.{Site, Step, to_member, to_element, sites, element_sites, member_sites, sites_on, under, own_site}
use Rattle.digest_sites.specs.Given.{Given}
use Rattle.digest_sites.specs.declared.site.SiteKind.{SiteKind}
use Rattle.rebuild_core.specs.Payload.{alg_name, without_alg}
use Rattle.rebuild_core.specs.Reached.{Owner, payload, value_of, OwnedSite, owned_site, value_sites, owned_digests, all_sites}
use Rattle.rebuild_core.specs.LookUps.{look_ups}
use Rattle.rebuild_core.specs.Answer.{IsPayload}
use Rattle.rebuild_core.specs.DigestNumbers.{row_texts}
use Rattle.rebuild_core.specs.declared.rows.Row.{Row}
use Rattle.rebuild_core.specs.Rows.{SeenRow, seen, own_row, rows_on, tree_rows, element_rows, member_rows, value_rows, all_rows}
use Rattle.rebuild_core.proofs.AlgFacts.{HasTextAlg, has_text_alg, alg_is_not_sd, sd_texts_without}

-- what a row and a site both have
pub record Look : Type 0 where
  pub kind : SiteKind
  pub digest : Text
  pub beside : List Text

abbrev pub row_look : SeenRow → Look
row_look r = record { kind = r.kind; digest = r.digest; beside = r.beside }

abbrev pub site_look : Site → Look
site_look s = record { kind = s.kind; digest = s.digest; beside = s.beside }

abbrev pub item_look : OwnedSite → Look
item_look m = site_look m.site

under_looks : (step : Step) (ss : List Site) → map site_look (map (under step) ss) ≡ map site_look ss
under_looks step [] = refl
under_looks step (s ∷ ss) = ap (λ ls. site_look s ∷ ls) (under_looks step ss)

own_looks : (top : Bool) (n : ℕ) (beside ds : List Text) → map row_look (map (own_row top n beside) ds) ≡ map site_look (map (own_site beside) ds)
own_looks top n beside [] = refl
own_looks top n beside (d ∷ ds) = ap (λ ls. site_look (own_site beside d) ∷ ls) (own_looks top n beside ds)

on_looks : (n i : ℕ) (digest : Option Text) (rs : List SeenRow) (ss : List Site) → map row_look rs ≡ map site_look ss
    → map row_look (rows_on n digest rs) ≡ map site_look (sites_on (to_element i) digest ss)
on_looks n i None rs ss h = h ∙ sym (under_looks (to_element i) ss)
on_looks n i (Some d) rs ss h = refl

in_looks : (own : Bool) (name : Text) (rs : List SeenRow) (ss : List Site) → map row_look rs ≡ map site_look ss
    → map row_look (if own then [] else rs) ≡ map site_look (if own then [] else map (under (to_member name)) ss)
in_looks true name rs ss h = refl
in_looks false name rs ss h = h ∙ sym (under_looks (to_member name) ss)

joined : (rs qs : List SeenRow) (ss us : List Site) → map row_look rs ≡ map site_look ss → map row_look qs ≡ map site_look us
    → map row_look (rs ++ qs) ≡ map site_look (ss ++ us)
joined rs qs ss us g h = map-append row_look rs qs ∙ (ap₂ (λ (a b : List Look). a ++ b) g h ∙ sym (map-append site_look ss us))

mutual
  pub tree_looks : (n : ℕ) (t : Tree) → map row_look (tree_rows false n t) ≡ map site_look (sites t)
  tree_looks n (leaf l) = refl
  tree_looks n (array es) = element_looks n 0 es
  tree_looks n (object ms) = joined _ _ _ _ (own_looks false n (names ms) (sd_texts ms)) (member_looks (n + length (sd_texts ms)) ms)

  element_looks : (n i : ℕ) (es : Elements) → map row_look (element_rows n es) ≡ map site_look (element_sites i es)
  element_looks n i no_elements = refl
  element_looks n i (element t es) =
      joined _ _ _ _ (on_looks n i (element_digest t) _ _ (tree_looks n t)) (element_looks (n + length (rows_on n (element_digest t) (tree_rows false n t))) (suc i) es)

  member_looks : (n : ℕ) (ms : Members) → map row_look (member_rows n ms) ≡ map site_look (member_sites ms)
  member_looks n no_members = refl
  member_looks n (member name t ms) =
      joined _ _ _ _ (in_looks (bytes_eq name sd_name) name _ _ (tree_looks n t)) (member_looks (n + length (if bytes_eq name sd_name then [] else tree_rows false n t)) ms)

-- ---- the payload itself

top_members : (n : ℕ) (ms : Members) → HasTextAlg ms → map row_look (member_rows n ms) ≡ map site_look (member_sites (removed ms alg_name))
top_members n no_members h = refl
top_members n (member name t ms) h = go (bytes_eq name alg_name) refl (λ m. top_members m ms h.1)
  where
    go : (b : Bool) → bytes_eq name alg_name ≡ b → ((m : ℕ) → map row_look (member_rows m ms) ≡ map site_look (member_sites (removed ms alg_name)))
        → map row_look (member_rows n (member name t ms)) ≡ map site_look (member_sites (if b then removed ms alg_name else member name t (removed ms alg_name)))
    go true e ih = rw (alg_is_not_sd name e, (h.0 e).1) (ih (n + 0))
    go false e ih =
        joined _ _ _ _ (in_looks (bytes_eq name sd_name) name _ _ (tree_looks n t)) (ih (n + length (if bytes_eq name sd_name then [] else tree_rows false n t)))

pub top_looks : (t : Tree) → IsOrdered t → IsPayload t → map row_look (tree_rows true 0 t) ≡ map site_look (sites (without_alg t))
top_looks (object ms) o h =
    let us = removed ms alg_name in
    joined _ _ _ _ (own_looks true 0 (names us) (sd_texts ms) ∙ ap (λ ds. map site_look (map (own_site (names us)) ds)) (sym (sd_texts_without ms))) (top_members (0 + length (sd_texts ms)) ms (has_text_alg ms o h))
top_looks (leaf l) o h = elim h [ ]
top_looks (array es) o h = elim h [ ]

-- ---- all of them

item_looks : (o : Owner) (ss : List Site) → map item_look (map (owned_site o) ss) ≡ map site_look ss
item_looks o [] = refl
item_looks o (s ∷ ss) = ap (λ ls. site_look s ∷ ls) (item_looks o ss)

both_look : (rs qs : List SeenRow) (ms us : List OwnedSite) → map row_look rs ≡ map item_look ms → map row_look qs ≡ map item_look us → map row_look (rs ++ qs) ≡ map item_look (ms ++ us)
both_look rs qs ms us g h = map-append row_look rs qs ∙ (ap₂ (λ (a b : List Look). a ++ b) g h ∙ sym (map-append item_look ms us))

value_looks : (n i : ℕ) (given : List Given) → map row_look (value_rows n given) ≡ map item_look (value_sites (λ _. true) i given)
value_looks n i [] = refl
value_looks n i (x ∷ given) =
    both_look _ _ _ _ (tree_looks n x.value ∙ sym (item_looks (value_of i) (sites x.value))) (value_looks (n + length (tree_rows false n x.value)) (suc i) given)

pub all_look : (t : Tree) (given : List Given) → IsOrdered t → IsPayload t → map row_look (all_rows t given) ≡ map item_look (all_sites (without_alg t) given)
all_look t given o h =
    both_look _ _ _ _ (top_looks t o h ∙ sym (item_looks payload (sites (without_alg t)))) (value_looks (length (tree_rows true 0 t)) 0 given)

-- row by row
pub row_is_item : (t : Tree) (given : List Given) → IsOrdered t → IsPayload t → (place : ℕ) (r : SeenRow) (m : OwnedSite) → StandsAt (all_rows t given) place r → StandsAt (all_sites (without_alg t) given) place m
    → (r.kind ≡ m.site.kind) × (r.digest ≡ m.site.digest) × (r.beside ≡ m.site.beside)
row_is_item t given o h place r m a b =
    let there = subst (λ (ls : List Look). StandsAt ls place (row_look r)) (all_look t given o h) (At-map row_look (all_rows t given) place r a) in
    let same : row_look r ≡ item_look m = At-same (map item_look (all_sites (without_alg t) given)) place (row_look r) (item_look m) there (At-map item_look (all_sites (without_alg t) given) place m b) in
    (ap (λ (l : Look). l.kind) same, ap (λ (l : Look). l.digest) same, ap (λ (l : Look). l.beside) same)

-- ---- how many

row_digests : (rs : List SeenRow) → map (λ (l : Look). l.digest) (map row_look rs) ≡ map (λ (r : SeenRow). r.digest) rs
row_digests [] = refl
row_digests (r ∷ rs) = ap (λ ds. r.digest ∷ ds) (row_digests rs)

pub length_look : (rs : List SeenRow) (ss : List Site) → map row_look rs ≡ map site_look ss → length rs ≡ length ss
length_look rs ss h = sym (length-map rs row_look) ∙ (ap length h ∙ length-map ss site_look)

pub length_tree_rows : (n : ℕ) (t : Tree) → length (tree_rows false n t) ≡ length (sites t)
length_tree_rows n t = length_look (tree_rows false n t) (sites t) (tree_looks n t)

pub length_top_rows : (t : Tree) → IsOrdered t → IsPayload t → length (tree_rows true 0 t) ≡ length (sites (without_alg t))
length_top_rows t o h = length_look (tree_rows true 0 t) (sites (without_alg t)) (top_looks t o h)

item_texts : (ms : List OwnedSite) → map (λ (l : Look). l.digest) (map item_look ms) ≡ owned_digests ms
item_texts [] = refl
item_texts (m ∷ ms) = ap (λ ds. m.site.digest ∷ ds) (item_texts ms)

seen_texts : (rows : List Row) → row_texts rows ≡ map (λ (r : SeenRow). r.digest) (map seen rows)
seen_texts [] = refl
seen_texts (r ∷ rows) = ap (λ ds. (seen r).digest ∷ ds) (seen_texts rows)

-- the digests of all rows are those of all items
pub all_row_texts : (t : Tree) (given : List Given) (rows : List Row) → IsOrdered t → IsPayload t → map seen rows ≡ all_rows t given
    → row_texts rows ≡ owned_digests (all_sites (without_alg t) given)
all_row_texts t given rows o h same =
    seen_texts rows ∙ (ap (map (λ (r : SeenRow). r.digest)) same ∙ (sym (row_digests (all_rows t given)) ∙ (ap (map (λ (l : Look). l.digest)) (all_look t given o h) ∙ item_texts (all_sites (without_alg t) given))))

length_value_rows : (n : ℕ) (given : List Given) → length (value_rows n given) ≡ sum_by (λ (x : Given). length (sites x.value)) given
length_value_rows n [] = refl
length_value_rows n (x ∷ given) =
    length-append (tree_rows false n x.value) (value_rows (n + length (tree_rows false n x.value)) given)
    ∙ (ap₂ (λ (a b : ℕ). a + b) (length_tree_rows n x.value) (length_value_rows (n + length (tree_rows false n x.value)) given)
    ∙ sym (sum_by-cons (λ (y : Given). length (sites y.value)) x given))

-- one look-up for each row and each disclosure
pub rows_looked_up : (t : Tree) (given : List Given) (rows : List Row) → IsOrdered t → IsPayload t → map seen rows ≡ all_rows t given
    → length given + length rows ≡ look_ups (without_alg t) given
rows_looked_up t given rows o h same =
    let a : length rows ≡ length (all_rows t given) = sym (length-map rows seen) ∙ ap length same in
    let b : length (all_rows t given) ≡ length (tree_rows true 0 t) + length (value_rows (length (tree_rows true 0 t)) given) = length-append (tree_rows true 0 t) (value_rows (length (tree_rows true 0 t)) given) in
    omega (arith, a, b, length_top_rows t o h, length_value_rows (length (tree_rows true 0 t)) given)
