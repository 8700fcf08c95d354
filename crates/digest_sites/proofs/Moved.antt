-- What a walk lists at a path are the sites of the tree, moved beneath it.
use Rattle.std.proofs.Common.{◌≡◌, ℕ, suc, List, [], ◌∷◌, ◌++◌, map, Bool, true, false, Option, Some, None, refl, sym, ap₂, ◌∙◌, append_assoc, append-nil, decimal, bytes_eq}
use Rattle.std.specs.Prelude.{if◌then◌else◌}
use Rattle.std.proofs.lemmas.List.{map-append}
use Rattle.claim_tree.specs.Tree.{Text, Tree, leaf, array, object, Elements, no_elements, element, Members, no_members, member, names}
use Rattle.digest_sites.specs.Reserved.{sd_name, sd_texts, element_digest}
use Rattle.digest_sites.specs.Sites.{Site, Step, to_member, to_element, step_text, sites, under, own_site, sites_on, element_sites, member_sites}
use Rattle.digest_sites.specs.SiteCalls.{listed}
use Rattle.digest_sites.specs.Walk.{site, sites_at, elements_sites, members_sites}
use Rattle.digest_sites.specs.Walk.{element_sites_on as sites_of_element}
use Rattle.digest_sites.specs.declared.site.Site as code
use Rattle.digest_sites.specs.declared.site.SiteKind.TheVariants.{Member}

abbrev pub beneath : List Text → Site → code.Site
beneath at s = site (at ++ map step_text s.at) s.kind s.digest

stepped : (at : List Text) (step : Step) (ss : List Site) → map (beneath (at ++ step_text step ∷ [])) ss ≡ map (beneath at) (map (under step) ss)
stepped at step [] = refl
stepped at step (s ∷ ss) =
    ap₂ (λ (there : List Text) (rest : List code.Site). site there s.kind s.digest ∷ rest) (append_assoc at (step_text step ∷ []) (map step_text s.at)) (stepped at step ss)

own_beneath : (at : List Text) (beside : List Text) (ds : List Text) → map (site at Member) ds ≡ map (beneath at) (map (own_site beside) ds)
own_beneath at beside [] = refl
own_beneath at beside (d ∷ ds) = ap₂ (λ (there : List Text) (rest : List code.Site). site there Member d ∷ rest) (sym (append-nil at)) (own_beneath at beside ds)

on_element : (at : List Text) (i : ℕ) (digest : Option Text) (xs : List code.Site) (ss : List Site) → xs ≡ map (beneath (at ++ decimal i ∷ [])) ss
    → sites_of_element (at ++ decimal i ∷ []) digest xs ≡ map (beneath at) (sites_on (to_element i) digest ss)
on_element at i None xs ss h = h ∙ stepped at (to_element i) ss
on_element at i (Some d) xs ss h = refl

on_member : (at : List Text) (own : Bool) (name : Text) (xs : List code.Site) (ss : List Site) → xs ≡ map (beneath (at ++ name ∷ [])) ss
    → (if own then [] else xs) ≡ map (beneath at) (if own then [] else map (under (to_member name)) ss)
on_member at true name xs ss h = refl
on_member at false name xs ss h = h ∙ stepped at (to_member name) ss

joined : (at : List Text) (xs ys : List code.Site) (us vs : List Site) → xs ≡ map (beneath at) us → ys ≡ map (beneath at) vs → xs ++ ys ≡ map (beneath at) (us ++ vs)
joined at xs ys us vs g h = ap₂ (λ (a b : List code.Site). a ++ b) g h ∙ sym (map-append (beneath at) us vs)

mutual
  pub moved : (at : List Text) (t : Tree) → sites_at at t ≡ map (beneath at) (sites t)
  moved at (leaf l) = refl
  moved at (array es) = moved_elements at 0 es
  moved at (object ms) = joined at _ _ _ _ (own_beneath at (names ms) (sd_texts ms)) (moved_members at ms)

  moved_elements : (at : List Text) (i : ℕ) (es : Elements) → elements_sites at i es ≡ map (beneath at) (element_sites i es)
  moved_elements at i no_elements = refl
  moved_elements at i (element t es) =
      joined at _ _ _ _ (on_element at i (element_digest t) _ _ (moved (at ++ decimal i ∷ []) t)) (moved_elements at (suc i) es)

  moved_members : (at : List Text) (ms : Members) → members_sites at ms ≡ map (beneath at) (member_sites ms)
  moved_members at no_members = refl
  moved_members at (member name t ms) =
      joined at _ _ _ _ (on_member at (bytes_eq name sd_name) name _ _ (moved (at ++ name ∷ []) t)) (moved_members at ms)

-- so on the empty path they are listed as they are
pub listed_sites : (t : Tree) → sites_at [] t ≡ map listed (sites t)
listed_sites t = moved [] t
