-- A walk counts the sites.
use Rattle.std.proofs.Common.{◌≡◌, ℕ, suc, ◌+◌, List, [], ◌∷◌, map, length, Bool, true, false, Option, Some, None, refl, ap₂, ◌∙◌, bytes_eq}
use Rattle.std.specs.Prelude.{if◌then◌else◌}
use Rattle.std.proofs.lemmas.List.{length-append, length-map}
use Rattle.claim_tree.specs.Tree.{Text, Tree, leaf, array, object, Elements, no_elements, element, Members, no_members, member, names}
use Rattle.digest_sites.specs.Given.{Given}
use Rattle.digest_sites.specs.Reserved.{sd_name, sd_texts, element_digest}
use Rattle.digest_sites.specs.Sites.{Site, Step, to_member, to_element, sites, under, own_site, sites_on, element_sites, member_sites}
use Rattle.audit_core.specs.Counts.{count_in, count_on, elements_count, members_count, values_count}
use Rattle.audit_core.specs.Found.{sites_in, trees_of}

on_length : (step : Step) (digest : Option Text) (inside : List Site) (n : ℕ) → length inside ≡ n → length (sites_on step digest inside) ≡ count_on digest n
on_length step None inside n e = length-map inside (under step) ∙ e
on_length step (Some d) inside n e = refl

member_length : (own : Bool) (name : Text) (inside : List Site) (n : ℕ) → length inside ≡ n → length (if own then [] else map (under (to_member name)) inside) ≡ (if own then 0 else n)
member_length true name inside n e = refl
member_length false name inside n e = length-map inside (under (to_member name)) ∙ e

mutual
  sites_length : (t : Tree) → length (sites t) ≡ count_in t
  sites_length (leaf l) = refl
  sites_length (array es) = elements_length 0 es
  sites_length (object ms) =
      length-append (map (own_site (names ms)) (sd_texts ms)) (member_sites ms) ∙ ap₂ ◌+◌ (length-map (sd_texts ms) (own_site (names ms))) (members_length ms)

  elements_length : (i : ℕ) (es : Elements) → length (element_sites i es) ≡ elements_count es
  elements_length i no_elements = refl
  elements_length i (element t es) =
      length-append (sites_on (to_element i) (element_digest t) (sites t)) (element_sites (suc i) es)
      ∙ ap₂ ◌+◌ (on_length (to_element i) (element_digest t) (sites t) (count_in t) (sites_length t)) (elements_length (suc i) es)

  members_length : (ms : Members) → length (member_sites ms) ≡ members_count ms
  members_length no_members = refl
  members_length (member name t ms) =
      length-append (if bytes_eq name sd_name then [] else map (under (to_member name)) (sites t)) (member_sites ms)
      ∙ ap₂ ◌+◌ (member_length (bytes_eq name sd_name) name (sites t) (count_in t) (sites_length t)) (members_length ms)

values_length : (g : List Given) → sites_in (map (λ (x : Given). x.value) g) ≡ values_count g
values_length [] = refl
values_length (x ∷ g) = ap₂ ◌+◌ (sites_length x.value) (values_length g)

pub counted : (p : Tree) (g : List Given) → sites_in (trees_of p g) ≡ count_in p + values_count g
counted p g = ap₂ ◌+◌ (sites_length p) (values_length g)
