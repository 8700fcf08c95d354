-- For private functions: the sites of the tree at a path, as they are listed on a walk.
use Rattle.std.specs.Prelude.{ℕ, suc, List, [], ◌∷◌, ◌++◌, map, Option, Some, None, bytes_eq, decimal, if◌then◌else◌}
use Rattle.claim_tree.specs.Tree.{Text, Tree, leaf, array, object, Elements, no_elements, element, Members, no_members, member}
use Rattle.digest_sites.specs.Reserved.{sd_name, sd_texts, element_digest}
use Rattle.digest_sites.specs.declared.site.Site.{Site}
use Rattle.digest_sites.specs.declared.site.SiteKind.{SiteKind}
use Rattle.digest_sites.specs.declared.site.SiteKind.TheVariants.{Member, Element}

abbrev pub site : List Text → SiteKind → Text → Site
site at kind digest = record { at = at; kind = kind; digest = digest }

abbrev pub own_sites : List Text → Members → List Site
own_sites at ms = map (site at Member) (sd_texts ms)

abbrev pub element_sites_on : List Text → Option Text → List Site → List Site
element_sites_on at (Some digest) inside = site at Element digest ∷ []
element_sites_on at None inside = inside

abbrev mutual
  pub sites_at : List Text → Tree → List Site
  sites_at at (leaf l) = []
  sites_at at (array es) = elements_sites at 0 es
  sites_at at (object ms) = own_sites at ms ++ members_sites at ms

  pub elements_sites : List Text → ℕ → Elements → List Site
  elements_sites at i no_elements = []
  elements_sites at i (element t es) =
      element_sites_on (at ++ decimal i ∷ []) (element_digest t) (sites_at (at ++ decimal i ∷ []) t)
      ++ elements_sites at (suc i) es

  pub members_sites : List Text → Members → List Site
  members_sites at no_members = []
  members_sites at (member name t ms) =
      (if bytes_eq name sd_name then [] else sites_at (at ++ name ∷ []) t) ++ members_sites at ms
