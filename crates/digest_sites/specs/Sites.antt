-- The digests that are embedded in a JSON value, RFC 9901 section 4.2.4, with their places.
use Rattle.std.specs.Prelude.{ℕ, suc, List, [], ◌∷◌, ◌++◌, map, Option, Some, None, bytes_eq, decimal, if◌then◌else◌}
use Rattle.claim_tree.specs.Tree.{Text, Tree, leaf, array, object, Elements, no_elements, element, Members, no_members, member, names}
use Rattle.digest_sites.specs.Reserved.{sd_name, sd_texts, element_digest}
use Rattle.digest_sites.specs.declared.site.SiteKind.{SiteKind}
use Rattle.digest_sites.specs.declared.site.SiteKind.TheVariants.{Member, Element}

-- one step into a tree: to the member with this name, or to the element at this
-- position, counted from 0
pub data Step : Type 0 where
  to_member : Text → Step
  to_element : ℕ → Step

-- a digest in a tree: for a member site `at` leads to the object, and `beside` has the names of the
-- object's members; for an element site `at` leads to the element
pub record Site : Type 0 where
  pub at : List Step
  pub kind : SiteKind
  pub digest : Text
  pub beside : List Text

-- a site of the tree that is one step inside
abbrev pub under : Step → Site → Site
under step s = record { at = step ∷ s.at; kind = s.kind; digest = s.digest; beside = s.beside }

abbrev pub own_site : List Text → Text → Site
own_site beside digest = record { at = []; kind = Member; digest = digest; beside = beside }

abbrev pub element_site : Step → Text → Site
element_site step digest = record { at = step ∷ []; kind = Element; digest = digest; beside = [] }

-- one for an element with a digest, else those inside it
abbrev pub sites_on : Step → Option Text → List Site → List Site
sites_on step None inside = map (under step) inside
sites_on step (Some digest) inside = element_site step digest ∷ []

-- of an object first its own, one for each text of `_sd`, then those inside each other member
abbrev mutual
  pub sites : Tree → List Site
  sites (leaf l) = []
  sites (array es) = element_sites 0 es
  sites (object ms) = map (own_site (names ms)) (sd_texts ms) ++ member_sites ms

  -- the first element has the position i
  pub element_sites : ℕ → Elements → List Site
  element_sites i no_elements = []
  element_sites i (element t es) =
      sites_on (to_element i) (element_digest t) (sites t) ++ element_sites (suc i) es

  pub member_sites : Members → List Site
  member_sites no_members = []
  member_sites (member name t ms) =
      (if bytes_eq name sd_name then [] else map (under (to_member name)) (sites t))
      ++ member_sites ms

-- a step as one of a JSON Pointer (RFC 6901 section 4)
abbrev pub step_text : Step → Text
step_text (to_member name) = name
step_text (to_element i) = decimal i
