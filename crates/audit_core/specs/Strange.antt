-- For private functions: the sites of the tree at a path whose digests are not
-- known, as they are listed on a walk.
use Rattle.std.specs.Prelude.{◌≡◌, ℕ, suc, List, [], ◌∷◌, ◌++◌, Bool, Option, Some, None, bytes_eq, decimal, if◌then◌else◌}
use Rattle.std.specs.List.{list_any}
use Rattle.std.specs.Borrow.{Bor}
use Rattle.claim_tree.specs.Tree.{Text, Tree, leaf, array, object, Elements, no_elements, element, Members, no_members, member}
use Rattle.digest_sites.specs.Reserved.{sd_name, sd_texts, element_digest}
use Rattle.digest_sites.specs.Walk.{site}
use Rattle.digest_sites.specs.declared.site.Site.{Site}
use Rattle.digest_sites.specs.declared.site.SiteKind.TheVariants.{Member, Element}
use Rattle.audit_core.specs.declared.strange.Search.{Search}

abbrev pub strange_own : (Text → Bool) → List Text → List Text → List Site
strange_own known at [] = []
strange_own known at (d ∷ ds) =
    (if known d then [] else site at Member d ∷ []) ++ strange_own known at ds

abbrev pub strange_on : (Text → Bool) → List Text → Option Text → List Site → List Site
strange_on known at (Some d) inside = if known d then [] else site at Element d ∷ []
strange_on known at None inside = inside

abbrev mutual
  pub strange_at : (Text → Bool) → List Text → Tree → List Site
  strange_at known at (leaf l) = []
  strange_at known at (array es) = strange_elements known at 0 es
  strange_at known at (object ms) =
      strange_own known at (sd_texts ms) ++ strange_members known at ms

  pub strange_elements : (Text → Bool) → List Text → ℕ → Elements → List Site
  strange_elements known at i no_elements = []
  strange_elements known at i (element t es) =
      strange_on known (at ++ decimal i ∷ []) (element_digest t)
      (strange_at known (at ++ decimal i ∷ []) t) ++ strange_elements known at (suc i) es

  pub strange_members : (Text → Bool) → List Text → Members → List Site
  strange_members known at no_members = []
  strange_members known at (member name t ms) =
      (if bytes_eq name sd_name then [] else strange_at known (at ++ name ∷ []) t)
      ++ strange_members known at ms

-- the texts that are in a set of them
abbrev pub is_in : List (Bor Text) → Text → Bool
is_in keys digest = list_any (λ (key : Bor Text). bytes_eq digest key.now) keys

-- a search adds these sites, which are listed by what it knows and where it is, and both stay
abbrev pub Adds : Search → Search → ((Text → Bool) → List Text → List Site) → Type 0
Adds before after sites =
    (after.found ≡ before.found ++ sites (is_in before.known.keys) before.at)
    × (after.at ≡ before.at) × (after.known ≡ before.known)
