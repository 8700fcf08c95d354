-- What a walk lists of a tree at a path are those of its sites that are strange, moved beneath it.
use Rattle.std.proofs.Common.{◌≡◌, ℕ, suc, List, [], ◌∷◌, ◌++◌, map, Bool, true, false, not, cond, Option, Some, None, refl, sym, ap, ap₂, ◌∙◌, decimal, bytes_eq}
use Rattle.std.specs.Prelude.{filter, if◌then◌else◌}
use Rattle.std.proofs.lemmas.List.Elements.{filter-append}
use Rattle.claim_tree.specs.Tree.{Text, Tree, leaf, array, object, Elements, no_elements, element, Members, no_members, member}
use Rattle.digest_sites.specs.Given.{Given}
use Rattle.digest_sites.specs.Reserved.{sd_name, sd_texts, element_digest}
use Rattle.digest_sites.specs.Sites.{Site, sites}
use Rattle.digest_sites.specs.Walk.{site, sites_at, element_sites_on, elements_sites, members_sites}
use Rattle.digest_sites.specs.declared.site.Site as code
use Rattle.digest_sites.specs.declared.site.SiteKind.TheVariants.{Member, Element}
use Rattle.digest_sites.proofs.Moved.{beneath, moved}
use Rattle.audit_core.specs.Audited.{is_given}
use Rattle.audit_core.specs.Strange.{strange_at, strange_own, strange_on, strange_elements, strange_members}

-- the sites whose digests are of no disclosure
abbrev pub strange : List Given → List Site → List Site
strange given ss = filter (λ (s : Site). not (is_given given s.digest)) ss

abbrev other : (Text → Bool) → code.Site → Bool
other known s = not (known s.digest)

own_kept : (known : Text → Bool) (at ds : _) → strange_own known at ds ≡ filter (other known) (map (site at Member) ds)
own_kept known at [] = refl
own_kept known at (d ∷ ds) = go (known d) (own_kept known at ds)
  where
    go : (b : Bool) → strange_own known at ds ≡ filter (other known) (map (site at Member) ds)
        → (if b then [] else site at Member d ∷ []) ++ strange_own known at ds
        ≡ cond (not b) (site at Member d ∷ filter (other known) (map (site at Member) ds)) (filter (other known) (map (site at Member) ds))
    go true ih = ih
    go false ih = ap (λ (xs : List code.Site). site at Member d ∷ xs) ih

on_kept : (known : Text → Bool) (at : List Text) (digest : Option Text) (xs : List code.Site) → strange_on known at digest (filter (other known) xs) ≡ filter (other known) (element_sites_on at digest xs)
on_kept known at None xs = refl
on_kept known at (Some d) xs = go (known d)
  where
    go : (b : Bool) → (if b then [] else site at Element d ∷ []) ≡ cond (not b) (site at Element d ∷ []) []
    go true = refl
    go false = refl

on_member : (known : Text → Bool) (own : Bool) (xs ys : List code.Site) → xs ≡ filter (other known) ys → (if own then [] else xs) ≡ filter (other known) (if own then [] else ys)
on_member known true xs ys e = refl
on_member known false xs ys e = e

joined : (known : Text → Bool) (xs ys us vs : List code.Site) → xs ≡ filter (other known) us → ys ≡ filter (other known) vs → xs ++ ys ≡ filter (other known) (us ++ vs)
joined known xs ys us vs e f = ap₂ (λ (a b : List code.Site). a ++ b) e f ∙ sym (filter-append (other known) us vs)

mutual
  kept : (known : Text → Bool) (at : List Text) (t : Tree) → strange_at known at t ≡ filter (other known) (sites_at at t)
  kept known at (leaf l) = refl
  kept known at (array es) = kept_elements known at 0 es
  kept known at (object ms) = joined known _ _ _ _ (own_kept known at (sd_texts ms)) (kept_members known at ms)

  kept_elements : (known : Text → Bool) (at : List Text) (i : ℕ) (es : Elements) → strange_elements known at i es ≡ filter (other known) (elements_sites at i es)
  kept_elements known at i no_elements = refl
  kept_elements known at i (element t es) =
      joined known _ _ _ _
      (ap (strange_on known (at ++ decimal i ∷ []) (element_digest t)) (kept known (at ++ decimal i ∷ []) t) ∙ on_kept known (at ++ decimal i ∷ []) (element_digest t) (sites_at (at ++ decimal i ∷ []) t))
      (kept_elements known at (suc i) es)

  kept_members : (known : Text → Bool) (at : List Text) (ms : Members) → strange_members known at ms ≡ filter (other known) (members_sites at ms)
  kept_members known at no_members = refl
  kept_members known at (member name t ms) =
      joined known _ _ _ _ (on_member known (bytes_eq name sd_name) _ _ (kept known (at ++ name ∷ []) t)) (kept_members known at ms)

beneath_kept : (known : Text → Bool) (g : List Given) → ((d : Text) → known d ≡ is_given g d) → (at : List Text) (ss : List Site) → filter (other known) (map (beneath at) ss) ≡ map (beneath at) (strange g ss)
beneath_kept known g same at [] = refl
beneath_kept known g same at (s ∷ ss) =
    ap₂ (λ (b : Bool) (xs : List code.Site). cond (not b) (beneath at s ∷ xs) xs) (same s.digest) (beneath_kept known g same at ss) ∙ go (is_given g s.digest)
  where
    go : (b : Bool) → cond (not b) (beneath at s ∷ map (beneath at) (strange g ss)) (map (beneath at) (strange g ss)) ≡ map (beneath at) (cond (not b) (s ∷ strange g ss) (strange g ss))
    go true = refl
    go false = refl

pub strange_are : (known : Text → Bool) (g : List Given) → ((d : Text) → known d ≡ is_given g d) → (at : List Text) (t : Tree) → strange_at known at t ≡ map (beneath at) (strange g (sites t))
strange_are known g same at t = kept known at t ∙ ap (filter (other known)) (moved at t) ∙ beneath_kept known g same at (sites t)
