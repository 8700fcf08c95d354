-- Which given disclosures a payload reaches, and the digests that are met
-- there, RFC 9901 section 7.1.
use Rattle.std.specs.Prelude.{ℕ, zero, suc, List, [], ◌∷◌, ◌++◌, map, length, Bool, true, ◌||◌, ◌&&◌, Option, Some, None, bytes_eq, if◌then◌else◌}
use Rattle.std.specs.List.{list_any}
use Rattle.claim_tree.specs.Tree.{Text, Tree}
use Rattle.digest_sites.specs.Sites.{Site, sites}
use Rattle.digest_sites.specs.Given.{Given}

abbrev pub given_digests : List Given → List Text
given_digests given = map (λ x. x.digest) given

-- the first disclosure with the digest, with its number, counted from i
abbrev pub find_from : ℕ → List Given → Text → Option (ℕ × Given)
find_from i [] digest = None
find_from i (x ∷ given) digest =
    if bytes_eq x.digest digest then Some (i, x) else find_from (suc i) given digest

abbrev pub find : List Given → Text → Option (ℕ × Given)
find given digest = find_from 0 given digest

-- the digest stands at one of the sites
abbrev pub stands : Text → List Site → Bool
stands digest ss = list_any (λ s. bytes_eq s.digest digest) ss

-- the digest stands in the payload, or in the value of a disclosure whose
-- digest is one of the round before
abbrev pub is_in_round : Tree → List Given → ℕ → Text → Bool
is_in_round payload given zero digest = stands digest (sites payload)
is_in_round payload given (suc round) digest =
    is_in_round payload given round digest
    || list_any (λ x. is_in_round payload given round x.digest && stands digest (sites x.value))
    given

abbrev pub is_reached : Tree → List Given → Given → Bool
is_reached payload given x = is_in_round payload given (length given) x.digest

-- whose tree a site stands in
pub data Owner : Type 0 where
  payload : Owner
  value_of : ℕ → Owner

pub record OwnedSite : Type 0 where
  pub owner : Owner
  pub site : Site

abbrev pub owned_site : Owner → Site → OwnedSite
owned_site owner site = record { owner = owner; site = site }

-- the sites of the values of those disclosures that pass, where the first
-- disclosure has the number i
abbrev pub value_sites : (Given → Bool) → ℕ → List Given → List OwnedSite
value_sites passes i [] = []
value_sites passes i (x ∷ given) =
    (if passes x then map (owned_site (value_of i)) (sites x.value) else [])
    ++ value_sites passes (suc i) given

-- the met list: the sites of the payload, then those of the values of the reached disclosures
abbrev pub met : Tree → List Given → List OwnedSite
met p given = map (owned_site payload) (sites p) ++ value_sites (is_reached p given) 0 given

-- the sites of the payload and then of each value, reached or not
abbrev pub all_sites : Tree → List Given → List OwnedSite
all_sites p given = map (owned_site payload) (sites p) ++ value_sites (λ _. true) 0 given

abbrev pub owned_digests : List OwnedSite → List Text
owned_digests items = map (λ m. m.site.digest) items

-- the digests of the payload and of all values, reached or not
abbrev pub all_digests : Tree → List Given → List Text
all_digests p given = owned_digests (all_sites p given)
