-- The conditions on a payload, without its own `_sd_alg`, and its given disclosures (RFC 9901
-- section 7.1): each as what fails it at a place.
use Rattle.std.specs.Prelude.{◌≡◌, ℕ, zero, suc, ◌<◌, List, [], true, false, Option, Some, None, ◌⊎◌}
use Rattle.sd_outside.specs.Limits.{depth_max}
use Rattle.claim_tree.specs.Tree.{Text, Tree, depth}
use Rattle.sd_outside.specs.Lists.{StandsAt, IsSuchAt, In, Repeats}
use Rattle.digest_sites.specs.Reserved.{misuses, sd_name, dots_name}
use Rattle.digest_sites.specs.Given.{Given}
use Rattle.digest_sites.specs.declared.site.SiteKind.{SiteKind}
use Rattle.digest_sites.specs.declared.site.SiteKind.TheVariants.{Member}
use Rattle.marked_tree.specs.Marked.{strip}
use Rattle.rebuild_core.specs.Payload.{alg_name}
use Rattle.rebuild_core.specs.Reached.{OwnedSite, payload, met, owned_digests, given_digests, is_reached}
use Rattle.rebuild_core.specs.Opening.{processed}

-- 14: the digest of disclosure i equals that of an earlier one
abbrev pub RepeatedDisclosure : List Given → ℕ → Type 0
RepeatedDisclosure given i = Repeats (given_digests given) i

-- 15: tree 0, the payload, or tree i + 1, the value of disclosure i, misuses a reserved name
abbrev pub Misused : Tree → List Given → ℕ → Type 0
Misused p given zero = misuses p ≡ true
Misused p given (suc i) = IsSuchAt (λ x. misuses x.value ≡ true) given i

-- 16: the digest at this place of the met list equals an earlier one
abbrev pub RepeatedDigest : Tree → List Given → ℕ → Type 0
RepeatedDigest p given place = Repeats (owned_digests (met p given)) place

-- 17: disclosure i is not reached
abbrev pub Unreferenced : Tree → List Given → ℕ → Type 0
Unreferenced p given i = IsSuchAt (λ x. is_reached p given x ≡ false) given i

-- a disclosure with this name, or none, does not fit a site of this kind
abbrev pub IsWrong : SiteKind → Option Text → Type 0
IsWrong SiteKind.Member None = Unit {0}
IsWrong SiteKind.Member (Some name) = ⊥
IsWrong SiteKind.Element None = ⊥
IsWrong SiteKind.Element (Some name) = Unit {0}

-- disclosure i stands at a site of the met list where it is ill placed
abbrev pub Stands : (OwnedSite → Given → Type 0) → Tree → List Given → ℕ → Type 0
Stands IsIll p given i =
    (x : Given) × StandsAt given i x × (m : OwnedSite) × In m (met p given)
    × (m.site.digest ≡ x.digest) × IsIll m x

-- 18: disclosure i stands at a member site and has no name, or at an element site and has one
abbrev pub WrongShape : Tree → List Given → ℕ → Type 0
WrongShape p given i = Stands (λ m x. IsWrong m.site.kind x.name) p given i

-- `_sd` and `...` in any object, and `_sd_alg` in the payload itself
abbrev pub IsReserved : OwnedSite → Text → Type 0
IsReserved m name =
    (name ≡ sd_name)
    ⊎ ((name ≡ dots_name) ⊎ ((name ≡ alg_name) × (m.owner ≡ payload) × (m.site.at ≡ [])))

-- 19: disclosure i stands at a member site and has a reserved name
abbrev pub ReservedName : Tree → List Given → ℕ → Type 0
ReservedName p given i =
    Stands
    (λ m x. (m.site.kind ≡ Member) × (name : Text) × (x.name ≡ Some name) × IsReserved m name) p
    given i

-- the site is a member site, its disclosure is there, and has the name
abbrev pub Discloses : List Given → OwnedSite → Text → Type 0
Discloses given m name =
    (m.site.kind ≡ Member) × (x : Given) × In x given × (x.digest ≡ m.site.digest)
    × (x.name ≡ Some name)

-- an earlier site of the same object discloses the name
abbrev pub EarlierName : Tree → List Given → ℕ → OwnedSite → Text → Type 0
EarlierName p given place m name =
    (j : ℕ) × (j < place) × (e : OwnedSite) × StandsAt (met p given) j e × (e.owner ≡ m.owner)
    × (e.site.at ≡ m.site.at) × Discloses given e name

-- 20: the name disclosed at this place of the met list is a member of its
-- object, or is disclosed at an earlier site of it
abbrev pub NameClash : Tree → List Given → ℕ → Type 0
NameClash p given place =
    (m : OwnedSite) × StandsAt (met p given) place m × (name : Text) × Discloses given m name
    × (In name m.site.beside ⊎ EarlierName p given place m name)

-- 21: the processed payload nests too deep
abbrev pub IsTooDeep : Tree → List Given → Type 0
IsTooDeep p given = depth_max < depth (strip (processed p given))
