-- For private functions: what is found of the sites of a token.
use Rattle.std.specs.Prelude.{◌≡◌, ℕ, ◌+◌, List, [], ◌∷◌, ◌++◌, map, length, Bool}
use Rattle.claim_tree.specs.Tree.{Text, Tree}
use Rattle.sd_outside.specs.Lists.{In}
use Rattle.digest_sites.specs.Given.{Given}
use Rattle.digest_sites.specs.Sites.{sites}
use Rattle.digest_sites.specs.declared.site.Site.{Site}
use Rattle.disclosure.specs.declared.digests.HashAlg.{HashAlg}
use Rattle.issuer_core.specs.Decoys.{decoys_of}
use Rattle.issuer_core.specs.Order.{Order}
use Rattle.marked_tree.specs.Marked.{Marked}
use Rattle.audit_core.specs.Audited.{IsDigestText, is_given, ShowsClaims, standing}
use Rattle.audit_core.specs.AuditSteps.{standing_text}
use Rattle.audit_core.specs.Places.{values_at}
use Rattle.audit_core.specs.Strange.{strange_at}

-- ---- the sites whose digests are of no disclosure

-- these are they, each at its place in the claims: those of the payload, and
-- then those of the values, each behind those inside it
pub record AreOthers (claims : Marked) (payload : Tree) (given : List Given) (others : List Site)
    : Type 0 where
  pub known : Text → Bool
  pub same : (digest : Text) → known digest ≡ is_given given digest
  pub are : others ≡ strange_at known [] payload ++ values_at known given [] claims

-- where a site stands, as one text
abbrev pub site_text : Site → Text
site_text s = standing_text (standing s.kind s.at)

-- the digest of each has the form of one
abbrev pub AreDigests : HashAlg → List Site → Type 0
AreDigests hash ss = (s : Site) → In s ss → IsDigestText hash s.digest

-- ---- how many sites a token has

-- the payload, and then the values
abbrev pub trees_of : Tree → List Given → List Tree
trees_of payload given = payload ∷ map (λ (x : Given). x.value) given

-- how many sites the trees have
abbrev pub sites_in : List Tree → ℕ
sites_in [] = 0
sites_in (t ∷ ts) = length (sites t) + sites_in ts

-- the payload and the values show the claims, and have as many sites as the digests are to be
pub record AreCounted (o : Order) (payload : Tree) (given : List Given) : Type 0 where
  pub shows : ShowsClaims o payload given
  pub count : sites_in (trees_of payload given) ≡ length given + length (decoys_of o)
