-- Not needed to believe the program's promises: what calls on sites answer.
use Rattle.std.specs.Prelude.{◌≡◌, List, map, true}
use Rattle.claim_tree.specs.Tree.{Text, Tree}
use Rattle.digest_sites.specs.Reserved.{misuses}
use Rattle.digest_sites.specs.declared.site.Site as code
use Rattle.digest_sites.specs.declared.walk.SiteError.{SiteError}
use Rattle.digest_sites.specs.Sites.{Site, step_text}

abbrev pub digests : List Site → List Text
digests ss = map (λ s. s.digest) ss

-- a site as it is listed
abbrev pub listed : Site → code.Site
listed s = record { at = map step_text s.at; kind = s.kind; digest = s.digest }

-- why a tree has no list of sites
abbrev pub IsSitesRefused : Tree → SiteError → Type 0
IsSitesRefused t SiteError.Memory = Unit {0}
IsSitesRefused t SiteError.Misused = misuses t ≡ true
