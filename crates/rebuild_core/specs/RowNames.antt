-- For private functions: conditions 18 to 20 over the flat list of digests,
-- whose numbers tell the disclosures.
use Rattle.std.specs.Prelude.{◌≡◌, ℕ, ◌<◌, List, true, Option, Some, None, option_and_then, slice_get, ◌⊎◌}
use Rattle.claim_tree.specs.Tree.{Text}
use Rattle.sd_outside.specs.Lists.{StandsAt, In}
use Rattle.digest_sites.specs.Reserved.{sd_name, dots_name}
use Rattle.digest_sites.specs.Given.{Given}
use Rattle.digest_sites.specs.declared.site.SiteKind.{SiteKind}
use Rattle.digest_sites.specs.declared.site.SiteKind.TheVariants.{Member}
use Rattle.rebuild_core.specs.Payload.{alg_name}
use Rattle.rebuild_core.specs.Conditions.{IsWrong}
use Rattle.rebuild_core.specs.Rows.{SeenRow}
use Rattle.rebuild_core.specs.declared.names.Misfit.{Misfit}

abbrev pub IsWrongRow : SeenRow → Given → Type 0
IsWrongRow row x = IsWrong row.kind x.name

abbrev pub IsReservedIn : SeenRow → Text → Type 0
IsReservedIn row name =
    (name ≡ sd_name) ⊎ ((name ≡ dots_name) ⊎ ((name ≡ alg_name) × (row.top ≡ true)))

abbrev pub IsReservedRow : SeenRow → Given → Type 0
IsReservedRow row x =
    (row.kind ≡ Member) × (name : Text) × (x.name ≡ Some name) × IsReservedIn row name

abbrev pub IsMisfit : Misfit → SeenRow → Given → Type 0
IsMisfit Misfit.Shape = IsWrongRow
IsMisfit Misfit.Name = IsReservedRow

-- disclosure i stands at a row where it is ill placed
abbrev pub StandsAtRow : (SeenRow → Given → Type 0) → List SeenRow → List ℕ → List Given → ℕ
    → Type 0
StandsAtRow IsIll rows numbers given i =
    (place : ℕ) × StandsAt numbers place i × (row : SeenRow) × StandsAt rows place row × (x : Given)
    × StandsAt given i x × IsIll row x

-- the name that disclosure i gives to a member
abbrev pub given_name : SiteKind → List Given → ℕ → Option Text
given_name SiteKind.Member given i = option_and_then (λ x. x.name) (slice_get given i)
given_name SiteKind.Element given i = None

-- at this place of the list stands this row, and a disclosure that gives this name to a member
abbrev pub NamesAt : List SeenRow → List ℕ → List Given → ℕ → SeenRow → Text → Type 0
NamesAt rows numbers given place row name =
    StandsAt rows place row × (i : ℕ) × StandsAt numbers place i
    × (given_name row.kind given i ≡ Some name)

-- the name at this place is a member of its object, or stands at an earlier place of it
abbrev pub Clashes : List SeenRow → List ℕ → List Given → ℕ → Type 0
Clashes rows numbers given place =
    (row : SeenRow) × (name : Text) × NamesAt rows numbers given place row name
    ×
    (In name row.beside
    ⊎ ((j : ℕ) × (j < place) × (other : SeenRow) × NamesAt rows numbers given j other name
    × (other.object ≡ row.object)))
