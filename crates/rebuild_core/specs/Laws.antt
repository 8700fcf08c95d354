-- Not needed to believe the program's promises: what the laws say.
use Rattle.std.specs.Prelude.{◌≡◌, ℕ, suc, ◌<◌, ◌≤◌, ◌+◌, List, [], ◌∷◌, length, eqb, Bool, true, Option, Some, None, sum_by, if◌then◌else◌}
use Rattle.std.specs.List.{IsDistinct}
use Rattle.claim_tree.specs.Tree.{Text, Tree}
use Rattle.claim_tree.specs.Nodes.{nodes}
use Rattle.sd_outside.specs.Lists.{StandsAt, In}
use Rattle.digest_sites.specs.Sites.{Site}
use Rattle.digest_sites.specs.Given.{Given}
use Rattle.marked_tree.specs.Marked.{Marked, strip, remark, prune}
use Rattle.marked_tree.specs.Ways.{ranked}
use Rattle.marked_tree.specs.Closed.{IsClosed}
use Rattle.marked_tree.specs.Numbers.{IsRising}
use Rattle.marked_tree.specs.Paths.{Path, chosen}
use Rattle.marked_tree.specs.Laws.{HasEachMarkOnce}
use Rattle.rebuild_core.specs.Reached.{Owner, payload, value_of, owned_site, met, owned_digests}
use Rattle.rebuild_core.specs.Soundness.{IsReferencedOnce, IsSound}
use Rattle.rebuild_core.specs.Opening.{opened, processed}
use Rattle.rebuild_core.specs.Payload.{without_alg}
use Rattle.rebuild_core.specs.Readable.{IsReadable}

-- ---- one site for each disclosure

-- exactly one item of the met list has the digest
abbrev pub StandsOnce : Tree → List Given → Text → Type 0
StandsOnce p given digest =
    (place : ℕ) × StandsAt (owned_digests (met p given)) place digest
    × ((other : ℕ) → StandsAt (owned_digests (met p given)) other digest → other ≡ place)

-- disclosure i stands at a site of the owner
abbrev pub StandsIn : Tree → List Given → ℕ → Owner → Type 0
StandsIn p given i owner =
    (x : Given) × StandsAt given i x × (s : Site) × In (owned_site owner s) (met p given)
    × (s.digest ≡ x.digest)

-- from this owner, the owner of the site of each disclosure in turn, up to the payload
abbrev pub LeadsUp : Tree → List Given → Owner → List ℕ → Type 0
LeadsUp p given owner [] = owner ≡ payload
LeadsUp p given owner (i ∷ is) =
    (owner ≡ value_of i) × (above : Owner) × StandsIn p given i above × LeadsUp p given above is

-- each disclosure stands at one place, from which the owners lead to the payload with none twice,
-- and opening needs no more fuel than there are disclosures
pub record HasOneSite (p : Tree) (given : List Given) : Type 0 where
  pub once : (i : ℕ) (x : Given) → StandsAt given i x → StandsOnce p given x.digest
  pub leads : (i : ℕ) (x : Given) → StandsAt given i x
      → (is : List ℕ) × LeadsUp p given (value_of i) is × (length is ≤ length given)
      × IsDistinct eqb is
  pub settled : (fuel : ℕ) → length given ≤ fuel
      → opened fuel given p ≡ opened (length given) given p

abbrev pub OneSite : Type 0
OneSite = (p : Tree) (given : List Given) → IsReferencedOnce p given → HasOneSite p given

-- ---- no more nodes than came in

-- the tree has no more nodes than the payload and the values of the disclosures together
abbrev pub IsWithinNodes : Tree → List Given → Tree → Type 0
IsWithinNodes p given t = nodes t ≤ nodes p + sum_by (λ x. nodes x.value) given

abbrev pub SizeBound : Type 0
SizeBound =
    (p : Tree) (given : List Given) → IsReferencedOnce p given
    → IsWithinNodes p given (strip (processed p given))

-- the same of a payload that has its own `_sd_alg`
abbrev pub PayloadSizeBound : Type 0
PayloadSizeBound =
    (p : Tree) (given : List Given) → IsReferencedOnce (without_alg p) given
    → IsWithinNodes p given (strip (processed (without_alg p) given))

-- ---- presenting a choice

-- the list has each number of the choice once, and no other
pub record Enumerates (choice : ℕ → Bool) (order : List ℕ) : Type 0 where
  pub distinct : IsDistinct eqb order
  pub within : (i : ℕ) → In i order → choice i ≡ true
  pub whole : (i : ℕ) → choice i ≡ true → In i order

-- these are the disclosures with those numbers, in that order
abbrev pub IsPick : List Given → List ℕ → List Given → Type 0
IsPick given [] [] = Unit {0}
IsPick given [] (x ∷ xs) = ⊥
IsPick given (i ∷ order) [] = ⊥
IsPick given (i ∷ order) (x ∷ xs) = StandsAt given i x × IsPick given order xs

-- the position of a number in the list, where the first has the position k
abbrev pub position_from : ℕ → List ℕ → ℕ → Option ℕ
position_from k [] i = None
position_from k (j ∷ order) i = if eqb j i then Some k else position_from (suc k) order i

-- each mark replaced by its position in the list
abbrev pub renumbered : List ℕ → Marked → Marked
renumbered order m = remark (position_from 0 order) m

-- what is presented is sound again, and shows what was not left out
pub record IsPresentation (p : Tree) (given picked : List Given) (choice : ℕ → Bool)
    (order : List ℕ) : Type 0 where
  pub sound : IsSound p picked
  pub pruned : processed p picked ≡ renumbered order (prune (processed p given) choice)

abbrev pub Presentation : Type 0
Presentation =
    (p : Tree) (given : List Given) → IsReadable p given → IsSound p given
    → (choice : ℕ → Bool) → ((i : ℕ) → choice i ≡ true → i < length given)
    → IsClosed (processed p given) choice
    → (order : List ℕ) → Enumerates choice order → (picked : List Given) → IsPick given order picked
    → IsPresentation p given picked choice order

-- in rising order the positions are the ranks
abbrev pub Ranks : Type 0
Ranks =
    (m : Marked) (choice : ℕ → Bool) (order : List ℕ) → Enumerates choice order → IsRising order
    → renumbered order (prune m choice) ≡ ranked (prune m choice) choice

-- of the disclosures on the way to wanted paths: they are sound again, and show the processed
-- payload without what is hidden and leads to none of these; each mark is its rank among the chosen
pub record IsChoiceShown (p : Tree) (given picked : List Given) (want : List Path) : Type 0 where
  pub sound : IsSound p picked
  pub ranks : processed p picked
      ≡ ranked (prune (processed p given) (chosen (processed p given) want))
      (chosen (processed p given) want)
  pub shows : strip (processed p picked)
      ≡ strip (prune (processed p given) (chosen (processed p given) want))

-- the chosen disclosures in their order
abbrev pub ChoiceShown : Type 0
ChoiceShown =
    (p : Tree) (given : List Given) → IsReadable p given → IsSound p given
    → (want : List Path) (order : List ℕ) → Enumerates (chosen (processed p given) want) order
    → IsRising order
    → (picked : List Given) → IsPick given order picked → IsChoiceShown p given picked want

abbrev pub OneNode : Type 0
OneNode =
    (p : Tree) (given : List Given) → IsReadable p given → IsSound p given
    → HasEachMarkOnce (processed p given) (length given)
