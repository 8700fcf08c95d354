-- Not needed to believe the program's promises: what is given, as contracts see it.
use Rattle.std.specs.Prelude.{ℕ, zero, suc, List, [], ◌∷◌, None}
use Rattle.claim_tree.specs.Tree.{leaf, null}
use Rattle.claim_tree.specs.View.{tree_of}
use Rattle.digest_sites.specs.declared.given.Given as code
use Rattle.digest_sites.specs.Given.{Given}

abbrev pub given_of : code.Given → Given
given_of g = record { digest = g.digest; name = g.name; value = tree_of g.value }

-- the disclosures without the name and the value of one, whose digest stays
abbrev pub emptied : List Given → ℕ → List Given
emptied [] i = []
emptied (x ∷ given) zero = record { digest = x.digest; name = None; value = leaf null } ∷ given
emptied (x ∷ given) (suc i) = x ∷ emptied given i
