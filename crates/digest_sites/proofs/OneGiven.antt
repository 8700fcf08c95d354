-- What disclosures give is one where its parts are.
use Rattle.std.proofs.Common.{◌≡◌, ◌∙◌, ap, Option}
use Rattle.claim_tree.specs.Tree.{Text, Tree}
use Rattle.digest_sites.specs.Given.{Given}

abbrev given_as : Text → Option Text → Tree → Given
given_as digest name value = record { digest = digest; name = name; value = value }

pub one_given : (x y : Given) → x.digest ≡ y.digest → x.name ≡ y.name → x.value ≡ y.value → x ≡ y
one_given x y d n v =
    ap (λ (a : Text). given_as a x.name x.value) d ∙ (ap (λ (a : Option Text). given_as y.digest a x.value) n ∙ ap (λ (a : Tree). given_as y.digest y.name a) v)
