-- For the models: a code for given disclosures, by which a proof tells two lists of them apart.
use Rattle.std.specs.Prelude.{refl, List, Option}
use Rattle.std.specs.Coded.{Coded, coded_list, coded×, coded_option, code_by}
use Rattle.claim_tree.specs.Tree.{Text, Tree, leaf, null, Elements, element, no_elements}
use Rattle.claim_tree.specs.Code.{text_code, elements_code}
use Rattle.digest_sites.specs.Given.{Given}

-- the first of a list of trees
abbrev pub first_tree : Elements → Tree
first_tree no_elements = leaf null
first_tree (element t es) = t

-- as the array that has it alone
abbrev pub tree_code : Coded Tree
tree_code = code_by Elements elements_code (λ t. element t no_elements) first_tree (λ _. refl)

abbrev pub given_code : Coded (List Given)
given_code =
    coded_list
    (code_by (Text × (Option Text × Tree))
    (coded× text_code (coded× (coded_option text_code) tree_code))
    (λ g. (g.digest, (g.name, g.value)))
    (λ p. record { digest = p.0; name = p.1.0; value = p.1.1 }) (λ _. refl))
