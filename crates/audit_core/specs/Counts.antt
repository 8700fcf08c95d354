-- For private functions: how many sites a tree has, as they are counted on a walk.
use Rattle.std.specs.Prelude.{ℕ, ◌+◌, List, [], ◌∷◌, length, Option, Some, None, bytes_eq, if◌then◌else◌}
use Rattle.claim_tree.specs.Tree.{Text, Tree, leaf, array, object, Elements, no_elements, element, Members, no_members, member}
use Rattle.digest_sites.specs.Given.{Given}
use Rattle.digest_sites.specs.Reserved.{sd_name, sd_texts, element_digest}

-- one for an element with a digest, else those inside it
abbrev pub count_on : Option Text → ℕ → ℕ
count_on (Some digest) inside = 1
count_on None inside = inside

abbrev mutual
  pub count_in : Tree → ℕ
  count_in (leaf l) = 0
  count_in (array es) = elements_count es
  count_in (object ms) = length (sd_texts ms) + members_count ms

  pub elements_count : Elements → ℕ
  elements_count no_elements = 0
  elements_count (element t es) = count_on (element_digest t) (count_in t) + elements_count es

  pub members_count : Members → ℕ
  members_count no_members = 0
  members_count (member name t ms) =
      (if bytes_eq name sd_name then 0 else count_in t) + members_count ms

-- those of the values of disclosures
abbrev pub values_count : List Given → ℕ
values_count [] = 0
values_count (x ∷ given) = count_in x.value + values_count given
