-- For private functions: digests read as numbers, in the order of the sites.
use Rattle.std.specs.Prelude.{◌≡◌, ℕ, ◌≤◌, List, [], ◌∷◌, ◌++◌, length, drop, Option, Some, None, bytes_eq, if◌then◌else◌}
use Rattle.claim_tree.specs.Tree.{Text, Tree, leaf, array, object, Elements, no_elements, element, Members, no_members, member}
use Rattle.sd_outside.specs.Lists.{StandsAt}
use Rattle.digest_sites.specs.Reserved.{sd_name, sd_texts, element_digest}
use Rattle.digest_sites.specs.Sites.{sites}
use Rattle.digest_sites.specs.SiteCalls.{digests}
use Rattle.digest_sites.specs.Given.{Given}
use Rattle.rebuild_core.specs.Opening.{nothing_shown, shown, reveal, opened}

-- that of an element with a digest, else those inside it
abbrev pub digests_on : Option Text → List Text → List Text
digests_on None inside = inside
digests_on (Some digest) inside = digest ∷ []

-- the digests of a tree in the order of its sites
abbrev mutual
  pub tree_digests : Tree → List Text
  tree_digests (leaf l) = []
  tree_digests (array es) = elements_digests es
  tree_digests (object ms) = sd_texts ms ++ members_digests ms

  pub elements_digests : Elements → List Text
  elements_digests no_elements = []
  elements_digests (element t es) =
      digests_on (element_digest t) (tree_digests t) ++ elements_digests es

  pub members_digests : Members → List Text
  members_digests no_members = []
  members_digests (member name t ms) =
      (if bytes_eq name sd_name then [] else tree_digests t) ++ members_digests ms

-- what number k says of the digest that it stands for
pub record NumberTells (given : List Given) (k : ℕ) (digest : Text) : Type 0 where
  pub known : (x : Given) → StandsAt given k x
      → reveal (length given) given digest ≡ shown k x.name (opened (length given) given x.value)
  pub unknown : length given ≤ k → reveal (length given) given digest ≡ nothing_shown

-- the first numbers tell of the digests
abbrev pub TellFirst : List Given → List ℕ → List Text → Type 0
TellFirst given ks [] = Unit {0}
TellFirst given [] (digest ∷ digests) = ⊥
TellFirst given (k ∷ ks) (digest ∷ digests) =
    NumberTells given k digest × TellFirst given ks digests

-- where the numbers end that come before, those of the value of each disclosure begin
abbrev pub TellEach : (Tree → List Text) → List Given → List ℕ → List ℕ → Type 0
TellEach digests_of given numbers ends =
    (j : ℕ) (x : Given) → StandsAt given j x
    → (start : ℕ) × StandsAt ends j start
    × TellFirst given (drop start numbers) (digests_of x.value)

-- the first numbers tell of the digests of the payload's sites, and others of those of each value
pub record NumbersTell (p : Tree) (given : List Given) (numbers ends : List ℕ) : Type 0 where
  pub payload : TellFirst given numbers (digests (sites p))
  pub values : TellEach (λ t. digests (sites t)) given numbers ends
