-- For private functions: the tokens with which a list of texts begins.
use Rattle.std.specs.Prelude.{List, [], ◌∷◌, Option, Some, None}
use Rattle.json.specs.Token.{Token}
use Rattle.claim_tree.specs.Tree.{Text}

abbrev pub begun : Text → Option Text → List Token
begun first None = Token.begin_array ∷ Token.string first ∷ []
begun first (Some second) = Token.begin_array ∷ Token.string first ∷ Token.string second ∷ []
