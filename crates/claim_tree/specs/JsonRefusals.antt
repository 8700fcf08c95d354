-- Not needed to believe the program's promises: why a text is not read as JSON.
use Rattle.claim_tree.specs.Tree.{Text}
use Rattle.claim_tree.specs.declared.text.ReadError.{ReadError}
use Rattle.claim_tree.specs.declared.text.ReadError.TheVariants.{Memory, NotJson, NotWhole}
use Rattle.claim_tree.specs.JsonText.{IsNotJson, IsNotWhole}

-- why a text is not read
abbrev pub IsReadRefused : Text → ReadError → Type 0
IsReadRefused bytes Memory = Unit {0}
IsReadRefused bytes NotJson = IsNotJson bytes
IsReadRefused bytes NotWhole = IsNotWhole bytes
