-- Not needed to believe the program's promises: the algorithms that are taken
-- of a holder, as C says them.
use Rattle.std.specs.Prelude.{◌≡◌, ◌≢◌, ℕ, List, [], ◌∷◌}
use Rattle.claim_tree.specs.TreeValues.{IsTexts}
use Rattle.claim_tree.specs.JsonText.{Reads}
use Rattle.claim_tree.specs.Tree.{Text, Tree}
use Rattle.file_members.specs.declared.field.Field.TheVariants.{Algs}
use Rattle.file_members.specs.declared.file_fault.FileFault.TheVariants.{Wrong}
use Rattle.cli_parts.specs.Lines.{unreadable_line}
use Rattle.verifier_core.specs.declared.policy.Policy.{Policy}

-- the bytes are the JSON of the list of these texts
pub record IsListText (bytes : List ℕ) (texts : List Text) : Type 0 where
  pub tree : Tree
  pub reads : Reads bytes tree
  pub is_list : IsTexts tree texts

abbrev pub IsNoListText : List ℕ → Type 0
IsNoListText bytes = (texts : List Text) → IsListText bytes texts → ⊥

-- these algorithms are taken of the holder: those of the list, or those of the
-- policy where nothing is said
abbrev pub SaysAlgs : Policy → List ℕ → List Text → Type 0
SaysAlgs policy [] algs = algs ≡ policy.algs
SaysAlgs policy (byte ∷ bytes) algs = IsListText (byte ∷ bytes) algs

-- something is said that is no list, and this is the line of it
pub record SaysNoAlgs (bytes text : List ℕ) : Type 0 where
  pub said : bytes ≢ []
  pub none : IsNoListText bytes
  pub line_is : text ≡ unreadable_line 2 (Wrong Algs)
