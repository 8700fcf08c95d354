-- Each file of a command is named by its word.
use Rattle.std.proofs.Common.{◌≡◌, ◌⊎◌, inl, inr, ℕ, ◌+◌, List, [], ◌∷◌, Bool, true, false, cond, Option, None, Some, refl, sym, subst}
use Rattle.std.specs.Prelude.{bytes_eq, codes}
use Rattle.std.specs.Option.{option_map}
use Rattle.sd_outside.specs.Lists.{StandsAt, In}
use Rattle.sdjwt_cli.specs.Command.{Command, split, show, verify, issue, present, convert, gen, command_of, NamedFile, files_of}
use Rattle.sdjwt_cli.specs.Forms.{form_of}
use Rattle.sdjwt_cli.specs.Generated.{count_of}
use Rattle.sdjwt_cli.specs.declared.form.Form.{Form}

abbrev AreWords : List (List ℕ) → Command → Type 0
AreWords words command = (wanted : NamedFile) → In wanted (files_of command) → StandsAt words (wanted.word + 1) wanted.name

abbrev IsWordOf : List (List ℕ) → NamedFile → Type 0
IsWordOf words wanted = StandsAt words (wanted.word + 1) wanted.name

one_file : (words : List (List ℕ)) (file wanted : NamedFile) → IsWordOf words file → (wanted ≡ file) ⊎ ⊥ → IsWordOf words wanted
one_file words file wanted is (inl same) = subst (IsWordOf words) (sym same) is
one_file words file wanted is (inr none) = absurd none

two_files : (words : List (List ℕ)) (file other wanted : NamedFile) → IsWordOf words file → IsWordOf words other → (wanted ≡ file) ⊎ ((wanted ≡ other) ⊎ ⊥) → IsWordOf words wanted
two_files words file other wanted is next (inl same) = subst (IsWordOf words) (sym same) is
two_files words file other wanted is next (inr more) = one_file words other wanted next more

-- what is so of the command that is named is so of the one that was found
found : (words : List (List ℕ)) (named command : Command) → AreWords words named → Some named ≡ Some command → AreWords words command
found words named command are e =
    let same : named ≡ command = cc in
    subst (AreWords words) same are

none : (words : List (List ℕ)) (command : Command) → None ≡ Some command → AreWords words command
none words command e = absurd cc

-- a choice of two
either : (words : List (List ℕ)) (command : Command) (b : Bool) (here there : Option Command) → (here ≡ Some command → AreWords words command) → (there ≡ Some command → AreWords words command)
    → cond b here there ≡ Some command → AreWords words command
either words command true here there first second e = first e
either words command false here there first second e = second e

of_form : (words : List (List ℕ)) (command : Command) (token : List ℕ) (o : Option Form) → ((form : Form) → AreWords words (convert form token)) → option_map (λ form. convert form token) o ≡ Some command → AreWords words command
of_form words command token None are e = none words command e
of_form words command token (Some form) are e = found words (convert form token) command (are form) e

of_count : (words : List (List ℕ)) (command : Command) (o : Option ℕ) → option_map gen o ≡ Some command → AreWords words command
of_count words command None e = none words command e
of_count words command (Some count) e = found words (gen count) command (λ wanted there. absurd there) e

pub files_are_words : (words : List (List ℕ)) (command : Command) → command_of words ≡ Some command → AreWords words command
files_are_words [] command e = none [] command e
files_are_words (word ∷ []) command e = none (word ∷ []) command e
files_are_words (word ∷ token ∷ []) command e =
    let words = word ∷ token ∷ [] in
    let showing : AreWords words (show token) = λ wanted. one_file words _ wanted refl in
    let splitting : AreWords words (split token) = λ wanted. one_file words _ wanted refl in
    either words command (bytes_eq word (codes "split")) _ _ (found words (split token) command splitting)
    (either words command (bytes_eq word (codes "show")) _ _ (found words (show token) command showing)
    (either words command (bytes_eq word (codes "gen")) _ _ (of_count words command (count_of token)) (none words command))) e
files_are_words (word ∷ first ∷ second ∷ []) command e =
    let words = word ∷ first ∷ second ∷ [] in
    let verifying : AreWords words (verify first second) = λ wanted. two_files words _ _ wanted refl refl in
    let issuing : AreWords words (issue first second) = λ wanted. two_files words _ _ wanted refl refl in
    let presenting : AreWords words (present first second) = λ wanted. two_files words _ _ wanted refl refl in
    let converting : (form : Form) → AreWords words (convert form second) = λ form wanted. one_file words _ wanted refl in
    either words command (bytes_eq word (codes "verify")) _ _ (found words (verify first second) command verifying)
    (either words command (bytes_eq word (codes "issue")) _ _ (found words (issue first second) command issuing)
    (either words command (bytes_eq word (codes "present")) _ _ (found words (present first second) command presenting)
    (either words command (bytes_eq word (codes "convert")) _ _ (of_form words command second (form_of first) converting) (none words command)))) e
files_are_words (word ∷ first ∷ second ∷ more ∷ rest) command e = none (word ∷ first ∷ second ∷ more ∷ rest) command e
