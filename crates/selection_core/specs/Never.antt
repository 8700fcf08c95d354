-- The rule of consent that a list of places says which are never shown.
use Rattle.std.specs.Prelude.{◌≡◌, ◌↔◌, List, Bool, true, IsTrue}
use Rattle.sd_outside.specs.Lists.{In}
use Rattle.claim_tree.specs.Path.{is_front}
use Rattle.marked_tree.specs.Paths.{Path}
use Rattle.selection_core.specs.Consent.{RuleAnswers}

-- no path of the list leads to the place
abbrev pub MayBeShown : List Path → Path → Type 0
MayBeShown never at = (front : Path) → In front never → is_front front at ≡ true → ⊥

-- the answer allows exactly what may be shown
abbrev pub Judges : List Path → Path → Bool → Type 0
Judges never at answer = IsTrue answer ↔ MayBeShown never at

-- the rule that judges so at every place, and stays as it is
abbrev pub never_rule : RuleAnswers (List Path)
never_rule = record {
  pre = λ never at. Unit {0};
  post = λ never at answer. Judges never at.0.now answer;
  steps = λ never at answer after. Judges never at.0.now answer × (after ≡ never);
}
