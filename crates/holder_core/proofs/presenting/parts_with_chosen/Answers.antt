use Rattle.std.proofs.Common.{List, refl, ap, ◌∙◌}
use Rattle.claim_tree.specs.Tree.{Text}
use Rattle.marked_tree.specs.Numbers.{has}
use Rattle.holder_core.specs.Present.{picked}
use Rattle.holder_core.proofs.Steps.{words_picked}
use Rattle.holder_core.proofs.presenting.parts_with_chosen.Goals as goal

pub returns-clause-words : goal.returns-clause-words
returns-clause-words c words =
    let s = has c.args.chosen.now in
    words_picked c.args.token.now.parts _ s words (c.in_ok-signed.ensures ∙ c.signed.ensures) (c.in_ok-disclosures.ensures ∙ ap (λ (xs : List Text). picked s xs) c.disclosures.ensures.value) refl
