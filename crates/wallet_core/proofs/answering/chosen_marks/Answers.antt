use Rattle.std.proofs.Common.{subst}
use Rattle.marked_tree.specs.Marked.{strip}
use Rattle.marked_tree.specs.Numbers.{has}
use Rattle.marked_tree.specs.View.{marked_of}
use Rattle.selection_core.specs.AllowCalls.{IsAllowRefused}
use Rattle.selection_core.specs.ChooseCalls.{IsChooseRefused}
use Rattle.wallet_core.proofs.Choices.{missing_unanswered, refused_unanswered, least_set}
use Rattle.wallet_core.proofs.answering.chosen_marks.Goals as goal

pub returns-in-Err-NoSuchPlace-clause-none : goal.returns-in-Err-NoSuchPlace-clause-none
returns-in-Err-NoSuchPlace-clause-none g c =
    let m = marked_of c.args.marked.now in
    let told = subst (λ e. IsChooseRefused (strip m) c.args.asked.now e) c.in-Err-NoSuchPlace.field-0-is c.in-Err-NoSuchPlace.ensures.refused in
    missing_unanswered g.F.Fn c.args.consent.now m c.args.query.now c.args.asked.now c.requires.asked c.in-Err-NoSuchPlace.field-0-0 told

pub returns-in-Ok-allow-clause-least : goal.returns-in-Ok-allow-clause-least
returns-in-Ok-allow-clause-least g c =
    let m = marked_of c.args.marked.now in
    least_set g.F.Fn c.args.consent.now m c.args.query.now c.args.asked.now c.requires.asked c.in-Ok.chosen (c.in-Ok.ensures.least c.requires.unmixed) c.in-Ok.ensures.there (c.has_values.ensures.0 c.if-not-has_values.false) c.in-Ok-allow.ensures.allowed

pub returns-clause-none : goal.returns-clause-none
returns-clause-none g c =
    let m = marked_of c.args.marked.now in
    let told = subst (λ e. IsAllowRefused g.F.Fn c.args.consent.now m (has c.in-Ok.chosen) e) c.in-Err-Refused.field-0-is c.in-Err-Refused.ensures.refused in
    refused_unanswered g.F.Fn c.args.consent.now m c.args.query.now c.args.asked.now c.requires.asked c.in-Ok.chosen (c.in-Ok.ensures.least c.requires.unmixed) c.in-Err-Refused.field-0-0 told
