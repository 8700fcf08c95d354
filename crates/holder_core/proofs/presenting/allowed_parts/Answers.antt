use Rattle.std.proofs.Common.{List, Option, ap, subst}
use Rattle.marked_tree.specs.View.{marked_of}
use Rattle.marked_tree.specs.Paths.{Path}
use Rattle.marked_tree.specs.Marked.{strip, prune}
use Rattle.marked_tree.specs.Numbers.{has}
use Rattle.holder_core.specs.Asked.{Asked, BindingAsked}
use Rattle.holder_core.specs.Present.{NamesKey}
use Rattle.holder_core.specs.PresentSteps.{IsChosen, IsUnchosen, IsOtherKey, IsShown}
use Rattle.holder_core.proofs.HeldFacts.{checked_unmixed, checked_shallow}
use Rattle.holder_core.proofs.Steps.{unchosen, other_key, ready}
use Rattle.holder_core.proofs.presenting.allowed_parts.Goals as goal

pub choose_allowed-requires-clause-depth : goal.choose_allowed-requires-clause-depth
choose_allowed-requires-clause-depth g c = checked_shallow c.args.token.now c.args.asked.now.rules (marked_of c.args.marked.now) c.requires.held.checked

pub choose_allowed-requires-clause-unmixed : goal.choose_allowed-requires-clause-unmixed
choose_allowed-requires-clause-unmixed g c = checked_unmixed c.args.token.now c.args.asked.now.rules (marked_of c.args.marked.now) c.requires.held.checked

pub returns-in-Err-clause-refused : goal.returns-in-Err-clause-refused
returns-in-Err-clause-refused g c =
    let m = marked_of c.args.marked.now in
    let told = subst (λ (want : List Path). IsUnchosen g.F.Fn c.args.consent.now m want c.in-Err.error) (ap (λ (a : Asked). a.want) c.asked.view_is) c.in-Err.ensures.refused in
    unchosen g.F.Fn c.args.consent.now c.args.token.now c.args.asked.now m c.requires.held c.in-Err.error told

pub shown_payload-requires : goal.shown_payload-requires
shown_payload-requires g c = record { depth = checked_shallow c.args.token.now c.args.asked.now.rules (marked_of c.args.marked.now) c.requires.held.checked }

pub returns-in-Err-shown_payload-clause-refused : goal.returns-in-Err-shown_payload-clause-refused
returns-in-Err-shown_payload-clause-refused g c =
    let m = marked_of c.args.marked.now in
    let chosen = subst (λ (want : List Path). IsChosen g.F.Fn c.args.consent.now m want c.in-Ok.chosen) (ap (λ (a : Asked). a.want) c.asked.view_is) c.in-Ok.ensures.chosen in
    let other = subst (λ (b : Option BindingAsked). IsOtherKey b (strip (prune m (has c.in-Ok.chosen))) c.in-Err-shown_payload.error) (ap (λ (a : Asked). a.binding) c.asked.view_is) c.in-Err-shown_payload.ensures.refused in
    other_key g.F.Fn c.args.consent.now c.args.token.now c.args.asked.now m c.requires.held c.in-Ok.chosen chosen c.in-Err-shown_payload.error other

pub returns-clause-ready : goal.returns-clause-ready
returns-clause-ready g c =
    let m = marked_of c.args.marked.now in
    let shown = strip (prune m (has c.in-Ok.chosen)) in
    let chosen = subst (λ (want : List Path). IsChosen g.F.Fn c.args.consent.now m want c.in-Ok.chosen) (ap (λ (a : Asked). a.want) c.asked.view_is) c.in-Ok.ensures.chosen in
    let named = subst (λ (b : Option BindingAsked). NamesKey b shown) (ap (λ (a : Asked). a.binding) c.asked.view_is) c.in-Ok-shown_payload.ensures.named in
    let there = subst (λ (b : Option BindingAsked). IsShown b shown c.in-Ok-shown_payload.payload) (ap (λ (a : Asked). a.binding) c.asked.view_is) c.in-Ok-shown_payload.ensures.shown in
    ready g.F.Fn c.args.consent.now c.args.token.now c.args.asked.now m c.requires.held c.in-Ok.chosen chosen named
    (record { parts = c.in_ok-parts.parts; payload = c.in-Ok-shown_payload.payload }) c.in_ok-parts.ensures.signed c.in_ok-parts.ensures.disclosures c.in_ok-parts.ensures.unbound there
