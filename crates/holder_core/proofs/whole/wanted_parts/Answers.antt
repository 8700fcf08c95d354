use Rattle.std.proofs.Common.{ℕ, List, Option, refl, ap, subst, ◌∙◌}
use Rattle.sd_outside.specs.Lists.{AtNone}
use Rattle.claim_tree.specs.View.{tree_of}
use Rattle.marked_tree.specs.Numbers.{has}
use Rattle.marked_tree.specs.Paths.{Path}
use Rattle.selection_core.specs.ChoiceRefusals.{IsMissing}
use Rattle.holder_core.specs.Asked.{Asked, BindingAsked}
use Rattle.holder_core.specs.Present.{picked, NamesKey}
use Rattle.holder_core.specs.PresentSteps.{IsOtherKey}
use Rattle.holder_core.proofs.WholeToken.{other_named, all_shown}
use Rattle.holder_core.proofs.whole.wanted_parts.Goals as goal

pub returns-in-Err-clause-refused : goal.returns-in-Err-clause-refused
returns-in-Err-clause-refused c =
    let payload = tree_of c.args.payload in
    let there = subst (λ (want : List Path). AtNone (IsMissing payload want)) (ap (λ (a : Asked). a.want) c.asked.view_is) (c.in_default.ensures.there refl) in
    other_named c.args.asked.now payload there c.in-Err.error (subst (λ (b : Option BindingAsked). IsOtherKey b payload c.in-Err.error) (ap (λ (a : Asked). a.binding) c.asked.view_is) c.in-Err.ensures.refused)

pub returns-clause-ready : goal.returns-clause-ready
returns-clause-ready c =
    let payload = tree_of c.args.payload in
    record {
      there = subst (λ (want : List Path). AtNone (IsMissing payload want)) (ap (λ (a : Asked). a.want) c.asked.view_is) (c.in_default.ensures.there refl);
      key = subst (λ (b : Option BindingAsked). NamesKey b payload) (ap (λ (a : Asked). a.binding) c.asked.view_is) c.in_default-check_named.ensures.named;
      presents = record {
        signed = c.in_ok-parts.ensures.signed;
        disclosures = c.in_ok-parts.ensures.disclosures ∙ ap (λ (marks : List ℕ). picked (has marks) c.args.token.now.parts.disclosures) c.new.ensures;
        binding_is = c.in_ok-parts.ensures.unbound;
      };
      shown = all_shown c.args.asked.now.binding c.args.payload;
    }
