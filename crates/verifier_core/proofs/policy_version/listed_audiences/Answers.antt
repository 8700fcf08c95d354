use Rattle.std.proofs.Common.{◌≡◌, Option, Some, ap, subst, sym, ◌∙◌, codes}
use Rattle.claim_tree.specs.Tree.{Tree, array, member_named}
use Rattle.claim_tree.specs.View.{tree_of}
use Rattle.claim_tree.specs.TreeValues.{Says}
use Rattle.verifier_core.specs.PolicyVersion.{IsAudiences, AreAudiences}
use Rattle.verifier_core.specs.declared.policy_version.PolicyVersion.{PolicyVersion}
use Rattle.verifier_core.proofs.PolicyVersions.{other_texts}
use Rattle.verifier_core.proofs.policy_version.listed_audiences.Goals as goal

pub returns-then-not-are_audiences-clause-none : goal.returns-then-not-are_audiences-clause-none
returns-then-not-are_audiences-clause-none c =
    let texts = c.in-Some.texts in
    let is = rw c.in-Some.is at c.in_ok-texts.ensures.texts in
    let found : member_named c.args.members.now (codes "aud") ≡ Some (array c.in-Some-List.list) = sym c.in-Some-List.ensures ∙ ap (λ t. Some (tree_of t)) c.in-Some-List.field-0-is in
    λ list says.
    let said = subst (λ (o : Option Tree). Says (IsAudiences PolicyVersion.Two) o list) found says in
    other_texts AreAudiences c.in-Some-List.list texts (is ∙ c.trees.ensures.value) (λ good. cc (c.if-not-are_audiences.ensures.1 good)) list said.0 said.1
