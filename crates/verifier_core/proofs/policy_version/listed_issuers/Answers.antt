use Rattle.std.proofs.Common.{◌≡◌, ◌≤◌, ap, subst, ◌∙◌, length, arith}
use Rattle.claim_tree.specs.Tree.{array}
use Rattle.claim_tree.specs.View.{tree_of}
use Rattle.claim_tree.specs.TreeValues.{IsTexts}
use Rattle.verifier_core.proofs.PolicyVersions.{other_texts}
use Rattle.verifier_core.proofs.policy_version.listed_issuers.Goals as goal

pub returns-then-len-eq0-clause-none : goal.returns-then-len-eq0-clause-none
returns-then-len-eq0-clause-none c =
    let texts = c.in-Some.texts in
    let is = rw c.in-Some.is at c.in_ok-texts.ensures.texts in
    let tree : tree_of c.args.tree.now ≡ array c.in-List.list = ap tree_of c.in-List.is in
    λ h. other_texts (λ list. 1 ≤ length list) c.in-List.list texts (is ∙ c.trees.ensures.value) (λ some. omega (arith, some, c.len.ensures, c.if-len-eq0.true)) h.0 (subst (λ t. IsTexts t h.0) tree h.1.0) h.1.1
