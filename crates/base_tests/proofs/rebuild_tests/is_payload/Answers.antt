use Rattle.std.proofs.Common.{◌≡◌, ◌∙◌, true, Some, None, Option, is_some, option_map, refl, sym, ap, subst}
use Rattle.claim_tree.specs.Tree.{Text, Tree, null, flag, whole, text, leaf, array, object, Members, member_named, text_of}
use Rattle.claim_tree.specs.View.{tree_of}
use Rattle.rebuild_core.specs.Payload.{alg_name}
use Rattle.rebuild_core.specs.Answer.{IsPayload}
use Rattle.base_tests.proofs.rebuild_tests.is_payload.Goals as goal

is_leaf : {X : Type 0} (f : X → Text) (r : Option X) (u : Tree) → option_map f r ≡ text_of u → is_some r ≡ true → (s : Text) × (u ≡ leaf (text s))
is_leaf f None u e h = cc
is_leaf f (Some x) (leaf (text s)) e h = (s, refl)
is_leaf f (Some x) (leaf null) e h = cc
is_leaf f (Some x) (leaf (flag b)) e h = cc
is_leaf f (Some x) (leaf (whole n)) e h = cc
is_leaf f (Some x) (array es) e h = cc
is_leaf f (Some x) (object ms) e h = cc

with_text : {X : Type 0} (f : X → Text) (r : Option X) (u : Tree) (ms : Members) → Some u ≡ member_named ms alg_name → option_map f r ≡ text_of u → is_some r ≡ true → IsPayload (object ms)
with_text f r u ms e a h t m =
    let w = is_leaf f r u a h in
    let both : Some u ≡ Some t = e ∙ m in
    let same : u ≡ t = cc in
    (w.0, sym same ∙ w.1)

with_none : (ms : Members) → None ≡ member_named ms alg_name → IsPayload (object ms)
with_none ms e t m = let both : None ≡ Some t = e ∙ m in cc

pub returns-in-Some : goal.returns-in-Some
unfolding alg_name
returns-in-Some c h =
    subst IsPayload (sym (ap tree_of c.in-Object.is))
    (with_text (λ s. s.now) c.as_text.result (tree_of c.in-Some.alg.now) c.in-Object.members c.in-Some.ensures c.as_text.ensures (sym c.is_some.ensures ∙ h))

pub returns-in-None : goal.returns-in-None
unfolding alg_name
returns-in-None c h = subst IsPayload (sym (ap tree_of c.in-Object.is)) (with_none c.in-Object.members c.in-None.ensures)
