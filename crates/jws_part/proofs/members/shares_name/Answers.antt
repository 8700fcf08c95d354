use Rattle.std.proofs.Common.{rules, tests, ap, ◌∙◌}
use Rattle.std.proofs.lemmas.Iterator.{YieldsList-from_slice}
use Rattle.std.proofs.lemmas.Iterator.Search.{any_from_yields_List}
use Rattle.jws_part.specs.Header.{has_name, shares_name}
use Rattle.claim_tree.proofs.MemberNames.{any_member}
use Rattle.jws_part.proofs.members.shares_name.Goals as goal

pub returns : goal.returns
returns c =
    let ms = c.args.members.now in
    let any = any_from_yields_List (λ m. has_name ms m.0) _ _ _ c.any.ensures.ran (YieldsList-from_slice c.members.result.now c.iter.ensures.rest) (λ x b q k. search (rules, tests)) in
    any ∙ (any_member (has_name ms) c.members.result.now ∙ ap (shares_name ms) c.members.ensures.value)
