use Rattle.std.proofs.Common.{rules, tests, not, ap, ◌∙◌}
use Rattle.std.proofs.lemmas.Iterator.{YieldsList-from_slice}
use Rattle.std.proofs.lemmas.Iterator.Search.{any_from_yields_List}
use Rattle.file_members.specs.FileForms.{is_known, has_unknown}
use Rattle.claim_tree.proofs.MemberNames.{any_member}
use Rattle.file_members.proofs.members.has_unknown.Goals as goal

pub returns : goal.returns
returns c =
    let fields = c.args.fields.now in
    let any = any_from_yields_List (λ m. not (is_known fields m.0)) _ _ _ c.any.ensures.ran (YieldsList-from_slice c.members.result.now c.iter.ensures.rest) (λ x b q k. search (rules, tests)) in
    any ∙ (any_member (λ name. not (is_known fields name)) c.members.result.now ∙ ap (has_unknown fields) c.members.ensures.value)
