use Rattle.std.proofs.Common.{refl, sym, ap, ◌∙◌}
use Rattle.claim_tree.specs.Tree.{member_named}
use Rattle.claim_tree.specs.View.{tree_of}
use Rattle.file_members.specs.FileForms.{present}
use Rattle.issuer_core.proofs.order_file.need_payload.Goals as goal

pub returns-in-Some-clause-there : goal.returns-in-Some-clause-there
returns-in-Some-clause-there c =
    let t = tree_of c.in-Some.field-0.now in
    present t (ap (member_named c.args.members.now) (sym c.word.ensures) ∙ sym c.in-Some.ensures) (t, refl)
