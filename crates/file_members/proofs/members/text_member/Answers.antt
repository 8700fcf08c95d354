use Rattle.file_members.specs.FileForms.{optional}
use Rattle.claim_tree.specs.TreeValues.{IsText}
use Rattle.claim_tree.specs.View.{tree_of}
use Rattle.claim_tree.proofs.TreeValues.{no_text}
use Rattle.file_members.proofs.FileMembers.{wrong_member}
use Rattle.file_members.proofs.members.text_member.Goals as goal

pub returns-in_default-tree : goal.returns-in_default-tree
returns-in_default-tree c =
    record {
      ok = tt;
      refused = wrong_member (optional c.args.field IsText) c.args.members.now c.word.result.now (tree_of c.in-Some.tree.now) c.word.ensures c.in-Some.ensures (no_text c.in-Some.tree.now c.in_default-tree.not-Text);
    }
