use Rattle.std.proofs.Common.{ap, ◌∙◌}
use Rattle.claim_tree.specs.ListViews.{members_of}
use Rattle.claim_tree.specs.JsonText.{members_data}
use Rattle.claim_tree.proofs.TreeReading.{insert_entry-put}
use Rattle.claim_tree.proofs.build.put_sorted.Goals as goal

pub returns : goal.returns
returns c = ap (λ es. members_data (members_of es)) c.in_ok-insert.ensures.entries ∙ insert_entry-put c.args.members.now.entries c.args.name c.args.tree
