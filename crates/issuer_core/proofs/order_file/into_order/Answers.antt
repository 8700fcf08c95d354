use Rattle.std.proofs.Common.{arith}
use Rattle.claim_tree.specs.View.{tree_of}
use Rattle.file_members.specs.FileForms.{found}
use Rattle.file_members.specs.FileWords.{field_word}
use Rattle.file_members.specs.declared.field.Field.TheVariants.{Payload, Decoys}
use Rattle.issuer_core.proofs.OrderFiles.{value_depth, counts_within}
use Rattle.issuer_core.proofs.order_file.into_order.Goals as goal

pub into_payload-requires : goal.into_payload-requires
into_payload-requires c = c.requires.head.payload

pub returns-clause-depth : goal.returns-clause-depth
returns-clause-depth c =
    let deep = c.requires.depth in
    value_depth c.args.head.members (field_word Payload) (tree_of c.into_payload.result) (omega (arith, deep)) c.into_payload.ensures

pub returns-clause-counts : goal.returns-clause-counts
returns-clause-counts c entry stands = counts_within (found c.args.head.members Decoys) c.args.head.decoys entry c.requires.head.places.decoys stands
