use Rattle.std.proofs.Common.{refl}
use Rattle.claim_tree.specs.View.{tree_of}
use Rattle.refusals.specs.declared.fault.Part.TheVariants.{Header}
use Rattle.json_form.proofs.Members.{found_here, no_object}
use Rattle.json_form.proofs.signature_entry.take_header.Goals as goal

pub returns : goal.returns
returns c =
    let t = tree_of c.in-Some.tree in
    record {
      ok = tt;
      refused = record {
        named = refl;
        tree = t;
        stands = found_here c.args.entry.now Header c.word.result.now t c.word.ensures c.in-Some.ensures.tree;
        no_value = λ value. no_object c.in-Some.tree c.in_default-tree.not-Object value.0 value.1;
      };
    }
