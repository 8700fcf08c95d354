use Rattle.std.proofs.Common.{◌≡◌, map, subst, rules}
use Rattle.std.specs.Str.{IsUtf8}
use Rattle.claim_tree.specs.View.{tree_of}
use Rattle.claim_tree.specs.Passes.{ReadsBy}
use Rattle.claim_tree.specs.declared.pass.Wanted.{Wanted}
use Rattle.claim_tree.specs.declared.pass.Pass.TheVariants.{Named}
use Rattle.claim_tree.proofs.KeptReading.{reads_kept, kept_shallow}
use Rattle.claim_tree.proofs.text.JsonReader.read_named.Goals as goal

pub returns-clause-ok : goal.returns-clause-ok
returns-clause-ok c =
    let t = tree_of c.in_ok-tree.tree in
    let utf8 : IsUtf8 c.args.bytes.now = search rules in
    let same : c.in-Ok.text.now ≡ c.args.bytes.now = search rules in
    let wanted : Wanted = record { names = c.args.names; whole = c.args.whole } in
    reads_kept wanted c.args.bytes.now t utf8 (subst (λ bytes. ReadsBy (Named wanted) bytes t) same c.in_ok-tree.ensures.ok)

pub returns-clause-depth : goal.returns-clause-depth
returns-clause-depth c = kept_shallow (map (λ n. n.now) c.args.names.now) c.args.whole.now c.args.bytes.now (tree_of c.in_ok-tree.tree) (returns-clause-ok c)
