use Rattle.std.proofs.Common.{◌≡◌, length, drop, sym, ap, ◌∙◌}
use Rattle.std.specs.Prelude.{Some, option_and_then}
use Rattle.claim_tree.specs.Path.{tree_at}
use Rattle.claim_tree.specs.View.{tree_of}
use Rattle.claim_tree.proofs.PathFronts.{tree_at_front}
use Rattle.issuer_core.proofs.judging.find_on.Goals as goal

pub returns-in-Some : goal.returns-in-Some
returns-in-Some c =
    let known : tree_at (tree_of c.args.payload.now) c.in-Some.front.now ≡ Some (tree_of c.in-Some.tree.now) = rw c.in-Some.is at c.requires in
    let way = tree_at_front (tree_of c.args.payload.now) c.in-Some.front.now c.args.path.now (sym c.is_prefix.ensures ∙ c.if-is_prefix.true) in
    c.find_behind.ensures.value ∙ ap (λ n. tree_at (tree_of c.in-Some.tree.now) (drop n c.args.path.now)) c.len.ensures
    ∙ sym (way ∙ ap (option_and_then (λ u. tree_at u (drop (length c.in-Some.front.now) c.args.path.now))) known)
