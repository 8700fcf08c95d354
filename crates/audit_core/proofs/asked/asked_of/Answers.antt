use Rattle.std.proofs.Common.{arith, ap, refl, ◌∙◌}
use Rattle.std.proofs.lemmas.Map.Made.{distinct_count-le}
use Rattle.claim_tree.specs.View.{tree_of}
use Rattle.marked_tree.specs.Paths.{same_path, is_among}
use Rattle.marked_tree.proofs.MarkSame.{mark_same, hidden_same}
use Rattle.issuer_core.specs.Laid.{sorted}
use Rattle.issuer_core.specs.Order.{order_of}
use Rattle.issuer_core.proofs.SortedDigests.{sort_is}
use Rattle.audit_core.proofs.Parts.{few_decoys}
use Rattle.audit_core.proofs.asked.asked_of.Goals as goal

pub decoy_count-decoys-requires : goal.decoy_count-decoys-requires
decoy_count-decoys-requires c = few_decoys (order_of c.args.order) c.requires.passes

pub wanted_standings-requires : goal.wanted_standings-requires
wanted_standings-requires c = few_decoys (order_of c.args.order) c.requires.passes

pub mark_counted-requires-clause-few : goal.mark_counted-requires-clause-few
mark_counted-requires-clause-few c = let few = c.requires.few in omega (arith, distinct_count-le same_path c.args.places, few)

pub returns-clause-asked : goal.returns-clause-asked
returns-clause-asked c = record {
  claims = c.in_ok-claims.ensures.marked ∙ mark_same (is_among c.args.places) (is_among c.args.order.hide) c.requires.same 0 (tree_of c.args.order.payload);
  hidden = c.in_ok-claims.ensures.count ∙ hidden_same (is_among c.args.places) (is_among c.args.order.hide) c.requires.same (tree_of c.args.order.payload);
  hash = refl;
  decoys = c.decoy_count-decoys.ensures;
  standings = sort_is c.in_ok-standings.standings.items c.sort.new.self.items c.in_ok-sort.ensures.sorted c.in_ok-sort.ensures.stable ∙ ap sorted c.in_ok-standings.ensures;
}

pub returns-clause-hidden : goal.returns-clause-hidden
returns-clause-hidden c = let few = c.requires.few in omega (arith, distinct_count-le same_path c.args.places, few, c.in_ok-claims.ensures.few)

pub returns-clause-decoys : goal.returns-clause-decoys
returns-clause-decoys c = omega (arith, few_decoys (order_of c.args.order) c.requires.passes, c.decoy_count-decoys.ensures)
