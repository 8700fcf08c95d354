use Rattle.std.proofs.Common.{◌≡◌, ◌+◌, ◌*◌, ◌≤◌, List, length, drop}
use Rattle.std.specs.Vec.Iter.{into_iter_items}
use Rattle.claim_tree.specs.ListViews.{elements_of, members_of}
use Rattle.digest_sites.specs.Reserved.{sd_texts}
use Rattle.digest_sites.specs.Given.{Given}
use Rattle.marked_tree.specs.View.{marked_members_of}
use Rattle.rebuild_core.specs.Cursor.{elements_digests, members_digests}
use Rattle.rebuild_core.specs.Whole.{settled, topped, ElementsWhole, MembersWhole, OpensFrom}
use Rattle.rebuild_core.proofs.Taking.{Taking}
use Rattle.rebuild_core.proofs.ListOpening.{ListState}
use Rattle.rebuild_core.proofs.MapOpening.{OwnState, MapState}
use Rattle.rebuild_core.proofs.opening.+opening.Given as goal

abbrev pub decreases-open : goal.decreases-open
decreases-open l = 5 * l.limit + 2

abbrev pub decreases-open_list : goal.decreases-open_list
decreases-open_list l = 5 * l.limit + 4

abbrev pub decreases-open_next : goal.decreases-open_next
decreases-open_next l = 5 * l.limit + 3

abbrev pub decreases-open_own : goal.decreases-open_own
decreases-open_own l = 5 * l.limit + 4

abbrev pub decreases-open_parts : goal.decreases-open_parts
decreases-open_parts l = 5 * l.limit + 0

abbrev pub decreases-open_plain : goal.decreases-open_plain
decreases-open_plain l = 5 * l.limit + 4

abbrev pub invariant-open_list-loop-tree : goal.invariant-open_list-loop-tree
invariant-open_list-loop-tree l =
    (g : List Given) → OpensFrom g l.fn.given l.graph.numbers.items l.graph.ends.items l.fn.at (elements_digests l.fn.list) (ElementsWhole (settled g) l.fn.list)
    → ListState g l.graph.numbers.items l.limit l.fn.list (l.fn.at + length (elements_digests l.fn.list)) (elements_of (into_iter_items l.tree-iterator)) l.out l.at
    × Taking g l.fn.given l.given (elements_digests l.fn.list) (elements_digests (elements_of (into_iter_items l.tree-iterator)))

abbrev pub invariant-open_own-loop : goal.invariant-open_own-loop
invariant-open_own-loop l =
    (l.count ≡ length (sd_texts l.map))
    × (l.counter ≤ l.count)
    × ((g : List Given) → OpensFrom g l.fn.given l.graph.numbers.items l.graph.ends.items l.fn.at (sd_texts l.map) (Unit {0})
    → OwnState g l.graph.numbers.items l.limit (sd_texts l.map) (l.fn.at + length (sd_texts l.map)) (drop l.counter (sd_texts l.map)) (marked_members_of l.out.items) l.at
    × Taking g l.fn.given l.given (sd_texts l.map) (drop l.counter (sd_texts l.map)))

abbrev pub invariant-open_plain-loop-name : goal.invariant-open_plain-loop-name
invariant-open_plain-loop-name l =
    (g : List Given) → OpensFrom g l.fn.given l.graph.numbers.items l.graph.ends.items l.fn.at (members_digests (topped l.top l.fn.map)) (MembersWhole (settled g) (topped l.top l.fn.map))
    → MapState g l.graph.numbers.items l.limit l.top l.fn.map (l.fn.at + length (members_digests (topped l.top l.fn.map))) (members_of (into_iter_items l.name-iterator)) l.out l.at
    × Taking g l.fn.given l.given (members_digests (topped l.top l.fn.map)) (members_digests (topped l.top (members_of (into_iter_items l.name-iterator))))
