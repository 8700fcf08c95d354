use Rattle.std.proofs.Common.{◌≡◌, ◌++◌, length, drop, take}
use Rattle.claim_tree.specs.Path.{pointer_text}
use Rattle.claim_tree.specs.View.{tree_of}
use Rattle.marked_tree.specs.Paths.{Path}
use Rattle.issuer_core.specs.Decoys.{decoy_paths, earlier}
use Rattle.audit_core.specs.Wanted.{count_at}
use Rattle.audit_core.proofs.Wanteds.{texts_of}
use Rattle.audit_core.proofs.wanted.wanted_standings.Given as goal

abbrev pub invariant-loop-entry : goal.invariant-loop-entry
invariant-loop-entry l =
    let all = decoy_paths l.entry-items in
    let front = decoy_paths (take l.entry-index l.entry-items) in
    record {
      whole : all ≡ front ++ decoy_paths (drop l.entry-index l.entry-items);
      counts : (p : Path) → count_at l.counts (pointer_text p) ≡ earlier (length front) p all;
      texts : l.wanted.items ++ texts_of (tree_of l.order.payload) all (length front) (decoy_paths (drop l.entry-index l.entry-items)) ≡ texts_of (tree_of l.order.payload) all 0 all;
    }
