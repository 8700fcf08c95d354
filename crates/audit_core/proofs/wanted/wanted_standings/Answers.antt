use Rattle.std.proofs.Common.{◌+◌, ◌≤◌, ◌++◌, length, drop, take, sym, ap, ◌∙◌, append_assoc, arith}
use Rattle.sd_outside.specs.Limits.{count_max}
use Rattle.claim_tree.specs.View.{tree_of}
use Rattle.issuer_core.specs.Decoys.{decoy_paths}
use Rattle.audit_core.proofs.Loops.{entry}
use Rattle.audit_core.proofs.Wanteds.{texts_of, few_before, whole_step, counts_after, texts_after, texts_end}
use Rattle.audit_core.proofs.wanted.wanted_standings.Goals.{After-count_of-before}
use Rattle.audit_core.proofs.wanted.wanted_standings.Goals as goal

few : (c : After-count_of-before) → c.count_of-before.result + c.entry-item.result.count ≤ count_max
few c =
    let l = c.loop-entry.invariant in
    let h = entry c.elements-entry-items.result.now c.loop-entry.entry-index c.entry-item.result c.loop-entry-test.true c.entry-item.is in
    few_before c.elements-entry-items.result.now _ c.loop-entry.entry-index c.entry-item.result c.loop-entry.counts c.in_ok-pointer.pointer c.count_of-before.result h l.whole l.counts c.in_ok-pointer.ensures c.count_of-before.ensures c.elements-entry-items.ensures c.requires

pub note-requires-clause-few : goal.note-requires-clause-few
note-requires-clause-few c = let within = few (goal.at.note-requires-clause-few c).After-count_of-before in omega (arith, within)

pub push_entry-requires-clause-few : goal.push_entry-requires-clause-few
push_entry-requires-clause-few c = few (goal.at.push_entry-requires-clause-few c).After-count_of-before

pub loop-entry-preserved : goal.loop-entry-preserved
loop-entry-preserved c =
    let l = c.loop-entry.invariant in
    let items = c.elements-entry-items.result.now in
    let i = c.loop-entry.entry-index in
    let e = c.entry-item.result in
    let h = entry items i e c.loop-entry-test.true c.entry-item.is in
    record {
      whole = whole_step items i e h l.whole;
      counts = counts_after items i e c.loop-entry.counts c.note.new.counts c.in_ok-pointer.pointer h l.whole l.counts c.in_ok-pointer.ensures c.in_ok-note.ensures;
      texts =
          ap (λ xs. xs ++ texts_of (tree_of c.args.order.now.payload) (decoy_paths items) (length (decoy_paths (take (i + 1) items))) (decoy_paths (drop (i + 1) items))) c.in_ok-push_entry.ensures
          ∙ append_assoc c.loop-entry.wanted.items _ _
          ∙ ap (λ xs. c.loop-entry.wanted.items ++ xs)
          (sym (texts_after (tree_of c.args.order.now.payload) items i e c.loop-entry.counts c.in_ok-pointer.pointer c.count_of-before.result h l.whole l.counts c.in_ok-pointer.ensures c.count_of-before.ensures))
          ∙ l.texts;
    }

pub returns : goal.returns
returns c =
    texts_end (tree_of c.args.order.now.payload) c.elements-entry-items.result.now c.loop-entry.entry-index c.loop-entry.wanted.items c.loop-entry-test.false c.loop-entry.invariant.texts
    ∙ ap (λ ds. texts_of (tree_of c.args.order.now.payload) (decoy_paths ds) 0 (decoy_paths ds)) c.elements-entry-items.ensures
