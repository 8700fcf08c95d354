use Rattle.std.proofs.Common.{◌≡◌, ℕ, suc, ◌-◌, length, drop, get_or, refl, ap, sym, ◌∙◌, subst, arith}
use Rattle.std.proofs.lemmas.List.{get_or_read_under}
use Rattle.claim_tree.specs.Tree.{IsBefore, IsOrdered, MembersOrdered}
use Rattle.marked_tree.specs.Marked.{strip, strip_members}
use Rattle.marked_tree.specs.View.{marked_of, marked_members_of}
use Rattle.marked_tree.proofs.MarkedViews.{Entry}
use Rattle.marked_tree.proofs.Names.{ordered_from}
use Rattle.marked_tree.proofs.marked.are_ascending.Goals as goal
use Rattle.marked_tree.proofs.marked.are_ascending.Goals.{else-from-members-via-then-from-members+else-not-is_before, else-from-members-via-else-from-members}

pub loop-from-preserved : goal.loop-from-preserved
loop-from-preserved c =
    let ms = c.args.members.now in
    let from = c.loop-from.from in
    let d = c.index-members-from.result in
    let at : suc (from - 1) ≡ from = omega (arith, c.loop-from-test.true) in
    let behind = subst (λ (n : ℕ). MembersOrdered (strip_members (marked_members_of (drop n ms)))) (sym at) c.loop-from.invariant.1 in (
      omega (arith, c.loop-from.invariant.0),
      ordered_from ms (from - 1) d (omega (arith, at, c.loop-from.invariant.0)) behind (subst (λ (m : Entry). IsOrdered (strip (marked_of m.2))) c.index-members-from.is c.invariant.ensures) (λ w.
          elim c.else-from-members.branch [
            | else-from-members-via-then-from-members+else-not-is_before b ↦
                let one = get_or_read_under ms (from - 1) (length ms) b.index-members-from-then-from-members.result d b.index-members-from-then-from-members.is (omega (arith, at, w)) refl in
                let next = get_or_read_under ms from (length ms) b.index-members-from-then-from-members-2.result d b.index-members-from-then-from-members-2.is b.if-from-members.true refl ∙ ap (λ (n : ℕ). get_or ms n d) (sym at) in
                subst (λ (m : Entry). IsBefore (get_or ms (from - 1) d).0 m.0) next (subst (λ (m : Entry). IsBefore m.0 b.index-members-from-then-from-members-2.result.0) one (b.is_before.ensures b.if-not-is_before.false))
            | else-from-members-via-else-from-members b ↦ absurd (omega (arith, at, w, b.if-from-members.false))
          ]),
    )
