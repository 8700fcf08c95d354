use Rattle.std.proofs.Common.{◌≡◌, List, [], IfOk, ap, ◌∙◌, sym, subst, append-nil}
use Rattle.claim_tree.specs.Tree.{MembersOrdered}
use Rattle.marked_tree.specs.Marked.{strip_members, no_marked_members}
use Rattle.marked_tree.specs.MarkedCalls.{put_all}
use Rattle.marked_tree.specs.View.{marked_members_of}
use Rattle.marked_tree.proofs.Names.{ascend}
use Rattle.marked_tree.proofs.Lookups.{joined_puts}
use Rattle.marked_tree.proofs.MarkedViews.{Entry}
use Rattle.marked_tree.proofs.marked.MarkedMap.with_all.Goals as goal

pub returns-then-are_ascending : goal.returns-then-are_ascending
returns-then-are_ascending c =
    let ms = c.self.inside.members.items in
    let sorted = c.sort_by_name.new.members.items in
    let both = ap (λ es. put_all (marked_members_of es) no_marked_members) c.in_ok-all.ensures ∙ joined_puts ms c.args.added.items (ascend (marked_members_of ms) c.self.invariant) in
    let all = c.in_ok-sort_by_name.ensures ∙ both ∙ ap (put_all (marked_members_of c.args.added.items)) c.self.view_is in
    let rising = subst (λ (es : List Entry). MembersOrdered (strip_members (marked_members_of es))) c.deref.ensures.value (c.are_ascending.ensures c.if-are_ascending.true) in
    let alone = ap (λ es. put_all (marked_members_of es) no_marked_members) (append-nil sorted) in
    let itself = sym alone ∙ joined_puts sorted [] (ascend (marked_members_of sorted) rising) in
    sym itself ∙ all

pub returns : goal.returns
returns c =
    let ms = c.self.inside.members.items in
    let both = ap (λ es. put_all (marked_members_of es) no_marked_members) c.in_ok-all.ensures ∙ joined_puts ms c.args.added.items (ascend (marked_members_of ms) c.self.invariant) in
    let all = c.in_ok-sort_by_name.ensures ∙ both ∙ ap (put_all (marked_members_of c.args.added.items)) c.self.view_is in
    subst (λ ns. IfOk c.of_members.result (λ map. map ≡ ns)) all c.of_members.ensures
