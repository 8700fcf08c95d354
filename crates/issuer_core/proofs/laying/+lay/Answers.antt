use Rattle.std.proofs.Common.{◌≡◌, ℕ, refl, [], ◌∷◌, ◌++◌, Some, sym, ap, subst, ◌∙◌, arith, option_map, decimal}
use Rattle.std.specs.Vec.Iter.{into_iter_items}
use Rattle.std.proofs.lemmas.List.{nil_from_length}
use Rattle.claim_tree.specs.Tree.{depth, elements_len}
use Rattle.marked_tree.specs.Paths.{Path}
use Rattle.claim_tree.specs.View.{tree_of}
use Rattle.marked_tree.specs.Falls.{deep-le}
use Rattle.marked_tree.specs.Marked.{no_marked_elements, no_marked_members, marked_element, marked_member}
use Rattle.marked_tree.specs.View.{marked_of, marked_elements_of, marked_members_of}
use Rattle.marked_tree.proofs.MarkedViews.{Element, Entry}
use Rattle.issuer_core.specs.Laid.{sorted, with_sd}
use Rattle.issuer_core.specs.Laying.{digest_at, placed_at, IsLaidNode}
use Rattle.issuer_core.specs.Closing.{HasNumber}
use Rattle.issuer_core.proofs.LaidBounds.{lay_depth}
use Rattle.issuer_core.proofs.LayingSteps.{IsMade, hidden_part, hidden_made}
use Rattle.issuer_core.proofs.LayingElements.{LaysElements, elements_start, element_more, elements_end, elements_made, shown_element, hidden_element}
use Rattle.issuer_core.proofs.LayingMembers.{LaysMembers, members_start, member_more, members_end, members_made}
use Rattle.issuer_core.proofs.laying.+lay.Goals as goal
use Rattle.issuer_core.proofs.laying.+lay.Goals.{lay_list-in-Shown, lay_list-in-Hidden+in_ok-tree-in-Hidden}

-- ---- lists

pub lay_list-loop-mark-init : goal.lay_list-loop-mark-init
lay_list-loop-mark-init t c =
    let a = c.args in
    let all = ap marked_elements_of c.into_iter-mark-iterator.ensures.into_iter_gives.0 ∙ c.into_elements-mark-items.ensures in
    let start = elements_start a.decoys a.hiding a.layer.now.texts a.layer.now.digests a.list c.requires.closes c.requires.digests in
    subst (λ laid. LaysElements a.decoys a.hiding a.layer.now.texts a.list laid a.layer.now.texts a.layer.now.digests (marked_elements_of (into_iter_items c.into_iter-mark-iterator.result))) (sym c.in_ok-laid.ensures)
    (subst (λ left. LaysElements a.decoys a.hiding a.layer.now.texts a.list _ a.layer.now.texts a.layer.now.digests left) (sym all) start)

pub lay_list-lay_node-requires : goal.lay_list-lay_node-requires
lay_list-lay_node-requires t c =
    let a = c.args in
    let l = c.loop-mark in
    let e : Element = (c.in-Some.mark, c.in-Some.tree) in
    let so : LaysElements a.decoys a.hiding a.layer.now.texts a.list l.laid l.layer.texts l.layer.digests (marked_element e.0 (marked_of e.1) (marked_elements_of (into_iter_items c.next.new.self))) =
    subst (λ es. LaysElements a.decoys a.hiding a.layer.now.texts a.list l.laid l.layer.texts l.layer.digests (marked_elements_of es)) c.in-Some.ensures.steps.0 l.invariant in
    (omega (arith, so.few, deep-le e.1), (omega (arith, so.low, c.requires.depth, c.below_element-below.ensures.depth), (c.below_element-below.ensures.placed, (so.closes.0, (so.closes.1, (omega (arith, so.count, c.requires.salts), so.digested))))))

pub lay_list-loop-mark-preserved : goal.lay_list-loop-mark-preserved
lay_list-loop-mark-preserved t c =
    let a = c.args in
    let l = c.loop-mark in
    let e : Element = (c.in-Some.mark, c.in-Some.tree) in
    let left = marked_elements_of (into_iter_items c.next.new.self) in
    let texts = c.lay_node.new.layer.texts in
    let so : LaysElements a.decoys a.hiding a.layer.now.texts a.list l.laid l.layer.texts l.layer.digests (marked_element e.0 (marked_of e.1) (marked_elements_of (into_iter_items c.next.new.self))) =
    subst (λ es. LaysElements a.decoys a.hiding a.layer.now.texts a.list l.laid l.layer.texts l.layer.digests (marked_elements_of es)) c.in-Some.ensures.steps.0 l.invariant in
    let told = c.in_ok-tree.ensures in
    let step : (at : Path) → placed_at c.below_element-below.result at ≡ placed_at a.decoys (decimal (elements_len l.laid) ∷ at) =
    λ at. c.below_element-below.ensures.below at ∙ ap (λ i. placed_at a.decoys (decimal i ∷ at)) c.len.ensures in
    let next = element_more a.decoys a.hiding a.layer.now.texts a.list l.laid l.layer.texts l.layer.digests c.in-Some.mark (marked_of c.in-Some.tree) left so c.below_element-below.result step
    (tree_of c.match-branch-3.tree) texts c.lay_node.new.layer.digests
    (λ dec tells more.
    elim c.match-branch-3.branch [
      | lay_list-in-Shown w ↦
          rw w.tree-is
          (shown_element dec (digest_at c.args.hiding.hash (texts ++ more)) c.in-Some.mark (marked_of c.in-Some.tree) w.in-Shown.tree (subst (λ p. IsLaidNode dec (digest_at c.args.hiding.hash (texts ++ more)) c.in-Some.mark (marked_of c.in-Some.tree) p) w.in-Shown.is (told.part dec tells more)))
      | lay_list-in-Hidden+in_ok-tree-in-Hidden w ↦
          rw w.tree-is
          (hidden_element dec (digest_at c.args.hiding.hash (texts ++ more)) c.in-Some.mark (marked_of c.in-Some.tree) w.in-Hidden.digest _ (subst (λ p. IsLaidNode dec (digest_at c.args.hiding.hash (texts ++ more)) c.in-Some.mark (marked_of c.in-Some.tree) p) w.in-Hidden.is (told.part dec tells more)) w.in_ok-tree-in-Hidden.ensures)
    ])
    told.texts told.count told.digests in
    subst (λ laid. LaysElements a.decoys a.hiding a.layer.now.texts a.list laid texts c.lay_node.new.layer.digests left) (sym c.in_ok-push.ensures.ok) next

pub list_done : (t : ℕ) (c : goal.lay_list-In_ok-push_decoys t) → LaysElements c.args.decoys c.args.hiding c.args.layer.now.texts c.args.list c.loop-mark.laid c.loop-mark.layer.texts c.loop-mark.layer.digests no_marked_elements
list_done t c =
    let a = c.args in
    let l = c.loop-mark in
    let left = into_iter_items l.mark-iterator in
    let none : left ≡ [] = nil_from_length left (sym l.mark-iterator.rest.ok.0 ∙ c.in-None.ensures.steps.0) in
    subst (λ es. LaysElements a.decoys a.hiding a.layer.now.texts a.list l.laid l.layer.texts l.layer.digests (marked_elements_of es)) none l.invariant

pub lay_list-returns-clause-laid : goal.lay_list-returns-clause-laid
lay_list-returns-clause-laid t c dec tells more =
    let a = c.args in
    let l = c.loop-mark in
    c.in_ok-push_decoys.ensures ∙ elements_end a.decoys a.hiding a.layer.now.texts l.layer.texts l.layer.digests a.list l.laid (list_done t c) c.here-own.result.now c.here-own.ensures dec tells more

pub lay_list-returns-clause-texts : goal.lay_list-returns-clause-texts
lay_list-returns-clause-texts t c dec tells more =
    let a = c.args in
    let l = c.loop-mark in
    elements_made a.decoys a.hiding a.layer.now.texts l.layer.texts l.layer.digests a.list l.laid (list_done t c) dec tells more

pub lay_list-returns-clause-count : goal.lay_list-returns-clause-count
lay_list-returns-clause-count t c = let count = (list_done t c).count in omega (arith, count)

pub lay_list-returns-clause-digests : goal.lay_list-returns-clause-digests
lay_list-returns-clause-digests t c = c.loop-mark.invariant.digested

-- ---- objects

pub lay_map-loop-name-init : goal.lay_map-loop-name-init
lay_map-loop-name-init t c =
    let a = c.args in
    let all = ap marked_members_of c.into_iter-name-iterator.ensures.into_iter_gives.0 ∙ c.into_members-name-items.ensures.value in
    let start = members_start a.decoys a.hiding a.layer.now.texts a.layer.now.digests a.members c.requires.closes c.requires.digests c.into_members-name-items.ensures.ordered in
    rw (c.new-laid.ensures, c.new-digests.ensures.items) (subst (λ left. LaysMembers a.decoys a.hiding a.layer.now.texts a.members _ [] a.layer.now.texts a.layer.now.digests left) (sym all) start)

pub lay_map-lay_node-requires : goal.lay_map-lay_node-requires
lay_map-lay_node-requires t c =
    let a = c.args in
    let l = c.loop-name in
    let e : Entry = (c.in-Some.name, c.in-Some.mark, c.in-Some.tree) in
    let so : LaysMembers a.decoys a.hiding a.layer.now.texts a.members l.laid l.digests.items l.layer.texts l.layer.digests (marked_member e.0 e.1 (marked_of e.2) (marked_members_of (into_iter_items c.next.new.self))) =
    subst (λ es. LaysMembers a.decoys a.hiding a.layer.now.texts a.members l.laid l.digests.items l.layer.texts l.layer.digests (marked_members_of es)) c.in-Some.ensures.steps.0 l.invariant in
    (omega (arith, so.few, deep-le e.2), (omega (arith, so.low, c.requires.depth, c.below-below.ensures.depth), (c.below-below.ensures.placed, (so.closes.0, (so.closes.1, (omega (arith, so.count, c.requires.salts), so.digested))))))

pub lay_map-loop-name-preserved : goal.lay_map-loop-name-preserved
lay_map-loop-name-preserved t c =
    let a = c.args in
    let l = c.loop-name in
    let e : Entry = (c.in-Some.name, c.in-Some.mark, c.in-Some.tree) in
    let left = marked_members_of (into_iter_items c.next.new.self) in
    let so : LaysMembers a.decoys a.hiding a.layer.now.texts a.members l.laid l.digests.items l.layer.texts l.layer.digests (marked_member e.0 e.1 (marked_of e.2) (marked_members_of (into_iter_items c.next.new.self))) =
    subst (λ es. LaysMembers a.decoys a.hiding a.layer.now.texts a.members l.laid l.digests.items l.layer.texts l.layer.digests (marked_members_of es)) c.in-Some.ensures.steps.0 l.invariant in
    let told = c.in_ok-part.ensures in
    let step : (at : Path) → placed_at c.below-below.result at ≡ placed_at a.decoys (c.in-Some.name ∷ at) =
    λ at. c.below-below.ensures.below at ∙ ap (λ s. placed_at a.decoys (s ∷ at)) c.as_str.ensures in
    let made = subst (λ s. IsMade c.below-below.result a.hiding (Some s) c.in-Some.mark (marked_of c.in-Some.tree) l.layer.texts c.lay_node.new.layer.texts) c.as_str-in-loop-name.ensures told.texts in
    rw (c.in_ok-put_part.ensures.members, c.in_ok-put_part.ensures.digests)
    (member_more a.decoys a.hiding a.layer.now.texts a.members l.laid l.digests.items l.layer.texts l.layer.digests c.in-Some.name c.in-Some.mark (marked_of c.in-Some.tree) left so c.below-below.result step
    c.in_ok-part.part c.lay_node.new.layer.texts c.lay_node.new.layer.digests told.part made told.count told.digests)

pub map_done : (t : ℕ) (c : goal.lay_map-In_ok-put_sd t) → LaysMembers c.args.decoys c.args.hiding c.args.layer.now.texts c.args.members c.loop-name.laid c.loop-name.digests.items c.loop-name.layer.texts c.loop-name.layer.digests no_marked_members
map_done t c =
    let a = c.args in
    let l = c.loop-name in
    let left = into_iter_items l.name-iterator in
    let none : left ≡ [] = nil_from_length left (sym l.name-iterator.rest.ok.0 ∙ c.in-None.ensures.steps.0) in
    subst (λ es. LaysMembers a.decoys a.hiding a.layer.now.texts a.members l.laid l.digests.items l.layer.texts l.layer.digests (marked_members_of es)) none l.invariant

pub lay_map-returns-clause-laid : goal.lay_map-returns-clause-laid
lay_map-returns-clause-laid t c dec tells more =
    let a = c.args in
    let l = c.loop-name in
    c.in_ok-put_sd.ensures
    ∙ (ap (λ ds. with_sd (sorted ds) l.laid) c.in_ok-push_copies.ensures
    ∙ members_end a.decoys a.hiding a.layer.now.texts l.layer.texts l.layer.digests l.digests.items a.members l.laid (map_done t c) c.here.result.now c.here.ensures dec tells more)

pub lay_map-returns-clause-texts : goal.lay_map-returns-clause-texts
lay_map-returns-clause-texts t c dec tells more =
    let a = c.args in
    let l = c.loop-name in
    members_made a.decoys a.hiding a.layer.now.texts l.layer.texts l.layer.digests l.digests.items a.members l.laid (map_done t c) dec tells more

pub lay_map-returns-clause-count : goal.lay_map-returns-clause-count
lay_map-returns-clause-count t c = let count = (map_done t c).count in omega (arith, count)

pub lay_map-returns-clause-digests : goal.lay_map-returns-clause-digests
lay_map-returns-clause-digests t c = c.loop-name.invariant.digested

-- ---- parts

pub lay_node-disclose-requires-clause-depth : goal.lay_node-disclose-requires-clause-depth
lay_node-disclose-requires-clause-depth t c =
    let m = marked_of c.args.tree in
    let same = ap depth (c.in_ok-inside.ensures.laid (placed_at c.args.decoys) (λ at. refl) []) in
    let low = lay_depth (placed_at c.args.decoys) (digest_at c.args.hiding.hash (c.lay.new.layer.texts ++ [])) m in
    let deep = c.requires.depth in
    omega (arith, same, low, deep)

pub lay_node-returns-in_ok-disclose-in-Some-clause-part :
    goal.lay_node-returns-in_ok-disclose-in-Some-clause-part
lay_node-returns-in_ok-disclose-in-Some-clause-part t c dec tells more =
    let a = c.args in
    let inside = c.in_ok-inside.ensures in
    let own = c.in_ok-disclose-in-Some.ensures in
    let numbered = subst (λ n. HasNumber a.mark n) (sym inside.count) c.requires.numbered in
    hidden_part a.decoys a.hiding (option_map (λ n. n.now) a.name) a.mark (marked_of a.tree) c.in-Some.field-0 (tree_of c.in_ok-inside.inside) a.layer.now.texts c.lay.new.layer.texts c.disclose.new.self.texts
    c.in-Some.is inside.laid inside.texts own.text c.in_ok-disclose-in-Some.field-0 own.digest numbered more dec

pub lay_node-returns-in_ok-disclose-in-Some-clause-texts :
    goal.lay_node-returns-in_ok-disclose-in-Some-clause-texts
lay_node-returns-in_ok-disclose-in-Some-clause-texts t c =
    let a = c.args in
    let inside = c.in_ok-inside.ensures in
    let own = c.in_ok-disclose-in-Some.ensures in
    hidden_made a.decoys a.hiding (option_map (λ n. n.now) a.name) a.mark (marked_of a.tree) c.in-Some.field-0 (tree_of c.in_ok-inside.inside) a.layer.now.texts c.lay.new.layer.texts c.disclose.new.self.texts
    c.in-Some.is inside.laid inside.texts own.text
