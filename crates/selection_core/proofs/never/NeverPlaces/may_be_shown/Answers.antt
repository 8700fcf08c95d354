use Rattle.std.proofs.Common.{◌≡◌, ◌-◌, List, eqb, false, not, get_or, sym, ap, subst, ◌∙◌, arith, rules}
use Rattle.std.proofs.lemmas.List.Sorted.{IsPartitionPoint-from_clause}
use Rattle.marked_tree.specs.Paths.{Path}
use Rattle.selection_core.specs.Never.{Judges}
use Rattle.selection_core.specs.Outermost.{AreOutermost}
use Rattle.selection_core.proofs.NeverShown.{judged}
use Rattle.selection_core.proofs.OutermostPaths.{leads_to, stays, parted, none_leads, last_leads}
use Rattle.selection_core.proofs.never.NeverPlaces.may_be_shown.Goals as goal

pub returns-then-behind-eq0 : goal.returns-then-behind-eq0
returns-then-behind-eq0 c =
    let paths = c.as_slice-paths.result.now in
    let at = c.args.place.now in
    let apart : AreOutermost paths = subst AreOutermost (sym c.as_slice-paths.ensures.value) c.self.invariant in
    let point = IsPartitionPoint-from_clause (stays at) _ _ c.partition_point-behind.ensures.partitioned (parted paths at apart) (λ a r q k. search rules) in
    let behind = c.partition_point-behind.result in
    let none : behind ≡ 0 = c.if-behind-eq0.true in
    subst (λ (ps : List Path). Judges ps at (eqb behind 0)) (c.as_slice-paths.ensures.value ∙ c.self.view_is)
    (subst (λ n. Judges paths at (eqb n 0)) (sym none) (judged paths at false (none_leads paths at apart behind c.partition_point-behind.ensures.bound point none)))

pub returns-else-behind-eq0 : goal.returns-else-behind-eq0
returns-else-behind-eq0 c =
    let paths = c.as_slice-paths.result.now in
    let at = c.args.place.now in
    let apart : AreOutermost paths = subst AreOutermost (sym c.as_slice-paths.ensures.value) c.self.invariant in
    let point = IsPartitionPoint-from_clause (stays at) _ _ c.partition_point-behind.ensures.partitioned (parted paths at apart) (λ a r q k. search rules) in
    let behind = c.partition_point-behind.result in
    let path = c.index-paths-behind.result in
    let found : leads_to at (get_or paths (behind - 1) path) ≡ c.is_prefix.result = ap (leads_to at) (sym c.index-paths-behind.is) ∙ sym c.is_prefix.ensures in
    subst (λ (ps : List Path). Judges ps at (not c.is_prefix.result)) (c.as_slice-paths.ensures.value ∙ c.self.view_is)
    (judged paths at c.is_prefix.result (last_leads paths at apart behind c.partition_point-behind.ensures.bound point path (omega (arith, c.if-behind-eq0.false)) ∙ found))
