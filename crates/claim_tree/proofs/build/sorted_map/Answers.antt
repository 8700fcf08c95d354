use Rattle.std.proofs.Common.{[], ◌∷◌, ◌++◌, nat_cmp, sym, ap, ◌∙◌, subst, append_assoc, append-nil}
use Rattle.std.specs.Cmp.Lexicographic.{slice_cmp}
use Rattle.std.specs.List.Sorted.{IsStrictlySortedBy}
use Rattle.std.specs.Map.{keys_of}
use Rattle.serde_json.specs.Data.{put}
use Rattle.claim_tree.specs.View.{tree_of}
use Rattle.claim_tree.specs.JsonText.{data_of, members_data}
use Rattle.claim_tree.proofs.TreeReading.{members_data-put, put_last}
use Rattle.claim_tree.proofs.build.sorted_map.Goals as goal

pub loop-name-preserved : goal.loop-name-preserved
loop-name-preserved c =
    let l = c.loop-name in
    let name = c.in-Some.name in
    let u = c.in-Some.tree in
    let all = sym l.invariant.1 ∙ ap (λ es. l.yielded ++ es) c.in-Some.ensures.steps in
    let sorted = subst (λ es. IsStrictlySortedBy (slice_cmp nat_cmp) (keys_of es)) all c.into_iter-name-iterator.ensures.into_iter_gives.5 in (
      ap members_data c.in_ok-insert.ensures.ok ∙ members_data-put l.map name (tree_of u) ∙ ap (put name (data_of (tree_of u))) l.invariant.0 ∙ put_last l.yielded (name, u) c.next.new.self sorted,
      append_assoc l.yielded ((name, u) ∷ []) c.next.new.self ∙ sym all,
    )

pub returns : goal.returns
returns c =
    let all = sym c.loop-name.invariant.1 ∙ (ap (λ es. c.loop-name.yielded ++ es) c.in-None.ensures.steps.0 ∙ append-nil c.loop-name.yielded) in
    rw all c.loop-name.invariant.0
