use Rattle.std.proofs.Common.{◌≡◌, ◌<◌, length, sym, ap, ap₂, subst, ◌∙◌, OnOk, rules}
use Rattle.claim_tree.specs.TreeValues.{text_elements}
use Rattle.claim_tree.specs.Tree.{Text, Elements, array, inserted}
use Rattle.digest_sites.specs.Reserved.{sd_name}
use Rattle.issuer_core.proofs.SortedDigests.{with_some}
use Rattle.issuer_core.proofs.laying.put_sd.Goals as goal

pub returns : goal.returns
unfolding sd_name
returns c =
    let ds = c.args.digests.items in
    let ms = c.args.laid.now in
    let some : 0 < length ds = search rules in
    let list = c.in_ok-list.ensures ∙ ap text_elements c.in_ok-sort_digests.ensures in
    let same = ap₂ (λ (name : Text) (es : Elements). inserted ms name (array es)) c.in_ok-make.ensures list ∙ sym (with_some ds ms some) in
    subst (λ us. OnOk c.insert.result (c.insert.new.self ≡ us)) same c.insert.ensures.ok
