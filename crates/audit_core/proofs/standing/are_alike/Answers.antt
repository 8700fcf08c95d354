use Rattle.std.proofs.Common.{sym, ◌∙◌}
use Rattle.issuer_core.proofs.SortedDigests.{sort_is}
use Rattle.claim_tree.proofs.SamePaths.{path_same, path_refl}
use Rattle.audit_core.proofs.standing.are_alike.Goals as goal

pub returns : goal.returns
returns c =
    let one = sort_is c.args.texts.items c.sort.new.self.items c.in_ok-sort.ensures.sorted c.in_ok-sort.ensures.stable in (
      (λ e. sym one ∙ sym c.as_slice.ensures.value ∙ path_same c.as_slice.result.now c.args.wanted.now (sym c.eq.ensures ∙ e)),
      (λ e. c.eq.ensures ∙ path_refl c.as_slice.result.now c.args.wanted.now (c.as_slice.ensures.value ∙ one ∙ e)),
    )
