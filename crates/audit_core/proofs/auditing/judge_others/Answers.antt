use Rattle.std.proofs.Common.{map, sym, ap, ◌∙◌, refl, subst}
use Rattle.std.proofs.lemmas.Bool.{true≢false}
use Rattle.claim_tree.specs.View.{tree_of}
use Rattle.audit_core.specs.Audit.{digests_differ, decoys_differ}
use Rattle.audit_core.specs.Found.{AreOthers, AreDigests, site_text}
use Rattle.audit_core.proofs.Contents.{has_digests, others_form, form_told, has_decoys, decoys_told}
use Rattle.audit_core.proofs.NoOthers.{no_others}
use Rattle.audit_core.proofs.auditing.judge_others.Goals as goal

pub returns-then-asked-eq0-clause-hold : goal.returns-then-asked-eq0-clause-hold
returns-then-asked-eq0-clause-hold c o is counted =
    no_others o (tree_of c.args.content.now.body) c.args.content.now.given (sym is.decoys ∙ c.if-asked-eq0.true) (c.requires ∙ is.hidden) counted

pub returns-then-not-are_digests-clause-differs : goal.returns-then-not-are_digests-clause-differs
returns-then-not-are_digests-clause-differs c o is counted =
    let p = tree_of c.args.content.now.body in
    let g = c.args.content.now.given in
    let are = subst (λ claims. AreOthers claims p g c.in_ok-others.others) is.claims c.in_ok-others.ensures in
    rw c.differs.ensures
    (digests_differ refl counted.shows
    (λ h.
    let form = subst (AreDigests o.hash) (sym c.elements.ensures) (form_told o p g c.in_ok-others.others (c.requires ∙ is.hidden) are h) in
    true≢false (sym (c.are_digests.ensures.1 (subst (λ hash. AreDigests hash c.elements.result.now) (sym is.hash) form)) ∙ c.if-not-are_digests.true)))

pub returns-then-not-branch-clause-differs : goal.returns-then-not-branch-clause-differs
returns-then-not-branch-clause-differs c o is counted =
    let p = tree_of c.args.content.now.body in
    let g = c.args.content.now.given in
    let long = c.requires ∙ is.hidden in
    let are = subst (λ claims. AreOthers claims p g c.in_ok-others.others) is.claims c.in_ok-others.ensures in
    let form = subst (AreDigests o.hash) c.elements.ensures (subst (λ hash. AreDigests hash c.elements.result.now) is.hash (c.are_digests.ensures.0 c.if-not-are_digests.false)) in
    let digests = has_digests o p g counted.shows long (others_form o p g c.in_ok-others.others long are form) counted.count in
    let found = c.in_ok-standings.ensures ∙ ap (map site_text) c.elements-2.ensures in
    rw c.differs-then-not-branch.ensures
    (decoys_differ refl counted.shows digests
    (λ h.
    let same = decoys_told o p g c.in_ok-others.others c.in_ok-standings.standings.items c.args.asked.now.standings.items long are found is.standings h in
    true≢false (sym (c.in_ok-are_alike.ensures.1 (same ∙ sym c.as_slice.ensures.value)) ∙ c.if-not-branch.true)))

pub returns-clause-hold : goal.returns-clause-hold
returns-clause-hold c o is counted =
    let p = tree_of c.args.content.now.body in
    let g = c.args.content.now.given in
    let long = c.requires ∙ is.hidden in
    let are = subst (λ claims. AreOthers claims p g c.in_ok-others.others) is.claims c.in_ok-others.ensures in
    let form = subst (AreDigests o.hash) c.elements.ensures (subst (λ hash. AreDigests hash c.elements.result.now) is.hash (c.are_digests.ensures.0 c.if-not-are_digests.false)) in
    let found = c.in_ok-standings.ensures ∙ ap (map site_text) c.elements-2.ensures in
    let same = c.in_ok-are_alike.ensures.0 c.if-not-branch.false ∙ c.as_slice.ensures.value in (
      has_digests o p g counted.shows long (others_form o p g c.in_ok-others.others long are form) counted.count,
      has_decoys o p g c.in_ok-others.others c.in_ok-standings.standings.items c.args.asked.now.standings.items long are found is.standings same,
    )
