use Rattle.std.proofs.Common.{◌≡◌, ◌++◌, length, sym, ap, subst, ◌∙◌, arith}
use Rattle.issuer_core.specs.Closing.{ClosesFrom}
use Rattle.issuer_core.specs.Digests.{made_texts}
use Rattle.issuer_core.specs.Laid.{laid_given, with_alg}
use Rattle.issuer_core.specs.Laying.{digest_at, salted}
use Rattle.marked_tree.specs.View.{marked_of}
use Rattle.issuer_core.proofs.laying.lay_marked.Goals as goal

pub lay-requires-clause-closes : goal.lay-requires-clause-closes
lay-requires-clause-closes c = subst (λ n. ClosesFrom n (marked_of c.args.claims)) (sym (ap length c.new-layer.ensures.texts)) c.requires.closes

pub lay-requires-clause-salts : goal.lay-requires-clause-salts
lay-requires-clause-salts c =
    let none = ap length c.new-layer.ensures.texts in
    let many = c.requires.salts in
    omega (arith, none, many)

pub returns-clause-laid : goal.returns-clause-laid
returns-clause-laid c dec tells more = c.in_ok-payload-2.ensures ∙ ap (with_alg c.args.hiding.hash) (c.in_ok-payload.ensures.laid dec tells more)

pub returns-clause-texts : goal.returns-clause-texts
returns-clause-texts c dec tells more =
    let texts = c.lay.new.layer.texts in
    subst (λ old. texts ≡ old ++ made_texts (salted c.args.hiding.salts.now) (length old) (laid_given dec (digest_at c.args.hiding.hash (texts ++ more)) (marked_of c.args.claims))) c.new-layer.ensures.texts (c.in_ok-payload.ensures.texts dec tells more)

pub returns-clause-count : goal.returns-clause-count
returns-clause-count c =
    let none = ap length c.new-layer.ensures.texts in
    let all = c.in_ok-payload.ensures.count in
    omega (arith, none, all)
