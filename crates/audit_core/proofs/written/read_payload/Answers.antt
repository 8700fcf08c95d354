use Rattle.std.proofs.Common.{sym, ◌∙◌}
use Rattle.std.proofs.lemmas.Bool.{true≢false}
use Rattle.claim_tree.specs.View.{tree_of}
use Rattle.audit_core.proofs.Writtens.{other_payload, is_payload}
use Rattle.audit_core.proofs.written.read_payload.Goals as goal

pub returns-then-not-names_hash-clause-none : goal.returns-then-not-names_hash-clause-none
returns-then-not-names_hash-clause-none c =
    let some = rw c.in-Some.is at c.in_ok-body.ensures.some in
    other_payload c.args.hash c.args.part.now (tree_of c.in-Some.body) some (λ n. true≢false (sym (c.names_hash.ensures.1 n) ∙ c.if-not-names_hash.true))

pub returns-clause-object : goal.returns-clause-object
returns-clause-object c = is_payload c.args.hash (tree_of c.in-Some.body) (c.names_hash.ensures.0 c.if-not-names_hash.false)
