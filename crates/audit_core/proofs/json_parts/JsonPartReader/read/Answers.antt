use Rattle.std.proofs.Common.{sym, ◌∙◌}
use Rattle.std.proofs.lemmas.Bool.{true≢false}
use Rattle.claim_tree.specs.View.{tree_of}
use Rattle.audit_core.proofs.Unwritten.{unread_unwritten, other_unwritten}
use Rattle.audit_core.proofs.json_parts.JsonPartReader.read.Goals as goal

pub returns-in_default-2-clause-none : goal.returns-in_default-2-clause-none
returns-in_default-2-clause-none c =
    let some = rw c.in-Some.is at c.in_ok-json.ensures.some in
    let why = rw c.in_default-2.is at c.in_ok-tree.ensures.none in
    unread_unwritten c.args.part.now c.in-Some.json.now why.0 why.2 some (rw why.1 at c.read.ensures.unread)

pub returns-then-not-branch-clause-none : goal.returns-then-not-branch-clause-none
returns-then-not-branch-clause-none c =
    let some = rw c.in-Some.is at c.in_ok-json.ensures.some in
    let reads = rw (rw c.in-Some-2.is at c.in_ok-tree.ensures.some) at c.read.ensures.ok in
    other_unwritten c.args.part.now c.in-Some.json.now (tree_of c.in-Some-2.tree) some reads c.in_ok-is_text_of.ensures.utf8
    (λ e. true≢false (sym (c.in_ok-is_text_of.ensures.is.1 e) ∙ c.if-not-branch.true))
