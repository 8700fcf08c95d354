use Rattle.std.proofs.Common.{sym, ◌∙◌}
use Rattle.std.proofs.lemmas.Bool.{true≢false}
use Rattle.claim_tree.specs.View.{tree_of}
use Rattle.audit_core.proofs.Unwritten.{unread_unwritten}
use Rattle.audit_core.proofs.Writtens.{one_salted, no_array_unsalted}
use Rattle.audit_core.proofs.json_parts.JsonPartReader.read_salted.Goals as goal

pub returns-in_default-2-clause-none : goal.returns-in_default-2-clause-none
returns-in_default-2-clause-none c =
    let some = rw c.in-Some.is at c.in_ok-json.ensures.some in
    let why = rw c.in_default-2.is at c.in_ok-found.ensures.none in
    λ name value w. unread_unwritten c.args.text.now c.in-Some.json.now why.0 why.2 some (rw why.1 at c.read_tail.ensures.unread) _ w.written

pub returns-in_default-disclosed_by-clause-none : goal.returns-in_default-disclosed_by-clause-none
returns-in_default-disclosed_by-clause-none c =
    let some = rw c.in-Some.is at c.in_ok-json.ensures.some in
    let read = c.in_default-disclosed_by.ensures.other c.in-Some.json.now (rw (rw c.in-Some-2.is at c.in_ok-found.ensures.some) at c.read_tail.ensures.ok) in
    no_array_unsalted c.args.text.now c.in-Some.json.now read.0 some read.1 read.2

pub returns-then-not-branch-clause-none : goal.returns-then-not-branch-clause-none
returns-then-not-branch-clause-none c = λ name value w.
    let bytes = c.in-Some.json.now in
    let given = c.in-Some-disclosed_by.disclosed in
    let some = rw c.in-Some.is at c.in_ok-json.ensures.some in
    let read = c.in-Some-disclosed_by.ensures.given bytes (rw (rw c.in-Some-2.is at c.in_ok-found.ensures.some) at c.read_tail.ensures.ok) in
    let one = one_salted c.args.text.now bytes read.0 given.name name (tree_of given.value) value some read.1 w in
    true≢false (sym (c.in_ok-is_salted.ensures.none c.args.text.now some one) ∙ c.if-not-branch.true)
