use Rattle.claim_tree.specs.View.{tree_of}
use Rattle.compact_form.specs.Views.{jwt_of}
use Rattle.verifier_core.proofs.CheckSteps.{on_fault}
use Rattle.verifier_core.proofs.ReadFaults.{signed_unopened, payload_unopened, given_unopened}
use Rattle.verifier_core.proofs.Contents.{header_refused, body_refused, given_refused, is_content, is_openable}
use Rattle.verifier_core.proofs.content.Content.read.Goals as goal

pub returns-in-Err-clause-refused : goal.returns-in-Err-clause-refused
returns-in-Err-clause-refused c = header_refused c.args.token.now c.args.rules.now (jwt_of c.signed-signed.result) c.outer.result.now c.signed-signed.ensures c.outer.ensures c.in-Err.error c.in-Err.ensures.refused

pub returns-in-Err-read_payload-clause-refused : goal.returns-in-Err-read_payload-clause-refused
returns-in-Err-read_payload-clause-refused c =
    body_refused c.args.token.now c.args.rules.now (jwt_of c.signed-signed.result) c.outer.result.now c.signed-signed.ensures c.outer.ensures c.in_default.ensures.ok c.in-Err-read_payload.error c.in-Err-read_payload.ensures.refused

pub returns-in-Err-read_given-clause-refused : goal.returns-in-Err-read_given-clause-refused
returns-in-Err-read_given-clause-refused c =
    given_refused c.args.token.now c.args.rules.now (jwt_of c.signed-signed.result) c.outer.result.now c.signed-signed.ensures c.outer.ensures c.in_default.ensures.ok
    (tree_of c.in-Ok.read.0) c.in-Ok.read.1 c.in-Ok.ensures.ok c.in-Ok.ensures.hash c.disclosures.result c.disclosures.ensures.value c.in-Err-read_given.error c.in-Err-read_given.ensures.refused

pub invariant_of-result : goal.invariant_of-result
invariant_of-result c =
    is_openable c.args.token.now c.args.rules.now (jwt_of c.signed-signed.result) c.outer.result.now c.signed-signed.ensures c.outer.ensures c.in_default.ensures.ok
    (tree_of c.in-Ok.read.0) c.in-Ok.read.1 c.in-Ok.ensures.ok c.in-Ok.ensures.hash c.disclosures.result c.disclosures.ensures.value c.in-Ok-read_given.given c.in-Ok-read_given.ensures.ok
    c.in-Ok.ensures.depth c.in-Ok-read_given.ensures.shallow c.requires.few

pub returns-clause-content : goal.returns-clause-content
returns-clause-content c =
    is_content c.args.token.now c.args.rules.now (jwt_of c.signed-signed.result) c.outer.result.now c.signed-signed.ensures c.outer.ensures c.in_default.ensures.ok
    (tree_of c.in-Ok.read.0) c.in-Ok.read.1 c.in-Ok.ensures.ok c.in-Ok.ensures.hash c.disclosures.result c.disclosures.ensures.value c.in-Ok-read_given.given c.in-Ok-read_given.ensures.ok

pub returns-in-Err-clause-unopened : goal.returns-in-Err-clause-unopened
returns-in-Err-clause-unopened c = on_fault c.in-Err.error _ _ (signed_unopened (jwt_of c.signed-signed.result) c.outer.result.now c.args.rules.now) c.in-Err.ensures.refused

pub returns-in-Err-read_payload-clause-unopened : goal.returns-in-Err-read_payload-clause-unopened
returns-in-Err-read_payload-clause-unopened c = on_fault c.in-Err-read_payload.error _ _ (payload_unopened _) c.in-Err-read_payload.ensures.refused

pub returns-in-Err-read_given-clause-unopened : goal.returns-in-Err-read_given-clause-unopened
returns-in-Err-read_given-clause-unopened c = on_fault c.in-Err-read_given.error _ _ (given_unopened c.in-Ok.read.1 c.disclosures.result) c.in-Err-read_given.ensures.refused
