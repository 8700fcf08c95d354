use Rattle.std.proofs.Common.{[], refl}
use Rattle.sdjwt_cli.specs.Command.{split, show, verify, issue, present, convert, gen}
use Rattle.sdjwt_cli.proofs.Lifts.{lifted, lifted_one, lifted_two}
use Rattle.sdjwt_cli.proofs.top.answer.Goals as goal

pub returns-in_ok-file-in-Split-clause-replies : goal.returns-in_ok-file-in-Split-clause-replies
returns-in_ok-file-in-Split-clause-replies g c =
    rw c.in-Split.is (lifted_one (g.C.Cabinet.holds c.args.cab.now) (split c.in-Split.token.now) c.args.now c.split.result refl c.in_ok-file-in-Split.ensures.content c.bytes.ensures c.split.ensures.gives c.split.ensures.refuses c.split.ensures.readable)

pub returns-in_ok-file-in-Show-clause-replies : goal.returns-in_ok-file-in-Show-clause-replies
returns-in_ok-file-in-Show-clause-replies g c =
    rw c.in-Show.is (lifted_one (g.C.Cabinet.holds c.args.cab.now) (show c.in-Show.token.now) c.args.now c.show.result refl c.in_ok-file-in-Show.ensures.content c.bytes-in-Show.ensures c.show.ensures.shows c.show.ensures.refuses c.show.ensures.readable)

pub returns-in_ok-token-in-Verify-clause-replies : goal.returns-in_ok-token-in-Verify-clause-replies
returns-in_ok-token-in-Verify-clause-replies g c =
    rw c.in-Verify.is (lifted_two (g.C.Cabinet.holds c.args.cab.now) (verify c.in-Verify.policy.now c.in-Verify.token.now) (g.C.Cabinet.holds c.fetch_file-in-Verify.new.cab) c.args.now c.verify.result refl c.in_ok-policy-in-Verify.ensures.content c.in_ok-token-in-Verify.ensures.content (c.in_ok-policy-in-Verify.ensures.held c.in-Verify.token.now) c.bytes-in-Verify.ensures c.bytes-in-Verify-2.ensures c.verify.ensures.verifies c.verify.ensures.refuses c.verify.ensures.unreadable)

pub returns-in_ok-seed-in-Issue-clause-replies : goal.returns-in_ok-seed-in-Issue-clause-replies
returns-in_ok-seed-in-Issue-clause-replies g c =
    rw c.in-Issue.is (lifted_two (g.C.Cabinet.holds c.args.cab.now) (issue c.in-Issue.order.now c.in-Issue.seed.now) (g.C.Cabinet.holds c.fetch_file-in-Issue.new.cab) c.args.now c.issue.result refl c.in_ok-order-in-Issue.ensures.content c.in_ok-seed-in-Issue.ensures.content (c.in_ok-order-in-Issue.ensures.held c.in-Issue.seed.now) c.bytes-in-Issue.ensures c.bytes-in-Issue-2.ensures c.issue.ensures.issues c.issue.ensures.refuses c.issue.ensures.unreadable)

pub returns-in_ok-token-in-Present-clause-replies : goal.returns-in_ok-token-in-Present-clause-replies
returns-in_ok-token-in-Present-clause-replies g c =
    rw c.in-Present.is (lifted_two (g.C.Cabinet.holds c.args.cab.now) (present c.in-Present.order.now c.in-Present.token.now) (g.C.Cabinet.holds c.fetch_file-in-Present.new.cab) c.args.now c.present.result refl c.in_ok-order-in-Present.ensures.content c.in_ok-token-in-Present.ensures.content (c.in_ok-order-in-Present.ensures.held c.in-Present.token.now) c.bytes-in-Present.ensures c.bytes-in-Present-2.ensures c.present.ensures.presents c.present.ensures.refuses c.present.ensures.unreadable)

pub returns-in_ok-file-in-Convert-clause-replies : goal.returns-in_ok-file-in-Convert-clause-replies
returns-in_ok-file-in-Convert-clause-replies g c =
    rw c.in-Convert.is (lifted_one (g.C.Cabinet.holds c.args.cab.now) (convert c.in-Convert.form c.in-Convert.token.now) c.args.now c.convert.result refl c.in_ok-file-in-Convert.ensures.content c.bytes-in-Convert.ensures c.convert.ensures.converts c.convert.ensures.refuses c.convert.ensures.readable)

pub returns-in-Gen-clause-replies : goal.returns-in-Gen-clause-replies
returns-in-Gen-clause-replies g c =
    let held = g.C.Cabinet.holds c.args.cab.now in
    rw c.in-Gen.is (lifted held (gen c.in-Gen.count) [] c.args.now c.summary.result tt c.summary.ensures.summarizes c.summary.ensures.refuses c.summary.ensures.readable)
