use Rattle.std.proofs.Common.{subst}
use Rattle.claim_tree.specs.Tree.{Members}
use Rattle.refusals.specs.Lowest.{IsLowest}
use Rattle.compact_form.specs.declared.parts.JwtParts.{JwtParts}
use Rattle.jws_part.specs.Header.{IsHeaderUnreadable, IsHeaderCritical}
use Rattle.verifier_core.specs.Verdict.{TokenFails}
use Rattle.holder_core.specs.Asked.{caller_rules}
use Rattle.holder_core.specs.PresentCalls.{OnTokenFault}
use Rattle.holder_core.proofs.Steps.{header_read, header_uncritical}
use Rattle.holder_core.proofs.signing.ask_or_refuse.Goals as goal

pub question_on-requires : goal.question_on-requires
question_on-requires c =
    let token = c.args.token.now in
    let rules = caller_rules c.args.ask.now.algs c.args.answer in
    let lowest = subst (λ e. OnTokenFault e (IsLowest (TokenFails token rules))) c.in-Token.is c.requires.lowest in
    record {
      readable = λ unread. header_read token rules c.in-Token.fault lowest c.if-fault-ne10.false (subst (λ (o : Members). IsHeaderUnreadable token.parts.signed.protected o) c.outer.ensures (subst (λ (s : JwtParts). IsHeaderUnreadable s.protected c.outer.result.now) c.signed.ensures unread));
      uncritical = λ critical. header_uncritical token rules c.in-Token.fault lowest c.if-fault-ne10.false (subst (λ (o : Members). IsHeaderCritical token.parts.signed.protected o) c.outer.ensures (subst (λ (s : JwtParts). IsHeaderCritical s.protected c.outer.result.now) c.signed.ensures critical));
    }
