use Rattle.std.proofs.Common.{◌≢◌, Err, ap, ◌∙◌, rules}
use Rattle.hmac_sign.specs.Algs.{alg_text}
use Rattle.hmac_sign.specs.Hmac.{IsGood}
use Rattle.issuer_core.specs.declared.errors.IssueError.TheVariants.{Memory, SignFailed}
use Rattle.issuer_core.specs.Order.{order_of}
use Rattle.issuer_core.specs.Seed.{maker_of}
use Rattle.cli_parts.specs.Lines.{line}
use Rattle.sdjwt_cli.proofs.Issuings.{never, lowest}
use Rattle.sdjwt_cli.proofs.issue.issue_parts.Goals as goal

pub returns-in-Ok-clause-issued : goal.returns-in-Ok-clause-issued
returns-in-Ok-clause-issued c = record {
  issued = c.in-Ok.ensures.issued;
  laid = c.in-Ok.ensures.laid;
  passes = c.in-Ok.ensures.passes;
  differ = c.in-Ok.ensures.differ;
  writable = c.in-Ok.ensures.writable;
  words = c.in-Ok.ensures.words;
  few = c.in-Ok.ensures.few;
  short = c.in-Ok.ensures.short;
}

pub returns-in_ok-as_line-in-Err-clause-refuses : goal.returns-in_ok-as_line-in-Err-clause-refuses
returns-in_ok-as_line-in-Err-clause-refuses c =
    let error = c.in-Err.error in
    let memory : error ≢ Memory = search rules in
    let failed : error ≢ SignFailed = λ is. never (c.in-Err.ensures.failed (ap Err is)) in
    record {
      error = error;
      lowest = lowest (maker_of c.args.seed.now) (order_of c.args.order) (alg_text c.args.key.alg) (IsGood c.args.key) error memory failed c.in-Err.ensures.refused;
      line_is = c.in_ok-as_line-in-Err.ensures ∙ ap line c.in_ok-refusal_line-in-Err.ensures;
    }
