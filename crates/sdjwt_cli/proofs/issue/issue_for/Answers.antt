use Rattle.std.proofs.Common.{ap, ◌∙◌}
use Rattle.issuer_core.specs.Order.{order_of}
use Rattle.cli_parts.specs.Lines.{line}
use Rattle.sdjwt_cli.proofs.Issuings.{is_asked}
use Rattle.sdjwt_cli.proofs.issue.issue_for.Goals as goal

pub returns-clause-issues : goal.returns-clause-issues
returns-clause-issues c order_file seed_file is_order chunk =
    let said = c.args.asked in
    record {
      order = order_of said.order;
      key = said.key;
      seed = c.args.seed.now;
      asked = is_asked order_file seed_file c.args.seed.now said is_order chunk;
      parts = c.in_ok-parts.parts;
      answered = c.in_ok-parts.ensures.issued;
      line_is = c.in_ok-as_line.ensures ∙ ap line c.in_ok-print.ensures.spelling;
    }
