use Rattle.std.proofs.Common.{length, string_bytes, ap, ◌∙◌, arith}
use Rattle.std.proofs.lemmas.Result.{IfOk-weaker}
use Rattle.sdjwt_cli.specs.Summary.{Summarizes}
use Rattle.sdjwt_cli.proofs.Summaries.{acceptable, no_fewer, summarizes}
use Rattle.sdjwt_cli.proofs.summary.count_presented.Goals as goal

pub verify_presented-requires-clause-acceptable : goal.verify_presented-requires-clause-acceptable
verify_presented-requires-clause-acceptable c = acceptable c.args.count c.args.issued.now c.requires.issued c.args.presented.now c.requires.presented

pub overflow_sub-digests : goal.overflow_sub-digests
overflow_sub-digests c =
    let fewer = no_fewer c.args.count c.args.issued.now c.requires.issued c.args.presented.now c.requires.presented c.in_ok-claims.claims c.in_ok-claims.look_ups c.in_ok-claims.ensures in
    omega (arith, c.len-shown.ensures, fewer)

pub returns : goal.returns
returns c =
    let bytes = ap length (c.as_str.ensures ∙ c.in_ok-json.ensures.ok) in
    IfOk-weaker c.summary_text.result _ (λ text. Summarizes c.args.count (string_bytes text))
    (λ text written. summarizes c.args.count c.args.issued.now c.requires.issued c.args.presented.now c.requires.presented c.in_ok-claims.claims c.in_ok-claims.look_ups c.in_ok-claims.ensures
    c.len-hidden.result c.len-shown.result (length c.as_str.result.now) c.len-hidden.ensures c.len-shown.ensures bytes (string_bytes text) written)
    c.summary_text.ensures
