use Rattle.std.proofs.Common.{rules, ◌+◌, Global, ℕ, List, map, take, string_bytes, sym, subst, ◌∙◌, arith}
use Rattle.std.proofs.lemmas.List.{length-map}
use Rattle.std.specs.List.{AllZip}
use Rattle.cli_parts.specs.Runs.{IsFetched}
use Rattle.wallet_core.proofs.Fetched.{fetched_turn, missed_at, named_at, named_there}
use Rattle.wallet_core.proofs.run.fetch_tokens.Goals as goal

pub returns-in_err-file-clause-unread : goal.returns-in_err-file-clause-unread
returns-in_err-file-clause-unread g c =
    let told = missed_at (map string_bytes c.args.names.now) c.loop-k.k c.as_str.result.now _ (named_at c.args.names.now c.loop-k.k c.index-names-k.result c.as_str.result.now c.loop-k-test.true c.index-names-k.is c.as_str.ensures.value) c.in_err-file.field-0.0 c.in_err-file.ensures.unread c.in_err-file.ensures.missed in
    search (rules, told)

pub loop-k-preserved : goal.loop-k-preserved
loop-k-preserved g c =
    let holds = g.C.Cabinet.holds c.args.cab.now in
    let names = map string_bytes c.args.names.now in
    let name = c.as_str.result.now in
    let one : IsFetched holds name c.in_ok-file.file = rw (sym (c.loop-k.invariant.1 name)) c.in_ok-file.ensures.content in
    let all = fetched_turn holds names c.loop-k.k name c.loop-k.held c.in_ok-file.file (omega (arith, c.loop-k-test.true, length-map c.args.names.now (string_bytes {Z = Global}))) (named_there c.args.names.now c.loop-k.k c.index-names-k.result name c.loop-k-test.true c.index-names-k.is c.as_str.ensures.value) c.loop-k.invariant.0 one in
    let more = c.in_ok-push.ensures.ok in
    let later = c.in_ok-file.ensures.later in
    let kept = c.loop-k.invariant.2 in (
      subst (λ (files : List (List ℕ)). AllZip (IsFetched holds) (take (c.loop-k.k + 1) names) files) (sym more) all,
      λ other. c.in_ok-file.ensures.held other ∙ c.loop-k.invariant.1 other,
      omega (arith, later, kept),
    )
