use Rattle.std.proofs.Common.{List, ℕ, string_bytes, subst, sym}
use Rattle.std.proofs.lemmas.Result.{IfErr-weaker}
use Rattle.verifier_core.specs.PolicyFile.{IsPolicyFileRefused}
use Rattle.cli_parts.specs.Runs.{IsFetched}
use Rattle.cli_parts.specs.Stops.{OnUnreadable}
use Rattle.cli_parts.specs.Telling.{TellsFileFault}
use Rattle.cli_parts.specs.declared.stop.Stop.{Stop}
use Rattle.cli_parts.specs.declared.stop.Stop.TheVariants.{Memory, Unread, Unreadable, Refused}
use Rattle.feed_core.proofs.run.fetch_policy.Goals as goal

more : (P Q : List ℕ → Type 0) → ((text : List ℕ) → P text → Q text) → (stop : Stop) → OnUnreadable stop P → OnUnreadable stop Q
more P Q weaker Memory h = h
more P Q weaker (Unread word) h = h
more P Q weaker (Unreadable text) h = weaker (string_bytes text) h
more P Q weaker (Refused text) h = h

pub returns-clause-unreadable : goal.returns-clause-unreadable
returns-clause-unreadable g c =
    let file = c.bytes.result.now in
    let content = subst (λ (x : List ℕ). IsFetched (g.C.Cabinet.holds c.args.cab.now) c.args.name.now x) (sym c.bytes.ensures) c.in-Ok.ensures.content in
    IfErr-weaker c.policy_of.result _ _ (more (TellsFileFault (IsPolicyFileRefused file)) _ (λ text told. (file, content, told))) c.policy_of.ensures.unreadable
