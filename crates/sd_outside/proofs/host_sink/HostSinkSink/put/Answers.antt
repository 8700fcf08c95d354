use Rattle.std.proofs.Common.{◌≡◌, ℕ, List, ◌++◌, take, sym, subst, ◌∙◌}
use Rattle.std.specs.Io.KnownBytes.{Appends}
use Rattle.sd_outside.proofs.Writes.{took, joined, front_written, moved_on}
use Rattle.sd_outside.proofs.host_sink.HostSinkSink.put.Goals as goal

pub returns-then-count-eq0-clause-part : goal.returns-then-count-eq0-clause-part
returns-then-count-eq0-clause-part g c =
    let a = g.W.Write.contents c.args.self.now.stream in
    let b = g.W.Write.contents c.loop-rest.self.stream in
    let d = g.W.Write.contents c.write.new.self in
    let rest = c.loop-rest.rest.now in
    let done = c.loop-rest.invariant.1 in
    let none = sym c.unwrap_or-count.ensures ∙ c.if-count-eq0.true in
    let wrote = subst (λ n. Appends b d (take n rest)) none (took b d c.write.result rest c.write.ensures.bytes) in
    front_written a b d c.args.bytes.now done.0 rest done.1 done.2 wrote

pub loop-rest-preserved : goal.loop-rest-preserved
loop-rest-preserved g c =
    let a = g.W.Write.contents c.args.self.now.stream in
    let b = g.W.Write.contents c.loop-rest.self.stream in
    let d = g.W.Write.contents c.write.new.self in
    let rest = c.loop-rest.rest.now in
    let k = c.unwrap_or-count.result in
    let done = c.loop-rest.invariant.1 in
    let wrote = subst (λ n. Appends b d (take n rest)) (sym c.unwrap_or-count.ensures) (took b d c.write.result rest c.write.ensures.bytes) in
    (c.loop-rest.invariant.0, (done.0 ++ take k rest, moved_on c.args.bytes.now done.0 rest k done.1, joined a b d done.0 (take k rest) done.2 wrote))
