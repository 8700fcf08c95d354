use Rattle.std.proofs.Common.{sym, ap, length, ◌∙◌}
use Rattle.std.proofs.lemmas.Slice.Zip.{AllZip-long}
use Rattle.audit_core.specs.Audited.{GivesSalted}
use Rattle.audit_core.proofs.written.read_written.Goals as goal

pub returns-in-Some-2-clause-count : goal.returns-in-Some-2-clause-count
returns-in-Some-2-clause-count c =
    let some = rw c.in-Some-2.is at c.in_ok-given.ensures.some in
    AllZip-long (GivesSalted c.args.hash) c.disclosures.result c.in-Some-2.given some ∙ ap length c.disclosures.ensures.value ∙ sym c.count-count.ensures ∙ c.if-count-hidden.false
