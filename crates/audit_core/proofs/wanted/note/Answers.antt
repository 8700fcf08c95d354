use Rattle.audit_core.proofs.Wanteds.{noted}
use Rattle.audit_core.proofs.wanted.note.Goals as goal
use Rattle.audit_core.proofs.wanted.note.Goals.{in-Ok, in-Err}

pub returns : goal.returns
returns c =
    elim c.match-insert.branch [
      | in-Ok w ↦ rw w.result-is (noted c.args.counts.now c.insert.new.self c.args.pointer c.args.before c.args.more c.requires.before w.in-Ok.ensures.updates.0)
      | in-Err w ↦ rw w.result-is tt
    ]
