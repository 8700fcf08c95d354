use Rattle.std.proofs.Common.{arith, sym, ◌∙◌}
use Rattle.compact_form.proofs.Steps.{refused_behind, refused_open, opens_at}
use Rattle.compact_form.proofs.reader.Reader.next.Goals as goal

pub returns-then-self-clause-err : goal.returns-then-self-clause-err
returns-then-self-clause-err c = refused_open c.args.self.now.text.now c.args.self.now.at c.args.field c.requires.ends (omega arith) c.requires.unended

pub returns-in-Some-clause-opens : goal.returns-in-Some-clause-opens
returns-in-Some-clause-opens c =
    let within = c.requires.ends.stands.within in
    opens_at c.args.self.now.text.now c.args.self.now.at c.args.field c.in-Some.next c.requires.ends (omega arith) (sym c.after.ensures ∙ c.in-Some.is)

pub returns-in-None-clause-err : goal.returns-in-None-clause-err
returns-in-None-clause-err c =
    let within = c.requires.ends.stands.within in
    refused_behind c.args.self.now.text.now c.args.self.now.at c.args.field c.requires.ends (omega arith) (sym c.after.ensures ∙ c.in-None.is)
