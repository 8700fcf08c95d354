use Rattle.std.proofs.Common.{arith}
use Rattle.compact_form.proofs.Steps.{no_word, word_at, word_within}
use Rattle.compact_form.proofs.reader.Reader.word.Goals as goal

pub returns-then-len-eq0-clause-err : goal.returns-then-len-eq0-clause-err
returns-then-len-eq0-clause-err c =
    no_word c.args.self.now.text.now c.args.self.now.at c.word_len-len.result c.args.field c.requires.stands c.requires.unended c.word_len-len.ensures (omega arith)

pub overflow_add-self : goal.overflow_add-self
overflow_add-self c =
    let within = word_within c.args.self.now.text.now c.args.self.now.at c.word_len-len.result c.requires.stands.within c.word_len-len.ensures in
    record { fits = omega arith }

pub returns-clause-word : goal.returns-clause-word
returns-clause-word c =
    (word_at c.args.self.now.text.now c.args.self.now.at c.word_len-len.result c.args.field c.requires.stands c.word_len-len.ensures (λ e. omega arith)).word

pub returns-clause-grows : goal.returns-clause-grows
returns-clause-grows c =
    (word_at c.args.self.now.text.now c.args.self.now.at c.word_len-len.result c.args.field c.requires.stands c.word_len-len.ensures (λ e. omega arith)).grows

pub returns-clause-ends : goal.returns-clause-ends
returns-clause-ends c =
    (word_at c.args.self.now.text.now c.args.self.now.at c.word_len-len.result c.args.field c.requires.stands c.word_len-len.ensures (λ e. omega arith)).ends
