use Rattle.std.proofs.Common.{refl, arith}
use Rattle.compact_form.specs.declared.field.Field.TheVariants.{BindingSignature}
use Rattle.compact_form.proofs.Steps.{refused_behind}
use Rattle.compact_form.proofs.reader.Reader.bound.Goals as goal

pub returns-then-self-clause-err : goal.returns-then-self-clause-err
returns-then-self-clause-err c = refused_behind c.word-2.new.self.text.now c.word-2.new.self.at BindingSignature c.in_ok-signature.ensures.ends (omega arith) refl
