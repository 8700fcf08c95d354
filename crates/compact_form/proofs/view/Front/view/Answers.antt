use Rattle.std.proofs.Common.{ap, drop, ◌∙◌}
use Rattle.compact_form.specs.Views.{jwt_of}
use Rattle.compact_form.proofs.GatheredParts.{front_ascii, boundary, kept, is_compact}
use Rattle.compact_form.proofs.view.Front.view.Goals as goal

pub text_of-hashed-requires : goal.text_of-hashed-requires
text_of-hashed-requires c = front_ascii c.args.text.now c.args.self.from c.args.self.end c.args.self.count (jwt_of c.args.self.signed) c.requires.gathered

pub range_from-requires : goal.range_from-requires
range_from-requires c = λ some.
    boundary c.args.text.now c.args.self.from c.args.self.end c.args.self.count (jwt_of c.args.self.signed) c.requires.gathered c.text_of-hashed.result.now c.text_of-hashed.ensures

pub invariant_of-result : goal.invariant_of-result
invariant_of-result c =
    let cut = c.range_from.ensures.value ∙ ap (drop c.args.self.from) c.text_of-hashed.ensures in
    kept c.args.text.now c.args.self.from c.args.self.end c.args.self.count c.args.self.signed c.requires.gathered c.range_from.result.now c.text_of-hashed.result.now cut c.text_of-hashed.ensures

pub returns : goal.returns
returns c =
    let cut = c.range_from.ensures.value ∙ ap (drop c.args.self.from) c.text_of-hashed.ensures in
    is_compact c.args.text.now c.args.self.from c.args.self.end c.args.self.count c.args.self.signed c.requires.gathered c.range_from.result.now c.args.binding cut c.requires.words c.requires.ends
