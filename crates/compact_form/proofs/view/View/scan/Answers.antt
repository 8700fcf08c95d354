use Rattle.std.proofs.Common.{◌≡◌, ◌++◌, ℕ, List, take, ap, ◌∙◌, subst, refl}
use Rattle.compact_form.specs.declared.field.Field.TheVariants.{Piece}
use Rattle.compact_form.specs.Reading.{OpensField}
use Rattle.compact_form.specs.Views.{jwt_of}
use Rattle.compact_form.proofs.GatheredParts.{one_more}
use Rattle.compact_form.proofs.view.View.scan.Goals as goal

pub loop-reader-preserved : goal.loop-reader-preserved
loop-reader-preserved c =
    let x = c.args.text.now in
    let front = c.loop-reader.front in
    let at : ℕ = c.word.new.self.at in
    let next : ℕ = c.next.new.self.at in
    let word : c.word.new.self.text.now ≡ x = cc in
    let end : c.next.new.self.text.now ≡ x = cc in
    let grows : take at x ≡ take front.end x ++ c.in_ok-word.word.now =
    subst (λ (y : List ℕ). take at y ≡ take front.end y ++ c.in_ok-word.word.now) word
    (c.in_ok-word.ensures.grows ∙ ap (λ (n : ℕ). take n c.word.new.self.text.now ++ c.in_ok-word.word.now) c.loop-reader.invariant.here)
    in
    let opens : OpensField x at next Piece c.in_ok-next.field-0 = subst (λ (y : List ℕ). OpensField y at next Piece c.in_ok-next.field-0) end c.in_ok-next.ensures.opens in
    record {
      same = end;
      here = refl;
      so_far = one_more x front.from front.end at next front.count (jwt_of front.signed) c.in_ok-word.word.now c.in_ok-next.field-0 c.loop-reader.invariant.so_far grows c.in_ok-word.ensures.word opens c.in-Piece.is;
    }
