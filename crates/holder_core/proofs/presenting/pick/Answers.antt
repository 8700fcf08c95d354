use Rattle.std.proofs.Common.{◌≡◌, ◌+◌, [], ◌∷◌, ◌++◌, length, length-append, append_assoc, true, false, refl, sym, ap, ◌∙◌, arith}
use Rattle.marked_tree.specs.Numbers.{has, IsRising}
use Rattle.marked_tree.proofs.RisingSearch.{front_none, front_at, front_past, has_at}
use Rattle.holder_core.proofs.Picking.{picked_in, picked_out}
use Rattle.holder_core.proofs.presenting.pick.Goals as goal
use Rattle.holder_core.proofs.presenting.pick.Goals.{then-next-marks+then-marks-next+in_ok-make+in_ok-push, else-next-marks, else-next-marks-via-then-next-marks+else-marks-next, else-next-marks-via-else-next-marks}

pub loop-text-preserved : goal.loop-text-preserved
loop-text-preserved c =
    let l = c.loop-text.invariant in
    let text = c.in-Some.text.now in
    let marks = c.marks-marks.result.now in
    let next = c.loop-text.next in
    let number = c.loop-text.number in
    let s = has c.args.chosen.now in
    let rising : IsRising marks = rw c.marks-marks.ensures.all c.marks-marks.ensures.rising in
    let stand = l.stand ∙ (ap (λ w. l.done ++ w) c.in-Some.ensures.steps ∙ sym (append_assoc l.done (text ∷ []) c.next.new.self)) in
    let counted : number + 1 ≡ length (l.done ++ text ∷ []) = let more = length-append l.done (text ∷ []) in omega (arith, more, l.counted) in
    elim c.if-next-marks.branch [
      | then-next-marks+then-marks-next+in_ok-make+in_ok-push w ↦
          let here : has marks number ≡ true = has_at marks number next 0 w.if-next-marks.true w.if-marks-next.true in
          let yes : s (length l.done) ≡ true = ap s (sym l.counted) ∙ (ap (λ ms. has ms number) (sym c.marks-marks.ensures.all) ∙ here) in
          record {
            done = l.done ++ text ∷ [];
            stand = stand;
            counted = counted;
            front = rw w.next-is (front_at marks next number 0 rising l.front w.if-next-marks.true w.if-marks-next.true);
            picked_is = (let more = picked_in s l.done text yes in
                let pushed = w.in_ok-push.ensures.ok in
                let made = w.in_ok-make.ensures in
                let is = w.texts-is in
                let before = l.picked_is in
                cc);
          }
      | else-next-marks w ↦
          let past = front_past marks next number 0 rising l.front (λ few is. elim w.else-next-marks.branch [
            | else-next-marks-via-then-next-marks+else-marks-next v ↦ v.if-marks-next.false is
            | else-next-marks-via-else-next-marks v ↦ absurd (omega (arith, v.if-next-marks.false, few))
          ]) in
          let no : s (length l.done) ≡ false = ap s (sym l.counted) ∙ (ap (λ ms. has ms number) (sym c.marks-marks.ensures.all) ∙ past.0) in
          record {
            done = l.done ++ text ∷ [];
            stand = stand;
            counted = counted;
            front = rw w.next-is past.1;
            picked_is = (let more = picked_out s l.done text no in let is = w.texts-is in let before = l.picked_is in cc);
          }
    ]

pub loop-text-init : goal.loop-text-init
loop-text-init c = record { done = []; stand = (let is = c.into_iter-text-iterator.ensures.into_iter_gives in cc); counted = refl; front = front_none c.marks-marks.result.now; picked_is = c.new-texts.ensures }
