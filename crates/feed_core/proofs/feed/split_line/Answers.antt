use Rattle.std.proofs.Common.{◌≡◌, ℕ, ◌+◌, ◌∷◌, ◌++◌, List, take, get_or, sym, ap, ◌∙◌, arith, eq-eqb}
use Rattle.std.proofs.lemmas.Bool.Decides.{nat_tests}
use Rattle.std.proofs.lemmas.List.{take_rest}
use Rattle.feed_core.proofs.Ends.{one_line, one_line_below, at_end}
use Rattle.feed_core.proofs.feed.split_line.Goals as goal

pub returns : goal.returns
returns c =
    let text = c.args.text.now in
    let at = c.in_ok-at.at in
    let found = c.in_ok-at.ensures in
    let here : get_or text at 0 ≡ 10 = grind (arith, nat_tests, found.1) in (
      at_end text at found.0.high here ∙ ap (λ (t : List ℕ). take at text ++ 10 ∷ t) (sym (take_rest text (at + 1))),
      one_line_below text at (λ k below within is. found.0.before k (omega arith) below (eq-eqb _ _ is)),
    )

pub returns-in_err-at : goal.returns-in_err-at
returns-in_err-at c = rw c.from_residual.ensures (one_line c.args.text.now (λ k within is. c.in_err-at.ensures k (omega arith) within (eq-eqb _ _ is)))
