-- How the input of a feed is cut into pieces does not matter.
use Rattle.std.proofs.Common.{◌≡◌, ℕ, ◌+◌, List, ◌++◌, length, sym, ap, subst, ◌∙◌, append_assoc, length-append, arith}
use Rattle.feed_core.specs.Cut.{IsCut}
use Rattle.feed_core.specs.FeedVerdict.{TellsVerdicts}
use Rattle.feed_core.specs.Feed.{FeedState, taking, kept_rest, Takes}
use Rattle.feed_core.proofs.Cuts.{one_cut}
use Rattle.feed_core.proofs.Told.{told_append, one_told, carry, carry_all}

module _ (start last : FeedState) (piece next text more : List ℕ) where
  two_pieces : (ended : List (List ℕ)) (rest : List ℕ) → IsCut (start.rest ++ piece) ended rest → TellsVerdicts start.policy start.now ended text
      → Takes (taking start.policy start.now (kept_rest rest) (start.count + length ended)) last next more → Takes start last (piece ++ next) (text ++ more)
  two_pieces ended rest cut told takes =
      let on = carry start.policy start.now (start.rest ++ piece) next takes.rest ended takes.ended rest cut takes.cut in
      let is_told = carry_all start.policy start.now takes.ended on.lines more on.as_many on.tells takes.told in
      let P : List ℕ → Type 0 = λ t. IsCut t (ended ++ on.lines) on.rest in
      let count : (start.count + length ended) + length takes.ended ≡ start.count + length (ended ++ on.lines)
      = omega (arith, length-append ended on.lines, on.as_many) in
      record {
        ended = ended ++ on.lines;
        rest = on.rest;
        cut = subst P (append_assoc start.rest piece next) on.cut;
        told = told_append start.policy start.now ended on.lines text more told is_told;
        after_is = takes.after_is ∙ ap (λ (r : List ℕ). taking start.policy start.now r ((start.count + length ended) + length takes.ended)) on.rest_kept
            ∙ ap (λ (n : ℕ). taking start.policy start.now (kept_rest on.rest) n) count;
      }

  pub goes_on : (middle : FeedState) → Takes start middle piece text → Takes middle last next more → Takes start last (piece ++ next) (text ++ more)
  goes_on middle first second =
      let P : FeedState → Type 0 = λ m. Takes m last next more in
      two_pieces first.ended first.rest first.cut first.told (subst P first.after_is second)

module _ (before after other : FeedState) (piece text more : List ℕ) (one : Takes before after piece text) (two : Takes before other piece more) where
  pub one_step : after ≡ other
  one_step =
      let same = one_cut (before.rest ++ piece) one.ended two.ended one.rest two.rest one.cut two.cut in
      one.after_is ∙ ap (λ (e : List (List ℕ)). taking before.policy before.now (kept_rest one.rest) (before.count + length e)) same.0
      ∙ ap (λ (r : List ℕ). taking before.policy before.now (kept_rest r) (before.count + length two.ended)) same.1 ∙ sym two.after_is

  pub one_text : text ≡ more
  one_text =
      let same = one_cut (before.rest ++ piece) one.ended two.ended one.rest two.rest one.cut two.cut in
      let P : List (List ℕ) → Type 0 = λ e. TellsVerdicts before.policy before.now e text in
      one_told before.policy before.now two.ended text more (subst P same.0 one.told) two.told
