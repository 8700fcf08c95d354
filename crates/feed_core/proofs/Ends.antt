-- Where a line ends.
use Prim.Native.Nat.{zero}
use Rattle.std.proofs.Common.{◌≡◌, ℕ, suc, ◌+◌, ◌-◌, ◌<◌, ◌≤◌, min, List, [], ◌∷◌, ◌++◌, length, take, drop, get_or, sym, ap, ◌∙◌, arith}
use Rattle.std.proofs.lemmas.List.{take-append-drop, drop_more, take_min, take_all}
use Rattle.std.proofs.Math.Seq.{take-append-add}
use Rattle.sd_outside.specs.Limits.{file_max}
use Rattle.feed_core.specs.Cut.{IsOneLine}
use Rattle.feed_core.specs.Feed.{kept_rest}

-- no line end stands in front of a place
pub one_line_below : (text : List ℕ) (n : ℕ) → ((k : ℕ) → k < n → k < length text → get_or text k 0 ≡ 10 → ⊥) → IsOneLine (take n text)
one_line_below text zero none = tt
one_line_below [] (suc n) none = tt
one_line_below (byte ∷ bytes) (suc n) none = (none 0 (omega arith) (omega arith), one_line_below bytes n (λ k below within. none (suc k) (omega arith) (omega arith)))

pub one_line : (text : List ℕ) → ((k : ℕ) → k < length text → get_or text k 0 ≡ 10 → ⊥) → IsOneLine text
one_line text none = rw (← take_all (length text) text (omega arith)) (one_line_below text (length text) (λ k below within. none k within))

-- a text at a line end
pub at_end : (text : List ℕ) (at : ℕ) → at < length text → get_or text at 0 ≡ 10 → text ≡ take at text ++ 10 ∷ drop (at + 1) text
at_end text at within is = sym (take-append-drop at text) ∙ ap (λ (t : List ℕ). take at text ++ t) (drop_more text at 0 within ∙ ap (λ (b : ℕ). b ∷ drop (at + 1) text) is)

-- what is kept of more bytes
pub kept_more : (rest bytes : List ℕ) → length rest ≤ file_max + 1 → rest ++ take (min (file_max + 1 - length rest) (length bytes)) bytes ≡ kept_rest (rest ++ bytes)
kept_more rest bytes short =
    let room = file_max + 1 - length rest in
    let whole : length rest + room ≡ file_max + 1 = omega arith in
    ap (λ (t : List ℕ). rest ++ t) (take_min room bytes) ∙ sym (take-append-add rest bytes room) ∙ ap (λ (n : ℕ). take n (rest ++ bytes)) whole
