-- The piece at the front of what is spelled, up to the first tilde.
use Rattle.std.proofs.Common.{◌≡◌, ℕ, ◌+◌, ◌-◌, ◌<◌, false, List, [], length, take, drop, ap, ◌∙◌, sym, subst, arith}
use Rattle.std.specs.Prelude.{slice_index}
use Rattle.std.specs.List.{position_or_len, slice_range}
use Rattle.std.specs.Str.{IsAscii, IsCharBoundary}
use Rattle.std.proofs.lemmas.Bool.{ne_eqb, eq-eqb}
use Rattle.std.proofs.lemmas.List.Sums.{position_or_len_is}
use Rattle.std.proofs.lemmas.Str.{IsCharBoundary-from_ascii}
use Rattle.memchr.specs.Find.{Nowhere, NoneBefore, Passes, is_byte}
use Rattle.compact_form.specs.Views.{pieces_of, IsSpelled}
use Rattle.compact_form.proofs.GatheredParts.{IsAscii-spelled}
use Rattle.compact_form.proofs.Spelled.{Next, is_tilde, next_piece, no_piece_left}

none_below : (x : List ℕ) (n : ℕ) → Nowhere (Passes (is_byte 126) x) 0 n → (k : ℕ) → k < n → is_tilde (slice_index x k) ≡ false
none_below x n none k less = ne_eqb (slice_index x k) 126 (λ e. none k (omega arith) less (eq-eqb (slice_index x k) 126 e))

-- where no tilde stands, there is no piece
pub none_left : (x y : List ℕ) → IsSpelled x → y ≡ x → Nowhere (Passes (is_byte 126) y) 0 (length y) → pieces_of x ≡ []
none_left x y s same none =
    let at = position_or_len_is is_tilde y (length y) 0 (omega arith) (none_below y (length y) none) (λ less. absurd (omega (arith, less))) in
    no_piece_left x s (subst (λ (z : List ℕ). position_or_len is_tilde z ≡ length z) same at)

-- the first tilde of a text
pub record TildeAt (x : List ℕ) (n : ℕ) : Type 0 where
  pub first : n ≡ position_or_len is_tilde x
  pub within : n < length x

pub tilde_at : (x y : List ℕ) (n : ℕ) → y ≡ x → NoneBefore (Passes (is_byte 126) y) 0 (length y) n × Passes (is_byte 126) y n → TildeAt x n
tilde_at x y n same found = subst (λ (z : List ℕ). TildeAt z n) same (record {
  first = sym (position_or_len_is is_tilde y n 0 (omega (arith, found.0.high)) (none_below y n found.0.before) (λ less. found.1));
  within = found.0.high;
})

-- it ends the first piece
pub piece_before : (x before after : List ℕ) (n : ℕ) → IsSpelled x → TildeAt x n → before ≡ slice_range x 0 n → after ≡ drop (n + 1) x → Next x before after
piece_before x before after n s tilde b a =
    let start : n - 0 ≡ position_or_len is_tilde x = omega (arith, tilde.first) in
    next_piece x before after s (b ∙ ap (λ (m : ℕ). take m x) start) (a ∙ ap (λ (m : ℕ). drop (m + 1) x) tilde.first) (omega (arith, tilde.first, tilde.within))

ascii : (x : List ℕ) → IsSpelled x → IsAscii x
ascii x s = subst IsAscii (sym s.spelling) (IsAscii-spelled (pieces_of x) s.words)

-- the next begins at a character
pub next_boundary : (x : List ℕ) (n : ℕ) → IsSpelled x → TildeAt x n → IsCharBoundary x (n + 1)
next_boundary x n s tilde = IsCharBoundary-from_ascii x (n + 1) (ascii x s) (omega (arith, tilde.within))
