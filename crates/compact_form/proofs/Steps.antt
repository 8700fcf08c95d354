-- One word, and one byte behind it, read at a place that the reader reaches.
use Rattle.std.proofs.Common.{◌≡◌, ◌⊎◌, inl, inr, ℕ, ◌+◌, ◌-◌, ◌<◌, ◌≤◌, true, false, List, ◌++◌, None, Some, length, take, drop, get_or, refl, ap, ◌∙◌, sym, subst, arith}
use Rattle.std.proofs.Math.Seq.{take-add}
use Rattle.std.proofs.lemmas.List.{take_more, take_all, length-drop, get_or-drop}
use Rattle.std.proofs.lemmas.List.Folds.{length-prefix_len}
use Rattle.std.proofs.lemmas.List.Sums.{prefix_len-le-length, prefix_len_stops}
use Rattle.std.proofs.lemmas.Bool.{cases_lt, false_from_ne_true}
use Rattle.std.specs.List.{list_all, prefix_len}
use Rattle.std.specs.Option.{option_and_then}
use Rattle.b64url_text.specs.Base64url.{is_letter, IsWord}
use Rattle.b64url_text.proofs.Words.{front_letters}
use Rattle.compact_form.specs.declared.field.Field.{Field}
use Rattle.compact_form.specs.declared.field.Field.TheVariants.{Protected}
use Rattle.compact_form.specs.Compact.{IsMisformedAt}
use Rattle.compact_form.specs.Reading.{State, run, field_after, may_end, BringsTo, EndsWord, OpensField}
use Rattle.compact_form.proofs.Runs.{run-append, run_more, run_whole, step_behind, step_before}
use Rattle.compact_form.proofs.Stops.{refused_at_byte, refused_at_end}

abbrev start : State
start = (Protected, false)

-- what stands at a place and behind it
abbrev rest : List ℕ → ℕ → List ℕ
rest x at = take (length x - at) (drop at x)

-- so many letters stand there, and no more
record Run (x : List ℕ) (at n : ℕ) : Type 0 where
  is : rest x at ≡ drop at x
  long : length (take n (rest x at)) ≡ n
  letters : list_all is_letter (take n (rest x at)) ≡ true
  grows : take (at + n) x ≡ take at x ++ take n (rest x at)
  within : at + n ≤ length x
  no_letter : at + n < length x → is_letter (get_or x (at + n) 0) ≡ false

run_at : (x : List ℕ) (at n : ℕ) → at ≤ length x → n ≡ prefix_len is_letter (rest x at) → Run x at n
run_at x at n l counted =
    let y = rest x at in
    let is : y ≡ drop at x = take_all (length x - at) (drop at x) (omega (arith, length-drop at x)) in
    let size : length y ≡ length x - at = ap length is ∙ length-drop at x in
    let bound = prefix_len-le-length is_letter y in
    record {
      is = is;
      long = ap (λ (m : ℕ). length (take m y)) counted ∙ length-prefix_len is_letter y ∙ sym counted;
      letters = ap (λ (m : ℕ). list_all is_letter (take m y)) counted ∙ front_letters y;
      grows = take-add at n x ∙ ap (λ (z : List ℕ). take at x ++ take n z) (sym is);
      within = omega (arith, counted, bound, size);
      no_letter = λ short.
          ap is_letter (sym (get_or-drop at x n 0))
          ∙ ap (λ (z : List ℕ). is_letter (get_or z n 0)) (sym is)
          ∙ ap (λ (m : ℕ). is_letter (get_or y m 0)) counted
          ∙ prefix_len_stops is_letter y 0 (omega (arith, counted, size));
    }

pub record Word (x : List ℕ) (at n : ℕ) (f : Field) : Type 0 where
  pub word : IsWord (take n (rest x at))
  pub ends : EndsWord x (at + n) f
  pub grows : take (at + n) x ≡ take at x ++ take n (rest x at)
  pub within : at + n ≤ length x

pub word_at : (x : List ℕ) (at n : ℕ) (f : Field) → BringsTo x at (f, false) → n ≡ prefix_len is_letter (rest x at) → (n ≡ 0 → ⊥) → Word x at n f
word_at x at n f s counted some =
    let r = run_at x at n s.within counted in
    let w = take n (rest x at) in
    let word : IsWord w = record { some = omega (arith, r.long); letters = r.letters } in
    record {
      word = word;
      ends = record {
        stands = record {
          within = r.within;
          so_far = ap (run start) r.grows ∙ run-append start (take at x) w ∙ ap (option_and_then (λ (u : State). run u w)) s.so_far ∙ run_whole f w word;
        };
        no_letter = r.no_letter;
      };
      grows = r.grows;
      within = r.within;
    }

-- a word fits into the text
pub word_within : (x : List ℕ) (at n : ℕ) → at ≤ length x → n ≡ prefix_len is_letter (rest x at) → at + n ≤ length x
word_within x at n l counted = (run_at x at n l counted).within

no_word_by : (x : List ℕ) (at : ℕ) (f : Field) → BringsTo x at (f, false) → (may_end (f, false) ≡ true → at < length x) → (at < length x → is_letter (get_or x at 0) ≡ false)
    → (at < length x) ⊎ (length x ≤ at) → IsMisformedAt x at
no_word_by x at f s unended no_letter (inl l) =
    refused_at_byte x at (f, false) l s.so_far (run_more start (f, false) x at (get_or x at 0) l refl s.so_far ∙ step_before f (get_or x at 0) (no_letter l))
no_word_by x at f s unended no_letter (inr g) =
    let within = s.within in
    refused_at_end x at (f, false) (omega arith) s.so_far (false_from_ne_true (may_end (f, false)) (λ e. let l = unended e in omega arith))

pub no_word : (x : List ℕ) (at n : ℕ) (f : Field) → BringsTo x at (f, false) → (may_end (f, false) ≡ true → at < length x) → n ≡ prefix_len is_letter (rest x at) → n ≡ 0 → IsMisformedAt x at
no_word x at n f s unended counted none =
    let r = run_at x at n s.within counted in
    let here : at + n ≡ at = omega arith in
    no_word_by x at f s unended (subst (λ (m : ℕ). m < length x → is_letter (get_or x m 0) ≡ false) here r.no_letter) (cases_lt at (length x))

-- the scan of the byte behind a word
byte_behind : (x : List ℕ) (at : ℕ) (f : Field) → EndsWord x at f → at < length x → run start (take (at + 1) x) ≡ option_and_then (λ g. Some (g, false)) (field_after f (get_or x at 0))
byte_behind x at f e l = run_more start (f, true) x at (get_or x at 0) l refl e.stands.so_far ∙ step_behind f (get_or x at 0) (e.no_letter l)

pub refused_behind : (x : List ℕ) (at : ℕ) (f : Field) → EndsWord x at f → at < length x → field_after f (get_or x at 0) ≡ None → IsMisformedAt x at
refused_behind x at f e l none =
    refused_at_byte x at (f, true) l e.stands.so_far (byte_behind x at f e l ∙ ap (option_and_then (λ (g : Field). Some (g, false))) none)

pub refused_open : (x : List ℕ) (at : ℕ) (f : Field) → EndsWord x at f → at ≡ length x → may_end (f, true) ≡ false → IsMisformedAt x at
refused_open x at f e l unended = refused_at_end x at (f, true) l e.stands.so_far unended

pub opens_at : (x : List ℕ) (at : ℕ) (f g : Field) → EndsWord x at f → at < length x → field_after f (get_or x at 0) ≡ Some g → OpensField x at (at + 1) f g
opens_at x at f g e l is = record {
  byte = get_or x at 0;
  opens = is;
  grows = take_more x at 0 l;
  stands = record { within = omega arith; so_far = byte_behind x at f e l ∙ ap (option_and_then (λ (h : Field). Some (h, false))) is };
}
