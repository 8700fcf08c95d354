-- What a feed writes at its end, and what it is left with.
use Rattle.std.proofs.Common.{◌≡◌, ℕ, Bool, ◌+◌, ◌≤◌, List, [], ◌++◌, length, sym, ap, subst, ◌∙◌, append-nil, arith, Option, Result, Ok, Err, OnOk, true, false}
use Rattle.std.specs.Result.{is_err}
use Rattle.std.proofs.lemmas.List.{length-take}
use Rattle.std.proofs.KnownBytes.{Appends-trans}
use Rattle.std.specs.Io.KnownBytes.{Appends}
use Rattle.sd_outside.specs.Causes.{AppendsPrefix}
use Rattle.sd_outside.specs.Limits.{file_max}
use Rattle.verifier_core.specs.declared.policy.Policy.{Policy}
use Rattle.feed_core.specs.Cut.{IsOneLine, last_line}
use Rattle.feed_core.specs.FeedVerdict.{TellsVerdicts}
use Rattle.feed_core.specs.Feed.{FeedState, taking, Takes, TellsFront, end_line}
use Rattle.feed_core.specs.FeedCalls.{new_feed, ToldSoFar, TakesFront}
use Rattle.feed_core.proofs.Cuts.{all_take, cut_of}
use Rattle.feed_core.proofs.Fronts.{front_none, front_all, front_behind}
use Rattle.feed_core.proofs.AnyCut.{goes_on}

-- the verdict on what was kept is held, before the number of lines
module _ (policy : Policy) (now count : ℕ) (kept first held : List ℕ) (none : first ≡ []) (told : (text : List ℕ) × TellsVerdicts policy now (last_line kept) text × (held ≡ first ++ text)) (a b : Option (List ℕ)) where
  held_is : told.0 ≡ held
  held_is = sym (told.2 ∙ ap (λ (t : List ℕ). t ++ told.0) none)

  -- there is no memory for the number of lines
  pub ended_short : AppendsPrefix a b held → TellsFront policy now (last_line kept) (end_line (count + length (last_line kept))) a b
  ended_short part =
      front_behind policy now (last_line kept) (end_line (count + length (last_line kept))) a b
      (front_all policy now (last_line kept) held [] a b (rw held_is at told.1) (rw append-nil part))

  -- or it is told
  pub ended_front : (last : ℕ) (all : List ℕ) → last ≡ length (last_line kept) → all ≡ held ++ end_line (count + last) → AppendsPrefix a b all → TellsFront policy now (last_line kept) (end_line (count + length (last_line kept))) a b
  ended_front last all same added part =
      front_all policy now (last_line kept) held (end_line (count + length (last_line kept))) a b (rw held_is at told.1) (rw (added, same) at part)

-- nothing was taken
pub taken_none : (before : FeedState) (piece : List ℕ) (a : Option (List ℕ)) → TakesFront before piece a a
taken_none before piece a =
    let cut = cut_of (before.rest ++ piece) in
    record { ended = cut.ended; rest = cut.rest; cut = cut.is; front = front_none before.policy before.now cut.ended _ a }

pub ok_holds : {T E P : Type 0} → (r : Result T E) → is_err r ≡ false → OnOk r P → P
ok_holds (Ok x) e p = p
ok_holds (Err x) e p = let clash : true ≡ false = e in absurd (cc clash)

-- what was taken before a piece and in it is told
told_on : (before after : FeedState) (bytes piece : List ℕ) (first old new : Option (List ℕ)) → ToldSoFar before bytes first old
    → (text : List ℕ) × Takes before after piece text × Appends old new text → ToldSoFar after (bytes ++ piece) first new
told_on before after bytes piece first old new so took =
    let P : FeedState → Type 0 = λ f. Takes (new_feed f.policy f.now) after (bytes ++ piece) (so.text ++ took.0) in
    record {
      text = so.text ++ took.0;
      takes = subst P (sym took.1.after_is) (goes_on (new_feed before.policy before.now) after bytes piece so.text took.0 before so.takes took.1);
      written = Appends-trans first old new so.text took.0 so.written took.2;
    }

pub told_after : {T E : Type 0} (r : Result T E) (over : Bool) → over ≡ is_err r → (before : FeedState) (rest : List ℕ) (count : ℕ) (bytes piece : List ℕ) (first old new : Option (List ℕ)) → ToldSoFar before bytes first old
    → OnOk r ((text : List ℕ) × Takes before (taking before.policy before.now rest count) piece text × Appends old new text)
    → OnOk r (ToldSoFar (record { policy = before.policy; now = before.now; rest = rest; count = count; over = over }) (bytes ++ piece) first new)
told_after (Ok done) over goes_on before rest count bytes piece first old new so took =
    rw goes_on (told_on before (taking before.policy before.now rest count) bytes piece first old new so took)
told_after (Err e) over stops before rest count bytes piece first old new so took = tt

-- what is kept is a front of one line
pub kept_line : (before after : FeedState) (piece text : List ℕ) → Takes before after piece text → IsOneLine after.rest × (length after.rest ≤ file_max + 1)
kept_line before after piece text takes =
    let P : List ℕ → Type 0 = λ r. IsOneLine r × (length r ≤ file_max + 1) in
    subst P (sym (ap (λ (f : FeedState). f.rest) takes.after_is))
    (all_take _ (file_max + 1) takes.rest takes.cut.unended, omega (arith, length-take (file_max + 1) takes.rest))
