-- What was written of verdicts that could not all be told.
use Rattle.std.proofs.Common.{◌≡◌, ◌⊎◌, inl, inr, ℕ, ◌+◌, min, List, [], ◌++◌, length, take, sym, ap, subst, ◌∙◌, arith, append_assoc, append-nil, Option, Result, Ok, Err, OnErr}
use Rattle.std.proofs.lemmas.List.{take_min, take-append-le, take_all}
use Rattle.std.proofs.Math.Seq.{take-append-add}
use Rattle.std.proofs.KnownBytes.{Appends-nil, Appends-trans}
use Rattle.std.specs.Io.KnownBytes.{Appends}
use Rattle.sd_outside.specs.Causes.{AppendsPrefix}
use Rattle.verifier_core.specs.declared.policy.Policy.{Policy}
use Rattle.feed_core.specs.FeedVerdict.{TellsVerdicts}
use Rattle.feed_core.specs.Feed.{TellsFront}
use Rattle.feed_core.proofs.Told.{told_none, told_append}

pub at_err : {T E P : Type 0} → (r : Result T E) → P → OnErr r P
at_err (Ok x) p = tt
at_err (Err e) p = p

pub prefix_after : (a b c : Option (List ℕ)) (text more : List ℕ) → Appends a b text → AppendsPrefix b c more → AppendsPrefix a c (text ++ more)
prefix_after a b c text more first next =
    (length text + next.0, let P : List ℕ → Type 0 = λ t. Appends a c t in subst P (sym (take-append-add text more next.0)) (Appends-trans a b c text (take next.0 more) first next.1))

pub whole_prefix : (a b : Option (List ℕ)) (text : List ℕ) → Appends a b text → AppendsPrefix a b text
whole_prefix a b text whole = (length text, let P : List ℕ → Type 0 = λ t. Appends a b t in subst P (sym (take_all (length text) text (omega arith))) whole)

module _ (policy : Policy) (now : ℕ) where
  -- nothing was written
  pub front_none : (lines : List (List ℕ)) (behind : List ℕ) (a : Option (List ℕ)) → TellsFront policy now lines behind a a
  front_none lines behind a = record { count = 0; text = []; told = told_none policy now; written = inl (0, Appends-nil a) }

  -- in part, of all of them
  pub front_all : (lines : List (List ℕ)) (text behind : List ℕ) (a b : Option (List ℕ)) → TellsVerdicts policy now lines text → AppendsPrefix a b (text ++ behind) → TellsFront policy now lines behind a b
  front_all lines text behind a b told written =
      let all = take_all (length lines) lines (omega arith) in
      record { count = length lines; text = text; told = rw all told; written = inr (all, written) }

  -- behind lines that were told
  pub front_after : (told lines : List (List ℕ)) (text behind : List ℕ) (a b c : Option (List ℕ)) → TellsVerdicts policy now told text → Appends a b text → TellsFront policy now lines behind b c → TellsFront policy now (told ++ lines) behind a c
  front_after told lines text behind a b c is first front =
      let split = take-append-add told lines front.count in
      record {
        count = length told + front.count;
        text = text ++ front.text;
        told = rw split (told_append policy now told (take front.count lines) text front.text is front.told);
        written = go front.written;
      }
    where
      go : AppendsPrefix b c front.text ⊎ ((take front.count lines ≡ lines) × AppendsPrefix b c (front.text ++ behind))
          → AppendsPrefix a c (text ++ front.text) ⊎ ((take (length told + front.count) (told ++ lines) ≡ told ++ lines) × AppendsPrefix a c ((text ++ front.text) ++ behind))
      go (inl p) = inl (prefix_after a b c text front.text first p)
      go (inr p) = inr (take-append-add told lines front.count ∙ ap (λ (ls : List (List ℕ)). told ++ ls) p.0, rw append_assoc (prefix_after a b c text (front.text ++ behind) first p.1))

  -- before lines that were not judged
  pub front_more : (lines more : List (List ℕ)) (a b : Option (List ℕ)) → TellsFront policy now lines [] a b → TellsFront policy now (lines ++ more) [] a b
  front_more lines more a b front =
      let same : take (min front.count (length lines)) (lines ++ more) ≡ take front.count lines
      = take-append-le (min front.count (length lines)) lines more (omega arith) ∙ take_min front.count lines in
      record { count = min front.count (length lines); text = front.text; told = rw same front.told; written = inl (go front.written) }
    where
      go : AppendsPrefix a b front.text ⊎ ((take front.count lines ≡ lines) × AppendsPrefix a b (front.text ++ [])) → AppendsPrefix a b front.text
      go (inl p) = p
      go (inr p) = rw append-nil at p.1

  -- no text behind, or some
  pub front_behind : (lines : List (List ℕ)) (behind : List ℕ) (a b : Option (List ℕ)) → TellsFront policy now lines [] a b → TellsFront policy now lines behind a b
  front_behind lines behind a b front = record { count = front.count; text = front.text; told = front.told; written = inl (go front.written) }
    where
      go : AppendsPrefix a b front.text ⊎ ((take front.count lines ≡ lines) × AppendsPrefix a b (front.text ++ [])) → AppendsPrefix a b front.text
      go (inl p) = p
      go (inr p) = rw append-nil at p.1
