-- What is told of lines, one after the other.
use Prim.Native.Nat.{zero}
use Rattle.std.proofs.Common.{◌≡◌, ◌⊎◌, inl, inr, ℕ, suc, ◌+◌, ◌<◌, ◌≤◌, List, [], ◌∷◌, ◌++◌, length, take, refl, sym, ap, subst, ◌∙◌, arith, append_assoc, append-nil, length-append}
use Rattle.std.specs.List.{AllZip, flat_map}
use Rattle.std.proofs.lemmas.List.Concat.{flat_map-append}
use Rattle.std.proofs.lemmas.List.{length-take, take_all, take-append-le, take-take}
use Rattle.sd_outside.specs.Limits.{file_max}
use Rattle.verifier_core.specs.declared.policy.Policy.{Policy}
use Rattle.cli_parts.specs.Lines.{line}
use Rattle.feed_core.specs.Cut.{IsOneLine, IsCut, last_line}
use Rattle.feed_core.specs.FeedVerdict.{TellsVerdict, TellsVerdicts}
use Rattle.feed_core.specs.Feed.{kept_rest}
use Rattle.feed_core.proofs.FeedVerdicts.{one_verdict_text, long_alike}
use Rattle.feed_core.proofs.Cuts.{all_append, all_back, all_take, cut_append, front_of_line, headed}

short_or_long : (n most : ℕ) → (n ≤ most) ⊎ (most ≤ n)
short_or_long n most = grind arith

module _ (policy : Policy) (now : ℕ) where
  zip_append : (xs ys : List (List ℕ)) (ts us : List (List ℕ)) → AllZip (TellsVerdict policy now) xs ts → AllZip (TellsVerdict policy now) ys us → AllZip (TellsVerdict policy now) (xs ++ ys) (ts ++ us)
  zip_append [] ys [] us p q = q
  zip_append [] ys (t ∷ ts) us p q = absurd p
  zip_append (x ∷ xs) ys [] us p q = absurd p
  zip_append (x ∷ xs) ys (t ∷ ts) us p q = (p.0, zip_append xs ys ts us p.1 q)

  pub told_none : TellsVerdicts policy now [] []
  told_none = record { verdicts = []; each = tt; text_is = refl }

  pub told_one : (token text : List ℕ) → TellsVerdict policy now token text → TellsVerdicts policy now (token ∷ []) (line text)
  told_one token text told = record { verdicts = text ∷ []; each = (told, tt); text_is = sym (append-nil (line text)) }

  pub told_append : (tokens others : List (List ℕ)) (text more : List ℕ) → TellsVerdicts policy now tokens text → TellsVerdicts policy now others more → TellsVerdicts policy now (tokens ++ others) (text ++ more)
  told_append tokens others text more told next = record {
    verdicts = told.verdicts ++ next.verdicts;
    each = zip_append tokens others told.verdicts next.verdicts told.each next.each;
    text_is = ap (λ (t : List ℕ). t ++ more) told.text_is ∙ ap (λ (t : List ℕ). flat_map line told.verdicts ++ t) next.text_is ∙ sym (flat_map-append line told.verdicts next.verdicts);
  }

  one_zip : (xs ts us : List (List ℕ)) → AllZip (TellsVerdict policy now) xs ts → AllZip (TellsVerdict policy now) xs us → ts ≡ us
  one_zip [] [] [] p q = refl
  one_zip [] [] (u ∷ us) p q = absurd q
  one_zip [] (t ∷ ts) us p q = absurd p
  one_zip (x ∷ xs) [] us p q = absurd p
  one_zip (x ∷ xs) (t ∷ ts) [] p q = absurd q
  one_zip (x ∷ xs) (t ∷ ts) (u ∷ us) p q = ap (λ (t : List ℕ). t ∷ ts) (one_verdict_text policy now x t u p.0 q.0) ∙ ap (λ (ts : List (List ℕ)). u ∷ ts) (one_zip xs ts us p.1 q.1)

  pub one_told : (tokens : List (List ℕ)) (text other : List ℕ) → TellsVerdicts policy now tokens text → TellsVerdicts policy now tokens other → text ≡ other
  one_told tokens text other told next = told.text_is ∙ ap (flat_map line) (one_zip tokens told.verdicts next.verdicts told.each next.each) ∙ sym next.text_is

  -- another first line of the same verdict
  told_first : (token other : List ℕ) (tokens : List (List ℕ)) (text : List ℕ) → ((t : List ℕ) → TellsVerdict policy now token t → TellsVerdict policy now other t)
      → TellsVerdicts policy now (token ∷ tokens) text → TellsVerdicts policy now (other ∷ tokens) text
  told_first token other tokens text alike told = go told.verdicts told.each told.text_is
    where
      go : (verdicts : List (List ℕ)) → AllZip (TellsVerdict policy now) (token ∷ tokens) verdicts → text ≡ flat_map line verdicts → TellsVerdicts policy now (other ∷ tokens) text
      go [] each text_is = absurd each
      go (t ∷ ts) each text_is = record { verdicts = t ∷ ts; each = (alike t each.0, each.1); text_is = text_is }

  -- ---- a line of which only a front is kept

  long_front : (rest more : List ℕ) → file_max + 1 ≤ length rest → file_max < length (kept_rest rest ++ more)
  long_front rest more long = omega (arith, length-append (kept_rest rest) more, length-take (file_max + 1) rest, long)

  long_whole : (rest more : List ℕ) → file_max + 1 ≤ length rest → file_max < length (rest ++ more)
  long_whole rest more long = omega (arith, length-append rest more, long)

  -- a line that goes on has the verdict of what is kept of it and goes on
  pub told_kept : (rest more text : List ℕ) → TellsVerdict policy now (kept_rest rest ++ more) text → TellsVerdict policy now (rest ++ more) text
  told_kept rest more text told = go (short_or_long (length rest) (file_max + 1))
    where
      go : (length rest ≤ file_max + 1) ⊎ (file_max + 1 ≤ length rest) → TellsVerdict policy now (rest ++ more) text
      go (inl short) = let P : List ℕ → Type 0 = λ r. TellsVerdict policy now (r ++ more) text in subst P (take_all (file_max + 1) rest short) told
      go (inr far) = long_alike policy now (kept_rest rest ++ more) (rest ++ more) text (long_front rest more far) (long_whole rest more far) told

  -- the lines that end in what is kept and a piece, and the lines that end in all of it: what tells the first tells the second
  pub record Carried (text : List ℕ) (ended others : List (List ℕ)) (behind piece : List ℕ) : Type 0 where
    pub lines : List (List ℕ)
    pub rest : List ℕ
    pub cut : IsCut (text ++ piece) (ended ++ lines) rest
    pub tells : (n : ℕ) (told : List ℕ) → TellsVerdicts policy now (take n others) told → TellsVerdicts policy now (take n lines) told
    pub rest_kept : kept_rest behind ≡ kept_rest rest
    pub as_many : length others ≡ length lines

  kept_on : (rest more : List ℕ) → file_max + 1 ≤ length rest → kept_rest (kept_rest rest ++ more) ≡ kept_rest (rest ++ more)
  kept_on rest more long =
      let one = take-append-le (file_max + 1) (kept_rest rest) more (omega (arith, length-take (file_max + 1) rest, long)) in
      let two = take-append-le (file_max + 1) rest more long in
      one ∙ take-take (file_max + 1) (file_max + 1) rest (omega arith) ∙ sym two

  -- where all is kept that has not ended
  carry_whole : (text piece behind : List ℕ) (ended others : List (List ℕ)) (rest : List ℕ) → IsCut text ended rest → IsCut (rest ++ piece) others behind
      → Carried text ended others behind piece
  carry_whole text piece behind ended others rest cut next =
      record { lines = others; rest = behind; cut = cut_append text piece ended others rest behind cut next; tells = λ n told is. is; rest_kept = refl; as_many = refl }

  -- another first line of the same verdict, of the first lines
  front_first : (token other : List ℕ) (tokens : List (List ℕ)) → ((t : List ℕ) → TellsVerdict policy now token t → TellsVerdict policy now other t)
      → (n : ℕ) (text : List ℕ) → TellsVerdicts policy now (take n (token ∷ tokens)) text → TellsVerdicts policy now (take n (other ∷ tokens)) text
  front_first token other tokens alike zero text told = told
  front_first token other tokens alike (suc n) text told = told_first token other (take n tokens) text alike told

  -- where it is longer
  carry_long : (text piece behind : List ℕ) (ended others : List (List ℕ)) (rest : List ℕ) → file_max + 1 ≤ length rest → IsCut text ended rest → IsCut (kept_rest rest ++ piece) others behind
      → Carried text ended others behind piece
  carry_long text piece behind ended [] rest long cut next =
      let one = next.unended in
      let whole : IsOneLine (rest ++ piece) = all_append _ rest piece cut.unended (all_back _ (kept_rest rest) piece (rw next.whole one)) in
      let going : IsCut (rest ++ piece) [] (rest ++ piece) = record { whole = refl; lines = tt; unended = whole } in
      record {
        lines = [];
        rest = rest ++ piece;
        cut = cut_append text piece ended [] rest (rest ++ piece) cut going;
        tells = λ n told is. is;
        rest_kept = ap kept_rest (sym next.whole) ∙ kept_on rest piece long;
        as_many = refl;
      }
  carry_long text piece behind ended (w ∷ ws) rest long cut next =
      let front = front_of_line (kept_rest rest) piece w (flat_map line ws ++ behind) (all_take _ (file_max + 1) rest cut.unended) (next.whole ∙ headed w ws behind) in
      let middle : IsOneLine front.middle = all_back _ (kept_rest rest) front.middle (rw front.first_is at next.lines.0) in
      let going : IsCut (rest ++ piece) ((rest ++ front.middle) ∷ ws) behind = record {
        whole = ap (λ (t : List ℕ). rest ++ t) front.more_is ∙ sym (append_assoc rest front.middle (10 ∷ (flat_map line ws ++ behind))) ∙ sym (headed (rest ++ front.middle) ws behind);
        lines = (all_append _ rest front.middle cut.unended middle, next.lines.1);
        unended = next.unended;
      } in
      record {
        lines = (rest ++ front.middle) ∷ ws;
        rest = behind;
        cut = cut_append text piece ended ((rest ++ front.middle) ∷ ws) rest behind cut going;
        tells = front_first w (rest ++ front.middle) ws (λ t p. told_kept rest front.middle t (rw front.first_is at p));
        rest_kept = refl;
        as_many = refl;
      }

  -- what is cut on from what is kept is cut on from all, and told the same
  pub carry : (text piece behind : List ℕ) (ended others : List (List ℕ)) (rest : List ℕ) → IsCut text ended rest → IsCut (kept_rest rest ++ piece) others behind
      → Carried text ended others behind piece
  carry text piece behind ended others rest cut next = go (short_or_long (length rest) (file_max + 1))
    where
      go : (length rest ≤ file_max + 1) ⊎ (file_max + 1 ≤ length rest) → Carried text ended others behind piece
      go (inl short) = let P : List ℕ → Type 0 = λ r. IsCut (r ++ piece) others behind in carry_whole text piece behind ended others rest cut (subst P (take_all (file_max + 1) rest short) next)
      go (inr long) = carry_long text piece behind ended others rest long cut next

  -- all of them
  pub carry_all : (others lines : List (List ℕ)) (text : List ℕ) → length others ≡ length lines
      → ((n : ℕ) (told : List ℕ) → TellsVerdicts policy now (take n others) told → TellsVerdicts policy now (take n lines) told) → TellsVerdicts policy now others text → TellsVerdicts policy now lines text
  carry_all others lines text same tells told =
      let P : List (List ℕ) → Type 0 = λ ls. TellsVerdicts policy now ls text in
      subst P (take_all (length others) lines (omega (arith, same))) (tells (length others) text (subst P (sym (take_all (length others) others (omega arith))) told))

  -- ---- the last line

  pub last_tells : (rest : List ℕ) (n : ℕ) (text : List ℕ) → TellsVerdicts policy now (take n (last_line (kept_rest rest))) text → TellsVerdicts policy now (take n (last_line rest)) text
  last_tells [] n text told = told
  last_tells (byte ∷ bytes) n text told = front_first (kept_rest (byte ∷ bytes)) (byte ∷ bytes) [] (λ t p. rw append-nil at (told_kept (byte ∷ bytes) [] t (rw append-nil p))) n text told

  pub last_as_many : (rest : List ℕ) → length (last_line (kept_rest rest)) ≡ length (last_line rest)
  last_as_many [] = refl
  last_as_many (byte ∷ bytes) = refl
