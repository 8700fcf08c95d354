-- What a feed has made of what a source gave so far.
use Rattle.std.proofs.Common.{◌≡◌, ◌⊎◌, inl, inr, ℕ, ◌+◌, ◌≤◌, List, [], ◌∷◌, ◌++◌, length, take, refl, sym, ap, subst, ◌∙◌, arith, append_assoc, append-nil, length-append, Option, Result, Ok, Err, OnErr, IsErrOf}
use Rattle.std.proofs.lemmas.List.{take_at, take_all, length-take}
use Rattle.std.proofs.KnownBytes.{Appends-nil, Appends-trans, Consumes-nil, Consumes-trans, Consumes-whole}
use Rattle.std.specs.Io.KnownBytes.{Appends, IsAtEnd}
use Rattle.sd_outside.specs.Causes.{AppendsPrefix}
use Rattle.verifier_core.specs.declared.policy.Policy.{Policy}
use Rattle.feed_core.specs.Cut.{last_line}
use Rattle.feed_core.specs.FeedVerdict.{TellsVerdicts}
use Rattle.feed_core.specs.Feed.{FeedState, taking, kept_rest, Takes, TellsFront, end_line}
use Rattle.feed_core.specs.FeedCalls.{new_feed, TakesFront, IsEnded, count_at_end}
use Rattle.feed_core.specs.FeedSource.{Input, Gave, FedAll, ToldEnded, FedLong, FedFront}
use Rattle.feed_core.proofs.Cuts.{cut_open, lines_within}
use Rattle.feed_core.proofs.Told.{told_none, told_append, carry, carry_all, last_tells, last_as_many}
use Rattle.feed_core.proofs.Fronts.{front_after, front_more, front_behind}
use Rattle.feed_core.proofs.AnyCut.{goes_on}

pub gave_more : (before mid after : Input) (bytes more : List ℕ) → Gave before mid bytes → Gave mid after more → Gave before after (bytes ++ more)
gave_more before mid after bytes more first next = record {
  left = Consumes-trans before.left mid.left after.left bytes more first.left next.left;
  taken = omega (arith, first.taken, next.taken, length-append bytes more);
}

-- nothing came
pub nothing : (before after : Input) (n : ℕ) (room : List ℕ) → n ≡ 0 → Gave before after (take n room) → Gave before after []
nothing before after n room none gave = let P : ℕ → Type 0 = λ k. Gave before after (take k room) in subst P none gave

pub err_holds : {T E P : Type 0} → (r : Result T E) (a b : E) → IsErrOf r a ⊎ IsErrOf r b → OnErr r P → P
err_holds (Ok x) a b (inl is) p = let clash : ⊥ = cc in absurd clash
err_holds (Ok x) a b (inr is) p = let clash : ⊥ = cc in absurd clash
err_holds (Err x) a b is p = p

-- these bytes came, and the feed took them
pub record Pumped (policy : Policy) (now most left : ℕ) (before after : Input) (feed : FeedState) (old new : Option (List ℕ)) : Type 0 where
  pub bytes : List ℕ
  pub gave : Gave before after bytes
  pub used : length bytes + left ≡ most
  pub text : List ℕ
  pub takes : Takes (new_feed policy now) feed bytes text
  pub written : Appends old new text

module _ (policy : Policy) (now most : ℕ) (before : Input) (old : Option (List ℕ)) where
  pub pumped_first : Pumped policy now most most before before (new_feed policy now) old old
  pumped_first = record {
    bytes = [];
    gave = record { left = Consumes-nil before.left; taken = omega arith };
    used = omega arith;
    text = [];
    takes = record { ended = []; rest = []; cut = cut_open [] tt; told = told_none policy now; after_is = refl };
    written = Appends-nil old;
  }

  pub pumped_more : (left rest : ℕ) (mid after : Input) (feed next : FeedState) (piece : List ℕ) (new last : Option (List ℕ)) → Pumped policy now most left before mid feed old new
      → Gave mid after piece → (text : List ℕ) × Takes feed next piece text × Appends new last text → length piece + rest ≡ left
      → Pumped policy now most rest before after next old last
  pumped_more left rest mid after feed next piece new last is gave took less = record {
    bytes = is.bytes ++ piece;
    gave = gave_more before mid after is.bytes piece is.gave gave;
    used = omega (arith, is.used, less, length-append is.bytes piece);
    text = is.text ++ took.0;
    takes = goes_on (new_feed policy now) next is.bytes piece is.text took.0 feed is.takes took.1;
    written = Appends-trans old new last is.text took.0 is.written took.2;
  }

  -- there are no more lines than bytes
  pub counted : (left : ℕ) (after : Input) (feed : FeedState) (new : Option (List ℕ)) → Pumped policy now most left before after feed old new → feed.count ≤ most
  counted left after feed new is =
      let count : feed.count ≡ 0 + length is.takes.ended = ap (λ (f : FeedState). f.count) is.takes.after_is in
      omega (arith, count, is.used, lines_within is.bytes is.takes.ended is.takes.rest is.takes.cut.whole)

  ended_told : (left : ℕ) (after : Input) (feed : FeedState) (new : Option (List ℕ)) → (is : Pumped policy now most left before after feed old new) → ToldEnded policy now is.bytes old new
  ended_told left after feed new is = record { ended = is.takes.ended; rest = is.takes.rest; cut = is.takes.cut; text = is.text; told = is.takes.told; written = is.written }

  -- ---- the source fails, or has one byte too many

  pub pumped_long : (left : ℕ) (mid after : Input) (feed : FeedState) (new : Option (List ℕ)) → Pumped policy now most left before mid feed old new → left ≡ 0 → (byte : ℕ) × Gave mid after (byte ∷ [])
      → FedLong policy now most before after old new
  pumped_long left mid after feed new is none gave =
      let P : List ℕ → Type 0 = λ t. ToldEnded policy now t old new in
      let all : length is.bytes ≡ most = omega (arith, is.used, none) in
      record {
        bytes = is.bytes ++ gave.0 ∷ [];
        gave = gave_more before mid after is.bytes (gave.0 ∷ []) is.gave gave.1;
        over = omega (arith, all, length-append is.bytes (gave.0 ∷ []));
        told = subst P (sym (take_at is.bytes (gave.0 ∷ []) most all)) (ended_told left mid feed new is);
      }

  -- ---- the feed stops in the middle

  -- the front of what is told of the lines that end in what is kept and a piece
  front_carried : (others lines : List (List ℕ)) (behind : List ℕ) (a b : Option (List ℕ)) → length others ≡ length lines
      → ((n : ℕ) (told : List ℕ) → TellsVerdicts policy now (take n others) told → TellsVerdicts policy now (take n lines) told) → TellsFront policy now others behind a b → TellsFront policy now lines behind a b
  front_carried others lines behind a b same tells front = record { count = front.count; text = front.text; told = tells front.count front.text front.told; written = go front.written }
    where
      go : AppendsPrefix a b front.text ⊎ ((take front.count others ≡ others) × AppendsPrefix a b (front.text ++ behind)) → AppendsPrefix a b front.text ⊎ ((take front.count lines ≡ lines) × AppendsPrefix a b (front.text ++ behind))
      go (inl p) = inl p
      go (inr p) =
          let enough : length others ≤ front.count = omega (arith, ap length p.0, length-take front.count others) in
          inr (take_all front.count lines (omega (arith, enough, same)), p.1)

  pub pumped_front : (left : ℕ) (mid after : Input) (feed : FeedState) (piece : List ℕ) (new last : Option (List ℕ)) → Pumped policy now most left before mid feed old new
      → Gave mid after piece → length piece ≤ left → TakesFront feed piece new last → FedFront policy now most before after old last
  pumped_front left mid after feed piece new last is gave less front =
      let takes = is.takes in
      let P : FeedState → Type 0 = λ f. TakesFront f piece new last in
      let whole = subst P takes.after_is front in
      let on = carry policy now is.bytes piece whole.rest takes.ended whole.ended takes.rest takes.cut whole.cut in
      let step = front_carried whole.ended on.lines [] new last on.as_many on.tells whole.front in
      let lines = takes.ended ++ on.lines in
      let told = front_after policy now takes.ended on.lines is.text [] old new last takes.told is.written step in
      record {
        bytes = is.bytes ++ piece;
        gave = gave_more before mid after is.bytes piece is.gave gave;
        within = omega (arith, is.used, less, length-append is.bytes piece);
        lines = lines ++ last_line on.rest;
        lines_are = record { ended = lines; rest = on.rest; cut = on.cut; lines_are = refl };
        front = front_behind policy now (lines ++ last_line on.rest) (end_line (length (lines ++ last_line on.rest))) old last (front_more policy now lines (last_line on.rest) old last told);
      }

  -- ---- the source is at its end

  count_all : (ended : List (List ℕ)) (rest : List ℕ) → count_at_end (taking policy now (kept_rest rest) (0 + length ended)) ≡ length (ended ++ last_line rest)
  count_all ended rest = omega (arith, length-append ended (last_line rest), last_as_many policy now rest)

  pub pumped_unended : (left : ℕ) (mid after : Input) (feed : FeedState) (new last : Option (List ℕ)) → Pumped policy now most left before mid feed old new → Gave mid after []
      → TellsFront feed.policy feed.now (last_line feed.rest) (end_line (count_at_end feed)) new last → FedFront policy now most before after old last
  pumped_unended left mid after feed new last is gave front =
      let takes = is.takes in
      let P : FeedState → Type 0 = λ f. TellsFront f.policy f.now (last_line f.rest) (end_line (count_at_end f)) new last in
      let Q : ℕ → Type 0 = λ n. TellsFront policy now (last_line (kept_rest takes.rest)) (end_line n) new last in
      let G : List ℕ → Type 0 = λ t. Gave before after t in
      let lines = takes.ended ++ last_line takes.rest in
      let whole = subst Q (count_all takes.ended takes.rest) (subst P takes.after_is front) in
      let step = front_carried (last_line (kept_rest takes.rest)) (last_line takes.rest) (end_line (length lines)) new last (last_as_many policy now takes.rest) (last_tells policy now takes.rest) whole in
      record {
        bytes = is.bytes;
        gave = subst G (append-nil is.bytes) (gave_more before mid after is.bytes [] is.gave gave);
        within = omega (arith, is.used);
        lines = lines;
        lines_are = record { ended = takes.ended; rest = takes.rest; cut = takes.cut; lines_are = refl };
        front = front_after policy now takes.ended (last_line takes.rest) is.text (end_line (length lines)) old new last takes.told is.written step;
      }

  pub pumped_all : (left : ℕ) (mid after : Input) (feed : FeedState) (new last : Option (List ℕ)) → Pumped policy now most left before mid feed old new → Gave mid after [] → IsAtEnd mid.left
      → (text : List ℕ) × IsEnded feed text × Appends new last text → FedAll policy now most before after old last
  pumped_all left mid after feed new last is gave at_end ended =
      let takes = is.takes in
      let P : FeedState → Type 0 = λ f. (text : List ℕ) × IsEnded f text × Appends new last text in
      let G : List ℕ → Type 0 = λ t. Gave before after t in
      let whole = subst P takes.after_is ended in
      let lines = takes.ended ++ last_line takes.rest in
      let verdict = whole.1.verdict in
      let last_told = carry_all policy now (last_line (kept_rest takes.rest)) (last_line takes.rest) verdict (last_as_many policy now takes.rest) (last_tells policy now takes.rest) whole.1.told in
      let A : List ℕ → Type 0 = λ t. Appends old last t in
      let text_is : is.text ++ whole.0 ≡ (is.text ++ verdict) ++ end_line (length lines)
      = ap (λ (t : List ℕ). is.text ++ t) (whole.1.text_is ∙ ap (λ (n : ℕ). verdict ++ end_line n) (count_all takes.ended takes.rest))
      ∙ sym (append_assoc is.text verdict (end_line (length lines))) in
      record {
        bytes = is.bytes;
        gave = subst G (append-nil is.bytes) (gave_more before mid after is.bytes [] is.gave gave);
        within = omega (arith, is.used);
        all = Consumes-whole before.left mid.left is.bytes (λ left. left ≡ is.bytes) is.gave.left at_end refl;
        lines = lines;
        lines_are = record { ended = takes.ended; rest = takes.rest; cut = takes.cut; lines_are = refl };
        text = is.text ++ verdict;
        told = told_append policy now takes.ended (last_line takes.rest) is.text verdict takes.told last_told;
        written = subst A text_is (Appends-trans old new last is.text whole.0 is.written whole.2);
      }
