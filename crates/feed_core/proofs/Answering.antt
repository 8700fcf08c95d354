-- What a feed has answered of a piece that it goes through.
use Rattle.std.proofs.Common.{◌≡◌, ℕ, ◌+◌, List, [], ◌∷◌, ◌++◌, length, refl, sym, ap, subst, ◌∙◌, arith, append_assoc, append-nil, length-append, Option}
use Rattle.std.proofs.KnownBytes.{Appends-nil, Appends-trans}
use Rattle.std.specs.Io.KnownBytes.{Appends}
use Rattle.sd_outside.specs.Causes.{AppendsPrefix}
use Rattle.verifier_core.specs.declared.policy.Policy.{Policy}
use Rattle.cli_parts.specs.Lines.{line}
use Rattle.feed_core.specs.Cut.{IsOneLine, IsCut}
use Rattle.feed_core.specs.FeedVerdict.{TellsVerdicts}
use Rattle.feed_core.specs.Feed.{taking}
use Rattle.feed_core.specs.FeedCalls.{TakesFront}
use Rattle.feed_core.proofs.Cuts.{all_append, cut_append, cut_line, cut_open, cut_of}
use Rattle.feed_core.proofs.Told.{told_none, told_append}
use Rattle.feed_core.proofs.Fronts.{front_all, front_more, prefix_after}

-- of what was kept and the piece a front was read, and its lines are told, the last ones by what is held
pub record Answered (policy : Policy) (now : ℕ) (start piece left rest : List ℕ) (first count : ℕ) (held : List ℕ) (old new : Option (List ℕ)) : Type 0 where
  pub front : List ℕ
  pub whole : start ++ piece ≡ front ++ left
  pub ended : List (List ℕ)
  pub cut : IsCut front ended rest
  pub sent : List ℕ
  pub told : TellsVerdicts policy now ended (sent ++ held)
  pub written : Appends old new sent
  pub count_is : count ≡ first + length ended

module _ (policy : Policy) (now : ℕ) (start piece : List ℕ) (first : ℕ) (old : Option (List ℕ)) where
  pub answered_first : IsOneLine start → Answered policy now start piece piece start first first [] old old
  answered_first one = record { front = start; whole = refl; ended = []; cut = cut_open start one; sent = []; told = told_none policy now; written = Appends-nil old; count_is = omega arith }

  line_on : (rest bytes : List ℕ) → IsOneLine rest → IsOneLine bytes → IsCut (rest ++ line bytes) ((rest ++ bytes) ∷ []) []
  line_on rest bytes one two = let P : List ℕ → Type 0 = λ t. IsCut t ((rest ++ bytes) ∷ []) [] in subst P (append_assoc rest bytes (10 ∷ [])) (cut_line (rest ++ bytes) (all_append _ rest bytes one two))

  -- the verdict on the line that ends next is added
  pub answered_more : (left bytes more rest held text after : List ℕ) (count : ℕ) (new : Option (List ℕ)) → Answered policy now start piece left rest first count held old new
      → left ≡ bytes ++ 10 ∷ more → IsOneLine bytes → TellsVerdicts policy now ((rest ++ bytes) ∷ []) text → after ≡ held ++ text
      → Answered policy now start piece more [] first (count + 1) after old new
  answered_more left bytes more rest held text after count new is split one told added =
      let P : List ℕ → Type 0 = λ t. TellsVerdicts policy now (is.ended ++ (rest ++ bytes) ∷ []) t in
      record {
        front = is.front ++ line bytes;
        whole = is.whole ∙ ap (λ (t : List ℕ). is.front ++ t) (split ∙ sym (append_assoc bytes (10 ∷ []) more)) ∙ sym (append_assoc is.front (line bytes) more);
        ended = is.ended ++ (rest ++ bytes) ∷ [];
        cut = cut_append is.front (line bytes) is.ended ((rest ++ bytes) ∷ []) rest [] is.cut (line_on rest bytes is.cut.unended one);
        sent = is.sent;
        told = subst P (append_assoc is.sent held text ∙ ap (λ (t : List ℕ). is.sent ++ t) (sym added)) (told_append policy now is.ended ((rest ++ bytes) ∷ []) (is.sent ++ held) text is.told told);
        written = is.written;
        count_is = omega (arith, is.count_is, length-append is.ended ((rest ++ bytes) ∷ []));
      }

  -- a front of what is held was written
  pub answered_sent : (left rest held text after : List ℕ) (count : ℕ) (mid new : Option (List ℕ)) → Answered policy now start piece left rest first count held old mid
      → held ≡ text ++ after → Appends mid new text → Answered policy now start piece left rest first count after old new
  answered_sent left rest held text after count mid new is split written =
      let P : List ℕ → Type 0 = λ t. TellsVerdicts policy now is.ended t in
      record {
        front = is.front;
        whole = is.whole;
        ended = is.ended;
        cut = is.cut;
        sent = is.sent ++ text;
        told = subst P (ap (λ (t : List ℕ). is.sent ++ t) split ∙ sym (append_assoc is.sent text after)) is.told;
        written = Appends-trans old mid new is.sent text is.written written;
        count_is = is.count_is;
      }

  -- ---- the feed stops, when a front of what is held was written

  pub answered_stopped : (left rest held : List ℕ) (count : ℕ) (mid new : Option (List ℕ)) → Answered policy now start piece left rest first count held old mid
      → AppendsPrefix mid new held → TakesFront (taking policy now start first) piece old new
  answered_stopped left rest held count mid new is part =
      let behind = cut_of (rest ++ left) in
      let P : List ℕ → Type 0 = λ t. IsCut t (is.ended ++ behind.ended) behind.rest in
      record {
        ended = is.ended ++ behind.ended;
        rest = behind.rest;
        cut = subst P (sym is.whole) (cut_append is.front left is.ended behind.ended rest behind.rest is.cut behind.is);
        front = front_more policy now is.ended behind.ended old new
            (front_all policy now is.ended (is.sent ++ held) [] old new is.told (rw append-nil (prefix_after old mid new is.sent held is.written part)));
      }
