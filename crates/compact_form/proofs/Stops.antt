-- Where the scanner stops, each front that goes further begins no compact text.
use Rattle.std.proofs.Common.{◌≡◌, ℕ, ◌+◌, ◌<◌, ◌≤◌, true, false, List, [], ◌∷◌, ◌++◌, None, Some, length, take, drop, refl, ap, ◌∙◌, sym, subst, arith, append_assoc}
use Rattle.std.specs.Option.{option_and_then}
use Rattle.std.proofs.lemmas.List.{take-append-drop, take-take, take_all}
use Rattle.b64url_text.specs.Base64url.{letters, is_letter}
use Rattle.compact_form.specs.declared.field.Field.TheVariants.{Protected, Payload, Signature, Piece, BindingPayload, BindingSignature}
use Rattle.compact_form.specs.declared.parts.Parts.{Parts}
use Rattle.compact_form.specs.Compact.{IsCompact, Begins, IsMisformedAt}
use Rattle.compact_form.specs.Reading.{State, run, may_end}
use Rattle.compact_form.proofs.Runs.{run-append, accepted}
use Rattle.compact_form.proofs.Cuts.{from_end}

-- how a text may go on to an end
record Goes (s : State) : Type 0 where
  rest : List ℕ
  last : State
  there : run s rest ≡ Some last
  ends : may_end last ≡ true

goes : (s : State) → Goes s
unfolding is_letter letters
goes (Protected, false) = record { rest = 97 ∷ 46 ∷ 97 ∷ 46 ∷ 97 ∷ 126 ∷ []; last = (Piece, false); there = refl; ends = refl }
goes (Protected, true) = record { rest = 46 ∷ 97 ∷ 46 ∷ 97 ∷ 126 ∷ []; last = (Piece, false); there = refl; ends = refl }
goes (Payload, false) = record { rest = 97 ∷ 46 ∷ 97 ∷ 126 ∷ []; last = (Piece, false); there = refl; ends = refl }
goes (Payload, true) = record { rest = 46 ∷ 97 ∷ 126 ∷ []; last = (Piece, false); there = refl; ends = refl }
goes (Signature, false) = record { rest = 97 ∷ 126 ∷ []; last = (Piece, false); there = refl; ends = refl }
goes (Signature, true) = record { rest = 126 ∷ []; last = (Piece, false); there = refl; ends = refl }
goes (Piece, false) = record { rest = []; last = (Piece, false); there = refl; ends = refl }
goes (Piece, true) = record { rest = 126 ∷ []; last = (Piece, false); there = refl; ends = refl }
goes (BindingPayload, false) = record { rest = 97 ∷ 46 ∷ 97 ∷ []; last = (BindingSignature, true); there = refl; ends = refl }
goes (BindingPayload, true) = record { rest = 46 ∷ 97 ∷ []; last = (BindingSignature, true); there = refl; ends = refl }
goes (BindingSignature, false) = record { rest = 97 ∷ []; last = (BindingSignature, true); there = refl; ends = refl }
goes (BindingSignature, true) = record { rest = []; last = (BindingSignature, true); there = refl; ends = refl }

abbrev start : State
start = (Protected, false)

begins : (x : List ℕ) (s : State) → run start x ≡ Some s → Begins x
begins x s h =
    let on = goes s in
    let all : run start (x ++ on.rest) ≡ Some on.last = run-append start x on.rest ∙ ap (option_and_then (λ t. run t on.rest)) h ∙ on.there in
    let is = from_end (x ++ on.rest) on.last all on.ends in
    (is.0, (on.rest, is.1))

dead : (x : List ℕ) → run start x ≡ None → Begins x → ⊥
dead x h b =
    let there = accepted b.0 (x ++ b.1.0) b.1.1 in
    let not_there : run start (x ++ b.1.0) ≡ None = run-append start x b.1.0 ∙ ap (option_and_then (λ t. run t b.1.0)) h in
    let e = there.1.0 in cc

front_begins : (x y : List ℕ) → Begins (x ++ y) → Begins x
front_begins x y b = (b.0, (y ++ b.1.0, subst (IsCompact b.0) (append_assoc x y b.1.0) b.1.1))

text_begins : (x : List ℕ) (n : ℕ) (parts : Parts) → IsCompact parts x → Begins (take n x)
text_begins x n parts is = (parts, (drop n x, subst (IsCompact parts) (sym (take-append-drop n x)) is))

further : (x : List ℕ) (m n : ℕ) → m ≤ n → Begins (take n x) → Begins (take m x)
further x m n le b =
    let cut : take m (take n x) ++ drop m (take n x) ≡ take n x = take-append-drop m (take n x) in
    let begun : Begins (take m (take n x)) = front_begins (take m (take n x)) (drop m (take n x)) (subst Begins (sym cut) b) in
    subst Begins (take-take m n x le) begun

pub refused_at_byte : (x : List ℕ) (i : ℕ) (s : State) → i < length x → run start (take i x) ≡ Some s → run start (take (i + 1) x) ≡ None → IsMisformedAt x i
refused_at_byte x i s l there gone = record {
  no_parts = λ parts is. dead (take (i + 1) x) gone (text_begins x (i + 1) parts is);
  longest = record {
    within = omega arith;
    begins = begins (take i x) s there;
    longest = λ more above within b. dead (take (i + 1) x) gone (further x (i + 1) more (omega arith) b);
  };
}

no_end : (s t : State) → Some s ≡ Some t → may_end s ≡ false → may_end t ≡ true → ⊥
no_end s t e bare ends = cc

whole : (x : List ℕ) (end : ℕ) (s : State) → end ≡ length x → run start (take end x) ≡ Some s → run start x ≡ Some s
whole x end s e h = ap (run start) (sym (take_all end x (omega arith))) ∙ h

pub refused_at_end : (x : List ℕ) (end : ℕ) (s : State) → end ≡ length x → run start (take end x) ≡ Some s → may_end s ≡ false → IsMisformedAt x end
refused_at_end x end s e there open_end = record {
  no_parts = λ parts is. let a = accepted parts x is in no_end s a.0 (sym (whole x end s e there) ∙ a.1.0) open_end a.1.1;
  longest = record {
    within = omega arith;
    begins = begins (take end x) s there;
    longest = λ more above within b. absurd (omega arith);
  };
}
