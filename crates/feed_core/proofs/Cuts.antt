-- Texts as lines: each has one cut, and what is cut on goes on.
use Prim.Native.Nat.{zero}
use Rattle.std.proofs.Common.{◌≡◌, ◌≢◌, ◌⊎◌, inl, inr, ℕ, suc, ◌+◌, ◌≤◌, List, [], ◌∷◌, ◌++◌, length, take, refl, sym, ap, ◌∙◌, arith, append_assoc, append-nil, length-append}
use Rattle.std.specs.List.{AllByRecursion, flat_map}
use Rattle.std.proofs.lemmas.List.Concat.{flat_map-append}
use Rattle.cli_parts.specs.Lines.{line}
use Rattle.feed_core.specs.Cut.{IsOneLine, IsCut}

-- ---- what is true of each element

pub all_append : {X : Type 0} (P : X → Type 0) (xs ys : List X) → AllByRecursion P xs → AllByRecursion P ys → AllByRecursion P (xs ++ ys)
all_append P [] ys p q = q
all_append P (x ∷ xs) ys p q = (p.0, all_append P xs ys p.1 q)

pub all_back : {X : Type 0} (P : X → Type 0) (xs ys : List X) → AllByRecursion P (xs ++ ys) → AllByRecursion P ys
all_back P [] ys p = p
all_back P (x ∷ xs) ys p = all_back P xs ys p.1

pub all_take : {X : Type 0} (P : X → Type 0) (n : ℕ) (xs : List X) → AllByRecursion P xs → AllByRecursion P (take n xs)
all_take P zero xs p = tt
all_take P (suc n) [] p = tt
all_take P (suc n) (x ∷ xs) p = (p.0, all_take P n xs p.1)

-- ---- one line

pub cut_line : (text : List ℕ) → IsOneLine text → IsCut (line text) (text ∷ []) []
cut_line text one = record { whole = sym (append-nil (line text)) ∙ sym (append-nil (line text ++ [])); lines = (one, tt); unended = tt }

pub cut_open : (text : List ℕ) → IsOneLine text → IsCut text [] text
cut_open text one = record { whole = refl; lines = tt; unended = one }

-- ---- a cut goes on

pub cut_append : (text more : List ℕ) (ended others : List (List ℕ)) (rest behind : List ℕ)
    → IsCut text ended rest → IsCut (rest ++ more) others behind → IsCut (text ++ more) (ended ++ others) behind
cut_append text more ended others rest behind cut next = record {
  whole = ap (λ (t : List ℕ). t ++ more) cut.whole ∙ append_assoc (flat_map line ended) rest more ∙ ap (λ (t : List ℕ). flat_map line ended ++ t) next.whole
      ∙ sym (append_assoc (flat_map line ended) (flat_map line others) behind) ∙ ap (λ (t : List ℕ). t ++ behind) (sym (flat_map-append line ended others));
  lines = all_append IsOneLine ended others cut.lines next.lines;
  unended = next.unended;
}

-- ---- each text has a cut

pub record Cut (text : List ℕ) : Type 0 where
  pub ended : List (List ℕ)
  pub rest : List ℕ
  pub is : IsCut text ended rest

put_first : (byte : ℕ) (bytes : List ℕ) → byte ≢ 10 → (ended : List (List ℕ)) (rest : List ℕ) → IsCut bytes ended rest → Cut (byte ∷ bytes)
put_first byte bytes other [] rest cut = record { ended = []; rest = byte ∷ rest; is = record { whole = ap (λ (t : List ℕ). byte ∷ t) cut.whole; lines = tt; unended = (other, cut.unended) } }
put_first byte bytes other (first ∷ ended) rest cut =
    record { ended = (byte ∷ first) ∷ ended; rest = rest; is = record { whole = ap (λ (t : List ℕ). byte ∷ t) cut.whole; lines = ((other, cut.lines.0), cut.lines.1); unended = cut.unended } }

end_first : (bytes : List ℕ) → Cut bytes → Cut (10 ∷ bytes)
end_first bytes cut = record { ended = [] ∷ cut.ended; rest = cut.rest; is = record { whole = ap (λ (t : List ℕ). 10 ∷ t) cut.is.whole; lines = (tt, cut.is.lines); unended = cut.is.unended } }

is_end : (byte : ℕ) → (byte ≡ 10) ⊎ (byte ≢ 10)
is_end byte = grind arith

pub cut_of : (text : List ℕ) → Cut text
cut_of [] = record { ended = []; rest = []; is = record { whole = refl; lines = tt; unended = tt } }
cut_of (byte ∷ bytes) = go (is_end byte) (cut_of bytes)
  where
    go : (byte ≡ 10) ⊎ (byte ≢ 10) → Cut bytes → Cut (byte ∷ bytes)
    go (inl is) cut = rw is (end_first bytes cut)
    go (inr other) cut = put_first byte bytes other cut.ended cut.rest cut.is

-- ---- and no other

both : {a b : ℕ} {xs ys : List ℕ} → a ≡ b → xs ≡ ys → a ∷ xs ≡ b ∷ ys
both e f = cc

-- a front with no line end, before what has one behind another such front
pub record Goes (front more first behind : List ℕ) : Type 0 where
  pub middle : List ℕ
  pub first_is : first ≡ front ++ middle
  pub more_is : more ≡ middle ++ 10 ∷ behind

pub front_of_line : (front more first behind : List ℕ) → IsOneLine front → front ++ more ≡ first ++ 10 ∷ behind → Goes front more first behind
front_of_line [] more first behind one same = record { middle = first; first_is = refl; more_is = same }
front_of_line (a ∷ front) more [] behind one same = absurd (one.0 (cc))
front_of_line (a ∷ front) more (b ∷ first) behind one same =
    let heads : a ≡ b = cc in
    let tails : front ++ more ≡ first ++ 10 ∷ behind = cc in
    let rest = front_of_line front more first behind one.1 tails in
    record { middle = rest.middle; first_is = both (sym heads) rest.first_is; more_is = rest.more_is }

one_front : (first other behind beyond : List ℕ) → IsOneLine first → IsOneLine other → first ++ 10 ∷ behind ≡ other ++ 10 ∷ beyond → (first ≡ other) × (behind ≡ beyond)
one_front [] [] behind beyond one two same = (refl, cc)
one_front [] (b ∷ other) behind beyond one two same = let clash : b ≡ 10 = cc in absurd (two.0 clash)
one_front (a ∷ first) [] behind beyond one two same = let clash : a ≡ 10 = cc in absurd (one.0 clash)
one_front (a ∷ first) (b ∷ other) behind beyond one two same =
    let heads : a ≡ b = cc in
    let tails : first ++ 10 ∷ behind ≡ other ++ 10 ∷ beyond = cc in
    let rest = one_front first other behind beyond one.1 two.1 tails in
    (both heads rest.0, rest.1)

no_end : (text first behind : List ℕ) → IsOneLine text → text ≡ first ++ 10 ∷ behind → ⊥
no_end text [] behind one same = let here : IsOneLine (10 ∷ behind) = rw same at one in here.0 refl
no_end text (b ∷ first) behind one same = let here : IsOneLine (b ∷ (first ++ 10 ∷ behind)) = rw same at one in no_end (first ++ 10 ∷ behind) first behind here.1 refl

-- the first line of a cut, and what follows it
pub headed : (first : List ℕ) (ended : List (List ℕ)) (rest : List ℕ) → flat_map line (first ∷ ended) ++ rest ≡ first ++ 10 ∷ (flat_map line ended ++ rest)
headed first ended rest = simp append_assoc

pub one_cut : (text : List ℕ) (ended others : List (List ℕ)) (rest behind : List ℕ) → IsCut text ended rest → IsCut text others behind → (ended ≡ others) × (rest ≡ behind)
one_cut text [] [] rest behind cut other = (refl, sym cut.whole ∙ other.whole)
one_cut text [] (w ∷ ws) rest behind cut other = absurd (no_end rest w (flat_map line ws ++ behind) cut.unended (sym cut.whole ∙ other.whole ∙ headed w ws behind))
one_cut text (v ∷ vs) [] rest behind cut other = absurd (no_end behind v (flat_map line vs ++ rest) other.unended (sym other.whole ∙ cut.whole ∙ headed v vs rest))
one_cut text (v ∷ vs) (w ∷ ws) rest behind cut other =
    let same = sym (headed v vs rest) ∙ sym cut.whole ∙ other.whole ∙ headed w ws behind in
    let first = one_front v w (flat_map line vs ++ rest) (flat_map line ws ++ behind) cut.lines.0 other.lines.0 same in
    let more = one_cut (flat_map line vs ++ rest) vs ws rest behind
    (record { whole = refl; lines = cut.lines.1; unended = cut.unended }) (record { whole = first.1; lines = other.lines.1; unended = other.unended }) in
    (ap (λ (w : List ℕ). w ∷ vs) first.0 ∙ ap (λ (ws : List (List ℕ)). w ∷ ws) more.0, more.1)

-- each line has its line end
pub lines_within : (text : List ℕ) (ended : List (List ℕ)) (rest : List ℕ) → text ≡ flat_map line ended ++ rest → length ended + length rest ≤ length text
lines_within text [] rest same = omega (arith, ap length same)
lines_within text (w ∷ ws) rest same =
    let more = lines_within (flat_map line ws ++ rest) ws rest refl in
    let long = ap length (same ∙ headed w ws rest) in
    omega (arith, more, long, length-append w (10 ∷ (flat_map line ws ++ rest)))
