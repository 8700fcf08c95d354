-- A text that has no lone tilde and begins with a slash is the pointer of a path.
use Rattle.std.proofs.Common.{◌≡◌, ◌≢◌, ℕ, Bool, true, false, List, [], ◌∷◌, ◌++◌, refl, sym, ap, ◌↔◌}
use Rattle.std.specs.Prelude.{◌==◌}
use Rattle.std.proofs.lemmas.Bool.Decides.{Decides-eqb}
use Rattle.claim_tree.specs.Path.{escaped_byte, escaped, pointer_text}
use Rattle.claim_tree.specs.PointerRefusals.{EndsNoEscape, HasLoneTilde, IsNoPointer, no_slash, lone_tilde}
use Rattle.claim_tree.proofs.PointerEscapes.{plain_byte}
use Rattle.claim_tree.proofs.PointerTildes.{begins_not}
use Rattle.claim_tree.proofs.PointerTexts.{no_path}

-- a text, behind a slash: a step with the pointer that follows it, or a lone tilde
data Ends (text : List ℕ) : Type 0 where
  with_step : (step : List ℕ) (path : List (List ℕ)) → text ≡ escaped step ++ pointer_text path → Ends text
  with_tilde : HasLoneTilde text → Ends text

same : (b k : ℕ) → true ≡ (b == k) → b ≡ k
same b k is = (Decides-eqb b k).0 (sym is)

other : (b k : ℕ) → false ≡ (b == k) → b ≢ k
other b k is e = let yes : (b == k) ≡ true = (Decides-eqb b k).1 e in cc

further : (b : ℕ) (bs : List ℕ) → HasLoneTilde bs → HasLoneTilde (b ∷ bs)
further b bs lone = record { front = b ∷ lone.front; rest = lone.rest; stands = ap (λ (x : List ℕ). b ∷ x) lone.stands; alone = lone.alone }

first_tilde : (rest : List ℕ) → EndsNoEscape rest → HasLoneTilde (126 ∷ rest)
first_tilde rest alone = record { front = []; rest = rest; stands = refl; alone = alone }

other_letter : (c : ℕ) (bs : List ℕ) → c ≢ 48 → c ≢ 49 → EndsNoEscape (c ∷ bs)
other_letter c bs n m = record { no_zero = begins_not 48 (c ∷ bs) (λ rest e. n (cc e)); no_one = begins_not 49 (c ∷ bs) (λ rest e. m (cc e)) }

-- an escape, behind which the text goes on
escape_of : (letter sign : ℕ) (bs : List ℕ) → escaped_byte sign ≡ 126 ∷ letter ∷ [] → Ends bs → Ends (126 ∷ letter ∷ bs)
escape_of letter sign bs written (with_step step path is) = with_step (sign ∷ step) path (rw written (ap (λ (x : List ℕ). 126 ∷ letter ∷ x) is))
escape_of letter sign bs written (with_tilde lone) = with_tilde (further 126 (letter ∷ bs) (further letter bs lone))

by_letter : (t u : Bool) (c : ℕ) (bs : List ℕ) → t ≡ (c == 48) → u ≡ (c == 49) → Ends bs → Ends (126 ∷ c ∷ bs)
by_letter true u c bs zero one ends = rw (same c 48 zero) (escape_of 48 126 bs refl ends)
by_letter false true c bs zero one ends = rw (same c 49 one) (escape_of 49 47 bs refl ends)
by_letter false false c bs zero one ends = with_tilde (first_tilde (c ∷ bs) (other_letter c bs (other c 48 zero) (other c 49 one)))

slash_first : (bs : List ℕ) → Ends bs → Ends (47 ∷ bs)
slash_first bs (with_step step path is) = with_step [] (step ∷ path) (ap (λ (x : List ℕ). 47 ∷ x) is)
slash_first bs (with_tilde lone) = with_tilde (further 47 bs lone)

plain_first : (b : ℕ) (bs : List ℕ) → b ≢ 126 → b ≢ 47 → Ends bs → Ends (b ∷ bs)
plain_first b bs n m (with_step step path is) = with_step (b ∷ step) path (rw (plain_byte b n m) (ap (λ (x : List ℕ). b ∷ x) is))
plain_first b bs n m (with_tilde lone) = with_tilde (further b bs lone)

by_byte : (t u : Bool) (b : ℕ) (bs : List ℕ) → t ≡ (b == 126) → u ≡ (b == 47) → Ends (126 ∷ bs) → Ends bs → Ends (b ∷ bs)
by_byte true u b bs tilde slash escape ends = rw (same b 126 tilde) escape
by_byte false true b bs tilde slash escape ends = rw (same b 47 slash) (slash_first bs ends)
by_byte false false b bs tilde slash escape ends = plain_first b bs (other b 126 tilde) (other b 47 slash) ends

ends_of : (text : List ℕ) → Ends text
ends_of [] = with_step [] [] refl
ends_of (b ∷ []) = by_byte (b == 126) (b == 47) b [] refl refl (with_tilde (first_tilde [] (record { no_zero = refl; no_one = refl }))) (ends_of [])
ends_of (b ∷ c ∷ bs) = by_byte (b == 126) (b == 47) b (c ∷ bs) refl refl (by_letter (c == 48) (c == 49) c bs refl refl (ends_of bs)) (ends_of (c ∷ bs))

pointer_of : (bs : List ℕ) → Ends bs → ((path : List (List ℕ)) → 47 ∷ bs ≢ pointer_text path) → IsNoPointer (47 ∷ bs)
pointer_of bs (with_step step path is) none = absurd (none (step ∷ path) (ap (λ (x : List ℕ). 47 ∷ x) is))
pointer_of bs (with_tilde lone) none = lone_tilde (further 47 bs lone)

by_first : (t : Bool) (b : ℕ) (bs : List ℕ) → t ≡ (b == 47) → ((path : List (List ℕ)) → b ∷ bs ≢ pointer_text path) → IsNoPointer (b ∷ bs)
by_first true b bs slash none = let is = same b 47 slash in rw is (pointer_of bs (ends_of bs) (λ path e. none path (rw is e)))
by_first false b bs slash none = no_slash (λ e. cc e) (begins_not 47 (b ∷ bs) (λ rest e. other b 47 slash (cc e)))

from_no_path : (text : List ℕ) → ((path : List (List ℕ)) → text ≢ pointer_text path) → IsNoPointer text
from_no_path [] none = absurd (none [] refl)
from_no_path (b ∷ bs) none = by_first (b == 47) b bs refl none

-- a text is no pointer exactly where it is that of no path
pub is_no_pointer : (text : List ℕ) → IsNoPointer text ↔ ((path : List (List ℕ)) → text ≢ pointer_text path)
is_no_pointer text = ((λ broken path. no_path text path broken), from_no_path text)
