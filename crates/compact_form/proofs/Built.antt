-- How the parts are read off a text that is compact.
use Rattle.std.proofs.Common.{◌≡◌, ℕ, List, ◌∷◌, ◌++◌, Option, None, Some, ap, ◌∙◌, sym, append_assoc}
use Rattle.std.specs.Prelude.{slice_get, IfSome}
use Rattle.compact_form.specs.declared.parts.JwtParts.{JwtParts}
use Rattle.compact_form.specs.Compact.{jwt, ending, HasWords}
use Rattle.compact_form.proofs.FrontWords.{word_len, front_word, behind_word}
use Rattle.compact_form.proofs.Runs.{dot, tilde}
use Rattle.compact_form.proofs.Fronts.{front_at, last_at}

-- the three words at the front of a text
pub record Fronts (x : List ℕ) (j : JwtParts) : Type 0 where
  pub protected : j.protected ≡ front_word x
  pub payload : j.payload ≡ front_word (behind_word x)
  pub signature : j.signature ≡ front_word (behind_word (behind_word x))

abbrev jwt_of : List ℕ → List ℕ → List ℕ → JwtParts
jwt_of a b c = record { protected = a; payload = b; signature = c }

same_texts : (a b c d e f : List ℕ) → a ≡ d → b ≡ e → c ≡ f → jwt_of a b c ≡ jwt_of d e f
same_texts a b c d e f p q r = cc

pub same_fronts : (x : List ℕ) (j k : JwtParts) → Fronts x j → Fronts x k → j ≡ k
same_fronts x j k f g =
    same_texts j.protected j.payload j.signature k.protected k.payload k.signature
    (f.protected ∙ sym g.protected) (f.payload ∙ sym g.payload) (f.signature ∙ sym g.signature)

-- a jwt and a tilde, and what stands behind them
pub jwt_fronts : (x more : List ℕ) (j : JwtParts) → HasWords j → x ≡ jwt j ++ (126 ∷ more) → Fronts x j × (behind_word (behind_word (behind_word x)) ≡ more)
jwt_fronts x more j words is =
    let regrouped : x ≡ j.protected ++ (46 ∷ (j.payload ++ (46 ∷ (j.signature ++ (126 ∷ more))))) = is ∙ simp append_assoc in
    let one = front_at x j.protected (j.payload ++ (46 ∷ (j.signature ++ (126 ∷ more)))) 46 words.protected.letters dot regrouped in
    let two = front_at (behind_word x) j.payload (j.signature ++ (126 ∷ more)) 46 words.payload.letters dot one.behind in
    let three = front_at (behind_word (behind_word x)) j.signature more 126 words.signature.letters tilde two.behind in
    (record { protected = sym one.front; payload = sym two.front; signature = sym three.front }, three.behind)

-- a jwt to the end
pub last_fronts : (x : List ℕ) (j : JwtParts) → HasWords j → x ≡ jwt j → Fronts x j
last_fronts x j words is =
    let one = front_at x j.protected (j.payload ++ (46 ∷ j.signature)) 46 words.protected.letters dot is in
    let two = front_at (behind_word x) j.payload j.signature 46 words.payload.letters dot one.behind in
    let three = last_at (behind_word (behind_word x)) j.signature words.signature.letters two.behind in
    record { protected = sym one.front; payload = sym two.front; signature = sym three.front }

nothing_there : (o : Option ℕ) (n : ℕ) → o ≡ None → o ≡ Some n → ⊥
nothing_there o n h k = cc

other_byte : (o : Option ℕ) → o ≡ Some 46 → o ≡ Some 126 → ⊥
other_byte o h k = cc

-- no tilde stands behind the first word of an ending
pub no_piece : (b : Option JwtParts) (x : List ℕ) → IfSome b HasWords → x ≡ ending b → slice_get x (word_len x) ≡ Some 126 → ⊥
no_piece None x words is h = nothing_there (slice_get x (word_len x)) 126 (ap (λ (y : List ℕ). slice_get y (word_len y)) is) h
no_piece (Some j) x words is h =
    other_byte (slice_get x (word_len x)) (front_at x j.protected (j.payload ++ (46 ∷ j.signature)) 46 words.protected.letters dot is).byte h
