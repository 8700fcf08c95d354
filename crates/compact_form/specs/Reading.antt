-- For private functions: the states of the reader, and what it has read.
use Rattle.std.specs.Prelude.{◌≡◌, ◌<◌, ◌≤◌, ◌++◌, length, take, get_or, codes, ℕ, ◌==◌, Bool, true, false, not, if◌then◌else◌, List, [], ◌∷◌, Option, None, Some}
use Rattle.std.specs.List.{AllByRecursion}
use Rattle.std.specs.Option.{option_and_then}
use Rattle.b64url_text.specs.Base64url.{is_letter, IsWord}
use Rattle.compact_form.specs.declared.parts.JwtParts.{JwtParts}
use Rattle.compact_form.specs.Compact.{jwt, spelled, HasWords}
use Rattle.compact_form.specs.declared.field.Field.{Field}
use Rattle.compact_form.specs.declared.field.Field.TheVariants.{Protected, Payload, Signature, Piece, BindingPayload, BindingSignature}

-- the field that a byte opens behind a word of this one
abbrev pub field_after : Field → ℕ → Option Field
field_after Protected byte = if byte == 46 then Some Payload else None
field_after Payload byte = if byte == 46 then Some Signature else None
field_after Signature byte = if byte == 126 then Some Piece else None
field_after Piece byte =
    if byte == 126 then Some Piece else if byte == 46 then Some BindingPayload else None
field_after BindingPayload byte = if byte == 46 then Some BindingSignature else None
field_after BindingSignature byte = None

-- a field, and whether a letter of it was read
abbrev pub State : Type 0
State = Field × Bool

abbrev pub step : State → ℕ → Option State
step state byte =
    if is_letter byte then Some (state.0, true)
    else if state.1
    then option_and_then (λ field. Some (field, false)) (field_after state.0 byte) else None

abbrev pub run : State → List ℕ → Option State
run state [] = Some state
run state (byte ∷ bytes) = option_and_then (λ next. run next bytes) (step state byte)

-- a compact text may end here
abbrev pub may_end : State → Bool
may_end (Protected, begun) = false
may_end (Payload, begun) = false
may_end (Signature, begun) = false
may_end (Piece, begun) = not begun
may_end (BindingPayload, begun) = false
may_end (BindingSignature, begun) = begun

-- so many bytes of the text bring the scanner to this state
pub record BringsTo (text : List ℕ) (at : ℕ) (state : State) : Type 0 where
  pub within : at ≤ length text
  pub so_far : run (Protected, false) (take at text) ≡ Some state

-- a word of this field ends there
pub record EndsWord (text : List ℕ) (at : ℕ) (field : Field) : Type 0 where
  pub stands : BringsTo text at (field, true)
  pub no_letter : at < length text → is_letter (get_or text at 0) ≡ false

-- the byte behind a word of a field opens the next
pub record OpensField (text : List ℕ) (from to : ℕ) (field next : Field) : Type 0 where
  pub byte : ℕ
  pub opens : field_after field byte ≡ Some next
  pub grows : take to text ≡ take from text ++ (byte ∷ [])
  pub stands : BringsTo text to (next, false)

-- the front of the text is the spelling of this jwt, of words, and a tilde
pub record Signed (text : List ℕ) (at : ℕ) (j : JwtParts) : Type 0 where
  pub words : HasWords j
  pub front : take at text ≡ jwt j ++ codes "~"
  pub stands : BringsTo text at (Piece, false)

-- the text from a place on is this jwt, without its first word and dot
pub record Bound (text : List ℕ) (at : ℕ) (word : List ℕ) (j : JwtParts) : Type 0 where
  pub first : j.protected ≡ word
  pub words : HasWords j
  pub spelling : text ≡ take at text ++ (j.payload ++ (codes "." ++ j.signature))

-- the text is read up to `at`: a jwt and a tilde, and from there so many disclosures
pub record Gathered (text : List ℕ) (from at count : ℕ) (j : JwtParts) : Type 0 where
  pub disclosures : List (List ℕ)
  pub signed : HasWords j
  pub are_words : AllByRecursion IsWord disclosures
  pub later : from ≤ at
  pub opening : take from text ≡ jwt j ++ codes "~"
  pub front : take at text ≡ jwt j ++ (codes "~" ++ spelled disclosures)
  pub counted : count ≡ length disclosures
  pub few : count ≤ at
  pub stands : BringsTo text at (Piece, false)
