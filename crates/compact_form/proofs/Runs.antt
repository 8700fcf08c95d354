-- The scanner takes each compact text to an end.
use Rattle.std.proofs.Common.{◌≡◌, ℕ, ◌+◌, ◌<◌, take, get_or, Bool, true, false, List, [], ◌∷◌, ◌++◌, Option, None, Some, length, refl, ap, ◌∙◌, sym, arith, append_assoc, append-nil}
use Rattle.std.specs.Prelude.{IfSome}
use Rattle.std.specs.List.{list_all, AllByRecursion}
use Rattle.std.specs.Option.{option_and_then}
use Rattle.std.proofs.lemmas.Bool.{and_parts}
use Rattle.std.proofs.lemmas.List.{take_more}
use Rattle.b64url_text.specs.Base64url.{letters, is_letter, IsWord}
use Rattle.compact_form.specs.declared.field.Field.{Field}
use Rattle.compact_form.specs.declared.field.Field.TheVariants.{Protected, Payload, Signature, Piece, BindingPayload, BindingSignature}
use Rattle.compact_form.specs.declared.parts.JwtParts.{JwtParts}
use Rattle.compact_form.specs.declared.parts.Parts.{Parts}
use Rattle.compact_form.specs.Compact.{jwt, spelled, ending, compact, HasWords, IsCompact}
use Rattle.compact_form.specs.Reading.{State, step, run, field_after, may_end}

pub dot : is_letter 46 ≡ false
unfolding is_letter letters
dot = refl

pub tilde : is_letter 126 ≡ false
unfolding is_letter letters
tilde = refl

onward : (o : Option State) (xs ys : List ℕ) → ((t : State) → run t (xs ++ ys) ≡ option_and_then (λ s. run s ys) (run t xs)) → option_and_then (λ t. run t (xs ++ ys)) o ≡ option_and_then (λ s. run s ys) (option_and_then (λ t. run t xs) o)
onward None xs ys h = refl
onward (Some t) xs ys h = h t

pub run-append : (s : State) (xs ys : List ℕ) → run s (xs ++ ys) ≡ option_and_then (λ t. run t ys) (run s xs)
run-append s [] ys = refl
run-append s (x ∷ xs) ys = onward (step s x) xs ys (λ t. run-append t xs ys)

run_letters : (f : Field) (w rest : List ℕ) → list_all is_letter w ≡ true → run (f, true) (w ++ rest) ≡ run (f, true) rest
run_letters f [] rest h = refl
run_letters f (b ∷ w) rest h = let p = and_parts (is_letter b) (list_all is_letter w) h in rw p.0 (run_letters f w rest p.1)

run_word : (f : Field) (begun : Bool) (w rest : List ℕ) → IsWord w → run (f, begun) (w ++ rest) ≡ run (f, true) rest
run_word f begun [] rest h = absurd (omega (arith, h.some))
run_word f begun (b ∷ w) rest h = let p = and_parts (is_letter b) (list_all is_letter w) h.letters in rw p.0 (run_letters f w rest p.1)

run_dot : (f g : Field) (rest : List ℕ) → field_after f 46 ≡ Some g → run (f, true) (46 ∷ rest) ≡ run (g, false) rest
run_dot f g rest h = rw (dot, h) refl

run_tilde : (f g : Field) (rest : List ℕ) → field_after f 126 ≡ Some g → run (f, true) (126 ∷ rest) ≡ run (g, false) rest
run_tilde f g rest h = rw (tilde, h) refl

run_jwt : (f g h : Field) (j : JwtParts) (rest : List ℕ) → field_after f 46 ≡ Some g → field_after g 46 ≡ Some h → HasWords j → run (f, false) (jwt j ++ rest) ≡ run (h, true) rest
run_jwt f g h j rest p q words =
    let regrouped : jwt j ++ rest ≡ j.protected ++ (46 ∷ (j.payload ++ (46 ∷ (j.signature ++ rest)))) = simp append_assoc in
    ap (run (f, false)) regrouped
    ∙ run_word f false j.protected (46 ∷ (j.payload ++ (46 ∷ (j.signature ++ rest)))) words.protected
    ∙ run_dot f g (j.payload ++ (46 ∷ (j.signature ++ rest))) p
    ∙ run_word g false j.payload (46 ∷ (j.signature ++ rest)) words.payload
    ∙ run_dot g h (j.signature ++ rest) q
    ∙ run_word h false j.signature rest words.signature

run_spelled : (ds : List (List ℕ)) (rest : List ℕ) → AllByRecursion IsWord ds → run (Piece, false) (spelled ds ++ rest) ≡ run (Piece, false) rest
run_spelled [] rest words = refl
run_spelled (d ∷ ds) rest words =
    let regrouped : spelled (d ∷ ds) ++ rest ≡ d ++ (126 ∷ (spelled ds ++ rest)) = simp append_assoc in
    ap (run (Piece, false)) regrouped
    ∙ run_word Piece false d (126 ∷ (spelled ds ++ rest)) words.0
    ∙ run_tilde Piece Piece (spelled ds ++ rest) refl
    ∙ run_spelled ds rest words.1

ends : (b : Option JwtParts) → IfSome b HasWords → (s : State) × ((run (Piece, false) (ending b) ≡ Some s) × (may_end s ≡ true))
ends None words = ((Piece, false), (refl, refl))
ends (Some j) words =
    ((BindingSignature, true), (ap (run (Piece, false)) (sym (append-nil (jwt j))) ∙ run_jwt Piece BindingPayload BindingSignature j [] refl refl words, refl))

pub accepted : (parts : Parts) (text : List ℕ) → IsCompact parts text → (s : State) × ((run (Protected, false) text ≡ Some s) × (may_end s ≡ true))
accepted parts text is =
    let last = ends parts.binding is.binding in
    let regrouped : compact parts ≡ jwt parts.signed ++ (126 ∷ (spelled parts.disclosures ++ ending parts.binding)) = simp append_assoc in (
      last.0,
      (
        ap (run (Protected, false)) (is.spelling ∙ regrouped)
            ∙ run_jwt Protected Payload Signature parts.signed (126 ∷ (spelled parts.disclosures ++ ending parts.binding)) refl refl is.signed
            ∙ run_tilde Signature Piece (spelled parts.disclosures ++ ending parts.binding) refl
            ∙ run_spelled parts.disclosures (ending parts.binding) is.disclosures
            ∙ last.1.0,
        last.1.1,
      ),
    )

as_it_is : (o : Option State) → option_and_then (λ t. Some t) o ≡ o
as_it_is None = refl
as_it_is (Some t) = refl

-- the scan of one byte more
pub run_more : (s t : State) (x : List ℕ) (i b : ℕ) → i < length x → b ≡ get_or x i 0 → run s (take i x) ≡ Some t → run s (take (i + 1) x) ≡ step t b
run_more s t x i b l at h =
    ap (run s) (take_more x i 0 l)
    ∙ run-append s (take i x) (get_or x i 0 ∷ [])
    ∙ ap (option_and_then (λ u. run u (get_or x i 0 ∷ []))) h
    ∙ ap (λ (c : ℕ). run t (c ∷ [])) (sym at)
    ∙ as_it_is (step t b)

-- the scan of a whole word
pub run_whole : (f : Field) (w : List ℕ) → IsWord w → run (f, false) w ≡ Some (f, true)
run_whole f w is = ap (run (f, false)) (sym (append-nil w)) ∙ run_word f false w [] is

-- the scan of a byte that is no letter, behind a word
pub step_behind : (f : Field) (b : ℕ) → is_letter b ≡ false → step (f, true) b ≡ option_and_then (λ g. Some (g, false)) (field_after f b)
step_behind f b h = rw h refl

-- the same with no letter before it
pub step_before : (f : Field) (b : ℕ) → is_letter b ≡ false → step (f, false) b ≡ None
step_before f b h = rw h refl
