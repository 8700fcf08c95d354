-- A pointer is that of one path.
use Rattle.std.proofs.Common.{◌≡◌, ◌≢◌, ℕ, Bool, true, false, cond, List, [], ◌∷◌, ◌++◌, refl, sym, ap, ◌∙◌, append_assoc, append-nil}
use Rattle.std.specs.Prelude.{nat_eq, ◌==◌}
use Rattle.std.specs.List.{starts_with}
use Rattle.std.proofs.lemmas.Bool.Decides.{Decides-eqb}
use Rattle.claim_tree.specs.Path.{escaped_byte, escaped, pointer_text}
use Rattle.claim_tree.specs.PointerRefusals.{IsNoPointer, no_slash, lone_tilde}
use Rattle.claim_tree.proofs.PointerTildes.{no_lone_tilde}

-- the step whose end is read, and the steps behind it
record Read : Type 0 where
  step : List ℕ
  steps : List (List ℕ)

-- the letter behind a `~` makes way for what the two stand for
abbrev meant : List ℕ → List ℕ
meant [] = []
meant (letter ∷ step) = cond (letter == 48) 126 47 ∷ step

abbrev read_byte : ℕ → Read → Read
read_byte b r = cond (b == 47) (record { step = []; steps = r.step ∷ r.steps }) (cond (b == 126) (record { step = meant r.step; steps = r.steps }) (record { step = b ∷ r.step; steps = r.steps }))

-- a pointer, read from its end
abbrev read : List ℕ → Read
read [] = record { step = []; steps = [] }
read (b ∷ bs) = read_byte b (read bs)

one_byte : (t u : Bool) (b : ℕ) (rest : List ℕ) → t ≡ (b == 126) → u ≡ (b == 47)
    → read (cond t (126 ∷ 48 ∷ []) (cond u (126 ∷ 49 ∷ []) (b ∷ [])) ++ rest) ≡ record { step = b ∷ (read rest).step; steps = (read rest).steps }
one_byte true u b rest is slash = rw ((Decides-eqb b 126).0 (sym is)) refl
one_byte false true b rest is slash = rw ((Decides-eqb b 47).0 (sym slash)) refl
one_byte false false b rest is slash = rw (← slash, ← is) refl

read-escaped : (step rest : List ℕ) → read (escaped step ++ rest) ≡ record { step = step ++ (read rest).step; steps = (read rest).steps }
read-escaped [] rest = refl
read-escaped (b ∷ step) rest =
    ap read (append_assoc (escaped_byte b) (escaped step) rest) ∙ one_byte (b == 126) (b == 47) b (escaped step ++ rest) refl refl
    ∙ ap (λ (r : Read). record { step = b ∷ r.step; steps = r.steps }) (read-escaped step rest)

read-pointer_text : (path : List (List ℕ)) → read (pointer_text path) ≡ record { step = []; steps = path }
read-pointer_text [] = refl
read-pointer_text (step ∷ path) =
    let behind = read-escaped step (pointer_text path) ∙ ap (λ (r : Read). record { step = step ++ r.step; steps = r.steps }) (read-pointer_text path) in
    ap (λ (r : Read). record { step = []; steps = r.step ∷ r.steps }) behind ∙ ap (λ (s : List ℕ). record { step = []; steps = s ∷ path }) (append-nil step)

-- two paths with one pointer are one path
pub pointer_text-injective : (p q : List (List ℕ)) → pointer_text p ≡ pointer_text q → p ≡ q
pointer_text-injective p q same = ap (λ (r : Read). r.steps) (sym (read-pointer_text p) ∙ ap read same ∙ read-pointer_text q)

no_other_start : (text : List ℕ) (path : List (List ℕ)) → text ≡ pointer_text path → text ≢ [] → starts_with nat_eq text (47 ∷ []) ≡ false → ⊥
no_other_start text [] is some other = some is
no_other_start text (step ∷ path) is some other =
    let slash : starts_with nat_eq text (47 ∷ []) ≡ true = rw is refl in
    cc

-- a text that is no pointer is that of no path
pub no_path : (text : List ℕ) (path : List (List ℕ)) → IsNoPointer text → text ≡ pointer_text path → ⊥
no_path text path (no_slash some other) is = no_other_start text path is some other
no_path text path (lone_tilde lone) is = no_lone_tilde path text is lone
