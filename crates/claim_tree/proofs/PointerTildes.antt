-- Lone tildes, and texts without them.
use Rattle.std.proofs.Common.{◌≡◌, ◌≢◌, ℕ, Bool, true, false, cond, ◌&&◌, List, [], ◌∷◌, ◌++◌, refl, sym, ap, ◌∙◌, append_assoc}
use Rattle.std.specs.Prelude.{nat_eq, ◌==◌, ◌||◌}
use Rattle.std.specs.List.{starts_with}
use Rattle.std.proofs.lemmas.Bool.{and_parts, ne_eqb}
use Rattle.std.proofs.lemmas.Bool.Decides.{Decides-eqb}
use Rattle.claim_tree.specs.Path.{escaped, escaped_byte, pointer_text}
use Rattle.claim_tree.specs.PointerRefusals.{EndsNoEscape, HasLoneTilde}

pub begins_not : (c : ℕ) (bs : List ℕ) → ((rest : List ℕ) → bs ≢ c ∷ rest) → starts_with nat_eq bs (c ∷ []) ≡ false
begins_not c [] h = refl
begins_not c (b ∷ bs) h = rw (ne_eqb c b (λ e. h bs (ap (λ (d : ℕ). d ∷ bs) (sym e)))) refl

pub lone_tilde : (written front rest plain escape : List ℕ) → written ≡ front ++ rest → rest ≡ plain ++ (126 ∷ escape) → EndsNoEscape escape → HasLoneTilde written
lone_tilde written front rest plain escape is cut alone = record {
  front = front ++ plain;
  rest = escape;
  stands = is ∙ ap (λ (x : List ℕ). front ++ x) cut ∙ sym (append_assoc front plain (126 ∷ escape));
  alone = alone;
}

-- what follows a `~`
abbrev ends_escape : List ℕ → Bool
ends_escape [] = false
ends_escape (b ∷ bs) = (b == 48) || (b == 49)

abbrev good : List ℕ → Bool
good [] = true
good (b ∷ bs) = cond (b == 126) (ends_escape bs) true && good bs

good_byte : (t u : Bool) (b : ℕ) (rest : List ℕ) → t ≡ (b == 126) → good (cond t (126 ∷ 48 ∷ []) (cond u (126 ∷ 49 ∷ []) (b ∷ [])) ++ rest) ≡ good rest
good_byte true u b rest is = refl
good_byte false true b rest is = refl
good_byte false false b rest is = rw (sym is) refl

good-escaped : (step rest : List ℕ) → good (escaped step ++ rest) ≡ good rest
good-escaped [] rest = refl
good-escaped (b ∷ step) rest =
    ap good (append_assoc (escaped_byte b) (escaped step) rest) ∙ good_byte (b == 126) (b == 47) b (escaped step ++ rest) refl ∙ good-escaped step rest

good-pointer_text : (path : List (List ℕ)) → good (pointer_text path) ≡ true
good-pointer_text [] = refl
good-pointer_text (step ∷ path) = good-escaped step (pointer_text path) ∙ good-pointer_text path

good_behind : (front rest : List ℕ) → good (front ++ (126 ∷ rest)) ≡ true → ends_escape rest ≡ true
good_behind [] rest h = (and_parts (ends_escape rest) (good rest) h).0
good_behind (b ∷ front) rest h = good_behind front rest (and_parts (cond (b == 126) (ends_escape (front ++ (126 ∷ rest))) true) (good (front ++ (126 ∷ rest))) h).1

other_byte : (c b : ℕ) (bs : List ℕ) → starts_with nat_eq (b ∷ bs) (c ∷ []) ≡ false → b ≢ c
other_byte c b bs none e =
    let same : (c == b) ≡ true = (Decides-eqb c b).1 (sym e) in
    let begun : starts_with nat_eq (b ∷ bs) (c ∷ []) ≡ true = rw same refl in
    cc

alone_ends_none : (rest : List ℕ) → EndsNoEscape rest → ends_escape rest ≡ false
alone_ends_none [] alone = refl
alone_ends_none (b ∷ bs) alone = rw (ne_eqb b 48 (other_byte 48 b bs alone.no_zero), ne_eqb b 49 (other_byte 49 b bs alone.no_one)) refl

pub no_lone_tilde : (path : List (List ℕ)) (text : List ℕ) → text ≡ pointer_text path → HasLoneTilde text → ⊥
no_lone_tilde path text is lone =
    let all : good (lone.front ++ (126 ∷ lone.rest)) ≡ true = ap good (sym lone.stands ∙ is) ∙ good-pointer_text path in
    let ends : ends_escape lone.rest ≡ true = good_behind lone.front lone.rest all in
    let none : ends_escape lone.rest ≡ false = alone_ends_none lone.rest lone.alone in
    cc
