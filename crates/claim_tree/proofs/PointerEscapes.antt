-- What escapes leave alone.
use Rattle.std.proofs.Common.{◌≡◌, ◌≢◌, ℕ, ◌<◌, ◌+◌, suc, List, [], ◌∷◌, ◌++◌, length, refl, sym, ap, subst, ◌∙◌, arith, append_assoc, append-nil, length-append}
use Rattle.std.proofs.lemmas.List.{get_or_append_left, get_or-append-add}
use Rattle.std.specs.Str.Iter.{LacksByte}
use Rattle.std.proofs.lemmas.Bool.{ne_eqb}
use Rattle.std.proofs.lemmas.Grind.{flat_map-append}
use Rattle.std.proofs.lemmas.Str.Pattern.{NoCharPasses-char}
use Rattle.std.proofs.Math.Utf8.{encode}
use Rattle.claim_tree.specs.Path.{escaped_byte, escaped}

pub escaped-append : (x y : List ℕ) → escaped (x ++ y) ≡ escaped x ++ escaped y
escaped-append x y = flat_map-append escaped_byte x y

pub plain_byte : (b : ℕ) → b ≢ 126 → b ≢ 47 → escaped_byte b ≡ b ∷ []
plain_byte b n m = rw (ne_eqb b 126 n, ne_eqb b 47 m) refl

behind : (c b : ℕ) (xs : List ℕ) → LacksByte c (b ∷ xs) → LacksByte c xs
behind c b xs h k lt = h (suc k) (omega arith)

pub escaped-plain : (xs : List ℕ) → LacksByte 126 xs → LacksByte 47 xs → escaped xs ≡ xs
escaped-plain [] n m = refl
escaped-plain (b ∷ xs) n m =
    rw (plain_byte b (n 0 (omega arith)) (m 0 (omega arith)), escaped-plain xs (behind 126 b xs n) (behind 47 b xs m)) refl

char_lacks : (c k : ℕ) → k < 128 → c ≢ k → LacksByte k (encode c)
char_lacks c k small n i within = NoCharPasses-char k (encode c) i (c ∷ [], append-nil (encode c), (ne_eqb c k n, tt)) small within

-- a character that needs no escape
pub escaped-char : (c : ℕ) → c ≢ 126 → c ≢ 47 → escaped (encode c) ≡ encode c
escaped-char c n m = escaped-plain (encode c) (char_lacks c 126 (omega arith) n) (char_lacks c 47 (omega arith) m)

-- one character that needs no escape
pub char_pushed : (out new rest left start : List ℕ) (c : ℕ) → new ≡ out ++ encode c → rest ≡ encode c ++ left → c ≢ 126 → c ≢ 47
    → out ++ escaped rest ≡ start → new ++ escaped left ≡ start
char_pushed out new rest left start c pushed is n m before =
    let both : escaped rest ≡ encode c ++ escaped left = ap escaped is ∙ escaped-append (encode c) left ∙ ap (λ (x : List ℕ). x ++ escaped left) (escaped-char c n m) in
    rw (pushed, append_assoc) (ap (λ (x : List ℕ). out ++ x) (sym both) ∙ before)

pub lacks_front : (c : ℕ) (xs ys : List ℕ) → LacksByte c (xs ++ ys) → LacksByte c xs
lacks_front c xs ys h k lt = λ e. h k (omega (arith, length-append xs ys)) (get_or_append_left xs ys 0 k lt ∙ e)

pub lacks_rest : (c : ℕ) (xs ys : List ℕ) → LacksByte c (xs ++ ys) → LacksByte c ys
lacks_rest c xs ys h k lt = λ e. h (length xs + k) (omega (arith, length-append xs ys)) (get_or-append-add xs ys k 0 ∙ e)

-- how far a step is read: what is written for it, and the part of it that is left
pub record SoFar (written step rest : List ℕ) : Type 0 where
  pub no_slash : LacksByte 47 rest
  pub spelling : written ≡ escaped step ++ rest

-- one escape more, with what stands in front of it
pub escape_read : (written step rest plain escape sign more : List ℕ) → SoFar written step rest → rest ≡ plain ++ (126 ∷ escape) → LacksByte 126 plain
    → 126 ∷ escape ≡ escaped sign ++ more → SoFar written ((step ++ plain) ++ sign) more
escape_read written step rest plain escape sign more far cut no_tilde read =
    let parts : rest ≡ plain ++ (escaped sign ++ more) = cut ∙ ap (λ (x : List ℕ). plain ++ x) read in
    let no_slash : LacksByte 47 (plain ++ (escaped sign ++ more)) = subst (LacksByte 47) parts far.no_slash in
    let plainly : escaped plain ≡ plain = escaped-plain plain no_tilde (lacks_front 47 plain (escaped sign ++ more) no_slash) in
    let written_so : escaped ((step ++ plain) ++ sign) ≡ (escaped step ++ plain) ++ escaped sign =
    escaped-append (step ++ plain) sign ∙ ap (λ (x : List ℕ). x ++ escaped sign) (escaped-append step plain ∙ ap (λ (x : List ℕ). escaped step ++ x) plainly) in
    record {
      no_slash = lacks_rest 47 (escaped sign) more (lacks_rest 47 plain (escaped sign ++ more) no_slash);
      spelling = far.spelling ∙ ap (λ (x : List ℕ). escaped step ++ x) parts ∙ rw (written_so) (simp append_assoc);
    }

-- the rest of a step, with no escape in it
pub rest_read : (written step rest : List ℕ) → SoFar written step rest → LacksByte 126 rest → written ≡ escaped (step ++ rest)
rest_read written step rest far no_tilde =
    far.spelling ∙ sym (escaped-append step rest ∙ ap (λ (x : List ℕ). escaped step ++ x) (escaped-plain rest no_tilde far.no_slash))
