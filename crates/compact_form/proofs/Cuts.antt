-- What the scanner takes to an end is a compact text.
use Rattle.std.proofs.Common.{◌≡◌, ◌⊎◌, inl, inr, ℕ, suc, ◌≤◌, Bool, true, false, cond, List, [], ◌∷◌, ◌++◌, Option, None, Some, length, refl, ap, ◌∙◌, sym, arith, append_assoc, length-append}
use Prim.Native.Nat.{zero}
use Rattle.std.specs.Prelude.{IfSome, ◌==◌}
use Rattle.std.specs.List.{list_all, AllByRecursion}
use Rattle.std.specs.Option.{option_and_then}
use Rattle.std.proofs.lemmas.Bool.{and_from, eqb-true}
use Rattle.b64url_text.specs.Base64url.{is_letter, IsWord}
use Rattle.compact_form.specs.declared.field.Field.{Field}
use Rattle.compact_form.specs.declared.field.Field.TheVariants.{Protected, Payload, Signature, Piece, BindingPayload, BindingSignature}
use Rattle.compact_form.specs.declared.parts.JwtParts.{JwtParts}
use Rattle.compact_form.specs.declared.parts.Parts.{Parts}
use Rattle.compact_form.specs.Compact.{spelled, ending, HasWords, IsCompact}
use Rattle.compact_form.specs.Reading.{State, run, field_after, may_end}

-- letters, and then the end or a byte that opens another field
data Cut (f : Field) (x : List ℕ) (t : State) : Type 0 where
  to_end : list_all is_letter x ≡ true → t ≡ (f, true) → Cut f x t
  at_byte : (w more : List ℕ) (c : ℕ) (g : Field) → list_all is_letter w ≡ true → x ≡ w ++ (c ∷ more) → field_after f c ≡ Some g → run (g, false) more ≡ Some t → Cut f x t

-- the same with at least one letter, or nothing at all
data WordCut (f : Field) (x : List ℕ) (t : State) : Type 0 where
  nothing : x ≡ [] → t ≡ (f, false) → WordCut f x t
  word : IsWord x → t ≡ (f, true) → WordCut f x t
  word_at : (w more : List ℕ) (c : ℕ) (g : Field) → IsWord w → x ≡ w ++ (c ∷ more) → field_after f c ≡ Some g → run (g, false) more ≡ Some t → WordCut f x t

longer : (f : Field) (b : ℕ) (x : List ℕ) (t : State) → is_letter b ≡ true → Cut f x t → Cut f (b ∷ x) t
longer f b x t e (to_end letters at) = to_end (and_from _ _ e letters) at
longer f b x t e (at_byte w more c g letters e' opens rest) = at_byte (b ∷ w) more c g (and_from _ _ e letters) (ap (λ (y : List ℕ). b ∷ y) e') opens rest

opened : (f : Field) (b : ℕ) (x : List ℕ) (t : State) (o : Option Field) → field_after f b ≡ o → option_and_then (λ next. run next x) (option_and_then (λ g. Some (g, false)) o) ≡ Some t → Cut f (b ∷ x) t
opened f b x t None e h = cc
opened f b x t (Some g) e h = at_byte [] x b g refl refl e h

stepped : (f : Field) (b : ℕ) (x : List ℕ) (t : State) (letter : Bool) → is_letter b ≡ letter → (run (f, true) x ≡ Some t → Cut f x t)
    → option_and_then (λ next. run next x) (cond letter (Some (f, true)) (option_and_then (λ g. Some (g, false)) (field_after f b))) ≡ Some t → Cut f (b ∷ x) t
stepped f b x t true e k h = longer f b x t e (k h)
stepped f b x t false e k h = opened f b x t (field_after f b) refl h

cut_begun : (f : Field) (x : List ℕ) (t : State) → run (f, true) x ≡ Some t → Cut f x t
cut_begun f [] t h = to_end refl cc
cut_begun f (b ∷ x) t h = stepped f b x t (is_letter b) refl (cut_begun f x t) h

first_letter : (f : Field) (b : ℕ) (x : List ℕ) (t : State) → is_letter b ≡ true → Cut f x t → WordCut f (b ∷ x) t
first_letter f b x t e (to_end letters at) = word (record { some = omega arith; letters = and_from _ _ e letters }) at
first_letter f b x t e (at_byte w more c g letters e' opens rest) =
    word_at (b ∷ w) more c g (record { some = omega arith; letters = and_from _ _ e letters }) (ap (λ (y : List ℕ). b ∷ y) e') opens rest

begun : (f : Field) (b : ℕ) (x : List ℕ) (t : State) (letter : Bool) → is_letter b ≡ letter
    → option_and_then (λ next. run next x) (cond letter (Some (f, true)) None) ≡ Some t → WordCut f (b ∷ x) t
begun f b x t true e h = first_letter f b x t e (cut_begun f x t h)
begun f b x t false e h = cc

cut : (f : Field) (x : List ℕ) (t : State) → run (f, false) x ≡ Some t → WordCut f x t
cut f [] t h = nothing refl cc
cut f (b ∷ x) t h = begun f b x t (is_letter b) refl h

-- which byte opens which field
chosen : (b : Bool) (h g : Field) → cond b (Some h) None ≡ Some g → (b ≡ true) × (h ≡ g)
chosen true h g e = (refl, cc)
chosen false h g e = cc

only : (c k : ℕ) (h g : Field) → cond (c == k) (Some h) None ≡ Some g → (c ≡ k) × (h ≡ g)
only c k h g e = let p = chosen (c == k) h g e in (eqb-true c k p.0, p.1)

pub either : (b d : Bool) (h k g : Field) → cond b (Some h) (cond d (Some k) None) ≡ Some g → ((b ≡ true) × (h ≡ g)) ⊎ ((d ≡ true) × (k ≡ g))
either true d h k g e = inl (refl, cc)
either false d h k g e = inr (chosen d k g e)

-- a scan that ends can't end in these
no_end : (f : Field) (begun : Bool) (t : State) → may_end t ≡ true → t ≡ (f, begun) → may_end (f, begun) ≡ false → ⊥
no_end f begun t h e k = let p : may_end (f, begun) ≡ true = ap may_end (sym e) ∙ h in cc

-- one word, and the field that the byte behind it opens
record Opened (f g : Field) (k : ℕ) (x : List ℕ) (t : State) : Type 0 where
  front : List ℕ
  more : List ℕ
  is_word : IsWord front
  spelling : x ≡ front ++ (k ∷ more)
  onward : run (g, false) more ≡ Some t

by_byte : (f g : Field) (k : ℕ) (x : List ℕ) (t : State) → may_end t ≡ true → may_end (f, false) ≡ false → may_end (f, true) ≡ false
    → ((c : ℕ) (h : Field) → field_after f c ≡ Some h → (c ≡ k) × (g ≡ h)) → WordCut f x t → Opened f g k x t
by_byte f g k x t end bare full which (nothing e at) = absurd (no_end f false t end at bare)
by_byte f g k x t end bare full which (word w at) = absurd (no_end f true t end at full)
by_byte f g k x t end bare full which (word_at w more c h is e opens rest) =
    let p = which c h opens in
    record {
      front = w;
      more = more;
      is_word = is;
      spelling = e ∙ ap (λ (d : ℕ). w ++ (d ∷ more)) p.0;
      onward = ap (λ (j : Field). run (j, false) more) p.1 ∙ rest;
    }

-- what stands behind the first tilde
record Tail (x : List ℕ) : Type 0 where
  disclosures : List (List ℕ)
  binding : Option JwtParts
  are_words : AllByRecursion IsWord disclosures
  has_words : IfSome binding HasWords
  spelling : x ≡ spelled disclosures ++ ending binding

nothing_left : (x : List ℕ) → x ≡ [] → Tail x
nothing_left x e = record { disclosures = []; binding = None; are_words = tt; has_words = tt; spelling = e }

one_more : (w more x : List ℕ) → IsWord w → x ≡ w ++ (126 ∷ more) → Tail more → Tail x
one_more w more x is e tail = record {
  disclosures = w ∷ tail.disclosures;
  binding = tail.binding;
  are_words = (is, tail.are_words);
  has_words = tail.has_words;
  spelling = e ∙ ap (λ (y : List ℕ). w ++ (126 ∷ y)) tail.spelling ∙ simp append_assoc;
}

last_word : (x : List ℕ) (t : State) → may_end t ≡ true → WordCut BindingSignature x t → IsWord x
last_word x t end (nothing e at) = absurd (no_end BindingSignature false t end at refl)
last_word x t end (word is at) = is
last_word x t end (word_at w more c g is e opens rest) = cc

bound : (w more x : List ℕ) (t : State) → IsWord w → x ≡ w ++ (46 ∷ more) → may_end t ≡ true → run (BindingPayload, false) more ≡ Some t → Tail x
bound w more x t is e end h =
    let second = by_byte BindingPayload BindingSignature 46 more t end refl refl (λ c k o. only c 46 BindingSignature k o) (cut BindingPayload more t h) in
    let third = last_word second.more t end (cut BindingSignature second.more t second.onward) in
    record {
      disclosures = [];
      binding = Some (record { protected = w; payload = second.front; signature = second.more });
      are_words = tt;
      has_words = record { protected = is; payload = second.is_word; signature = third };
      spelling = e ∙ ap (λ (y : List ℕ). w ++ (46 ∷ y)) second.spelling;
    }

by_piece : (w more x : List ℕ) (c : ℕ) (g : Field) (t : State) → IsWord w → x ≡ w ++ (c ∷ more) → may_end t ≡ true → run (g, false) more ≡ Some t
    → (run (Piece, false) more ≡ Some t → Tail more) → ((c == 126) ≡ true) × (Piece ≡ g) ⊎ ((c == 46) ≡ true) × (BindingPayload ≡ g) → Tail x
by_piece w more x c g t is e end h k (inl p) =
    one_more w more x is (e ∙ ap (λ (d : ℕ). w ++ (d ∷ more)) (eqb-true c 126 p.0)) (k (ap (λ (j : Field). run (j, false) more) p.1 ∙ h))
by_piece w more x c g t is e end h k (inr p) =
    bound w more x t is (e ∙ ap (λ (d : ℕ). w ++ (d ∷ more)) (eqb-true c 46 p.0)) end (ap (λ (j : Field). run (j, false) more) p.1 ∙ h)

piece : (n : ℕ) (x : List ℕ) (t : State) → length x ≤ suc n → may_end t ≡ true → ((y : List ℕ) → length y ≤ n → run (Piece, false) y ≡ Some t → Tail y) → WordCut Piece x t → Tail x
piece n x t small end k (nothing e at) = nothing_left x e
piece n x t small end k (word is at) = absurd (no_end Piece true t end at refl)
piece n x t small end k (word_at w more c g is e opens rest) =
    let shorter : length more ≤ n = omega (arith, length-append w (c ∷ more), ap length e, is.some) in
    by_piece w more x c g t is e end rest (k more shorter) (either (c == 126) (c == 46) Piece BindingPayload g opens)

pieces : (n : ℕ) (x : List ℕ) (t : State) → length x ≤ n → run (Piece, false) x ≡ Some t → may_end t ≡ true → Tail x
pieces zero [] t small h end = nothing_left [] refl
pieces zero (b ∷ x) t small h end = absurd (omega arith)
pieces (suc n) x t small h end = piece n x t small end (λ y s k. pieces n y t s k end) (cut Piece x t h)

joined : (a b c u v w x y : List ℕ) → x ≡ a ++ (46 ∷ u) → u ≡ b ++ (46 ∷ v) → v ≡ c ++ (126 ∷ w) → w ≡ y
    → x ≡ a ++ (46 ∷ (b ++ (46 ∷ (c ++ (126 ∷ y)))))
joined a b c u v w x y p q r s = p ∙ ap (λ (z : List ℕ). a ++ (46 ∷ z)) (q ∙ ap (λ (z : List ℕ). b ++ (46 ∷ z)) (r ∙ ap (λ (z : List ℕ). c ++ (126 ∷ z)) s))

regrouped : (a b c d e : List ℕ) → a ++ (46 ∷ (b ++ (46 ∷ (c ++ (126 ∷ (d ++ e)))))) ≡ ((a ++ (46 ∷ (b ++ (46 ∷ c)))) ++ (126 ∷ d)) ++ e
regrouped a b c d e = simp append_assoc

-- the whole text, with its parts in the order of their spelling
whole_text : (a b c d e u v w x : List ℕ) → x ≡ a ++ (46 ∷ u) → u ≡ b ++ (46 ∷ v) → v ≡ c ++ (126 ∷ w) → w ≡ d ++ e
    → x ≡ ((a ++ (46 ∷ (b ++ (46 ∷ c)))) ++ (126 ∷ d)) ++ e
whole_text a b c d e u v w x p q r s = joined a b c u v w x (d ++ e) p q r s ∙ regrouped a b c d e

pub from_end : (x : List ℕ) (t : State) → run (Protected, false) x ≡ Some t → may_end t ≡ true → (parts : Parts) × IsCompact parts x
from_end x t h end =
    let first = by_byte Protected Payload 46 x t end refl refl (λ c k o. only c 46 Payload k o) (cut Protected x t h) in
    let second = by_byte Payload Signature 46 first.more t end refl refl (λ c k o. only c 46 Signature k o) (cut Payload first.more t first.onward) in
    let third = by_byte Signature Piece 126 second.more t end refl refl (λ c k o. only c 126 Piece k o) (cut Signature second.more t second.onward) in
    let tail = pieces (length third.more) third.more t (omega arith) third.onward end in (
      record {
        signed = record { protected = first.front; payload = second.front; signature = third.front };
        disclosures = tail.disclosures;
        binding = tail.binding;
      },
      record {
        signed = record { protected = first.is_word; payload = second.is_word; signature = third.is_word };
        disclosures = tail.are_words;
        binding = tail.has_words;
        spelling = whole_text first.front second.front third.front (spelled tail.disclosures) (ending tail.binding) first.more second.more third.more x first.spelling second.spelling third.spelling tail.spelling;
      },
    )
