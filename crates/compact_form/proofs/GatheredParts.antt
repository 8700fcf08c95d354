-- What is read of a text, one disclosure more, and the parts in the end.
use Rattle.std.proofs.Common.{◌≡◌, ◌⊎◌, inl, inr, ℕ, zero, suc, ◌+◌, ◌<◌, true, false, List, [], ◌∷◌, ◌++◌, Option, length, take, drop, ap, ◌∙◌, sym, subst, arith, append_assoc, append-nil, length-append}
use Rattle.std.specs.Prelude.{◌==◌, IfSome}
use Rattle.std.specs.List.{AllByRecursion}
use Rattle.std.specs.Option.{option_map}
use Rattle.std.specs.Str.{IsAscii, IsCharBoundary}
use Rattle.std.proofs.lemmas.Bool.{eqb-true}
use Rattle.std.proofs.lemmas.List.{drop_at, length-take}
use Rattle.std.proofs.lemmas.Grind.{flat_map-append}
use Rattle.std.proofs.lemmas.Str.{IsAscii-append, IsCharBoundary-from_ascii}
use Rattle.b64url_text.specs.Base64url.{IsWord}
use Rattle.b64url_text.proofs.Words.{IsAscii-letters}
use Rattle.compact_form.specs.declared.field.Field.{Field}
use Rattle.compact_form.specs.declared.field.Field.TheVariants.{Piece, BindingPayload}
use Rattle.compact_form.specs.declared.parts.JwtParts.{JwtParts}
use Rattle.compact_form.specs.declared.view.JwtView.{JwtView}
use Rattle.compact_form.specs.Compact.{jwt, spelled, ending, HasWords, IsCompact}
use Rattle.compact_form.specs.Reading.{BringsTo, Gathered, OpensField}
use Rattle.compact_form.specs.Views.{jwt_of, pieces_of, parts_of, IsSpelled, AreSpelled}
use Rattle.compact_form.proofs.Cuts.{either}
use Rattle.compact_form.proofs.Spelled.{pieces_of-spelled, IsSpelled-spelled}

-- ---- the texts are ASCII

IsAscii-one : (b : ℕ) → b < 128 → IsAscii (b ∷ [])
IsAscii-one b l zero = l
IsAscii-one b l (suc i) = omega arith

IsAscii-jwt : (j : JwtParts) → HasWords j → IsAscii (jwt j)
IsAscii-jwt j words =
    IsAscii-append j.protected _ (IsAscii-letters j.protected words.protected.letters)
    (IsAscii-append (46 ∷ []) _ (IsAscii-one 46 (omega arith))
    (IsAscii-append j.payload _ (IsAscii-letters j.payload words.payload.letters)
    (IsAscii-append (46 ∷ []) j.signature (IsAscii-one 46 (omega arith)) (IsAscii-letters j.signature words.signature.letters))))

IsAscii-none : IsAscii []
IsAscii-none i = omega arith

pub IsAscii-spelled : (ds : List (List ℕ)) → AllByRecursion IsWord ds → IsAscii (spelled ds)
IsAscii-spelled [] words = IsAscii-none
IsAscii-spelled (d ∷ ds) words =
    IsAscii-append (d ++ (126 ∷ [])) (spelled ds)
    (IsAscii-append d (126 ∷ []) (IsAscii-letters d words.0.letters) (IsAscii-one 126 (omega arith)))
    (IsAscii-spelled ds words.1)

module _ (x : List ℕ) (from end count : ℕ) (j : JwtParts) (g : Gathered x from end count j) where
  -- the disclosures as they stand in the text
  pub slice_is : drop from (take end x) ≡ spelled g.disclosures
  slice_is =
      let later = g.later in
      let within = g.stands.within in
      let size : from ≡ length (jwt j ++ (126 ∷ [])) = omega (arith, ap length g.opening, length-take from x) in
      ap (drop from) (g.front ∙ sym (append_assoc (jwt j) (126 ∷ []) (spelled g.disclosures)))
      ∙ drop_at (jwt j ++ (126 ∷ [])) (spelled g.disclosures) from (sym size)

  pub front_ascii : IsAscii (take end x)
  front_ascii = subst IsAscii (sym g.front)
      (IsAscii-append (jwt j) (126 ∷ spelled g.disclosures) (IsAscii-jwt j g.signed)
      (IsAscii-append (126 ∷ []) (spelled g.disclosures) (IsAscii-one 126 (omega arith)) (IsAscii-spelled g.disclosures g.are_words)))

  -- they begin at a character
  pub boundary : (h : List ℕ) → h ≡ take end x → IsCharBoundary h from
  boundary h is =
      let later = g.later in
      let within = g.stands.within in
      IsCharBoundary-from_ascii h from (subst IsAscii (sym is) front_ascii) (omega (arith, ap length is, length-take end x))

  pub pieces_are : (d : List ℕ) → d ≡ drop from (take end x) → pieces_of d ≡ g.disclosures
  pieces_are d is = ap pieces_of (is ∙ slice_is) ∙ pieces_of-spelled g.disclosures g.are_words

-- what the view of these parts keeps
pub kept : (x : List ℕ) (from end count : ℕ) (signed : JwtView) (g : Gathered x from end count (jwt_of signed)) (d h : List ℕ) → d ≡ drop from (take end x) → h ≡ take end x
    → AreSpelled signed d count h
kept x from end count signed g d h is front = record {
  spelling = subst IsSpelled (sym (is ∙ slice_is x from end count (jwt_of signed) g)) (IsSpelled-spelled g.disclosures g.are_words);
  counted = g.counted ∙ ap length (sym (pieces_are x from end count (jwt_of signed) g d is));
  front = front ∙ g.front ∙ ap (λ (s : List ℕ). jwt (jwt_of signed) ++ (126 ∷ s)) (sym (is ∙ slice_is x from end count (jwt_of signed) g));
}

-- the text is the spelling of these parts
pub is_compact : (x : List ℕ) (from end count : ℕ) (signed : JwtView) (g : Gathered x from end count (jwt_of signed)) (d : List ℕ) (binding : Option JwtView)
    → d ≡ drop from (take end x) → IfSome (option_map jwt_of binding) HasWords → x ≡ take end x ++ ending (option_map jwt_of binding) → IsCompact (parts_of signed d binding) x
is_compact x from end count signed g d binding is words ends =
    let pieces = pieces_are x from end count (jwt_of signed) g d is in
    record {
      signed = g.signed;
      disclosures = subst (AllByRecursion IsWord) (sym pieces) g.are_words;
      binding = words;
      spelling =
          ends
          ∙ ap (λ (y : List ℕ). y ++ ending (option_map jwt_of binding)) g.front
          ∙ ap (λ (ds : List (List ℕ)). (jwt (jwt_of signed) ++ (126 ∷ spelled ds)) ++ ending (option_map jwt_of binding)) (sym pieces);
    }

-- ---- one disclosure more

pub spelled-push : (ds : List (List ℕ)) (w : List ℕ) → spelled (ds ++ (w ∷ [])) ≡ spelled ds ++ (w ++ (126 ∷ []))
spelled-push ds w = flat_map-append (λ (d : List ℕ). d ++ (126 ∷ [])) ds (w ∷ []) ∙ ap (λ (y : List ℕ). spelled ds ++ y) (append-nil (w ++ (126 ∷ [])))

words-push : (ds : List (List ℕ)) (w : List ℕ) → AllByRecursion IsWord ds → IsWord w → AllByRecursion IsWord (ds ++ (w ∷ []))
words-push [] w words is = (is, tt)
words-push (d ∷ ds) w words is = (words.0, words-push ds w words.1 is)

by_tilde : (c : ℕ) (g : Field) → g ≡ Piece → ((c == 126) ≡ true) × (Piece ≡ g) ⊎ ((c == 46) ≡ true) × (BindingPayload ≡ g) → c ≡ 126
by_tilde c g e (inl p) = eqb-true c 126 p.0
by_tilde c g e (inr p) = let clash : BindingPayload ≡ Piece = p.1 ∙ e in cc

regrouped : (a b w : List ℕ) → (((a ++ (126 ∷ b)) ++ w) ++ (126 ∷ [])) ≡ a ++ (126 ∷ (b ++ (w ++ (126 ∷ []))))
regrouped a b w = simp append_assoc

grown : (x : List ℕ) (from end at next count : ℕ) (j : JwtParts) (w : List ℕ) (g : Field) → (r : Gathered x from end count j) → take at x ≡ take end x ++ w → (o : OpensField x at next Piece g) → o.byte ≡ 126
    → take next x ≡ jwt j ++ (126 ∷ spelled (r.disclosures ++ (w ∷ [])))
grown x from end at next count j w g r word o tilde =
    o.grows
    ∙ ap (λ (c : ℕ). take at x ++ (c ∷ [])) tilde
    ∙ ap (λ (y : List ℕ). y ++ (126 ∷ [])) (word ∙ ap (λ (y : List ℕ). y ++ w) r.front)
    ∙ regrouped (jwt j) (spelled r.disclosures) w
    ∙ ap (λ (s : List ℕ). jwt j ++ (126 ∷ s)) (sym (spelled-push r.disclosures w))

pub one_more : (x : List ℕ) (from end at next count : ℕ) (j : JwtParts) (w : List ℕ) (g : Field) → Gathered x from end count j → take at x ≡ take end x ++ w → IsWord w → OpensField x at next Piece g → g ≡ Piece
    → Gathered x from next (count + 1) j
one_more x from end at next count j w g r word is o e =
    let tilde = by_tilde o.byte g e (either (o.byte == 126) (o.byte == 46) Piece BindingPayload g o.opens) in
    let size = ap length (grown x from end at next count j w g r word o tilde) in
    let before = ap length r.front in
    let within = o.stands.within in
    let was = r.stands.within in
    let more = ap length (spelled-push r.disclosures w) in
    let long : end < next =
    omega (
      arith,
      size,
      before,
      more,
      length-take next x,
      length-take end x,
      length-append (jwt j) (126 ∷ spelled (r.disclosures ++ (w ∷ []))),
      length-append (jwt j) (126 ∷ spelled r.disclosures),
      length-append (spelled r.disclosures) (w ++ (126 ∷ [])),
      length-append w (126 ∷ []),
    )
    in
    let later = r.later in
    let few = r.few in
    let counted = r.counted in
    record {
      disclosures = r.disclosures ++ (w ∷ []);
      signed = r.signed;
      are_words = words-push r.disclosures w r.are_words is;
      later = omega arith;
      opening = r.opening;
      front = grown x from end at next count j w g r word o tilde;
      counted = omega (arith, length-append r.disclosures (w ∷ []));
      few = omega arith;
      stands = subst (λ (f : Field). BringsTo x next (f, false)) e o.stands;
    }
