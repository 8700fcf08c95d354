-- A pointer without escapes is its path's text.
use Rattle.std.proofs.Common.{◌≡◌, ◌≢◌, ℕ, suc, ◌+◌, ◌-◌, ◌<◌, ◌≤◌, Bool, true, false, List, [], ◌∷◌, ◌++◌, length, drop, get_or, inl, inr, refl, sym, ap, subst, ◌∙◌, arith, IsUtf8}
use Rattle.std.specs.Prelude.{slice_range, ◌==◌, cond}
use Rattle.std.specs.Str.{IsCharBoundary}
use Rattle.std.specs.Str.Iter.{LacksByte}
use Rattle.std.proofs.Math.Seq.{drop-cons}
use Rattle.std.proofs.lemmas.Bool.{cases_eq}
use Rattle.std.proofs.lemmas.List.{drop_more, get_or-drop, get_or-take, length-drop}
use Rattle.std.proofs.lemmas.Str.{IsCharBoundary-after_ascii}
use Rattle.std.proofs.lemmas.Bool.Decides.{Decides-eqb}
use Rattle.claim_tree.specs.Path.{escaped, pointer_text}
use Rattle.claim_tree.specs.Steps.{steps_between, slashes_from, AreEnds}
use Rattle.claim_tree.proofs.PathSteps.{piece_and_rest, piece_length}
use Rattle.claim_tree.proofs.PointerEscapes.{escaped-plain}

-- ends that cut a text into the steps of which it is the pointer
pub record Cuts (start : ℕ) (ends text : List ℕ) : Type 0 where
  pub are : AreEnds start ends text
  pub spelling : drop start text ≡ pointer_text (steps_between start ends text)

-- a text without `~` in which a step has begun, and no slash stands in it so far
record Begun (text : List ℕ) (start i : ℕ) : Type 0 where
  slash : get_or text start 0 ≡ 47
  boundary : IsCharBoundary text (start + 1)
  behind : start + 1 ≤ i
  within : i ≤ length text
  plain : (k : ℕ) → start + 1 ≤ k → k < i → get_or text k 0 ≢ 47

step_lacks : (text : List ℕ) (c start i : ℕ) → start ≤ i → i ≤ length text → ((k : ℕ) → start ≤ k → k < i → get_or text k 0 ≢ c) → LacksByte c (slice_range text start i)
step_lacks text c start i behind within lacks k inside is =
    let count = piece_length text start i behind within in
    let at : get_or (slice_range text start i) k 0 ≡ get_or text (start + k) 0 = get_or-take (i - start) (drop start text) k 0 (omega (arith, count, inside)) ∙ get_or-drop start text k 0 in
    lacks (start + k) (omega arith) (omega (arith, count, inside)) (sym at ∙ is)

step_plain : (text : List ℕ) (start i : ℕ) → LacksByte 126 text → Begun text start i → escaped (slice_range text (start + 1) i) ≡ slice_range text (start + 1) i
step_plain text start i no_tilde begun =
    escaped-plain (slice_range text (start + 1) i)
    (step_lacks text 126 (start + 1) i begun.behind begun.within (λ k _ before. no_tilde k (omega (arith, before, begun.within))))
    (step_lacks text 47 (start + 1) i begun.behind begun.within begun.plain)

-- the step that ends here, and those behind it
step_more : (text : List ℕ) (start i : ℕ) (ends : List ℕ) → LacksByte 126 text → Begun text start i → Cuts i ends text → Cuts start (i ∷ ends) text
step_more text start i ends no_tilde begun cuts = record {
  are = (begun.slash, begun.boundary, begun.behind, cuts.are);
  spelling =
      let first : drop start text ≡ 47 ∷ drop (start + 1) text = drop_more text start 0 (omega (arith, begun.behind, begun.within)) ∙ ap (λ (b : ℕ). b ∷ drop (start + 1) text) begun.slash in
      let step : List ℕ = slice_range text (start + 1) i in
      first
      ∙ ap (λ (rest : List ℕ). 47 ∷ rest) (piece_and_rest text (start + 1) i begun.behind ∙ ap (λ (written : List ℕ). written ++ drop i text) (sym (step_plain text start i no_tilde begun)) ∙ ap (λ (rest : List ℕ). escaped step ++ rest) cuts.spelling);
}

-- a slash begins the next step
slash_begins : (text : List ℕ) (i : ℕ) → IsUtf8 text → i < length text → get_or text i 0 ≡ 47 → Begun text i (suc i)
slash_begins text i utf8 inside slash = record {
  slash = slash;
  boundary = IsCharBoundary-after_ascii text i utf8 inside (omega (arith, slash));
  behind = omega arith;
  within = omega (arith, inside);
  plain = λ k after before. absurd (omega (arith, after, before));
}

-- and another byte goes on with the step
byte_goes_on : (text : List ℕ) (start i : ℕ) → i < length text → get_or text i 0 ≢ 47 → Begun text start i → Begun text start (suc i)
byte_goes_on text start i inside other begun = record {
  slash = begun.slash;
  boundary = begun.boundary;
  behind = omega (arith, begun.behind);
  within = omega (arith, inside);
  plain = λ k after before. elim (cases_eq k i) [
    | inl now ↦ rw now other
    | inr earlier ↦ begun.plain k after (omega (arith, before, earlier))
  ];
}

by_byte : (text : List ℕ) (start i byte : ℕ) (ends last : List ℕ) (b : Bool) → (byte == 47) ≡ b → LacksByte 126 text → Begun text start i → (byte ≡ 47 → Cuts i (ends ++ last) text)
    → (byte ≢ 47 → Cuts start (ends ++ last) text) → Cuts start (cond b (i ∷ ends) ends ++ last) text
by_byte text start i byte ends last true is no_tilde begun slash other = step_more text start i (ends ++ last) no_tilde begun (slash ((Decides-eqb byte 47).0 is))
by_byte text start i byte ends last false is no_tilde begun slash other = other (λ same. let yes : (byte == 47) ≡ true = (Decides-eqb byte 47).1 same in cc)

cuts_on : (text : List ℕ) (start i : ℕ) (rest : List ℕ) → IsUtf8 text → LacksByte 126 text → drop i text ≡ rest → Begun text start i → Cuts start (slashes_from i rest ++ length text ∷ []) text
cuts_on text start i [] utf8 no_tilde is begun =
    let all : i ≡ length text = omega (arith, begun.within, length-drop i text, ap length is) in
    subst (λ n. Cuts start (n ∷ []) text) all (step_more text start i [] no_tilde begun (record { are = all; spelling = is }))
cuts_on text start i (byte ∷ rest) utf8 no_tilde is begun =
    let inside : i < length text = omega (arith, begun.within, length-drop i text, ap length is) in
    let both : get_or text i 0 ∷ drop (suc i) text ≡ byte ∷ rest = sym (drop-cons text i 0 inside) ∙ is in
    let here : get_or text i 0 ≡ byte = cc both in
    let behind : drop (suc i) text ≡ rest = cc both in
    by_byte text start i byte (slashes_from (suc i) rest) (length text ∷ []) (byte == 47) refl no_tilde begun
    (λ slash. cuts_on text i (suc i) rest utf8 no_tilde behind (slash_begins text i utf8 inside (here ∙ slash)))
    (λ other. cuts_on text start (suc i) rest utf8 no_tilde behind (byte_goes_on text start i inside (λ at. other (sym here ∙ at)) begun))

pub plain_cuts : (text rest : List ℕ) → IsUtf8 text → LacksByte 126 text → text ≡ 47 ∷ rest → Cuts 0 (slashes_from 1 (drop 1 text) ++ length text ∷ []) text
plain_cuts text rest utf8 no_tilde is =
    let slash : get_or text 0 0 ≡ 47 = rw is refl in
    let inside : 0 < length text = rw is (omega arith) in
    cuts_on text 0 1 (drop 1 text) utf8 no_tilde refl (slash_begins text 0 utf8 inside slash)
