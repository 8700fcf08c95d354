-- The steps of a pointer, from slash to slash.
use Rattle.std.proofs.Common.{◌≡◌, ℕ, ◌<◌, Bool, true, false, List, [], ◌∷◌, ◌++◌, take, drop, refl, sym, ap, subst, ◌∙◌, arith, append_assoc, append-nil, take-append-drop}
use Rattle.std.specs.Prelude.{Option, None, Some, MatchOption}
use Rattle.std.specs.Str.Iter.{LacksByte, split_pattern, split_text, split_has_more}
use Rattle.std.specs.declared.str.Split.{Split}
use Rattle.std.specs.Str.Pattern.{FindsChar, IsSplitAtFirstMatch}
use Rattle.std.proofs.lemmas.Grind.{flat_map-append}
use Rattle.std.proofs.lemmas.Str.{len_utf8_ascii}
use Rattle.std.proofs.lemmas.Str.Pattern.{NoCharPasses-char, drop_at_char}
use Rattle.claim_tree.specs.Path.{escaped, pointer_text}
use Rattle.claim_tree.specs.PointerRefusals.{EndsNoEscape, HasLoneTilde}

-- what is left of a pointer, from the slash in front of its next step on
abbrev pub left : Bool → List ℕ → List ℕ
left true text = 47 ∷ text
left false text = []

-- how far a pointer is read
pub record StepsSoFar (text : List ℕ) (path : List (List ℕ)) (split : Split ℕ) : Type 0 where
  pub slash : split_pattern split ≡ 47
  pub spelling : text ≡ pointer_text path ++ left (split_has_more split) (split_text split)

-- the next step, as it is written
pub record Next (text step : List ℕ) (more : Bool) (rest : List ℕ) : Type 0 where
  pub no_slash : LacksByte 47 step
  pub spelling : text ≡ step ++ left more rest

found : (text step : List ℕ) (more : Bool) (rest : List ℕ) (o : Option (ℕ × ℕ)) → FindsChar 47 text o
    → MatchOption o ((step ≡ text) × (more ≡ false)) (λ q. 0 < q.1 → (step ≡ take q.0 text) × (more ≡ true) × (rest ≡ drop q.1 text)) → Next text step more rest
found text step more rest None none is = record {
  no_slash = subst (LacksByte 47) (sym is.0) (λ k within. NoCharPasses-char 47 text k none (omega arith) within);
  spelling = rw (is.1, append-nil) (sym is.0);
}
found text step more rest (Some (i, j)) there is =
    let width = len_utf8_ascii 47 (omega arith) in
    let ends = there.1.ends in
    let cut = is (omega arith) in
    let slash : drop i text ≡ 47 ∷ drop j text = drop_at_char 47 text i j there.1 (omega arith) in
    record {
      no_slash = subst (LacksByte 47) (sym cut.0) (λ k within. NoCharPasses-char 47 (take i text) k there.0 (omega arith) within);
      spelling = rw (cut.0, cut.1, cut.2, ← slash) (sym (take-append-drop i text));
    }

next_step : (text step : List ℕ) (more : Bool) (rest : List ℕ) → IsSplitAtFirstMatch (FindsChar 47) text step more rest → Next text step more rest
next_step text step more rest cut = found text step more rest cut.1.0 cut.1.1 cut.1.2

-- the pointer with one step more
pub step_read : (text : List ℕ) (path : List (List ℕ)) (rest written step : List ℕ) (more : Bool) (after : List ℕ) → text ≡ pointer_text path ++ (47 ∷ rest) → Next rest written more after
    → written ≡ escaped step → text ≡ pointer_text (path ++ step ∷ []) ++ left more after
step_read text path rest written step more after is next read =
    is ∙ ap (λ (x : List ℕ). pointer_text path ++ (47 ∷ x)) (next.spelling ∙ ap (λ (x : List ℕ). x ++ left more after) read)
    ∙ rw (flat_map-append (λ (s : List ℕ). 47 ∷ escaped s) path (step ∷ [])) (simp (append_assoc, append-nil))

alone_still : (rest : List ℕ) (more : Bool) (after : List ℕ) → EndsNoEscape rest → EndsNoEscape (rest ++ left more after)
alone_still [] true after alone = record { no_zero = refl; no_one = refl }
alone_still [] false after alone = alone
alone_still (b ∷ rest) more after alone = record { no_zero = alone.no_zero; no_one = alone.no_one }

-- a lone tilde of a step is one of the pointer
pub lone_in_step : (text : List ℕ) (path : List (List ℕ)) (rest written : List ℕ) (more : Bool) (after : List ℕ) → text ≡ pointer_text path ++ (47 ∷ rest) → Next rest written more after
    → HasLoneTilde written → HasLoneTilde text
lone_in_step text path rest written more after is next lone = record {
  front = pointer_text path ++ (47 ∷ lone.front);
  rest = lone.rest ++ left more after;
  stands = is ∙ ap (λ (x : List ℕ). pointer_text path ++ (47 ∷ x)) (next.spelling ∙ ap (λ (x : List ℕ). x ++ left more after) lone.stands) ∙ simp append_assoc;
  alone = alone_still lone.rest more after lone.alone;
}

-- the next step, as the iterator gives it
pub step_cut : (text : List ℕ) (path : List (List ℕ)) (split after : Split ℕ) (step : List ℕ) → StepsSoFar text path split → true ≡ split_has_more split
    → IsSplitAtFirstMatch (FindsChar (split_pattern split)) (split_text split) step (split_has_more after) (split_text after)
    → (text ≡ pointer_text path ++ (47 ∷ split_text split)) × Next (split_text split) step (split_has_more after) (split_text after)
step_cut text path split after step far more cut = (
  far.spelling ∙ ap (λ (m : Bool). pointer_text path ++ left m (split_text split)) (sym more),
  next_step (split_text split) step (split_has_more after) (split_text after)
      (subst (λ (c : ℕ). IsSplitAtFirstMatch (FindsChar c) (split_text split) step (split_has_more after) (split_text after)) far.slash cut),
)
