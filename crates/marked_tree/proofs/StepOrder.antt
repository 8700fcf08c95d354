-- Steps in the order in which paths are sorted.
use Rattle.std.proofs.Common.{◌≡◌, ◌<◌, List, [], ◌∷◌, length, take, Bool, true, false, Ordering, Less, Equal, Greater, refl, sym, ap, subst, ◌∙◌, arith}
use Rattle.std.specs.Prelude.{bytes_eq}
use Rattle.std.specs.Ordering.{nat_cmp, ordering_reverse, ordering_then, is_eq}
use Rattle.std.specs.Cmp.{IsTotalOrder}
use Rattle.std.specs.Cmp.Lexicographic.{pointwise, nat_list_cmp_total}
use Rattle.std.proofs.lemmas.Cmp.{tied_itself, then_total, nat_cmp_total, on_total}
use Rattle.std.proofs.lemmas.Bool.{and_parts}
use Rattle.claim_tree.specs.Tree.{Text}
use Rattle.sd_outside.proofs.Lists.{bytes_same, bytes_refl}
use Rattle.claim_tree.proofs.MapPlaces.{cmp, same_name}
use Rattle.claim_tree.specs.Path.{is_front}
use Rattle.marked_tree.specs.Rests.{step_cmp, path_order}

pub steps_total : IsTotalOrder step_cmp
steps_total = then_total (on_total length nat_cmp_total) nat_list_cmp_total

then_tied : (a b : Ordering) → ordering_then a b ≡ Equal → b ≡ Equal
then_tied Less b e = cc
then_tied Equal b e = e
then_tied Greater b e = cc

-- steps that tie are one
pub same_step : (k l : Text) → step_cmp k l ≡ Equal → k ≡ l
same_step k l e = same_name k l (then_tied (nat_cmp (length k) (length l)) (cmp k l) e)

pub step_before : (k l : Text) → step_cmp k l ≡ Greater → step_cmp l k ≡ Less
step_before k l e = (steps_total).antisymm l k ∙ ap ordering_reverse e

step_after : (k l : Text) → step_cmp k l ≡ Less → step_cmp l k ≡ Greater
step_after k l e = (steps_total).antisymm l k ∙ ap ordering_reverse e

pub is_eq-step_cmp : (k l : Text) → is_eq (step_cmp k l) ≡ bytes_eq k l
is_eq-step_cmp k l = go (bytes_eq k l) (step_cmp k l) refl refl
  where
    go : (b : Bool) (o : Ordering) → bytes_eq k l ≡ b → step_cmp k l ≡ o → is_eq o ≡ b
    go true o e f =
        let tied : step_cmp k l ≡ Equal = subst (λ x. step_cmp k x ≡ Equal) (bytes_same k l e) (tied_itself steps_total k) in
        ap is_eq (sym f ∙ tied)
    go false Less e f = refl
    go false Equal e f = sym (bytes_refl k l (same_step k l f)) ∙ e
    go false Greater e f = refl

pub steps_apart : (k l : Text) → step_cmp k l ≡ Less → bytes_eq k l ≡ false
steps_apart k l e = sym (is_eq-step_cmp k l) ∙ ap is_eq e

pub steps_apart_back : (k l : Text) → step_cmp k l ≡ Less → bytes_eq l k ≡ false
steps_apart_back k l e = sym (is_eq-step_cmp l k) ∙ ap is_eq (step_after k l e)

-- a path comes after each of its fronts
pub behind_front : (front path : List Text) → is_front front path ≡ true → length front < length path → path_order path front ≡ Greater
behind_front [] [] is longer = absurd (omega (arith, longer))
behind_front [] (k ∷ path) is longer = refl
behind_front (k ∷ front) [] is longer = cc is
behind_front (k ∷ front) (l ∷ path) is longer =
    let both = and_parts (bytes_eq k l) (pointwise bytes_eq front (take (length front) path)) is in
    let tied : step_cmp l k ≡ Equal = subst (λ x. step_cmp l x ≡ Equal) (sym (bytes_same k l both.0)) (tied_itself steps_total l) in
    rw tied (behind_front front path both.1 (omega (arith, longer)))
