use Rattle.std.proofs.Common.{◌≡◌, ◌≤◌, ◌<◌, ℕ, zero, suc, List, [], ◌∷◌, map, length, get_or, None, arith, refl, ap, ◌∙◌, subst}
use Rattle.std.proofs.lemmas.List.{length-map}
use Rattle.std.proofs.Math.ListN.{set}
use Rattle.claim_tree.specs.Tree.{leaf, null}
use Rattle.sd_outside.specs.Lists.{StandsAt}
use Rattle.claim_tree.specs.View.{tree_of}
use Rattle.digest_sites.specs.Given.{Given as Seen}
use Rattle.digest_sites.specs.GivenView.{given_of, emptied}
use Rattle.digest_sites.specs.declared.given.Given.{Given}
use Rattle.digest_sites.proofs.given.GivenList.take.Goals as goal

past_emptied : (g : List Seen) (i : ℕ) → length g ≤ i → g ≡ emptied g i
past_emptied [] i l = refl
past_emptied (x ∷ g) zero l = absurd (omega arith)
past_emptied (x ∷ g) (suc i) l = ap (λ h. x ∷ h) (past_emptied g i (omega arith))

taken_at : (gs : List Given) (i : ℕ) (x : Given) → i < length gs → x ≡ get_or gs i x → StandsAt (map given_of gs) i (given_of x)
taken_at [] i x l e = absurd (omega arith)
taken_at (y ∷ gs) zero x l e = ap given_of e
taken_at (y ∷ gs) (suc i) x l e = taken_at gs i x (omega arith) e

left_at : (gs : List Given) (i : ℕ) (x y : Given) → i < length gs → x ≡ get_or gs i x → y.digest ≡ x.digest → y.name ≡ None → tree_of y.value ≡ leaf null
    → map given_of (set gs i y) ≡ emptied (map given_of gs) i
left_at [] i x y l e d n v = absurd (omega arith)
left_at (z ∷ gs) zero x y l e d n v = rw (d, n, v, e) refl
left_at (z ∷ gs) (suc i) x y l e d n v = ap (λ h. given_of z ∷ h) (left_at gs i x y (omega arith) e d n v)

pub returns-then-i-len-clause-taken : goal.returns-then-i-len-clause-taken
returns-then-i-len-clause-taken c = (
  given_of c.index_mut-item.result.now,
  subst (λ g. StandsAt g c.args.i (given_of c.index_mut-item.result.now)) c.self.view_is (taken_at c.self.inside.items.items c.args.i c.index_mut-item.result.now (omega arith) c.index_mut-item.ensures.value),
  c.take.ensures.value,
  ap tree_of c.replace-value.ensures.value,
)

pub returns-then-i-len-clause-left : goal.returns-then-i-len-clause-left
returns-then-i-len-clause-left c =
    left_at c.self.inside.items.items c.args.i c.index_mut-item.result.now _ (omega arith) c.index_mut-item.ensures.value refl c.take.ensures.after (ap tree_of c.replace-value.ensures.after)
    ∙ ap (λ g. emptied g c.args.i) c.self.view_is

pub returns-else-i-len-clause-left : goal.returns-else-i-len-clause-left
returns-else-i-len-clause-left c = past_emptied _ _ (omega (arith, ap length c.self.view_is, length-map c.self.inside.items.items given_of))
