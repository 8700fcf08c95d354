-- What a digest shows is a disclosure and its value.
use Rattle.std.proofs.Common.{◌≡◌, ℕ, zero, suc, List, [], ◌∷◌, length, ◌⊎◌, inl, inr, Option, Some, None, sym, ap, ◌∙◌, refl, subst}
use Rattle.claim_tree.specs.Tree.{Text, Tree}
use Rattle.sd_outside.specs.Lists.{StandsAt, In}
use Rattle.digest_sites.specs.Given.{Given}
use Rattle.marked_tree.specs.Ways.{ways, way_of}
use Rattle.rebuild_core.specs.Opening.{Shown, shown, shown_by, reveal, open_tree, opened}
use Rattle.rebuild_core.specs.Reached.{find}
use Rattle.rebuild_core.specs.Soundness.{IsReferencedOnce}
use Rattle.sd_outside.proofs.Lists.{In-of_map}
use Rattle.rebuild_core.proofs.Fixed.{fixed}
use Rattle.rebuild_core.proofs.Found.{found}
use Rattle.marked_tree.proofs.Spots.{Way}
use Rattle.rebuild_core.proofs.Marks.{shown_ways}

-- one step of a way: the disclosure below, or the way goes on inside it
pub way_step : (k i : ℕ) (above : List ℕ) (ws : List Way) → In (i, above) (way_of (Some k) ws) → ((i ≡ k) × (above ≡ [])) ⊎ ((rest : List ℕ) × (above ≡ k ∷ rest) × In (i, rest) ws)
way_step k i above ws (inl e) = inl (ap (λ (z : Way). z.0) e, ap (λ (z : Way). z.1) e)
way_step k i above ws (inr m) =
    let w = In-of_map (λ (z : Way). (z.0, k ∷ z.1)) (i, above) ws m in
    let a : i ≡ w.0.0 = ap (λ (z : Way). z.0) w.2 in
    inr (w.0.1, ap (λ (z : Way). z.1) w.2, subst (λ c. In (c, w.0.1) ws) (sym a) w.1)

-- a disclosure has this digest, the way is one of what it shows, and P is so of that
pub record IsShownBy (g : List Given) (P : Shown → Type 0) (d : Text) (v : Way) : Type 0 where
  pub k : ℕ
  pub x : Given
  pub there : StandsAt g k x
  pub digest : x.digest ≡ d
  pub way : In v (way_of (Some k) (ways (opened (length g) g x.value)))
  pub fine : P (shown k x.name (opened (length g) g x.value))

pub shown_from : (p : Tree) (g : List Given) → IsReferencedOnce p g → (P : Shown → Type 0) (d : Text) (v : Way) → In v (shown_ways (reveal (length g) g d)) → P (reveal (length g) g d) → IsShownBy g P d v
shown_from p g ok P d v m is = go (length g) refl m
  where
    go : (n : ℕ) → length g ≡ n → In v (shown_ways (reveal n g d)) → IsShownBy g P d v
    go zero e q = elim q [ ]
    go (suc n) e q = from (find g d) refl q
      where
        from : (o : Option (ℕ × Given)) → find g d ≡ o → In v (shown_ways (shown_by (open_tree (reveal n g)) o)) → IsShownBy g P d v
        from None f c = elim c [ ]
        from (Some (k, x)) f c =
            let w = found 0 g d k x f in
            let same : reveal (length g) g d ≡ shown w.0 x.name (opened (length g) g x.value) = ap (reveal (length g) g) (sym w.2) ∙ fixed p g ok w.0 x w.1 in
            record {
              k = w.0;
              x = x;
              there = w.1;
              digest = w.2;
              way = subst (λ z. In v (shown_ways z)) same m;
              fine = subst P same is;
            }
