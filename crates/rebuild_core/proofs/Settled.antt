-- Fuel beyond the number of disclosures changes nothing.
use Rattle.std.proofs.Common.{◌≡◌, ℕ, zero, suc, ◌+◌, ◌≤◌, List, [], ◌∷◌, length, Option, Some, None, refl, sym, ap, ◌∙◌, arith}
use Rattle.claim_tree.specs.Tree.{Text, Tree}
use Rattle.sd_outside.specs.Lists.{StandsAt, In}
use Rattle.digest_sites.specs.Sites.{Site, sites}
use Rattle.digest_sites.specs.Given.{Given}
use Rattle.rebuild_core.specs.Reached.{find, payload, value_of}
use Rattle.rebuild_core.specs.Opening.{nothing_shown, shown, shown_by, reveal, opened, open_tree}
use Rattle.rebuild_core.specs.Soundness.{IsReferencedOnce}
use Rattle.rebuild_core.specs.Laws.{LeadsUp}
use Rattle.rebuild_core.proofs.Found.{found}
use Rattle.rebuild_core.proofs.Agree.{agree}
use Rattle.rebuild_core.proofs.Chains.{in_payload, in_value, short_chain}

-- two fuels show the same, where both are positive and open the value alike
pub record IsAlike (g : List Given) (f e : ℕ) (x : Given) : Type 0 where
  pub a : ℕ
  pub b : ℕ
  pub is_f : f ≡ suc a
  pub is_e : e ≡ suc b
  pub same : opened a g x.value ≡ opened b g x.value

nothing : (g : List Given) (f : ℕ) (d : Text) → find g d ≡ None → reveal f g d ≡ nothing_shown
nothing g zero d h = refl
nothing g (suc f) d h = ap (shown_by (open_tree (reveal f g))) h

pub reveal_alike : (g : List Given) (f e : ℕ) (d : Text)
    → ((j : ℕ) (x : Given) → StandsAt g j x → x.digest ≡ d → IsAlike g f e x) → reveal f g d ≡ reveal e g d
reveal_alike g f e d alike = go (find g d) refl
  where
    go : (o : Option (ℕ × Given)) → find g d ≡ o → reveal f g d ≡ reveal e g d
    go None h = nothing g f d h ∙ sym (nothing g e d h)
    go (Some (j, x)) h =
        let w = found 0 g d j x h in
        let k = alike w.0 x w.1 w.2 in
        rw (k.is_f, k.is_e, h) (ap (shown j x.name) k.same)

pub before : (n k : ℕ) → suc n ≤ k → (a : ℕ) × (k ≡ suc a)
before n zero h = absurd (omega arith)
before n (suc k) h = (k, refl)

module _ (p : Tree) (g : List Given) (ok : IsReferencedOnce p g) where
  -- the value of a disclosure that `is` leads from needs no more fuel than the disclosures outside that chain
  pub settled_value : (k f e i : ℕ) (x : Given) (is : List ℕ) → StandsAt g i x → LeadsUp p g (value_of i) is
      → length g ≤ k + length is → k ≤ f → k ≤ e → opened f g x.value ≡ opened e g x.value
  settled_value zero f e i x is a up b l m =
      agree (reveal f g) (reveal e g) x.value
      (λ s n. reveal_alike g f e s.digest
      (λ j y c q. absurd (omega (arith, short_chain p g ok (value_of j) (j ∷ is) (refl, value_of i, (y, c, s, in_value p g ok i x s a n, sym q), up)))))
  settled_value (suc k) f e i x is a up b l m =
      agree (reveal f g) (reveal e g) x.value
      (λ s n. reveal_alike g f e s.digest
      (λ j y c q.
      let u = before k f l in
      let v = before k e m in
      record {
        a = u.0;
        b = v.0;
        is_f = u.1;
        is_e = v.1;
        same = settled_value k u.0 v.0 j y (j ∷ is) c (refl, value_of i, (y, c, s, in_value p g ok i x s a n, sym q), up) (omega arith) (omega arith) (omega arith);
      }))

  pub settled_tree : (t : Tree) → ((s : Site) → In s (sites t) → (z : Site) × In z (sites p) × (z.digest ≡ s.digest))
      → (f : ℕ) → length g ≤ f → opened f g t ≡ opened (length g) g t
  settled_tree t inside f l =
      agree (reveal f g) (reveal (length g) g) t
      (λ s n. reveal_alike g f (length g) s.digest
      (λ j y c q.
      let z = inside s n in
      let up : LeadsUp p g (value_of j) (j ∷ []) = (refl, payload, (y, c, z.0, in_payload p g ok z.0 z.1, z.2 ∙ sym q), refl) in
      let one = short_chain p g ok (value_of j) (j ∷ []) up in
      let u = before 0 f (omega arith) in
      let v = before 0 (length g) (omega arith) in
      record {
        a = u.0;
        b = v.0;
        is_f = u.1;
        is_e = v.1;
        same = settled_value v.0 u.0 v.0 j y (j ∷ []) c up (omega arith) (omega arith) (omega arith);
      }))
