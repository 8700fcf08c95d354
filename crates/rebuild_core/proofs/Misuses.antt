-- Which trees misuse a reserved name.
use Rattle.std.proofs.Common.{◌≡◌, ℕ, zero, suc, ◌+◌, ◌≤◌, List, map, length, true, false, ◌⊎◌, inl, inr, sym, ap, ◌∙◌, subst, arith}
use Rattle.claim_tree.specs.Tree.{Tree}
use Rattle.sd_outside.specs.Lists.{StandsAt, IsLeast}
use Rattle.digest_sites.specs.Reserved.{misuses}
use Rattle.digest_sites.specs.Given.{Given}
use Rattle.digest_sites.specs.GivenView.{given_of}
use Rattle.rebuild_core.specs.Conditions.{Misused}
use Rattle.sd_outside.proofs.Lists.{At-same}
use Rattle.digest_sites.specs.declared.given.Given as code
use Rattle.rebuild_core.proofs.GivenFacts.{item_past}

pub payload_misuses : (p : Tree) (g : List Given) → misuses p ≡ true → IsLeast (Misused p g) 0
payload_misuses p g h = record { fails = h; first = λ r l. absurd (omega (arith, l)) }

pub payload_is_well : (p : Tree) (g : List Given) → misuses p ≡ false → (q : ℕ) → q ≤ 0 → Misused p g q → ⊥
payload_is_well p g h zero l m = let z = sym h ∙ m in cc
payload_is_well p g h (suc q) l m = omega (arith, l)

pub value_misuses : (p : Tree) (g : List Given) (i : ℕ) (x : Given) → StandsAt g i x → misuses x.value ≡ true → Misused p g (i + 1)
value_misuses p g i x a h = let n : i + 1 ≡ suc i = omega arith in rw n (x, a, h)

pub value_is_well : (p : Tree) (g : List Given) (i : ℕ) (x : Given) → StandsAt g i x → misuses x.value ≡ false
    → ((q : ℕ) → q ≤ i → Misused p g q → ⊥) → (q : ℕ) → q ≤ i + 1 → Misused p g q → ⊥
value_is_well p g i x a h none q l m = go (split q i l)
  where
    split : (x y : ℕ) → x ≤ y + 1 → (x ≤ y) ⊎ (x ≡ suc y)
    split x y l = grind arith

    go : (q ≤ i) ⊎ (q ≡ suc i) → ⊥
    go (inl l) = none q l m
    go (inr e) =
        let w : Misused p g (suc i) = subst (λ z. Misused p g z) e m in
        let s : w.0 ≡ x = At-same g i w.0 x w.1 a in
        let b : misuses x.value ≡ true = ap (λ (z : Given). misuses z.value) (sym s) ∙ w.2 in
        cc

pub all_well : (p : Tree) (items : List code.Given) (given : List Given) (i : ℕ) → map given_of items ≡ given → length items ≤ i → ((q : ℕ) → q ≤ i → Misused p given q → ⊥) → (q : ℕ) → Misused p given q → ⊥
all_well p items given i e l none zero m = none zero (omega arith) m
all_well p items given i e l none (suc q) m = none (suc q) (omega (arith, l, item_past items given q m.0 e m.1)) m
