-- Where decoys are put.
use Rattle.std.proofs.Common.{◌≡◌, ℕ, zero, suc, ◌+◌, ◌<◌, List, [], ◌∷◌, ◌++◌, Bool, ap, arith, cond, false, inl, inr, length, refl, subst, sym, true, ⊎_elim, ◌∙◌}
use Rattle.std.specs.Prelude.{replicate}
use Rattle.issuer_core.specs.declared.order.Decoy.{Decoy}
use Rattle.sd_outside.specs.Lists.{StandsAt, In}
use Rattle.claim_tree.specs.Path.{tree_at}
use Rattle.claim_tree.specs.Tree.{Text}
use Rattle.marked_tree.specs.Paths.{Path, same_path}
use Rattle.claim_tree.proofs.SamePaths.{path_refl}
use Rattle.issuer_core.specs.Decoys.{decoys_at, decoys_of, earlier, decoy_paths}
use Rattle.issuer_core.specs.GoodOrder.{HoldsOthers, IsGoodOrder}
use Rattle.issuer_core.specs.Order.{Order}
use Rattle.sd_outside.proofs.Lists.{In-append}

In-replicate : (n : ℕ) (x q : Path) → In q (replicate n x) → q ≡ x
In-replicate zero x q h = elim h [ ]
In-replicate (suc n) x q (inl e) = e
In-replicate (suc n) x q (inr h) = In-replicate n x q h

-- each place is that of an entry
place_entry : (entries : List Decoy) (q : Path) → In q (decoy_paths entries) → (e : Decoy) × In e entries × (q ≡ e.at)
place_entry [] q h = elim h [ ]
place_entry (e ∷ entries) q h =
    ⊎_elim (λ a. (e, inl refl, In-replicate e.count e.at q a)) (λ b. let w = place_entry entries q b in (w.0, inr w.1, w.2))
    (In-append q (replicate e.count e.at) (decoy_paths entries) h)

pub held_at : (o : Order) → IsGoodOrder o → (q : Path) → In q (decoys_of o) → HoldsOthers (tree_at o.payload q)
held_at o good q h =
    let w = place_entry o.decoys q h in
    subst (λ z. HoldsOthers (tree_at o.payload z)) (sym w.2) (good.decoys_held w.0 w.1)

-- the digests of the decoys at a place are among those of decoys
pub in_decoys : (dg : ℕ → Text) (k : ℕ) (ps : List Path) (q : Path) (d : Text) → In d (decoys_at dg k ps q) → (i : ℕ) × (i < length ps) × (d ≡ dg (k + i))
in_decoys dg k [] q d h = elim h [ ]
in_decoys dg k (r ∷ ps) q d h =
    ⊎_elim (λ a. here (same_path r q) a) (λ b. let w = in_decoys dg (suc k) ps q d b in (suc w.0, omega (arith, w.1), w.2 ∙ ap dg (let e : suc k + w.0 ≡ k + suc w.0 = omega arith in e)))
    (In-append d (cond (same_path r q) (dg k ∷ []) []) (decoys_at dg (suc k) ps q) h)
  where
    here : (b : Bool) → In d (cond b (dg k ∷ []) []) → (i : ℕ) × (i < suc (length ps)) × (d ≡ dg (k + i))
    here true (inl e) = (0, omega arith, e ∙ ap dg (let e : k ≡ k + 0 = omega arith in e))
    here true (inr m) = elim m [ ]
    here false m = elim m [ ]

pub earlier_at : (dg : ℕ → Text) (k : ℕ) (ps : List Path) (d : ℕ) (q : Path) → StandsAt ps d q → StandsAt (decoys_at dg k ps q) (earlier d q ps) (dg (k + d))
earlier_at dg k (r ∷ ps) zero q a =
    let same : same_path r q ≡ true = ap (λ z. same_path z q) (sym a) ∙ path_refl q q refl in
    let x : k + 0 ≡ k = omega arith in
    rw same (ap dg x)
earlier_at dg k (r ∷ ps) (suc d) q a = go (same_path r q) (earlier_at dg (suc k) ps d q a)
  where
    go : (b : Bool) → StandsAt (decoys_at dg (suc k) ps q) (earlier d q ps) (dg (suc k + d)) → StandsAt (cond b (dg k ∷ []) [] ++ decoys_at dg (suc k) ps q) (cond b 1 0 + earlier d q ps) (dg (k + suc d))
    go true ih =
        let x : suc (earlier d q ps) ≡ 1 + earlier d q ps = omega arith in
        let y : suc k + d ≡ k + suc d = omega arith in
        subst (λ i. StandsAt (dg k ∷ decoys_at dg (suc k) ps q) i (dg (k + suc d))) x (subst (λ i. StandsAt (decoys_at dg (suc k) ps q) (earlier d q ps) (dg i)) y ih)
    go false ih =
        let x : earlier d q ps ≡ 0 + earlier d q ps = omega arith in
        let y : suc k + d ≡ k + suc d = omega arith in
        subst (λ i. StandsAt (decoys_at dg (suc k) ps q) i (dg (k + suc d))) x (subst (λ i. StandsAt (decoys_at dg (suc k) ps q) (earlier d q ps) (dg i)) y ih)
earlier_at dg k [] d q a = elim a [ ]
