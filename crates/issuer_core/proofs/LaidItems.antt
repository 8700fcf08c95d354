-- What is laid for an order opens to its marked claims.
use Rattle.std.proofs.Common.{◌≡◌, ℕ, suc, ◌+◌, ◌<◌, List, None, Option, Some, ap, arith, length, refl, subst, sym, ⊎_elim, ◌∙◌}
use Rattle.sd_outside.specs.Lists.{StandsAt, AtNone, Repeats}
use Rattle.claim_tree.specs.Tree.{Text, Tree}
use Rattle.digest_sites.specs.Given.{Given}
use Rattle.marked_tree.specs.Paths.{Path, is_among}
use Rattle.rebuild_core.specs.Reached.{find, given_digests}
use Rattle.rebuild_core.specs.Opening.{opened, processed}
use Rattle.issuer_core.specs.Decoys.{decoys_at, decoys_of}
use Rattle.issuer_core.specs.Digests.{Maker, decoy_digests, hidden_of, issued_digests, marked_claims}
use Rattle.issuer_core.specs.IssueCalls.{AllDiffer}
use Rattle.issuer_core.specs.GoodOrder.{IsGoodOrder}
use Rattle.issuer_core.specs.Laid.{IsLaid}
use Rattle.issuer_core.specs.Order.{Order}
use Rattle.sd_outside.proofs.Lists.{At-below, At-either, At-of_map, At-left}
use Rattle.rebuild_core.proofs.Found.{found}
use Rattle.issuer_core.proofs.Closing.{items_length, order_closes, order_marks}
use Rattle.issuer_core.proofs.DecoyPlaces.{in_decoys}
use Rattle.issuer_core.proofs.ItemNumbers.{depth_within, has_items, items_numbered}
use Rattle.issuer_core.proofs.LaidOpens.{NoneFound, laid_opens}
use Rattle.issuer_core.proofs.NumberedDigests.{numbered_at}
use Rattle.issuer_core.proofs.Plain.{marked_plain}
use Rattle.rebuild_core.proofs.Repeated.{length-digests}

module _ (mk : Maker) (o : Order) (p : Tree) (g : List Given) (dg : ℕ → Text) (good : IsGoodOrder o) (laid : IsLaid mk o p g dg) (differ : AllDiffer dg (hidden_of o + length (decoys_of o))) where
  abbrev n : ℕ
  n = hidden_of o

  abbrev dec : Path → List Text
  dec = decoys_at dg n (decoys_of o)

  pub laid_count : length g ≡ hidden_of o
  laid_count = ap length laid.given_laid ∙ items_length dec dg (marked_claims o) ∙ order_marks o

  pub digest_is : (k : ℕ) (x : Given) → StandsAt g k x → x.digest ≡ dg k
  digest_is k x a =
      items_numbered dec dg 0 (marked_claims o) (order_closes o) k x (subst (λ (xs : List Given). StandsAt xs k x) laid.given_laid a)
      ∙ ap dg (let e : 0 + k ≡ k = omega arith in e)

  pub laid_made : (k : ℕ) (x : Given) → StandsAt g k x → x.digest ≡ mk.digest o.hash (mk.disclosure k x.name x.value)
  laid_made k x a = digest_is k x a ∙ laid.disclosures k x a

  -- the digest at each place is that of its number
  issued_at : (q : ℕ) (d : Text) → StandsAt (issued_digests mk o g) q d → (q < n + length (decoys_of o)) × (d ≡ dg q)
  issued_at q d h =
      ⊎_elim
      (λ a. let w = At-of_map (λ (x : Given). x.digest) g q d a in (omega (arith, At-below g q w.0 w.1, laid_count), w.2 ∙ digest_is q w.0 w.1))
      (λ b.
      let w = numbered_at (λ k. mk.digest o.hash (mk.piece k)) n (length (decoys_of o)) b.0 d b.2 in
      let e : n + b.0 ≡ q = omega (arith, b.1, length-digests g, laid_count) in
      (omega (arith, w.0, e), w.1 ∙ sym (laid.decoys b.0 w.0) ∙ ap dg e))
      (At-either (given_digests g) (decoy_digests mk o) q d h)

  pub laid_differ : AtNone (Repeats (issued_digests mk o g))
  laid_differ q (d, a, j, l, b) =
      let x = issued_at q d a in
      let y = issued_at j d b in
      differ j q l x.0 (sym y.1 ∙ x.1)

  pub given_differ : AtNone (Repeats (given_digests g))
  given_differ q (d, a, j, l, b) = laid_differ q (d, At-left (given_digests g) (decoy_digests mk o) q d a, j, l, At-left (given_digests g) (decoy_digests mk o) j d b)

  pub none_found : (q : Path) → NoneFound g (decoys_at dg (hidden_of o) (decoys_of o) q)
  none_found q d m = go (find g d) refl
    where
      go : (r : Option (ℕ × Given)) → find g d ≡ r → r ≡ None
      go None e = refl
      go (Some (j, x)) e =
          let f = found 0 g d j x e in
          let w = in_decoys dg n (decoys_of o) q d m in
          absurd (differ f.0 (n + w.0) (omega (arith, At-below g f.0 x f.1, laid_count)) (omega (arith, w.1)) (sym (digest_is f.0 x f.1) ∙ f.2 ∙ w.2))

  pub laid_processed : processed p g ≡ marked_claims o
  laid_processed =
      ap (opened (suc (length g)) g) laid.payload_laid
      ∙ laid_opens g dg (suc (length g)) dec (marked_claims o)
      (omega (arith, depth_within (marked_claims o), order_marks o, laid_count))
      (marked_plain (is_among o.hide) 0 o.payload good.ordered good.no_reserved)
      (has_items g dg given_differ dec 0 (marked_claims o) (order_closes o) none_found
      (λ q x a. subst (λ z. StandsAt g z x) (let e : q ≡ 0 + q = omega arith in e) (subst (λ (xs : List Given). StandsAt xs q x) (sym laid.given_laid) a)))
