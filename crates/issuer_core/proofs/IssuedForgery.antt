-- Disclosures that are sound with an issued payload, where none that is not issued has the digest of a disclosure or of a decoy,
-- are a closed choice of the issued ones.
use Rattle.std.proofs.Common.{◌≡◌, ◌+◌, ◌≤◌, List, [], ◌∷◌, Bool, true, false, cond, ◌⊎◌, inl, inr, ⊎_elim, refl, sym, subst, arith}
use Rattle.std.specs.Prelude.{bytes_eq}
use Rattle.sd_outside.specs.Lists.{In}
use Rattle.claim_tree.specs.Tree.{Text, Tree}
use Rattle.digest_sites.specs.Given.{Given}
use Rattle.marked_tree.specs.Marked.{Marked, strip}
use Rattle.rebuild_core.specs.Free.{HasNoReserved}
use Rattle.rebuild_core.specs.Reached.{all_digests}
use Rattle.rebuild_core.specs.Soundness.{IsSound}
use Rattle.issuer_core.specs.Digests.{Maker, marked_claims, issued_digests}
use Rattle.issuer_core.specs.GoodOrder.{IsGoodOrder}
use Rattle.issuer_core.specs.Issued.{IsIssuedFor, occurs}
use Rattle.issuer_core.specs.Order.{Order}
use Rattle.sd_outside.proofs.Lists.{In-At, bytes_same}
use Rattle.marked_tree.proofs.MarkFacts.{mark_strips_holds}
use Rattle.rebuild_core.proofs.Forgery.{IsHonest, none_forged}
use Rattle.issuer_core.proofs.IssuedSound.{there_once, issued_is_sound_holds}

pub is_there : (d : Text) (ds : List Text) → 1 ≤ occurs d ds → In d ds
is_there d [] l = absurd (omega arith)
is_there d (e ∷ ds) l = go (bytes_eq e d) refl l (is_there d ds)
  where
    go : (b : Bool) → bytes_eq e d ≡ b → 1 ≤ cond b 1 0 + occurs d ds → (1 ≤ occurs d ds → In d ds) → In d (e ∷ ds)
    go true q l ih = inl (sym (bytes_same e d q))
    go false q l ih = inr (ih (omega (arith, l)))

module _ (maker : Maker) (o : Order) (p : Tree) (g : List Given) (good : IsGoodOrder o) (issued : IsIssuedFor maker o p g) where
  -- a digest that stands in the payload or in a value is one of the issued
  pub digest_issued : (d : Text) → In d (all_digests p g) → In d (issued_digests maker o g)
  digest_issued d m =
      let a = In-At (all_digests p g) d m in
      is_there d (issued_digests maker o g) (omega (arith, there_once d (all_digests p g) a.0 a.1, issued.each_once d))

  pub issued_not_forged : (gs : List Given) → IsSound p gs → ((x : Given) → In x gs → In x g ⊎ (In x.digest (issued_digests maker o g) → ⊥)) → IsHonest (marked_claims o) p g gs
  issued_not_forged gs sound known =
      let free : HasNoReserved (strip (marked_claims o)) = subst HasNoReserved (sym (mark_strips_holds o.payload o.hide)) good.no_reserved in
      subst (λ (m : Marked). IsHonest m p g gs) issued.opens
      (none_forged p g issued.readable (issued_is_sound_holds maker o p g good issued) (subst (λ (m : Marked). HasNoReserved (strip m)) (sym issued.opens) free) gs sound
      (λ x m. ⊎_elim (λ a. inl a) (λ out. inr (λ there. out (digest_issued x.digest there))) (known x m)))
