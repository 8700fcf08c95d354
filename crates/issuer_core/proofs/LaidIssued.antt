-- What is laid, with digests that all differ, is issued.
use Rattle.std.proofs.Common.{◌≡◌, ℕ, ◌+◌, List, ap, arith, cond, length, refl, subst, sym, ◌∙◌}
use Rattle.std.specs.Prelude.{bytes_eq}
use Rattle.sd_outside.specs.Lists.{In}
use Rattle.claim_tree.specs.Tree.{Text, Tree, IsRanged}
use Rattle.digest_sites.specs.Given.{Given}
use Rattle.digest_sites.specs.Sites.{sites}
use Rattle.marked_tree.specs.Paths.{Path, is_among}
use Rattle.rebuild_core.specs.Reached.{given_digests, all_digests}
use Rattle.issuer_core.specs.Decoys.{decoys_at, decoys_of}
use Rattle.issuer_core.specs.Digests.{Maker, decoy_digests, hidden_of, issued_digests, marked_claims}
use Rattle.issuer_core.specs.IssueCalls.{AllDiffer}
use Rattle.issuer_core.specs.GoodOrder.{IsGoodOrder}
use Rattle.issuer_core.specs.ShortLists.{HasShortLists}
use Rattle.issuer_core.specs.Issued.{DecoysStand, HasDigestLists, IsIssuedFor}
use Rattle.issuer_core.specs.Laid.{IsLaid}
use Rattle.issuer_core.specs.Order.{Order}
use Rattle.marked_tree.proofs.MarkFacts.{mark_strips_holds}
use Rattle.marked_tree.proofs.Sums.{sum_of, sum_of-append, sum_of-map}
use Rattle.issuer_core.proofs.DecoyPlaces.{held_at}
use Rattle.issuer_core.proofs.DecoySums.{decoy_sum, decoys_sum}
use Rattle.issuer_core.proofs.LaidItems.{laid_count, laid_differ, laid_made, laid_processed}
use Rattle.issuer_core.proofs.LaidLists.{are_decoys, items_listed, lay_lists}
use Rattle.issuer_core.proofs.LaidBounds.{payload_ranged, value_ranged}
use Rattle.issuer_core.proofs.LaidOrdered.{laid_is_readable_holds}
use Rattle.issuer_core.proofs.LaidSums.{all_sum, digest_sum, laid_sum, occurs_is, site_sum, value_sum}
use Rattle.issuer_core.proofs.NumberedDigests.{numbered_same}
use Rattle.issuer_core.proofs.Plain.{marked_plain}

module _ (mk : Maker) (o : Order) (p : Tree) (g : List Given) (dg : ℕ → Text) (good : IsGoodOrder o) (ranged : IsRanged o.payload) (short : HasShortLists o.payload) (laid : IsLaid mk o p g dg) (differ : AllDiffer dg (hidden_of o + length (decoys_of o))) where
  abbrev dec : Path → List Text
  dec = decoys_at dg (hidden_of o) (decoys_of o)

  same_sums : (f : Text → ℕ) → sum_of f (all_digests p g) ≡ sum_of f (issued_digests mk o g)
  same_sums f =
      omega (
        arith,
        all_sum f p g,
        ap (λ t. site_sum f (sites t)) laid.payload_laid,
        ap (value_sum f) laid.given_laid,
        laid_sum f dec dg (marked_claims o) (marked_plain (is_among o.hide) 0 o.payload good.ordered good.no_reserved),
        ap (digest_sum f) laid.given_laid,
        ap (decoy_sum f dec) (mark_strips_holds o.payload o.hide),
        decoys_sum f dg (hidden_of o) (decoys_of o) o.payload good.ordered short (held_at o good),
        sum_of-append f (given_digests g) (decoy_digests mk o),
        sum_of-map f (λ (x : Given). x.digest) g,
        ap (sum_of f) (numbered_same dg (λ k. mk.digest o.hash (mk.piece k)) (hidden_of o) (length (decoys_of o)) laid.decoys),
      )

  pub issued : DecoysStand mk o p g → IsIssuedFor mk o p g
  issued decoys =
      let d = are_decoys dg (hidden_of o) (length (decoys_of o)) differ (decoys_of o) refl in
      record {
        count = laid_count mk o p g dg good laid differ;
        made = laid_made mk o p g dg good laid differ;
        opens = laid_processed mk o p g dg good laid differ;
        each_once = λ e. occurs_is e (all_digests p g) ∙ same_sums (λ z. cond (bytes_eq z e) 1 0) ∙ sym (occurs_is e (issued_digests mk o g));
        differ = laid_differ mk o p g dg good laid differ;
        decoys = decoys;
        payload_rises = subst HasDigestLists (sym laid.payload_laid)
            (lay_lists dg (hidden_of o) (length (decoys_of o)) differ dec d (is_among o.hide) 0 o.payload good.no_reserved (omega arith));
        values_rise = λ x m. items_listed dg (hidden_of o) (length (decoys_of o)) differ dec d (is_among o.hide) 0 o.payload good.no_reserved (omega arith) x (subst (λ (xs : List Given). In x xs) laid.given_laid m);
        readable = laid_is_readable_holds mk o p g dg good laid;
        payload_ranged = payload_ranged mk o p g dg laid ranged;
        values_ranged = value_ranged mk o p g dg laid ranged;
      }
