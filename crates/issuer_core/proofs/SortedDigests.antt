-- Texts sorted by their bytes: a stable sort answers what the definition says.
use Rattle.std.proofs.Common.{◌≡◌, ◌≢◌, ◌<◌, List, [], ◌∷◌, length, true, cond, Ordering, Less, Equal, Greater, refl, sym, ap, ◌∙◌, arith}
use Rattle.std.specs.List.Sorted.{IsSortedBy, IsStableBy, ties}
use Rattle.std.specs.Ordering.{match_ordering}
use Rattle.claim_tree.specs.TreeValues.{text_elements}
use Rattle.claim_tree.specs.Tree.{Text, Members, array, inserted}
use Rattle.digest_sites.specs.Reserved.{sd_name}
use Rattle.sd_outside.proofs.Lists.{bytes_same}
use Rattle.claim_tree.proofs.MapPlaces.{cmp, before_after}
use Rattle.issuer_core.specs.Laid.{sorted, sorted_with, with_sd}
use Rattle.marked_tree.proofs.RisingTexts.{lower, tie_is, NoneBelow, Rising, rising, below_all, same_as, swapped, one_rising}

with_below : (x d : Text) (ds : List Text) → cmp x d ≢ Greater → NoneBelow x ds → NoneBelow x (sorted_with d ds)
with_below x d [] n all = (n, tt)
with_below x d (e ∷ ds) n all = go (cmp d e) (with_below x d ds n all.1)
  where
    go : (o : Ordering) → NoneBelow x (sorted_with d ds) → NoneBelow x (match_ordering o (d ∷ e ∷ ds) (d ∷ e ∷ ds) (e ∷ sorted_with d ds))
    go Less ih = (n, all)
    go Equal ih = (n, all)
    go Greater ih = (all.0, ih)

with_rising : (d : Text) (ds : List Text) → Rising ds → Rising (sorted_with d ds)
with_rising d [] r = (tt, tt)
with_rising d (e ∷ ds) r = go (cmp d e) refl (with_rising d ds r.1)
  where
    go : (o : Ordering) → cmp d e ≡ o → Rising (sorted_with d ds) → Rising (match_ordering o (d ∷ e ∷ ds) (d ∷ e ∷ ds) (e ∷ sorted_with d ds))
    go Less c ih = ((λ g. let w : Less ≡ Greater = sym c ∙ g in cc, below_all d e ds (λ g. let w : Less ≡ Greater = sym c ∙ g in cc) r.0), r)
    go Equal c ih = ((λ g. let w : Equal ≡ Greater = sym c ∙ g in cc, below_all d e ds (λ g. let w : Equal ≡ Greater = sym c ∙ g in cc) r.0), r)
    go Greater c ih = (with_below e d ds (λ g. let w : Less ≡ Greater = sym (before_after d e c) ∙ g in cc) r.0, ih)

pub sorted_rising : (ds : List Text) → Rising (sorted ds)
sorted_rising [] = tt
sorted_rising (d ∷ ds) = with_rising d (sorted ds) (sorted_rising ds)

with_same : (x d : Text) (ds : List Text) → same_as x (sorted_with d ds) ≡ same_as x (d ∷ ds)
with_same x d [] = refl
with_same x d (e ∷ ds) = go (cmp d e) refl (with_same x d ds)
  where
    both : ties lower x d ≡ true → ties lower x e ≡ true → d ≡ e
    both f g = bytes_same d x (sym (tie_is x d) ∙ f) ∙ sym (bytes_same e x (sym (tie_is x e) ∙ g))

    go : (o : Ordering) → cmp d e ≡ o → same_as x (sorted_with d ds) ≡ same_as x (d ∷ ds)
        → same_as x (match_ordering o (d ∷ e ∷ ds) (d ∷ e ∷ ds) (e ∷ sorted_with d ds)) ≡ same_as x (d ∷ e ∷ ds)
    go Less c ih = refl
    go Equal c ih = refl
    go Greater c ih =
        ap (λ (fs : List Text). cond (ties lower x e) (e ∷ fs) fs) ih ∙ swapped (ties lower x d) (ties lower x e) d e (same_as x ds) both

sorted_same : (x : Text) (ds : List Text) → same_as x (sorted ds) ≡ same_as x ds
sorted_same x [] = refl
sorted_same x (d ∷ ds) = with_same x d (sorted ds) ∙ ap (λ (fs : List Text). cond (ties lower x d) (d ∷ fs) fs) (sorted_same x ds)

pub sort_is : (xs ys : List Text) → IsSortedBy lower ys → IsStableBy lower xs ys → ys ≡ sorted xs
sort_is xs ys s stable = one_rising ys (sorted xs) (rising ys s) (sorted_rising xs) (λ x. stable x ∙ sym (sorted_same x xs))

-- some digests are a member
pub with_some : (ds : List Text) (ms : Members) → 0 < length ds → with_sd (sorted ds) ms ≡ inserted ms sd_name (array (text_elements (sorted ds)))
with_some [] ms l = absurd (omega (arith, l))
with_some (d ∷ ds) ms l = go (sorted ds)
  where
    go : (es : List Text) → with_sd (sorted_with d es) ms ≡ inserted ms sd_name (array (text_elements (sorted_with d es)))
    go [] = refl
    go (e ∷ es) = by (cmp d e)
      where
        by : (o : Ordering) → with_sd (match_ordering o (d ∷ e ∷ es) (d ∷ e ∷ es) (e ∷ sorted_with d es)) ms ≡ inserted ms sd_name (array (text_elements (match_ordering o (d ∷ e ∷ es) (d ∷ e ∷ es) (e ∷ sorted_with d es))))
        by Less = refl
        by Equal = refl
        by Greater = refl
