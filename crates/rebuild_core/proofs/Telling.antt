-- What the numbers of a tree's sites tell to its opening.
use Rattle.std.proofs.Common.{◌≡◌, ℕ, zero, suc, ◌<◌, ◌≤◌, List, [], ◌∷◌, length, take, drop, Option, Some, None, refl, subst, arith}
use Rattle.claim_tree.specs.Tree.{Text, Tree, IsOrdered}
use Rattle.sd_outside.specs.Lists.{StandsAt}
use Rattle.sd_outside.proofs.Lists.{At-same, At-below, At-get, one_place}
use Rattle.digest_sites.specs.Sites.{sites}
use Rattle.digest_sites.specs.SiteCalls.{digests}
use Rattle.digest_sites.specs.Given.{Given}
use Rattle.rebuild_core.specs.Payload.{without_alg}
use Rattle.rebuild_core.specs.Reached.{find}
use Rattle.rebuild_core.specs.Opening.{nothing_shown, shown, reveal, opened}
use Rattle.rebuild_core.specs.Soundness.{IsReferencedOnce}
use Rattle.rebuild_core.specs.Answer.{IsPayload}
use Rattle.rebuild_core.specs.Cursor.{NumberTells, TellFirst, NumbersTell}
use Rattle.rebuild_core.specs.DigestNumbers.{AllAt, IsFlatList}
use Rattle.rebuild_core.proofs.Found.{found}
use Rattle.rebuild_core.proofs.Fixed.{unknown, fixed}
use Rattle.rebuild_core.proofs.Transfer.{Apart, two_parts, starts}

module _ (p : Tree) (g : List Given) (ok : IsReferencedOnce p g) (ix : List Text) (apart : Apart ix) (known : (i : ℕ) (x : Given) → StandsAt g i x → StandsAt ix i x.digest) where
  tells : (k : ℕ) (d : Text) → StandsAt ix k d → NumberTells g k d
  tells k d a = record {
    known = λ x b. subst (λ z. reveal (length g) g z ≡ shown k x.name (opened (length g) g x.value)) (At-same ix k x.digest d (known k x b) a) (fixed p g ok k x b);
    unknown = λ l. none l (find g d) refl;
  }
    where
      none : length g ≤ k → (o : Option (ℕ × Given)) → find g d ≡ o → reveal (length g) g d ≡ nothing_shown
      none l None e = unknown (length g) g d e
      none l (Some (j, x)) e =
          let v = found 0 g d j x e in
          let b : StandsAt ix v.0 d = subst (λ z. StandsAt ix v.0 z) v.2 (known v.0 x v.1) in
          let q : k ≡ v.0 = one_place ix apart k v.0 d a b in
          absurd (omega (arith, l, q, At-below g v.0 x v.1))

  pub all_tell : (ks : List ℕ) (ds : List Text) → AllAt ix ks ds → TellFirst g ks ds
  all_tell [] [] h = tt
  all_tell (k ∷ ks) (d ∷ ds) h = (tells k d h.0, all_tell ks ds h.1)
  all_tell [] (d ∷ ds) h = elim h [ ]
  all_tell (k ∷ ks) [] h = tt

tell_more : (g : List Given) (ks : List ℕ) (ds : List Text) (m : ℕ) → TellFirst g (take m ks) ds → TellFirst g ks ds
tell_more g ks [] m h = tt
tell_more g (k ∷ ks) (d ∷ ds) (suc m) h = (h.0, tell_more g ks ds m h.1)
tell_more g (k ∷ ks) (d ∷ ds) zero h = elim h [ ]
tell_more g [] (d ∷ ds) zero h = elim h [ ]
tell_more g [] (d ∷ ds) (suc m) h = elim h [ ]

module _ (t : Tree) (g : List Given) (o : IsOrdered t) (is : IsPayload t) (ok : IsReferencedOnce (without_alg t) g) (ix : List Text) (ks ends : List ℕ) (w : IsFlatList t g ix ks ends) where
  pub roots_tell : TellFirst g ks (digests (sites (without_alg t)))
  roots_tell =
      let here = (two_parts t g o is ix ks ends w).0 in
      tell_more g ks (digests (sites (without_alg t))) _ (all_tell (without_alg t) g ok ix w.apart w.given_first _ (digests (sites (without_alg t))) here)

  pub rows_tell : (j : ℕ) (x : Given) (start : ℕ) → StandsAt g j x → StandsAt ends j start → TellFirst g (drop start ks) (digests (sites x.value))
  rows_tell j x start a b =
      let v = starts t g o is ix ks ends w j x a in
      let same : v.0 ≡ start = At-same ends j v.0 start v.1 b in
      subst (λ z. TellFirst g (drop z ks) (digests (sites x.value))) same
      (tell_more g (drop v.0 ks) (digests (sites x.value)) v.2 (all_tell (without_alg t) g ok ix w.apart w.given_first (take v.2 (drop v.0 ks)) (digests (sites x.value)) v.3))

  -- what opening asks of the numbers
  pub told : length ends ≡ suc (length g) → NumbersTell (without_alg t) g ks ends
  told many = record {
    payload = roots_tell;
    values = λ j x a.
        let within : j < length ends = let below = At-below g j x a in omega (arith, below, many) in
        let start = At-get ends j within in
        (start.0, start.1, rows_tell j x start.0 a start.1);
  }
