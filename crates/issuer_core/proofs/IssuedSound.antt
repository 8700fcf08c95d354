-- An issued token is sound.
use Rattle.std.proofs.Common.{◌≡◌, ℕ, zero, suc, ◌+◌, ◌<◌, ◌≤◌, List, [], ◌∷◌, ◌++◌, Bool, ap, arith, cond, false, inl, inr, is_some, length, refl, subst, sym, true, ◌∙◌, ltb}
use Rattle.std.specs.Prelude.{bytes_eq}
use Rattle.claim_tree.proofs.Everywheres.{everywhere_else}
use Rattle.sd_outside.specs.Lists.{StandsAt, In, AtNone, Repeats}
use Rattle.claim_tree.specs.Tree.{Text, Tree, depth}
use Rattle.digest_sites.specs.Given.{Given}
use Rattle.marked_tree.specs.Laws.{HasEachMarkOnce}
use Rattle.marked_tree.specs.Marked.{strip}
use Rattle.marked_tree.specs.Ways.{only, weight}
use Rattle.rebuild_core.specs.AllShown.{AreAllShown, HasTextLists}
use Rattle.rebuild_core.specs.Soundness.{IsSound}
use Rattle.rebuild_core.specs.Free.{HasNoReserved}
use Rattle.rebuild_core.specs.Reached.{given_digests, all_digests}
use Rattle.rebuild_core.specs.Opening.{processed}
use Rattle.issuer_core.specs.Digests.{Maker, decoy_digests, issued_digests}
use Rattle.issuer_core.specs.GoodOrder.{IsGoodOrder}
use Rattle.issuer_core.specs.Issued.{HasDigestLists, IsIssuedFor, occurs}
use Rattle.issuer_core.specs.Laws.{IssuedIsSound}
use Rattle.issuer_core.specs.Order.{Order}
use Rattle.sd_outside.proofs.Lists.{In-At, bytes_refl, bytes_same, At-left}
use Rattle.marked_tree.proofs.MarkFacts.{mark_strips_holds, marks_once_holds}
use Rattle.marked_tree.proofs.SpotMarks.{way_with}
use Rattle.rebuild_core.proofs.AllShown.{shown_is_sound_holds}
use Rattle.issuer_core.proofs.LaidIssued.{issued}

-- ---- lists that have each text as often

pub once_at_most : (d : Text) (ds : List Text) → AtNone (Repeats ds) → occurs d ds ≤ 1
once_at_most d [] h = omega arith
once_at_most d (e ∷ ds) h = go (bytes_eq e d) refl (once_at_most d ds (λ q r. h (suc q) (r.0, r.1, suc r.2, omega (arith, r.3), r.4)))
  where
    none : (ds : List Text) → (In d ds → ⊥) → occurs d ds ≡ 0
    none [] out = refl
    none (e ∷ ds) out = step (bytes_eq e d) refl (none ds (λ m. out (inr m)))
      where
        step : (b : Bool) → bytes_eq e d ≡ b → occurs d ds ≡ 0 → cond b 1 0 + occurs d ds ≡ 0
        step true q ih = absurd (out (inl (sym (bytes_same e d q))))
        step false q ih = omega (arith, ih)

    go : (b : Bool) → bytes_eq e d ≡ b → occurs d ds ≤ 1 → cond b 1 0 + occurs d ds ≤ 1
    go true q ih =
        let z = none ds (λ m. let w = In-At ds d m in h (suc w.0) (d, w.1, 0, omega arith, sym (bytes_same e d q))) in
        omega (arith, z)
    go false q ih = omega (arith, ih)

pub there_once : (d : Text) (ds : List Text) (i : ℕ) → StandsAt ds i d → 1 ≤ occurs d ds
there_once d (e ∷ ds) zero a = let q : bytes_eq e d ≡ true = bytes_refl e d (sym a) in rw q (omega arith)
there_once d (e ∷ ds) (suc i) a = omega (arith, there_once d ds i a)
there_once d [] i a = elim a [ ]

pub there_twice : (d : Text) (ds : List Text) (i j : ℕ) → i < j → StandsAt ds i d → StandsAt ds j d → 2 ≤ occurs d ds
there_twice d (e ∷ ds) zero zero l a b = absurd (omega arith)
there_twice d (e ∷ ds) zero (suc j) l a b = let q : bytes_eq e d ≡ true = bytes_refl e d (sym a) in let z = there_once d ds j b in rw q (omega (arith, z))
there_twice d (e ∷ ds) (suc i) zero l a b = absurd (omega arith)
there_twice d (e ∷ ds) (suc i) (suc j) l a b = omega (arith, there_twice d ds i j (omega arith) a b)
there_twice d [] i j l a b = elim a [ ]

pub same_occurrences : (xs ys : List Text) → ((d : Text) → occurs d xs ≡ occurs d ys) → AtNone (Repeats ys) → AtNone (Repeats xs)
same_occurrences xs ys same none q (d, a, j, l, b) = absurd (omega (arith, there_twice d xs j q l b a, same d, once_at_most d ys none))

first_part : (xs ys : List Text) → AtNone (Repeats (xs ++ ys)) → AtNone (Repeats xs)
first_part xs ys h q (d, a, j, l, b) = h q (d, At-left xs ys q d a, j, l, At-left xs ys j d b)

-- ---- an issued token

text_lists : (t : Tree) → HasDigestLists t → HasTextLists t
text_lists t h = everywhere_else (λ l none. none) (λ es none. none) (λ name value is e. let w = is e in ap is_some w.2) t h

module _ (mk : Maker) (o : Order) (p : Tree) (g : List Given) (good : IsGoodOrder o) (issued : IsIssuedFor mk o p g) where
  once : HasEachMarkOnce (processed p g) (length g)
  once i =
      ap (weight (only i)) issued.opens ∙ marks_once_holds o.payload o.hide i
      ∙ ap (λ n. cond (ltb i n) 1 0) (sym issued.count)

  stripped : strip (processed p g) ≡ o.payload
  stripped = ap strip issued.opens ∙ mark_strips_holds o.payload o.hide

  shown : AreAllShown p g
  shown = record {
    no_repeated_disclosure = first_part (given_digests g) (decoy_digests mk o) issued.differ;
    no_repeated_digest = same_occurrences (all_digests p g) (issued_digests mk o g) issued.each_once issued.differ;
    each_shown = λ i l. let w = way_with (processed p g) (length g) once i l in (w.0, w.1, w.2);
    free = subst HasNoReserved (sym stripped) good.no_reserved;
    shallow = subst (λ t. depth t ≤ 100) (sym stripped) good.shallow;
    payload_lists = text_lists p issued.payload_rises;
    value_lists = λ x m. text_lists x.value (issued.values_rise x m);
  }

  sound : IsSound p g
  sound = shown_is_sound_holds p g issued.readable shown

pub issued_is_sound_holds : IssuedIsSound
issued_is_sound_holds mk o p g good issued = sound mk o p g good issued
