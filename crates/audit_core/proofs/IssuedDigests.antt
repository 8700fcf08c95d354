-- The digests of what is issued: those of its disclosures and those of its decoys, each once.
use Rattle.std.proofs.Common.{◌≡◌, ℕ, suc, ◌+◌, ◌≤◌, List, [], ◌∷◌, ◌++◌, length, true, false, cond, ◌⊎◌, inl, inr, ⊎_elim, refl, sym, ap, ◌∙◌, subst, arith}
use Rattle.std.specs.Prelude.{bytes_eq}
use Rattle.std.specs.List.{range_with_len}
use Rattle.std.proofs.lemmas.List.{length-append, length-map}
use Rattle.std.proofs.lemmas.List.FromFn.{length-map-range_with_len}
use Rattle.sd_outside.specs.Lists.{In}
use Rattle.claim_tree.specs.Tree.{Text, Tree}
use Rattle.sd_outside.proofs.Lists.{In-At, In-append, In-left, In-of_map, bytes_refl, bytes_same, list_any-from, list_any-In}
use Rattle.digest_sites.specs.Given.{Given}
use Rattle.rebuild_core.specs.Reached.{given_digests, all_digests}
use Rattle.issuer_core.specs.Decoys.{decoys_of}
use Rattle.issuer_core.specs.Digests.{hidden_of, decoy_digests, issued_digests}
use Rattle.issuer_core.specs.GoodOrder.{IsGoodOrder}
use Rattle.issuer_core.specs.Issued.{IsIssuedFor, occurs}
use Rattle.issuer_core.specs.Order.{Order}
use Rattle.issuer_core.specs.Salts.{salt_of}
use Rattle.issuer_core.specs.Seed.{maker_of}
use Rattle.issuer_core.proofs.IssuedForgery.{digest_issued, is_there}
use Rattle.issuer_core.proofs.IssuedSound.{same_occurrences, there_once}
use Rattle.audit_core.specs.Audited.{IsDigestText, is_given, HasDigests}
use Rattle.audit_core.proofs.IssuedHashes.{digest_formed}

-- ---- a list without one of its elements

pub splits : {X : Type 0} (x : X) (xs : List X) → In x xs → (us : List X) × (vs : List X) × (xs ≡ us ++ x ∷ vs)
splits x [] m = absurd m
splits x (y ∷ ys) (inl e) = ([], ys, ap (λ z. z ∷ ys) (sym e))
splits x (y ∷ ys) (inr m) = let w = splits x ys m in (y ∷ w.0, w.1, ap (λ zs. y ∷ zs) w.2)

pub in_rest : {X : Type 0} (x y : X) (us vs : List X) → In y (us ++ x ∷ vs) → (y ≡ x) ⊎ In y (us ++ vs)
in_rest x y [] vs m = m
in_rest x y (u ∷ us) vs (inl e) = inr (inl e)
in_rest x y (u ∷ us) vs (inr m) = ⊎_elim (λ a. inl a) (λ b. inr (inr b)) (in_rest x y us vs m)

length-split : (d : Text) (us vs : List Text) → length (us ++ d ∷ vs) ≡ suc (length (us ++ vs))
length-split d [] vs = refl
length-split d (u ∷ us) vs = ap suc (length-split d us vs)

occurs_split : (e d : Text) (us vs : List Text) → occurs e (us ++ d ∷ vs) ≡ cond (bytes_eq d e) 1 0 + occurs e (us ++ vs)
occurs_split e d [] vs = refl
occurs_split e d (u ∷ us) vs = omega (arith, occurs_split e d us vs)

pub occurs_append : (e : Text) (xs ys : List Text) → occurs e (xs ++ ys) ≡ occurs e xs + occurs e ys
occurs_append e [] ys = omega arith
occurs_append e (x ∷ xs) ys = omega (arith, occurs_append e xs ys)

pub there_some : (d : Text) (ds : List Text) → In d ds → 1 ≤ occurs d ds
there_some d ds m = let a = In-At ds d m in there_once d ds a.0 a.1

-- lists that have each text as often are as long
same_length : (xs ys : List Text) → ((d : Text) → occurs d xs ≡ occurs d ys) → length xs ≡ length ys
same_length [] [] same = refl
same_length (x ∷ xs) [] same = absurd (omega (arith, same x, there_once x (x ∷ xs) 0 refl))
same_length xs (d ∷ ys) same =
    let w = splits d xs (is_there d xs (omega (arith, same d, there_once d (d ∷ ys) 0 refl))) in
    let rest = same_length (w.0 ++ w.1) ys (λ e. omega (arith, same e, ap (occurs e) w.2, occurs_split e d w.0 w.1)) in
    omega (arith, ap (λ (zs : List Text). length zs) w.2, length-split d w.0 w.1, rest)

-- ---- the digests of disclosures

pub given_some : (g : List Given) (d : Text) → In d (given_digests g) → is_given g d ≡ true
given_some g d m = list_any-from (bytes_eq d) (given_digests g) d m (bytes_refl d d refl)

pub given_there : (g : List Given) (d : Text) → is_given g d ≡ true → In d (given_digests g)
given_there g d is =
    let w = list_any-In (bytes_eq d) (given_digests g) is in
    subst (λ (e : Text). In e (given_digests g)) (sym (bytes_same d w.0 w.2)) w.1

module _ (seed : List ℕ) (o : Order) (p : Tree) (g : List Given) (fine : IsGoodOrder o) (issued : IsIssuedFor (maker_of seed) o p g) where
  count : length (all_digests p g) ≡ hidden_of o + length (decoys_of o)
  count =
      let ds = given_digests g in
      let es = decoy_digests (maker_of seed) o in
      omega (
        arith,
        same_length (all_digests p g) (issued_digests (maker_of seed) o g) issued.each_once,
        length-append ds es,
        length-map g (λ (x : Given). x.digest),
        issued.count,
        length-map-range_with_len (λ k. (maker_of seed).digest o.hash ((maker_of seed).piece k)) (hidden_of o) (length (decoys_of o)),
      )

  formed : (d : Text) → In d (all_digests p g) → is_given g d ≡ false → IsDigestText o.hash d
  formed d m out =
      ⊎_elim
      (λ a. let is = given_some g d a in let clash : true ≡ false = sym is ∙ out in cc clash)
      (λ b.
      let w = In-of_map (λ k. (maker_of seed).digest o.hash ((maker_of seed).piece k)) d (range_with_len (hidden_of o) (length (decoys_of o))) b in
      subst (IsDigestText o.hash) (sym w.2) (digest_formed o.hash (salt_of seed w.0)))
      (In-append d (given_digests g) (decoy_digests (maker_of seed) o) (digest_issued (maker_of seed) o p g fine issued d m))

  pub has_digests : HasDigests o p g
  has_digests = record {
    count = count;
    differ = same_occurrences (all_digests p g) (issued_digests (maker_of seed) o g) issued.each_once issued.differ;
    each = λ d m.
        is_there d (all_digests p g)
        (omega (arith, issued.each_once d, there_some d (issued_digests (maker_of seed) o g) (In-left d (given_digests g) (decoy_digests (maker_of seed) o) m)));
    others = formed;
  }
