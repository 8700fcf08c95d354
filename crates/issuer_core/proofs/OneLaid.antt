-- An order is laid in one way: the digests, the disclosures and the payload are determined by how texts are made.
use Rattle.std.proofs.Common.{◌≡◌, ℕ, suc, ◌+◌, ◌-◌, ◌<◌, ◌≤◌, ◌⊎◌, inl, inr, List, [], ◌∷◌, ◌++◌, None, Option, Some, ap, arith, decimal, length, refl, subst, sym, ◌∙◌, if◌then◌else◌}
use Rattle.std.proofs.lemmas.Bool.{cases_lt}
use Rattle.sd_outside.specs.Lists.{StandsAt}
use Rattle.claim_tree.specs.Tree.{Text, Tree}
use Rattle.disclosure.specs.declared.digests.HashAlg.{HashAlg}
use Rattle.digest_sites.specs.Given.{Given}
use Rattle.marked_tree.specs.Marked.{Marked, MarkedElements, MarkedMembers, marked_array, marked_element, marked_leaf, marked_member, marked_object, no_marked_elements, no_marked_members}
use Rattle.marked_tree.specs.Paths.{Path, same_path}
use Rattle.issuer_core.specs.Order.{Order}
use Rattle.issuer_core.specs.Decoys.{decoys_of, decoys_at}
use Rattle.issuer_core.specs.Digests.{Maker, hidden_of, marked_claims}
use Rattle.issuer_core.specs.Laid.{laid_elements, laid_given, laid_members, lay, own_given, order_decoys, IsLaid}
use Rattle.marked_tree.specs.Ways.{weight, mark_weight}
use Rattle.issuer_core.specs.Closing.{one, HasNumber, ClosesFrom, ElementsClose, MembersClose}
use Rattle.sd_outside.proofs.Lists.{At-get}
use Rattle.issuer_core.proofs.Agrees.{MarkAgrees, MarksAgree, ElementsAgree, MembersAgree, DecoysAgree, lay_agrees, items_agree}
use Rattle.issuer_core.proofs.Closing.{items_length, order_closes, order_marks}
use Rattle.issuer_core.proofs.ItemNumbers.{EachFrom, parts}

module _ (maker : Maker) (hash : HashAlg) where
  -- the digest with this number is that of the disclosure
  abbrev IsMade : (ℕ → Text) → ℕ → Given → Type 0
  IsMade dg n x = dg n ≡ maker.digest hash (maker.disclosure n x.name x.value)

  abbrev Made : (ℕ → Text) → ℕ → List Given → Type 0
  Made dg n xs = EachFrom (IsMade dg) n xs

  module _ (dg dh : ℕ → Text) where
    own_agrees : (name : Option Text) (k : Option ℕ) (n : ℕ) (v u : Tree) → HasNumber k n → v ≡ u → Made dg n (own_given dg name k v) → Made dh n (own_given dh name k u) → MarkAgrees dg dh k
    own_agrees name None n v u is e a b = tt
    own_agrees name (Some k) n v u is e a b =
        let c : n + 0 ≡ k = omega (arith, is) in
        let here : dg k ≡ maker.digest hash (maker.disclosure k name v) = subst (λ z. dg z ≡ maker.digest hash (maker.disclosure z name v)) c (a 0 (record { digest = dg k; name = name; value = v }) refl) in
        let other : dh k ≡ maker.digest hash (maker.disclosure k name u) = subst (λ z. dh z ≡ maker.digest hash (maker.disclosure z name u)) c (b 0 (record { digest = dh k; name = name; value = u }) refl) in
        here ∙ (ap (λ t. maker.digest hash (maker.disclosure k name t)) e ∙ sym other)

    mutual
      pub marks_agree : (dec ded : Path → List Text) → DecoysAgree dec ded → (n : ℕ) (m : Marked) → ClosesFrom n m → Made dg n (laid_given dec dg m) → Made dh n (laid_given ded dh m) → MarksAgree dg dh m
      marks_agree dec ded e n (marked_leaf l) is a b = tt
      marks_agree dec ded e n (marked_array es) is a b = elements_agree dec ded e n 0 es is a b
      marks_agree dec ded e n (marked_object ms) is a b = members_agree dec ded e n ms is a b

      elements_agree : (dec ded : Path → List Text) → DecoysAgree dec ded → (n i : ℕ) (es : MarkedElements) → ElementsClose n es → Made dg n (laid_elements dec dg i es) → Made dh n (laid_elements ded dh i es) → ElementsAgree dg dh es
      elements_agree dec ded e n i no_marked_elements is a b = tt
      elements_agree dec ded e n i (marked_element k t es) is a b =
          let x : Path → List Text = λ q. dec (decimal i ∷ q) in
          let y : Path → List Text = λ q. ded (decimal i ∷ q) in
          let s : DecoysAgree x y = λ q. e (decimal i ∷ q) in
          let v = parts (IsMade dg) dg n (weight one t) k None (lay x dg t) (laid_given x dg t) (laid_elements dec dg (suc i) es) (items_length x dg t) a in
          let w = parts (IsMade dh) dh n (weight one t) k None (lay y dh t) (laid_given y dh t) (laid_elements ded dh (suc i) es) (items_length y dh t) b in
          let inside = marks_agree x y s n t is.0 v.inner w.inner in (
            own_agrees None k (n + weight one t) (lay x dg t) (lay y dh t) is.1 (lay_agrees dg dh x y s t inside) v.own w.own,
            inside,
            elements_agree dec ded e (n + (mark_weight one k + weight one t)) (suc i) es is.2 v.rest w.rest,
          )

      members_agree : (dec ded : Path → List Text) → DecoysAgree dec ded → (n : ℕ) (ms : MarkedMembers) → MembersClose n ms → Made dg n (laid_members dec dg ms) → Made dh n (laid_members ded dh ms) → MembersAgree dg dh ms
      members_agree dec ded e n no_marked_members is a b = tt
      members_agree dec ded e n (marked_member name k t ms) is a b =
          let x : Path → List Text = λ q. dec (name ∷ q) in
          let y : Path → List Text = λ q. ded (name ∷ q) in
          let s : DecoysAgree x y = λ q. e (name ∷ q) in
          let v = parts (IsMade dg) dg n (weight one t) k (Some name) (lay x dg t) (laid_given x dg t) (laid_members dec dg ms) (items_length x dg t) a in
          let w = parts (IsMade dh) dh n (weight one t) k (Some name) (lay y dh t) (laid_given y dh t) (laid_members ded dh ms) (items_length y dh t) b in
          let inside = marks_agree x y s n t is.0 v.inner w.inner in (
            own_agrees (Some name) k (n + weight one t) (lay x dg t) (lay y dh t) is.1 (lay_agrees dg dh x y s t inside) v.own w.own,
            inside,
            members_agree dec ded e (n + (mark_weight one k + weight one t)) ms is.2 v.rest w.rest,
          )

    -- the decoys at a place have the same digests
    decoys_agree : (n : ℕ) (places : List Path) → ((d : ℕ) → d < length places → dg (n + d) ≡ dh (n + d)) → (q : Path) → decoys_at dg n places q ≡ decoys_at dh n places q
    decoys_agree n [] e q = refl
    decoys_agree n (place ∷ places) e q =
        let c : n + 0 ≡ n = omega arith in
        let first : dg n ≡ dh n = subst (λ z. dg z ≡ dh z) c (e 0 (omega arith)) in
        rw first (ap (λ ds. (if same_path place q then dh n ∷ [] else []) ++ ds) (decoys_agree (suc n) places (λ d l. let k : n + suc d ≡ suc n + d = omega arith in subst (λ z. dg z ≡ dh z) k (e (suc d) (omega (arith, l)))) q))

module _ (maker : Maker) (o : Order) (p q : Tree) (g h : List Given) (dg dh : ℕ → Text) (this : IsLaid maker o p g dg) (other : IsLaid maker o q h dh) where
  same_decoys : (d : ℕ) → d < length (decoys_of o) → dg (hidden_of o + d) ≡ dh (hidden_of o + d)
  same_decoys d l = this.decoys d l ∙ sym (other.decoys d l)

  decoys_same : DecoysAgree (order_decoys o dg) (order_decoys o dh)
  decoys_same = decoys_agree maker o.hash dg dh (hidden_of o) (decoys_of o) same_decoys

  made_of : (dk : ℕ → Text) (r : Tree) (k : List Given) → IsLaid maker o r k dk → Made maker o.hash dk 0 (laid_given (order_decoys o dk) dk (marked_claims o))
  made_of dk r k laid i x a =
      let c : i ≡ 0 + i = omega arith in
      subst (λ z. dk z ≡ maker.digest o.hash (maker.disclosure z x.name x.value)) c (laid.disclosures i x (subst (λ (xs : List Given). StandsAt xs i x) (sym laid.given_laid) a))

  marks_same : MarksAgree dg dh (marked_claims o)
  marks_same = marks_agree maker o.hash dg dh (order_decoys o dg) (order_decoys o dh) decoys_same 0 (marked_claims o) (order_closes o) (made_of dg p g this) (made_of dh q h other)

  pub one_payload : p ≡ q
  one_payload = this.payload_laid ∙ (lay_agrees dg dh (order_decoys o dg) (order_decoys o dh) decoys_same (marked_claims o) marks_same ∙ sym other.payload_laid)

  pub one_given : g ≡ h
  one_given = this.given_laid ∙ (items_agree dg dh (order_decoys o dg) (order_decoys o dh) decoys_same (marked_claims o) marks_same ∙ sym other.given_laid)

  count : length g ≡ hidden_of o
  count = ap (λ (xs : List Given). length xs) this.given_laid ∙ (items_length (order_decoys o dg) dg (marked_claims o) ∙ order_marks o)

  below : (k n c : ℕ) → k < n + c → (k < n) ⊎ ((d : ℕ) × (d < c) × (k ≡ n + d))
  below k n c l = go (cases_lt k n)
    where
      go : (k < n) ⊎ (n ≤ k) → (k < n) ⊎ ((d : ℕ) × (d < c) × (k ≡ n + d))
      go (inl less) = inl less
      go (inr more) = inr (k - n, omega (arith, l, more), omega (arith, more))

  pub one_digest : (k : ℕ) → k < hidden_of o + length (decoys_of o) → dg k ≡ dh k
  one_digest k l = go (below k (hidden_of o) (length (decoys_of o)) l)
    where
      go : (k < hidden_of o) ⊎ ((d : ℕ) × (d < length (decoys_of o)) × (k ≡ hidden_of o + d)) → dg k ≡ dh k
      go (inr (d, less, is)) = subst (λ z. dg z ≡ dh z) (sym is) (same_decoys d less)
      go (inl less) =
          let there = At-get g k (omega (arith, less, count)) in
          let x = there.0 in
          this.disclosures k x there.1 ∙ sym (other.disclosures k x (subst (λ (xs : List Given). StandsAt xs k x) one_given there.1))
