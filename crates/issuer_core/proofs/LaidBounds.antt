-- What is laid is as deep as the claims, or one level deeper, and its numbers are those of the claims.
use Rattle.std.proofs.Common.{ℕ, suc, ◌≤◌, List, [], ◌∷◌, ◌++◌, Equal, Greater, Less, None, Option, Ordering, Some, arith, decimal, inl, inr, subst, sym, ⊎_elim}
use Rattle.std.specs.Cmp.Lexicographic.{slice_cmp}
use Rattle.std.specs.Ordering.{match_ordering, nat_cmp}
use Rattle.claim_tree.specs.TreeValues.{text_elements}
use Rattle.sd_outside.specs.Lists.{In}
use Rattle.claim_tree.specs.Tree.{ElementsRanged, IsRanged, Members, MembersRanged, Text, Tree, array, depth, elements_depth, inserted, member, members_depth, no_members}
use Rattle.digest_sites.specs.Given.{Given}
use Rattle.digest_sites.specs.Reserved.{sd_name}
use Rattle.marked_tree.specs.Marked.{Marked, MarkedElements, MarkedMembers, marked_array, marked_element, marked_leaf, marked_member, marked_object, no_marked_elements, no_marked_members, strip, strip_elements, strip_members}
use Rattle.marked_tree.specs.Paths.{Path}
use Rattle.issuer_core.specs.Digests.{Maker, marked_claims}
use Rattle.issuer_core.specs.Laid.{IsLaid, digest_elements, hidden_digests, laid_elements, laid_given, laid_members, lay, lay_elements, lay_members, order_decoys, own_given, sorted, with_sd}
use Rattle.issuer_core.specs.Order.{Order}
use Rattle.claim_tree.proofs.Datas.{MembersRanged-inserted}
use Rattle.sd_outside.proofs.Lists.{In-append}
use Rattle.marked_tree.proofs.MarkFacts.{mark_strips_holds}
use Rattle.claim_tree.proofs.TextElements.{texts_depth, texts_ranged}

-- ---- depths

pub inserted_depth : (ms : Members) (n : Text) (t : Tree) (c : ℕ) → depth t ≤ c → members_depth ms ≤ c → members_depth (inserted ms n t) ≤ c
inserted_depth no_members n t c h k = omega (arith, h)
inserted_depth (member l u ms) n t c h k = go (slice_cmp nat_cmp l n) (inserted_depth ms n t c h (omega (arith, k)))
  where
    go : (o : Ordering) → members_depth (inserted ms n t) ≤ c → members_depth (match_ordering o (member l u (inserted ms n t)) (member n t ms) (member n t (member l u ms))) ≤ c
    go Less ih = omega (arith, ih, k)
    go Equal ih = omega (arith, h, k)
    go Greater ih = omega (arith, h, k)

digests_depth : (ds : List Text) → elements_depth (digest_elements ds) ≤ 1
digests_depth [] = omega arith
digests_depth (d ∷ ds) = omega (arith, digests_depth ds)

with_sd_depth : (ds : List Text) (ms : Members) (c : ℕ) → 1 ≤ c → members_depth ms ≤ c → members_depth (with_sd ds ms) ≤ c
with_sd_depth [] ms c l h = h
with_sd_depth (d ∷ ds) ms c l h = inserted_depth ms sd_name (array (text_elements (d ∷ ds))) c (omega (arith, texts_depth (d ∷ ds), l)) h

mutual
  -- by at most one level more than the claims
  pub lay_depth : (dec : Path → List Text) (dg : ℕ → Text) (m : Marked) → depth (lay dec dg m) ≤ suc (depth (strip m))
  lay_depth dec dg (marked_leaf l) = omega arith
  lay_depth dec dg (marked_array es) = omega (arith, elements_lay_depth dec dg 0 es)
  lay_depth dec dg (marked_object ms) =
      omega (arith, with_sd_depth (sorted (hidden_digests dg ms ++ dec [])) (lay_members dec dg ms) (suc (members_depth (strip_members ms))) (omega arith) (members_lay_depth dec dg ms))

  elements_lay_depth : (dec : Path → List Text) (dg : ℕ → Text) (i : ℕ) (es : MarkedElements) → elements_depth (lay_elements dec dg i es) ≤ suc (elements_depth (strip_elements es))
  elements_lay_depth dec dg i no_marked_elements = omega (arith, digests_depth (dec []))
  elements_lay_depth dec dg i (marked_element None t es) = omega (arith, lay_depth (λ q. dec (decimal i ∷ q)) dg t, elements_lay_depth dec dg (suc i) es)
  elements_lay_depth dec dg i (marked_element (Some k) t es) = omega (arith, elements_lay_depth dec dg (suc i) es)

  members_lay_depth : (dec : Path → List Text) (dg : ℕ → Text) (ms : MarkedMembers) → members_depth (lay_members dec dg ms) ≤ suc (members_depth (strip_members ms))
  members_lay_depth dec dg no_marked_members = omega arith
  members_lay_depth dec dg (marked_member k None t ms) = omega (arith, lay_depth (λ q. dec (k ∷ q)) dg t, members_lay_depth dec dg ms)
  members_lay_depth dec dg (marked_member k (Some i) t ms) = omega (arith, members_lay_depth dec dg ms)

-- ---- ranges

with_sd_ranged : (ds : List Text) (ms : Members) → MembersRanged ms → MembersRanged (with_sd ds ms)
with_sd_ranged [] ms h = h
with_sd_ranged (d ∷ ds) ms h = MembersRanged-inserted ms sd_name (array (text_elements (d ∷ ds))) h (texts_ranged (d ∷ ds))

digests_ranged : (ds : List Text) → ElementsRanged (digest_elements ds)
digests_ranged [] = tt
digests_ranged (d ∷ ds) = ((tt, tt), digests_ranged ds)

mutual
  pub lay_ranged : (dec : Path → List Text) (dg : ℕ → Text) (m : Marked) → IsRanged (strip m) → IsRanged (lay dec dg m)
  lay_ranged dec dg (marked_leaf l) r = r
  lay_ranged dec dg (marked_array es) r = elements_lay_ranged dec dg 0 es r
  lay_ranged dec dg (marked_object ms) r = with_sd_ranged (sorted (hidden_digests dg ms ++ dec [])) (lay_members dec dg ms) (members_lay_ranged dec dg ms r)

  elements_lay_ranged : (dec : Path → List Text) (dg : ℕ → Text) (i : ℕ) (es : MarkedElements) → ElementsRanged (strip_elements es) → ElementsRanged (lay_elements dec dg i es)
  elements_lay_ranged dec dg i no_marked_elements r = digests_ranged (dec [])
  elements_lay_ranged dec dg i (marked_element None t es) r = (lay_ranged (λ q. dec (decimal i ∷ q)) dg t r.0, elements_lay_ranged dec dg (suc i) es r.1)
  elements_lay_ranged dec dg i (marked_element (Some k) t es) r = ((tt, tt), elements_lay_ranged dec dg (suc i) es r.1)

  members_lay_ranged : (dec : Path → List Text) (dg : ℕ → Text) (ms : MarkedMembers) → MembersRanged (strip_members ms) → MembersRanged (lay_members dec dg ms)
  members_lay_ranged dec dg no_marked_members r = tt
  members_lay_ranged dec dg (marked_member k None t ms) r = (lay_ranged (λ q. dec (k ∷ q)) dg t r.0, members_lay_ranged dec dg ms r.1)
  members_lay_ranged dec dg (marked_member k (Some i) t ms) r = members_lay_ranged dec dg ms r.1

-- ---- values

abbrev AllValues : (Tree → Type 0) → List Given → Type 0
AllValues P xs = (x : Given) → In x xs → P x.value

values_joined : (P : Tree → Type 0) (xs ys : List Given) → AllValues P xs → AllValues P ys → AllValues P (xs ++ ys)
values_joined P xs ys a b x m = ⊎_elim (λ z. a x z) (λ z. b x z) (In-append x xs ys m)

own_value : (P : Tree → Type 0) (dg : ℕ → Text) (name : Option Text) (k : Option ℕ) (v : Tree) → P v → AllValues P (own_given dg name k v)
own_value P dg name None v h x m = elim m [ ]
own_value P dg name (Some k) v h x (inl e) = subst (λ (z : Given). P z.value) (sym e) h
own_value P dg name (Some k) v h x (inr m) = elim m [ ]

module _ (dg : ℕ → Text) where
  mutual
    items_ranged : (dec : Path → List Text) (m : Marked) → IsRanged (strip m) → AllValues IsRanged (laid_given dec dg m)
    items_ranged dec (marked_leaf l) r = λ x m. elim m [ ]
    items_ranged dec (marked_array es) r = elements_items_ranged dec 0 es r
    items_ranged dec (marked_object ms) r = members_items_ranged dec ms r

    elements_items_ranged : (dec : Path → List Text) (i : ℕ) (es : MarkedElements) → ElementsRanged (strip_elements es) → AllValues IsRanged (laid_elements dec dg i es)
    elements_items_ranged dec i no_marked_elements r = λ x m. elim m [ ]
    elements_items_ranged dec i (marked_element k t es) r =
        let s : Path → List Text = λ q. dec (decimal i ∷ q) in
        values_joined IsRanged (laid_given s dg t ++ own_given dg None k (lay s dg t)) (laid_elements dec dg (suc i) es)
        (values_joined IsRanged (laid_given s dg t) (own_given dg None k (lay s dg t)) (items_ranged s t r.0) (own_value IsRanged dg None k (lay s dg t) (lay_ranged s dg t r.0)))
        (elements_items_ranged dec (suc i) es r.1)

    members_items_ranged : (dec : Path → List Text) (ms : MarkedMembers) → MembersRanged (strip_members ms) → AllValues IsRanged (laid_members dec dg ms)
    members_items_ranged dec no_marked_members r = λ x m. elim m [ ]
    members_items_ranged dec (marked_member name k t ms) r =
        let s : Path → List Text = λ q. dec (name ∷ q) in
        values_joined IsRanged (laid_given s dg t ++ own_given dg (Some name) k (lay s dg t)) (laid_members dec dg ms)
        (values_joined IsRanged (laid_given s dg t) (own_given dg (Some name) k (lay s dg t)) (items_ranged s t r.0)
        (own_value IsRanged dg (Some name) k (lay s dg t) (lay_ranged s dg t r.0)))
        (members_items_ranged dec ms r.1)

-- ---- an order

module _ (mk : Maker) (o : Order) (p : Tree) (g : List Given) (dg : ℕ → Text) (laid : IsLaid mk o p g dg) where
  pub payload_ranged : IsRanged o.payload → IsRanged p
  payload_ranged r = subst IsRanged (sym laid.payload_laid) (lay_ranged (order_decoys o dg) dg (marked_claims o) (subst IsRanged (sym (mark_strips_holds o.payload o.hide)) r))

  pub value_ranged : IsRanged o.payload → (x : Given) → In x g → IsRanged x.value
  value_ranged r x m =
      items_ranged dg (order_decoys o dg) (marked_claims o) (subst IsRanged (sym (mark_strips_holds o.payload o.hide)) r) x (subst (λ (xs : List Given). In x xs) laid.given_laid m)
