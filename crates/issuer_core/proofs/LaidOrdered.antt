-- What is laid has ascending names.
use Rattle.std.proofs.Common.{ℕ, suc, List, [], ◌∷◌, ◌++◌, None, Option, Some, decimal, inl, inr, subst, sym, ⊎_elim}
use Rattle.claim_tree.specs.TreeValues.{text_elements}
use Rattle.sd_outside.specs.Lists.{In}
use Rattle.claim_tree.specs.Tree.{ElementsOrdered, IsBeforeAll, IsOrdered, Members, MembersOrdered, Text, Tree, array, names}
use Rattle.digest_sites.specs.Given.{Given}
use Rattle.digest_sites.specs.Reserved.{sd_name}
use Rattle.marked_tree.specs.Marked.{Marked, MarkedElements, MarkedMembers, marked_array, marked_element, marked_leaf, marked_member, marked_object, no_marked_elements, no_marked_members}
use Rattle.marked_tree.specs.MarkedCalls.{marked_names}
use Rattle.marked_tree.specs.Paths.{Path, is_among}
use Rattle.issuer_core.specs.Decoys.{decoys_at, decoys_of}
use Rattle.issuer_core.specs.Digests.{hidden_of, marked_claims}
use Rattle.issuer_core.specs.Laid.{digest_elements, hidden_digests, laid_elements, laid_given, laid_members, lay, lay_elements, lay_members, own_given, sorted, with_sd}
use Rattle.issuer_core.specs.Laws.{LaidIsReadable}
use Rattle.sd_outside.proofs.Lists.{In-append}
use Rattle.claim_tree.proofs.MapPlaces.{ordered-inserted}
use Rattle.issuer_core.proofs.Plain.{ElementsPlain, IsPlain, MembersPlain, marked_plain}
use Rattle.claim_tree.proofs.TextElements.{texts_ordered}

decoys_ordered : (ds : List Text) → ElementsOrdered (digest_elements ds)
decoys_ordered [] = tt
decoys_ordered (d ∷ ds) = ((tt, tt, tt), decoys_ordered ds)

with_sd_ordered : (ds : List Text) (ms : Members) → MembersOrdered ms → MembersOrdered (with_sd ds ms)
with_sd_ordered [] ms o = o
with_sd_ordered (d ∷ ds) ms o = ordered-inserted ms sd_name (array (text_elements (d ∷ ds))) o (texts_ordered (d ∷ ds))

module _ (dg : ℕ → Text) where
  pub lay_names_after : (dec : Path → List Text) (l : Text) (ms : MarkedMembers) → IsBeforeAll l (marked_names ms) → IsBeforeAll l (names (lay_members dec dg ms))
  lay_names_after dec l no_marked_members a = tt
  lay_names_after dec l (marked_member k None t ms) a = (a.0, lay_names_after dec l ms a.1)
  lay_names_after dec l (marked_member k (Some i) t ms) a = lay_names_after dec l ms a.1

  mutual
    lay_ordered : (dec : Path → List Text) (m : Marked) → IsPlain m → IsOrdered (lay dec dg m)
    lay_ordered dec (marked_leaf l) p = tt
    lay_ordered dec (marked_array es) p = elements_ordered dec 0 es p
    lay_ordered dec (marked_object ms) p = with_sd_ordered (sorted (hidden_digests dg ms ++ dec [])) (lay_members dec dg ms) (members_ordered dec ms p)

    elements_ordered : (dec : Path → List Text) (i : ℕ) (es : MarkedElements) → ElementsPlain es → ElementsOrdered (lay_elements dec dg i es)
    elements_ordered dec i no_marked_elements p = decoys_ordered (dec [])
    elements_ordered dec i (marked_element None t es) p = (lay_ordered (λ q. dec (decimal i ∷ q)) t p.0, elements_ordered dec (suc i) es p.1)
    elements_ordered dec i (marked_element (Some k) t es) p = ((tt, tt, tt), elements_ordered dec (suc i) es p.1)

    members_ordered : (dec : Path → List Text) (ms : MarkedMembers) → MembersPlain ms → MembersOrdered (lay_members dec dg ms)
    members_ordered dec no_marked_members p = tt
    members_ordered dec (marked_member k None t ms) p = (lay_names_after dec k ms p.2, lay_ordered (λ q. dec (k ∷ q)) t p.3, members_ordered dec ms p.4)
    members_ordered dec (marked_member k (Some i) t ms) p = members_ordered dec ms p.4

  abbrev ValuesOrdered : List Given → Type 0
  ValuesOrdered xs = (x : Given) → In x xs → IsOrdered x.value

  join : (xs ys : List Given) → ValuesOrdered xs → ValuesOrdered ys → ValuesOrdered (xs ++ ys)
  join xs ys a b x m = ⊎_elim (λ z. a x z) (λ z. b x z) (In-append x xs ys m)

  own : (name : Option Text) (i : Option ℕ) (v : Tree) → IsOrdered v → ValuesOrdered (own_given dg name i v)
  own name None v h x m = elim m [ ]
  own name (Some k) v h x (inl e) = subst (λ (z : Given). IsOrdered z.value) (sym e) h
  own name (Some k) v h x (inr m) = elim m [ ]

  mutual
    items_ordered : (dec : Path → List Text) (m : Marked) → IsPlain m → ValuesOrdered (laid_given dec dg m)
    items_ordered dec (marked_leaf l) p = λ x m. elim m [ ]
    items_ordered dec (marked_array es) p = elements_items_ordered dec 0 es p
    items_ordered dec (marked_object ms) p = members_items_ordered dec ms p

    elements_items_ordered : (dec : Path → List Text) (i : ℕ) (es : MarkedElements) → ElementsPlain es → ValuesOrdered (laid_elements dec dg i es)
    elements_items_ordered dec i no_marked_elements p = λ x m. elim m [ ]
    elements_items_ordered dec i (marked_element k t es) p =
        let s : Path → List Text = λ q. dec (decimal i ∷ q) in
        join (laid_given s dg t ++ own_given dg None k (lay s dg t)) (laid_elements dec dg (suc i) es)
        (join (laid_given s dg t) (own_given dg None k (lay s dg t)) (items_ordered s t p.0) (own None k (lay s dg t) (lay_ordered s t p.0))) (elements_items_ordered dec (suc i) es p.1)

    members_items_ordered : (dec : Path → List Text) (ms : MarkedMembers) → MembersPlain ms → ValuesOrdered (laid_members dec dg ms)
    members_items_ordered dec no_marked_members p = λ x m. elim m [ ]
    members_items_ordered dec (marked_member k i t ms) p =
        let s : Path → List Text = λ q. dec (k ∷ q) in
        join (laid_given s dg t ++ own_given dg (Some k) i (lay s dg t)) (laid_members dec dg ms)
        (join (laid_given s dg t) (own_given dg (Some k) i (lay s dg t)) (items_ordered s t p.3) (own (Some k) i (lay s dg t) (lay_ordered s t p.3))) (members_items_ordered dec ms p.4)

pub laid_is_readable_holds : LaidIsReadable
laid_is_readable_holds mk o p g dg good laid =
    let dec = decoys_at dg (hidden_of o) (decoys_of o) in
    let plain = marked_plain (is_among o.hide) 0 o.payload good.ordered good.no_reserved in
    record {
      in_payload = subst IsOrdered (sym laid.payload_laid) (lay_ordered dg dec (marked_claims o) plain);
      in_values = λ x m. items_ordered dg dec (marked_claims o) plain x (subst (λ (xs : List Given). In x xs) laid.given_laid m);
    }
