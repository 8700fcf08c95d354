-- The claims of an issued token have no more nodes than its compact text has bytes, so their lists are short.
use Rattle.std.proofs.Common.{ℕ, suc, ◌<◌, ◌≤◌, ◌^◌, pos, negsuc, List, [], ◌∷◌, ◌++◌, length, Bool, true, false, Option, None, Some, codes, length-append, inl, inr, refl, arith, ap, sym, subst, ◌∙◌, sum_by}
use Rattle.std.proofs.lemmas.Fmt.{decimal_nonempty}
use Rattle.std.proofs.lemmas.List.Sums.{sum_by-cons}
use Rattle.serde_json.specs.Written.{comma_if, items_text, members_text}
use Rattle.json.specs.Print.{quoted}
use Rattle.b64url_text.specs.Base64url.{bits, sixes, b64}
use Rattle.claim_tree.specs.Everywhere.{InElements, InMembers}
use Rattle.claim_tree.specs.JsonText.{json_text, elements_data, members_data}
use Rattle.sd_outside.specs.Lists.{In}
use Rattle.claim_tree.specs.Nodes.{nodes, elements_nodes, members_nodes}
use Rattle.claim_tree.specs.Tree.{null, flag, whole, text, Text, Tree, leaf, array, object, Elements, no_elements, element, Members, no_members, member, elements_len, IsRanged, ElementsRanged, MembersRanged}
use Rattle.compact_form.specs.Compact.{jwt, spelled, hashed, ending, compact}
use Rattle.compact_form.specs.declared.parts.Parts.{Parts}
use Rattle.digest_sites.specs.Given.{Given}
use Rattle.disclosure.specs.Disclosure.{array_of, disclosure_text}
use Rattle.disclosure.proofs.ReadBack.{array_ranged}
use Rattle.hmac_sign.specs.Signatures.{Meaning}
use Rattle.marked_tree.specs.Marked.{strip}
use Rattle.marked_tree.proofs.MarkFacts.{mark_strips_holds}
use Rattle.rebuild_core.specs.Laws.{IsWithinNodes}
use Rattle.rebuild_core.specs.Opening.{processed}
use Rattle.rebuild_core.specs.Soundness.{IsSound}
use Rattle.rebuild_core.proofs.Size.{processed_within}
use Rattle.issuer_core.specs.Digests.{marked_claims, made_texts}
use Rattle.issuer_core.specs.GoodOrder.{IsGoodOrder}
use Rattle.issuer_core.specs.Laid.{with_alg}
use Rattle.issuer_core.specs.Order.{Order}
use Rattle.issuer_core.specs.Salts.{salt_of}
use Rattle.issuer_core.specs.Seed.{maker_of}
use Rattle.issuer_core.specs.ShortLists.{HasShortLists}
use Rattle.issuer_core.specs.Written.{IsIssued}
use Rattle.issuer_core.proofs.FromLaid.{with_alg_ranged}
use Rattle.issuer_core.proofs.IssuedFacts.{sound, bare}

-- ---- a tree has no more nodes than its JSON has bytes

mutual
  nodes_written : (t : Tree) → IsRanged t → nodes t ≤ length (json_text t)
  nodes_written (leaf null) r = omega arith
  nodes_written (leaf (flag true)) r = omega arith
  nodes_written (leaf (flag false)) r = omega arith
  nodes_written (leaf (whole (pos n))) r = decimal_nonempty n r
  nodes_written (leaf (whole (negsuc n))) r = omega arith
  nodes_written (leaf (text s)) r = omega arith
  nodes_written (array es) r = omega (arith, elements_written false es r)
  nodes_written (object ms) r = omega (arith, members_written false ms r)

  elements_written : (later : Bool) (es : Elements) → ElementsRanged es → elements_nodes es ≤ length (items_text later (elements_data es))
  elements_written later no_elements r = omega arith
  elements_written later (element t es) r =
      let rest = items_text true (elements_data es) in
      omega (arith, length-append (comma_if later) (json_text t ++ rest), length-append (json_text t) rest, nodes_written t r.0, elements_written true es r.1)

  members_written : (later : Bool) (ms : Members) → MembersRanged ms → members_nodes ms ≤ length (members_text later (members_data ms))
  members_written later no_members r = omega arith
  members_written later (member name t ms) r =
      let rest = members_text true (members_data ms) in
      omega (
        arith,
        length-append (comma_if later) (quoted name ++ 58 ∷ (json_text t ++ rest)),
        length-append (quoted name) (58 ∷ (json_text t ++ rest)),
        length-append (json_text t) rest,
        nodes_written t r.0,
        members_written true ms r.1,
      )

b64_longer : (bytes : List ℕ) → length bytes ≤ length (b64 bytes)
unfolding b64 bits sixes
b64_longer [] = omega arith
b64_longer (a ∷ []) = omega arith
b64_longer (a ∷ b ∷ []) = omega arith
b64_longer (a ∷ b ∷ c ∷ rest) = omega (arith, b64_longer rest)

array_nodes : (salt : Text) (name : Option Text) (value : Tree) → nodes value ≤ nodes (array_of (leaf (text salt)) name value)
array_nodes salt None value = omega arith
array_nodes salt (Some name) value = omega arith

-- ---- the disclosures

disclosures_spelled : (seed : List ℕ) (k : ℕ) (g : List Given) → ((x : Given) → In x g → IsRanged x.value) → sum_by (λ (x : Given). nodes x.value) g ≤ length (spelled (made_texts (maker_of seed).disclosure k g))
disclosures_spelled seed k [] each = omega arith
disclosures_spelled seed k (x ∷ g) each =
    let salt = salt_of seed k in
    let d = disclosure_text (leaf (text salt)) x.name x.value in
    let t = array_of (leaf (text salt)) x.name x.value in
    omega (
      arith,
      sum_by-cons (λ (y : Given). nodes y.value) x g,
      length-append (d ++ codes "~") (spelled (made_texts (maker_of seed).disclosure (suc k) g)),
      length-append d (codes "~"),
      array_nodes salt x.name x.value,
      nodes_written t (array_ranged salt x.name x.value (each x (inl refl))),
      b64_longer (json_text t),
      disclosures_spelled seed (suc k) g (λ y m. each y (inr m)),
    )

-- ---- parts that are issued

module _ (seed : List ℕ) (o : Order) (alg : Text) (good : Meaning) (parts : Parts) (good_order : IsGoodOrder o) (is : IsIssued (maker_of seed) o alg good parts) where
  within : IsWithinNodes (with_alg o.hash is.payload) is.given (strip (marked_claims o))
  within =
      let out = bare seed o is.payload is.given good_order is.issued in
      processed_within (with_alg o.hash is.payload) is.given (marked_claims o)
      (subst (λ (t : Tree). IsSound t is.given) (sym out) (sound seed o is.payload is.given good_order is.issued))
      (sym is.issued.opens ∙ ap (λ (t : Tree). processed t is.given) (sym out))

  pub issued_nodes : nodes o.payload ≤ length (compact parts)
  issued_nodes =
      let body = json_text (with_alg o.hash is.payload) in
      let j = parts.signed in
      omega (
        arith,
        ap nodes (mark_strips_holds o.payload o.hide),
        within,
        nodes_written (with_alg o.hash is.payload) (with_alg_ranged o.hash is.payload is.issued.payload_ranged),
        b64_longer body,
        ap length is.written.body,
        disclosures_spelled seed 0 is.given is.issued.values_ranged,
        ap (λ (ds : List Text). length (spelled ds)) is.written.disclosures,
        length-append j.protected (codes "." ++ (j.payload ++ (codes "." ++ j.signature))),
        length-append j.payload (codes "." ++ j.signature),
        length-append (jwt j) (codes "~" ++ spelled parts.disclosures),
        length-append (hashed parts) (ending parts.binding),
      )

-- ---- short lists

nodes_some : (t : Tree) → 0 < nodes t
nodes_some (leaf l) = omega arith
nodes_some (array es) = omega arith
nodes_some (object ms) = omega arith

list_within : (es : Elements) → elements_len es ≤ elements_nodes es
list_within no_elements = omega arith
list_within (element t es) = omega (arith, nodes_some t, list_within es)

mutual
  pub few_short : (t : Tree) → nodes t < 2 ^ 64 → HasShortLists t
  few_short (leaf l) h = tt
  few_short (array es) h = (omega (arith, h, list_within es), elements_short es (omega (arith, h)))
  few_short (object ms) h = members_short ms (omega (arith, h))

  elements_short : (es : Elements) → elements_nodes es < 2 ^ 64 → InElements (λ _. Unit {0}) (λ es. elements_len es < 2 ^ 64) (λ _ _. Unit {0}) es
  elements_short no_elements h = tt
  elements_short (element t es) h = (few_short t (omega (arith, h)), elements_short es (omega (arith, h)))

  members_short : (ms : Members) → members_nodes ms < 2 ^ 64 → InMembers (λ _. Unit {0}) (λ es. elements_len es < 2 ^ 64) (λ _ _. Unit {0}) ms
  members_short no_members h = tt
  members_short (member name t ms) h = (tt, few_short t (omega (arith, h)), members_short ms (omega (arith, h)))
