-- What is written of an issued token is read as what was issued, or not at all.
use Rattle.std.proofs.Common.{◌≡◌, ℕ, zero, suc, ◌+◌, List, [], ◌∷◌, map, Option, Some, refl, sym, ap, ap₂, ◌∙◌, subst, arith}
use Rattle.b64url_text.specs.Base64url.{AreBytes, Decodes}
use Rattle.b64url_text.proofs.Codes.{one_code}
use Rattle.claim_tree.specs.JsonText.{json_text, Reads}
use Rattle.sd_outside.specs.Lists.{StandsAt, In}
use Rattle.claim_tree.specs.Tree.{Text, text, Tree, leaf}
use Rattle.sd_outside.proofs.Lists.{At-In}
use Rattle.claim_tree.proofs.OwnReading.{read_as_itself}
use Rattle.compact_form.specs.declared.parts.Parts.{Parts}
use Rattle.digest_sites.specs.Given.{Given}
use Rattle.digest_sites.proofs.OneGiven.{one_given}
use Rattle.disclosure.specs.Digest.{digest_of, payload_hash}
use Rattle.disclosure.specs.Disclosure.{array_of}
use Rattle.disclosure.specs.declared.digests.HashAlg.{HashAlg}
use Rattle.disclosure.proofs.Arrays.{array_of-injective}
use Rattle.disclosure.proofs.ReadBack.{array_ranged, array_ordered}
use Rattle.hmac_sign.specs.Signatures.{Meaning}
use Rattle.jws_part.specs.Part.{IsBody}
use Rattle.rebuild_core.specs.Payload.{without_alg}
use Rattle.rebuild_core.specs.Reached.{given_digests}
use Rattle.issuer_core.specs.Digests.{made_texts}
use Rattle.issuer_core.specs.GoodOrder.{IsGoodOrder, EachText}
use Rattle.issuer_core.specs.Issued.{IsIssuedFor}
use Rattle.issuer_core.specs.Laid.{with_alg}
use Rattle.issuer_core.specs.Order.{Order}
use Rattle.issuer_core.specs.Salts.{salt_of, salt_piece}
use Rattle.issuer_core.specs.Seed.{maker_of}
use Rattle.issuer_core.specs.Written.{IsWritten}
use Rattle.issuer_core.proofs.EachTexts.{own_bytes, with_alg_each, array_each}
use Rattle.issuer_core.proofs.FromLaid.{with_alg_ranged}
use Rattle.issuer_core.proofs.IssuedContent.{IsTextOf, names_hash}
use Rattle.issuer_core.proofs.IssuedFacts.{is_object, bare, payload_each, given_each}
use Rattle.issuer_core.proofs.JsonBytes.{json_bytes}
use Rattle.issuer_core.proofs.WithAlg.{with_alg_ordered}

made_at : (made : ℕ → Option Text → Tree → Text) (k : ℕ) (g : List Given) (i : ℕ) (d : Text) → StandsAt (made_texts made k g) i d → (x : Given) × StandsAt g i x × (d ≡ made (k + i) x.name x.value)
made_at made k (x ∷ g) zero d a = let e : k ≡ k + 0 = omega arith in (x, refl, a ∙ ap (λ (n : ℕ). made n x.name x.value) e)
made_at made k (x ∷ g) (suc i) d a =
    let w = made_at made (suc k) g i d a in
    let e : suc k + i ≡ k + suc i = omega arith in
    (w.0, w.1, w.2 ∙ ap (λ (n : ℕ). made n w.0.name w.0.value) e)
made_at made k [] i d a = absurd a

made_digests : (made : ℕ → Option Text → Tree → Text) (digest : Text → Text) (k : ℕ) (g : List Given) → ((i : ℕ) (x : Given) → StandsAt g i x → x.digest ≡ digest (made (k + i) x.name x.value))
    → given_digests g ≡ map digest (made_texts made k g)
made_digests made digest k [] each = refl
made_digests made digest k (x ∷ g) each =
    ap₂ (λ (a : Text) (b : List Text). a ∷ b)
    (let e : k + 0 ≡ k = omega arith in each 0 x refl ∙ ap (λ (n : ℕ). digest (made n x.name x.value)) e)
    (made_digests made digest (suc k) g (λ i y a. let e : k + suc i ≡ suc k + i = omega arith in each (suc i) y a ∙ ap (λ (n : ℕ). digest (made n y.name y.value)) e))

-- the parts are read as this payload and these disclosures with this hash, or not at all
pub record IsReadOnlyAs (hash_is : HashAlg) (parts : Parts) (p : Tree) (g : List Given) : Type 0 where
  pub payload : (body : Tree) → IsBody parts.signed.payload body → without_alg body ≡ p
  pub hash : (body : Tree) → IsBody parts.signed.payload body → payload_hash body ≡ Some hash_is
  pub disclosures : (i : ℕ) (d : Text) (x : Given) → StandsAt parts.disclosures i d → IsTextOf hash_is d x → StandsAt g i x
  pub digests : given_digests g ≡ map (digest_of hash_is) parts.disclosures

module _ (seed : List ℕ) (o : Order) (alg : Text) (good : Meaning) (p : Tree) (g : List Given) (parts : Parts) (good_order : IsGoodOrder o) (bytes : EachText AreBytes o.payload) (issued : IsIssuedFor (maker_of seed) o p g) (written : IsWritten (maker_of seed) o alg good p g parts) where
  written_body : (body : Tree) → IsBody parts.signed.payload body → body ≡ with_alg o.hash p
  written_body body is =
      let t = with_alg o.hash p in
      let ranged = with_alg_ranged o.hash p issued.payload_ranged in
      let fit = json_bytes t (with_alg_each AreBytes own_bytes o.hash p (payload_each seed o p g good_order issued AreBytes own_bytes bytes)) ranged in
      let own : Decodes parts.signed.payload (json_text t) = record { fit = fit; spelling = written.body } in
      let same = one_code parts.signed.payload is.carried.bytes (json_text t) is.carried.decodes own in
      read_as_itself t body ranged (with_alg_ordered o.hash p issued.readable.in_payload) (subst (λ (b : Text). Reads b body) same is.carried.reads)

  payload_read : (body : Tree) → IsBody parts.signed.payload body → without_alg body ≡ p
  payload_read body is = ap without_alg (written_body body is) ∙ bare seed o p g good_order issued

  hash_read : (body : Tree) → IsBody parts.signed.payload body → payload_hash body ≡ Some o.hash
  hash_read body is = ap payload_hash (written_body body is) ∙ names_hash o.hash p (is_object seed o p g good_order issued)

  disclosure_read : (i : ℕ) (d : Text) (x : Given) → StandsAt parts.disclosures i d → IsTextOf o.hash d x → StandsAt g i x
  disclosure_read i d x a gives =
      let w = made_at (maker_of seed).disclosure 0 g i d (subst (λ (ds : List Text). StandsAt ds i d) written.disclosures a) in
      let y = w.0 in
      let there : In y g = At-In g i y w.1 in
      let salt = salt_of seed (0 + i) in
      let t = array_of (leaf (text salt)) y.name y.value in
      let each = given_each seed o p g good_order issued AreBytes own_bytes bytes i y w.1 in
      let ranged = array_ranged salt y.name y.value (issued.values_ranged y there) in
      let fit = json_bytes t (array_each AreBytes salt y.name y.value (own_bytes.code (salt_piece seed (0 + i))) each.0 each.1) ranged in
      let own : Decodes d (json_text t) = record { fit = fit; spelling = w.2 } in
      let same_bytes = one_code d gives.2.json (json_text t) gives.2.decodes own in
      let same = read_as_itself t (array_of gives.1 x.name x.value) ranged (array_ordered salt y.name y.value (issued.readable.in_values y there)) (subst (λ (b : Text). Reads b (array_of gives.1 x.name x.value)) same_bytes gives.2.reads) in
      let parts_same = array_of-injective gives.1 (leaf (text salt)) x.name y.name x.value y.value same in
      let e : 0 + i ≡ i = omega arith in
      let digests : x.digest ≡ y.digest = gives.0 ∙ (ap (digest_of o.hash) (w.2 ∙ ap (λ (n : ℕ). (maker_of seed).disclosure n y.name y.value) e) ∙ sym (issued.made i y w.1)) in
      subst (λ (z : Given). StandsAt g i z) (sym (one_given x y digests parts_same.1 parts_same.2)) w.1

  pub read_only_as : IsReadOnlyAs o.hash parts p g
  read_only_as = record {
    payload = payload_read;
    hash = hash_read;
    disclosures = disclosure_read;
    digests = made_digests (maker_of seed).disclosure (digest_of o.hash) 0 g (λ i x a. let e : i ≡ 0 + i = omega arith in issued.made i x a ∙ ap (λ (n : ℕ). digest_of o.hash ((maker_of seed).disclosure n x.name x.value)) e)
        ∙ ap (map (digest_of o.hash)) (sym written.disclosures);
  }
