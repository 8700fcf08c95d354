-- What is issued for an order is read again.
use Rattle.std.proofs.Common.{◌≡◌, ℕ, suc, ◌≤◌, List, [], ◌∷◌, IfSome, IsUtf8, arith, refl, subst, sym}
use Rattle.std.specs.List.{AllZip}
use Rattle.b64url_text.specs.Base64url.{b64}
use Rattle.b64url_text.proofs.Texts.{b64_utf8}
use Rattle.claim_tree.specs.Tree.{Text, Tree, leaf, text, array, object, no_members, depth, IsOrdered, IsRanged}
use Rattle.claim_tree.specs.JsonText.{json_text}
use Rattle.sd_outside.specs.Lists.{StandsAt}
use Rattle.sd_outside.proofs.Lists.{At-In}
use Rattle.claim_tree.proofs.TreeTexts.{HasTexts}
use Rattle.compact_form.specs.declared.parts.Parts.{Parts}
use Rattle.digest_sites.specs.Given.{Given}
use Rattle.disclosure.specs.Digest.{hash_name}
use Rattle.disclosure.specs.Disclosure.{IsDisclosure}
use Rattle.disclosure.specs.declared.digests.HashAlg.{HashAlg}
use Rattle.disclosure.proofs.ReadBack.{disclosure_back}
use Rattle.hmac_sign.specs.Signatures.{Meaning}
use Rattle.jws_part.specs.Header.{IsHeader}
use Rattle.jws_part.specs.Part.{Carries, IsBody}
use Rattle.jws_part.proofs.ReadBack.{carried_back, header_back}
use Rattle.rebuild_core.specs.Payload.{alg_name}
use Rattle.issuer_core.specs.Digests.{made_texts}
use Rattle.issuer_core.specs.GoodOrder.{IsObject, IsGoodOrder, EachText}
use Rattle.issuer_core.specs.Issued.{IsIssuedFor}
use Rattle.issuer_core.specs.Laid.{with_alg}
use Rattle.issuer_core.specs.Order.{Order}
use Rattle.issuer_core.specs.Salts.{salt_of, salt_piece}
use Rattle.issuer_core.specs.Seed.{maker_of}
use Rattle.issuer_core.specs.Written.{header_of, IsWritten}
use Rattle.issuer_core.proofs.EachTexts.{own_utf8, utf8_texts, with_alg_each}
use Rattle.issuer_core.proofs.FromLaid.{with_alg_ranged, with_alg_object}
use Rattle.issuer_core.proofs.IssuedFacts.{is_object, payload_shallow, value_shallow, payload_each, given_each}
use Rattle.issuer_core.proofs.LaidBounds.{inserted_depth}
use Rattle.issuer_core.proofs.WithAlg.{with_alg_ordered}

-- the parts are read as what is written
pub record IsReadBack (o : Order) (alg : Text) (payload : Tree) (given : List Given) (parts : Parts) : Type 0 where
  pub header : IsHeader parts.signed.protected no_members (header_of alg o)
  pub body : IsBody parts.signed.payload (with_alg o.hash payload)
  pub disclosures : AllZip (λ (d : Text) (x : Given). (salt : Tree) × IsDisclosure d salt x.name x.value) parts.disclosures given

-- the name and the value are such that what is written of them can be read
pub record CanBeRead (x : Given) : Type 0 where
  pub name : IfSome x.name IsUtf8
  pub texts : HasTexts x.value
  pub ranged : IsRanged x.value
  pub ordered : IsOrdered x.value
  pub shallow : depth x.value ≤ 126

with_alg_depth : (hash : HashAlg) (t : Tree) (c : ℕ) → depth t ≤ suc c → depth (with_alg hash t) ≤ suc c
with_alg_depth hash (leaf l) c h = h
with_alg_depth hash (array es) c h = h
with_alg_depth hash (object ms) c h = omega (arith, inserted_depth ms alg_name (leaf (text (hash_name hash))) c (omega arith) (omega (arith, h)))

salts_back : (seed : List ℕ) (k : ℕ) (given : List Given) → ((i : ℕ) (x : Given) → StandsAt given i x → CanBeRead x)
    → AllZip (λ (d : Text) (x : Given). (salt : Tree) × IsDisclosure d salt x.name x.value) (made_texts (maker_of seed).disclosure k given) given
salts_back seed k [] each = tt
salts_back seed k (x ∷ given) each =
    let h = each 0 x refl in
    ((leaf (text (salt_of seed k)), disclosure_back (salt_of seed k) x.name x.value (b64_utf8 (salt_piece seed k)) h.name h.texts h.ranged h.ordered h.shallow), salts_back seed (suc k) given (λ i y a. each (suc i) y a))

body_of_object : (part : Text) (t : Tree) → IsObject t → Carries part t → IsBody part t
body_of_object part (object ms) h c = record { members = ms; is_object = refl; carried = c }
body_of_object part (leaf l) h c = absurd h
body_of_object part (array es) h c = absurd h

module _ (seed : List ℕ) (o : Order) (p : Tree) (g : List Given) (good_order : IsGoodOrder o) (utf8 : EachText IsUtf8 o.payload) (issued : IsIssuedFor (maker_of seed) o p g) where
  pub body_carried : (part : Text) → part ≡ b64 (json_text (with_alg o.hash p)) → Carries part (with_alg o.hash p)
  body_carried part is =
      let t = with_alg o.hash p in
      let texts = utf8_texts t (with_alg_each IsUtf8 own_utf8 o.hash p (payload_each seed o p g good_order issued IsUtf8 own_utf8 utf8)) in
      let low = payload_shallow seed o p g good_order issued in
      carried_back part t is texts (with_alg_ranged o.hash p issued.payload_ranged) (with_alg_ordered o.hash p issued.readable.in_payload) (with_alg_depth o.hash p 126 (omega (arith, low)))

  pub can_be_read : (i : ℕ) (x : Given) → StandsAt g i x → CanBeRead x
  can_be_read i x a =
      let there = At-In g i x a in
      let each = given_each seed o p g good_order issued IsUtf8 own_utf8 utf8 i x a in
      let low = value_shallow seed o p g good_order issued i x a in
      record { name = each.0; texts = utf8_texts x.value each.1; ranged = issued.values_ranged x there; ordered = issued.readable.in_values x there; shallow = omega (arith, low) }

  pub written_back : (alg : Text) (good : Meaning) (parts : Parts) → IsUtf8 alg → IfSome o.kid IsUtf8 → IfSome o.typ IsUtf8 → IsWritten (maker_of seed) o alg good p g parts → IsReadBack o alg p g parts
  written_back alg good parts named kid typ written = record {
    header = header_back parts.signed.protected (header_of alg o) written.protected named kid typ;
    body = body_of_object parts.signed.payload (with_alg o.hash p) (with_alg_object o.hash p (is_object seed o p g good_order issued)) (body_carried parts.signed.payload written.body);
    disclosures = subst (λ (ds : List Text). AllZip (λ (d : Text) (x : Given). (salt : Tree) × IsDisclosure d salt x.name x.value) ds g) (sym written.disclosures) (salts_back seed 0 g can_be_read);
  }
