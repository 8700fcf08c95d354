-- What is issued is signed and written as an audit asks, and shows the claims.
use Rattle.std.proofs.Common.{◌≡◌, ℕ, suc, ◌+◌, List, [], ◌∷◌, length, Option, Some, IsUtf8, codes, refl, sym, ap, ◌∙◌, subst, arith}
use Rattle.std.specs.List.{AllZip}
use Rattle.b64url_text.specs.Base64url.{AreBytes}
use Rattle.b64url_text.proofs.Texts.{b64_utf8}
use Rattle.sd_outside.specs.Lists.{StandsAt}
use Rattle.claim_tree.specs.Tree.{Text, text, Tree, leaf, get}
use Rattle.compact_form.specs.declared.parts.Parts.{Parts}
use Rattle.digest_sites.specs.Given.{Given}
use Rattle.disclosure.specs.Digest.{hash_name}
use Rattle.disclosure.specs.Disclosure.{array_of}
use Rattle.disclosure.specs.declared.digests.HashAlg.{HashAlg}
use Rattle.disclosure.proofs.Arrays.{depth-array_of}
use Rattle.disclosure.proofs.ReadBack.{array_texts, array_ranged, array_ordered}
use Rattle.hmac_sign.specs.Signatures.{Meaning}
use Rattle.json_form.specs.Alone.{alone}
use Rattle.jws_part.proofs.ReadBack.{carried_back}
use Rattle.rebuild_core.specs.Payload.{alg_name, without_alg}
use Rattle.issuer_core.specs.Digests.{made_texts}
use Rattle.issuer_core.specs.GoodOrder.{IsGoodOrder, EachText}
use Rattle.issuer_core.specs.Issued.{IsIssuedFor}
use Rattle.issuer_core.specs.Laid.{with_alg}
use Rattle.issuer_core.specs.Order.{Order}
use Rattle.issuer_core.specs.Salts.{salt_of, salt_piece}
use Rattle.issuer_core.specs.Seed.{maker_of}
use Rattle.issuer_core.specs.Written.{IsWritten}
use Rattle.issuer_core.proofs.IssuedFacts as facts
use Rattle.issuer_core.proofs.ReadBack.{body_carried, can_be_read}
use Rattle.issuer_core.proofs.WithAlg.{alg_named}
use Rattle.audit_core.specs.Audited.{IsSignedFor, IsWrittenAs, GivesSalted, IsWrittenFor, ShowsClaims}
use Rattle.audit_core.proofs.IssuedHashes.{salt_bytes, salt_long}

length-made : (made : ℕ → Option Text → Tree → Text) (k : ℕ) (xs : List Given) → length (made_texts made k xs) ≡ length xs
length-made made k [] = refl
length-made made k (x ∷ xs) = ap suc (length-made made (suc k) xs)

-- each text that is made gives its disclosure
made_zip : (hash : HashAlg) (made : ℕ → Option Text → Tree → Text) (k : ℕ) (xs : List Given) → ((i : ℕ) (x : Given) → StandsAt xs i x → GivesSalted hash (made (k + i) x.name x.value) x)
    → AllZip (GivesSalted hash) (made_texts made k xs) xs
made_zip hash made k [] each = tt
made_zip hash made k (x ∷ xs) each = (
  let e : k + 0 ≡ k = omega arith in
      subst (λ n. GivesSalted hash (made n x.name x.value) x) e (each 0 x refl),
  made_zip hash made (suc k) xs (λ i y a.
      let e : k + suc i ≡ suc k + i = omega arith in
      subst (λ n. GivesSalted hash (made n y.name y.value) y) e (each (suc i) y a)),
)

module _ (seed : List ℕ) (o : Order) (alg : Text) (good : Meaning) (p : Tree) (g : List Given) (parts : Parts) (fine : IsGoodOrder o) (utf8 : EachText IsUtf8 o.payload) (issued : IsIssuedFor (maker_of seed) o p g) (written : IsWritten (maker_of seed) o alg good p g parts) where
  pub signed_for : AreBytes written.signature → IsSignedFor o alg good (alone parts)
  signed_for bytes = record {
    protected = written.protected;
    signature = written.signature;
    signature_text = record { fit = bytes; spelling = written.signature_text };
    signed = written.signed;
    unbound = written.unbound;
    plain = refl;
  }

  pub shows_claims : ShowsClaims o p g
  shows_claims = record { sound = facts.sound seed o p g fine issued; opens = issued.opens }

  -- ---- the payload

  body_written : IsWrittenAs parts.signed.payload (with_alg o.hash p)
  body_written = record { written = written.body; carried = body_carried seed o p g fine utf8 issued parts.signed.payload written.body }

  names_hash : get (with_alg o.hash p) (codes "_sd_alg") ≡ Some (leaf (text (hash_name o.hash)))
  unfolding alg_name
  names_hash = alg_named o.hash p (facts.is_object seed o p g fine issued)

  pub bare : without_alg (with_alg o.hash p) ≡ p
  bare = facts.bare seed o p g fine issued

  -- ---- the disclosures

  salted : (i : ℕ) (x : Given) → StandsAt g i x → GivesSalted o.hash ((maker_of seed).disclosure i x.name x.value) x
  salted i x a =
      let salt = salt_of seed i in
      let can = can_be_read seed o p g fine utf8 issued i x a in
      record {
        digest = issued.made i x a;
        salted = record {
          salt = salt;
          bytes = salt_piece seed i;
          salt_text = record { fit = salt_bytes seed i; spelling = refl };
          long = salt_long seed i;
          written = record {
            written = refl;
            carried = carried_back ((maker_of seed).disclosure i x.name x.value) (array_of (leaf (text salt)) x.name x.value) refl (array_texts salt x.name x.value (b64_utf8 (salt_piece seed i)) can.name can.texts)
                (array_ranged salt x.name x.value can.ranged) (array_ordered salt x.name x.value can.ordered) (depth-array_of salt x.name x.value can.shallow);
          };
        };
      }

  pub written_for : IsWrittenFor o parts (with_alg o.hash p) g
  written_for = record {
    payload = body_written;
    alg = names_hash;
    count = ap (λ (ds : List Text). length ds) written.disclosures ∙ (length-made (maker_of seed).disclosure 0 g ∙ issued.count);
    disclosures = subst (λ (ds : List Text). AllZip (GivesSalted o.hash) ds g) (sym written.disclosures)
        (made_zip o.hash (maker_of seed).disclosure 0 g (λ i x a. let e : i ≡ 0 + i = omega arith in subst (λ n. GivesSalted o.hash ((maker_of seed).disclosure n x.name x.value) x) e (salted i x a)));
  }
