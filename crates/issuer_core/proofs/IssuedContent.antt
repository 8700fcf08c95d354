-- What is known of a token that is issued: what its parts carry, that this is sound, and what it shows.
use Rattle.std.proofs.Common.{◌≡◌, ℕ, suc, ◌+◌, ◌<◌, List, [], ◌∷◌, length, Some, IfSome, IsUtf8, refl, sym, ap, subst, ◌∙◌, arith}
use Rattle.std.specs.List.{AllZip, AllByRecursion}
use Rattle.b64url_text.specs.Base64url.{IsWord}
use Rattle.b64url_text.proofs.Codes.{IsWord-b64}
use Rattle.claim_tree.specs.Tree.{Text, Tree, object}
use Rattle.sd_outside.specs.Lists.{StandsAt}
use Rattle.compact_form.specs.Compact.{AreWords, HasWords}
use Rattle.compact_form.specs.declared.parts.Parts.{Parts}
use Rattle.digest_sites.specs.Given.{Given}
use Rattle.disclosure.specs.Digest.{digest_of, hash_of_name, payload_hash}
use Rattle.disclosure.specs.Disclosure.{IsDisclosure}
use Rattle.disclosure.specs.declared.digests.HashAlg.{HashAlg}
use Rattle.disclosure.proofs.HashNames.{of_its_name}
use Rattle.hmac_sign.specs.Signatures.{Meaning}
use Rattle.jws_part.specs.Header.{header_members}
use Rattle.rebuild_core.specs.Soundness.{IsSound}
use Rattle.rebuild_core.specs.Payload.{alg_name, without_alg}
use Rattle.issuer_core.specs.Decoys.{decoys_of}
use Rattle.issuer_core.specs.Digests.{hidden_of, made_texts}
use Rattle.issuer_core.specs.GoodOrder.{IsObject, IsGoodOrder, IsWritable, EachText}
use Rattle.issuer_core.specs.Issue.{HasNoClash, laid_digests}
use Rattle.issuer_core.specs.Issued.{IsIssuedFor}
use Rattle.issuer_core.specs.Laid.{IsLaid, with_alg}
use Rattle.issuer_core.specs.Order.{Order}
use Rattle.issuer_core.specs.Seed.{maker_of}
use Rattle.issuer_core.specs.Written.{header_of, IsWritten, IsIssued}
use Rattle.issuer_core.proofs.Clashes.{no_repeats}
use Rattle.issuer_core.proofs.FromLaid.{all_differ, with_alg_object, texts_words, object_word}
use Rattle.issuer_core.proofs.IssuedFacts.{is_object, bare as issued_bare}
use Rattle.issuer_core.proofs.IssuedSound.{issued_is_sound_holds}
use Rattle.issuer_core.proofs.LaidDecoys.{laid_is_issued_holds}
use Rattle.issuer_core.proofs.ReadBack.{IsReadBack, written_back}
use Rattle.issuer_core.proofs.ReservedPlaces.{held_short}
use Rattle.issuer_core.proofs.WithAlg.{alg_named}

-- the text is a disclosure of this name and value, with this digest by the hash
abbrev pub IsTextOf : HashAlg → Text → Given → Type 0
IsTextOf hash d x = (x.digest ≡ digest_of hash d) × (salt : Tree) × IsDisclosure d salt x.name x.value

-- the parts carry this payload and these disclosures, which are issued for the order
pub record HasIssued (seed : List ℕ) (o : Order) (alg : Text) (good : Meaning) (parts : Parts) : Type 0 where
  pub payload : Tree
  pub given : List Given
  pub issued : IsIssuedFor (maker_of seed) o payload given
  pub written : IsWritten (maker_of seed) o alg good payload given parts
  pub back : IsReadBack o alg payload given parts
  pub sound : IsSound payload given
  pub hash : payload_hash (with_alg o.hash payload) ≡ Some o.hash
  pub bare : without_alg (with_alg o.hash payload) ≡ payload
  pub texts : AllZip (IsTextOf o.hash) parts.disclosures given

digests_zip : (hash : HashAlg) (seed : List ℕ) (k : ℕ) (given : List Given) → ((i : ℕ) (x : Given) → StandsAt given i x → x.digest ≡ digest_of hash ((maker_of seed).disclosure (k + i) x.name x.value))
    → AllZip (λ (d : Text) (x : Given). x.digest ≡ digest_of hash d) (made_texts (maker_of seed).disclosure k given) given
digests_zip hash seed k [] each = tt
digests_zip hash seed k (x ∷ given) each = (
  let c : k + 0 ≡ k = omega arith in
      subst (λ n. x.digest ≡ digest_of hash ((maker_of seed).disclosure n x.name x.value)) c (each 0 x refl),
  digests_zip hash seed (suc k) given (λ i y a.
      let c : k + suc i ≡ suc k + i = omega arith in
      subst (λ n. y.digest ≡ digest_of hash ((maker_of seed).disclosure n y.name y.value)) c (each (suc i) y a)),
)

abbrev HasDigest : HashAlg → Text → Given → Type 0
HasDigest hash d x = x.digest ≡ digest_of hash d

abbrev IsRead : Text → Given → Type 0
IsRead d x = (salt : Tree) × IsDisclosure d salt x.name x.value

texts_zip : (hash : HashAlg) (ds : List Text) (given : List Given) → AllZip (HasDigest hash) ds given → AllZip IsRead ds given → AllZip (IsTextOf hash) ds given
texts_zip hash [] [] h k = tt
texts_zip hash [] (x ∷ given) h k = absurd h
texts_zip hash (d ∷ ds) [] h k = absurd h
texts_zip hash (d ∷ ds) (x ∷ given) h k = ((h.0, k.0.0, k.0.1), texts_zip hash ds given h.1 k.1)

pub names_hash : (hash : HashAlg) (t : Tree) → IsObject t → payload_hash (with_alg hash t) ≡ Some hash
unfolding alg_name
names_hash hash t is = ap hash_of_name (alg_named hash t is) ∙ sym (of_its_name hash)

pub laid_digests_differ : (seed : List ℕ) (o : Order) (p : Tree) (g : List Given) (dg : ℕ → Text) → IsLaid (maker_of seed) o p g dg → HasNoClash (maker_of seed) o → IsWritable o → IsIssuedFor (maker_of seed) o p g
laid_digests_differ seed o p g dg laid differ writable =
    laid_is_issued_holds (maker_of seed) o p g dg writable.good writable.ranged (held_short o.payload writable.held) laid
    (all_differ dg (hidden_of o + length (decoys_of o)) (no_repeats (laid_digests o dg) (λ i j clash. differ i j (record { payload = p; given = g; digests = dg; laid = laid; clash = clash }))))

-- of parts that are issued, for a good order whose texts are UTF-8
pub has_issued : (seed : List ℕ) (o : Order) (alg : Text) (good : Meaning) (parts : Parts) → IsGoodOrder o → IsUtf8 alg → EachText IsUtf8 o.payload → IfSome o.kid IsUtf8 → IfSome o.typ IsUtf8
    → IsIssued (maker_of seed) o alg good parts → HasIssued seed o alg good parts
has_issued seed o alg good parts good_order named utf8 kid typ is =
    let p = is.payload in
    let g = is.given in
    let back = written_back seed o p g good_order utf8 is.issued alg good parts named kid typ is.written in
    record {
      payload = p;
      given = g;
      issued = is.issued;
      written = is.written;
      back = back;
      sound = issued_is_sound_holds (maker_of seed) o p g good_order is.issued;
      hash = names_hash o.hash p (is_object seed o p g good_order is.issued);
      bare = issued_bare seed o p g good_order is.issued;
      texts = texts_zip o.hash parts.disclosures g
          (subst (λ (ds : List Text). AllZip (HasDigest o.hash) ds g) (sym is.written.disclosures)
          (digests_zip o.hash seed 0 g (λ i x a. let c : i ≡ 0 + i = omega arith in subst (λ n. x.digest ≡ digest_of o.hash ((maker_of seed).disclosure n x.name x.value)) c (is.issued.made i x a))))
          back.disclosures;
    }

-- each text of parts that are issued is a word, where the signature is no empty text
pub issued_words : (seed : List ℕ) (o : Order) (alg : Text) (good : Meaning) (parts : Parts) → IsGoodOrder o → (is : IsIssued (maker_of seed) o alg good parts) → 0 < length is.written.signature → AreWords parts
issued_words seed o alg good parts good_order is some =
    let there = is_object seed o is.payload is.given good_order is.issued in
    record {
      signed = record {
        protected = subst IsWord (sym is.written.protected) (object_word (object (header_members (header_of alg o))) tt);
        payload = subst IsWord (sym is.written.body) (object_word (with_alg o.hash is.payload) (with_alg_object o.hash is.payload there));
        signature = subst IsWord (sym is.written.signature_text) (IsWord-b64 is.written.signature some);
      };
      disclosures = subst (AllByRecursion IsWord) (sym is.written.disclosures) (texts_words seed 0 is.given);
      binding = subst (λ b. IfSome b HasWords) (sym is.written.unbound) tt;
    }
