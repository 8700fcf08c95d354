-- What a token is to be for an order, as who has no seed can tell (RFC 9901
-- section 4): what is issued, with any salts.
use Rattle.std.specs.Prelude.{◌≡◌, ℕ, suc, ◌+◌, List, [], ◌∷◌, ◌++◌, map, length, not, Bool, ◌&&◌, filter, Option, Some, None, codes, decimal, bytes_eq, true, false}
use Rattle.std.specs.List.{AllZip, count_by, list_any}
use Rattle.b64url_text.specs.Base64url.{b64, Decodes}
use Rattle.claim_tree.specs.Tree.{Text, Tree, leaf, text, array, object, elements_len, no_members, get}
use Rattle.claim_tree.specs.JsonText.{json_text}
use Rattle.sd_outside.specs.Lists.{In, Repeats, AtNone}
use Rattle.claim_tree.specs.Path.{tree_at}
use Rattle.compact_form.specs.declared.parts.Parts.{Parts}
use Rattle.digest_sites.specs.Given.{Given}
use Rattle.digest_sites.specs.declared.site.SiteKind.{SiteKind}
use Rattle.digest_sites.specs.declared.site.SiteKind.TheVariants.{Member, Element}
use Rattle.disclosure.specs.Digest.{digest_of, hash_name}
use Rattle.disclosure.specs.Disclosure.{array_of}
use Rattle.disclosure.specs.declared.digests.HashAlg.{HashAlg}
use Rattle.hmac_sign.specs.Signatures.{Meaning}
use Rattle.json_form.specs.declared.token.Token.{Token}
use Rattle.jws_part.specs.Header.{header_members}
use Rattle.jws_part.specs.Part.{Carries}
use Rattle.marked_tree.specs.Marked.{Marked}
use Rattle.marked_tree.specs.Paths.{Path, same_path}
use Rattle.rebuild_core.specs.Opening.{processed}
use Rattle.rebuild_core.specs.Payload.{without_alg}
use Rattle.rebuild_core.specs.Reached.{OwnedSite, given_digests, all_sites, all_digests}
use Rattle.rebuild_core.specs.Soundness.{IsSound}
use Rattle.issuer_core.specs.Order.{Order}
use Rattle.issuer_core.specs.Decoys.{decoys_of, earlier}
use Rattle.issuer_core.specs.Digests.{marked_claims, hidden_of}
use Rattle.issuer_core.specs.Issued.{origin, HasDigestLists}
use Rattle.issuer_core.specs.Written.{header_of}

-- ---- 1: what is signed

-- the header says what the order asks for, the signature is one that is
-- accepted, and nothing stands beside
pub record IsSignedFor (o : Order) (alg : Text) (accepts : Meaning) (token : Token) : Type 0 where
  pub protected : token.parts.signed.protected
      ≡ b64 (json_text (object (header_members (header_of alg o))))
  pub signature : List ℕ
  pub signature_text : Decodes token.parts.signed.signature signature
  pub signed : accepts token.parts.signed.protected token.parts.signed.payload signature
  pub unbound : token.parts.binding ≡ None
  pub plain : token.outer ≡ no_members

-- ---- 2: how it is written

-- the text is that of the compact JSON of the tree, and is read as this tree,
-- so it nests at most 127 deep
pub record IsWrittenAs (part : Text) (t : Tree) : Type 0 where
  pub written : part ≡ b64 (json_text t)
  pub carried : Carries part t

-- the disclosure has a salt of 16 bytes, whichever, and this name and value
pub record IsSaltedText (disclosure : Text) (name : Option Text) (value : Tree) : Type 0 where
  pub salt : Text
  pub bytes : List ℕ
  pub salt_text : Decodes salt bytes
  pub long : length bytes ≡ 16
  pub written : IsWrittenAs disclosure (array_of (leaf (text salt)) name value)

-- the disclosure gives this, with its digest
pub record GivesSalted (hash : HashAlg) (disclosure : Text) (given : Given) : Type 0 where
  pub digest : given.digest ≡ digest_of hash disclosure
  pub salted : IsSaltedText disclosure given.name given.value

-- the payload names the hash of the order, and there is a disclosure for each hidden place
pub record IsWrittenFor (o : Order) (parts : Parts) (body : Tree) (given : List Given)
    : Type 0 where
  pub payload : IsWrittenAs parts.signed.payload body
  pub alg : get body (codes "_sd_alg") ≡ Some (leaf (text (hash_name o.hash)))
  pub count : length parts.disclosures ≡ hidden_of o
  pub disclosures : AllZip (GivesSalted o.hash) parts.disclosures given

-- ---- 3: what it shows

-- no condition of 14 to 21 fails, and payload and disclosures together show the
-- claims, each disclosure at its place
pub record ShowsClaims (o : Order) (payload : Tree) (given : List Given) : Type 0 where
  pub sound : IsSound payload given
  pub opens : processed payload given ≡ marked_claims o

-- ---- 4: its digests

-- how many bytes a hash has
abbrev pub hash_length : HashAlg → ℕ
hash_length HashAlg.Sha256 = 32
hash_length HashAlg.Sha384 = 48
hash_length HashAlg.Sha512 = 64

-- the text is that of so many bytes
pub record IsDigestText (hash : HashAlg) (digest : Text) : Type 0 where
  pub bytes : List ℕ
  pub decodes : Decodes digest bytes
  pub long : length bytes ≡ hash_length hash

-- the digest is that of a disclosure
abbrev pub is_given : List Given → Text → Bool
is_given given digest = list_any (bytes_eq digest) (given_digests given)

-- those of the disclosures and as many others as the order has decoys, each
-- once; of what the others are made none can tell
pub record HasDigests (o : Order) (payload : Tree) (given : List Given) : Type 0 where
  pub count : length (all_digests payload given) ≡ hidden_of o + length (decoys_of o)
  pub differ : AtNone (Repeats (all_digests payload given))
  pub each : (digest : Text) → In digest (given_digests given)
      → In digest (all_digests payload given)
  pub others : (digest : Text) → In digest (all_digests payload given)
      → is_given given digest ≡ false → IsDigestText o.hash digest

-- ---- 5: the places of its decoys

-- where a digest stands in the claims: among the members of the object there,
-- or as the element there
pub record Standing : Type 0 where
  pub kind : SiteKind
  pub at : Path

abbrev pub standing : SiteKind → Path → Standing
standing kind at = record { kind = kind; at = at }

abbrev pub same_kind : SiteKind → SiteKind → Bool
same_kind Member Member = true
same_kind Element Element = true
same_kind _ _ = false

abbrev pub same_standing : Standing → Standing → Bool
same_standing x y = same_kind x.kind y.kind && same_path x.at y.at

-- where the digests stand that are of no disclosure
abbrev pub decoys_found : Marked → Tree → List Given → List Standing
decoys_found m payload given =
    map (λ (x : OwnedSite). standing x.site.kind (origin m x))
    (filter (λ (x : OwnedSite). not (is_given given x.site.digest)) (all_sites payload given))

-- where a decoy is put, of which so many earlier ones have the place: an object has it among its
-- `_sd`, a list behind its own elements
abbrev pub decoy_standing : Path → ℕ → Option Tree → List Standing
decoy_standing at many (Some (object ms)) = standing Member at ∷ []
decoy_standing at many (Some (array es)) =
    standing Element (at ++ decimal (elements_len es + many) ∷ []) ∷ []
decoy_standing at many _ = []

-- the same of some decoys, where the first has the number d among all
abbrev pub standings_from : Tree → List Path → ℕ → List Path → List Standing
standings_from claims all d [] = []
standings_from claims all d (at ∷ decoys) =
    decoy_standing at (earlier d at all) (tree_at claims at)
    ++ standings_from claims all (suc d) decoys

abbrev pub decoys_wanted : Order → List Standing
decoys_wanted o = standings_from o.payload (decoys_of o) 0 (decoys_of o)

-- each stands in one list as often as in the other
abbrev pub IsEachAsOften : List Standing → List Standing → Type 0
IsEachAsOften xs ys = (x : Standing) → count_by (same_standing x) xs ≡ count_by (same_standing x) ys

abbrev pub HasDecoys : Order → Tree → List Given → Type 0
HasDecoys o payload given =
    IsEachAsOften (decoys_found (marked_claims o) payload given) (decoys_wanted o)

-- ---- 6: the order of its digests

-- each `_sd` is a list of texts, not empty, each after the one before it by their bytes
pub record HasSortedDigests (payload : Tree) (given : List Given) : Type 0 where
  pub in_payload : HasDigestLists payload
  pub in_values : (x : Given) → In x given → HasDigestLists x.value

-- ---- all of it

-- the token is what the order asks for, with this payload, without its
-- `_sd_alg`, and these disclosures
pub record IsAuditedFor (o : Order) (payload : Tree) (given : List Given) : Type 0 where
  pub shows : ShowsClaims o payload given
  pub digests : HasDigests o payload given
  pub decoys : HasDecoys o payload given
  pub sorted : HasSortedDigests payload given

pub record IsAudited (o : Order) (alg : Text) (accepts : Meaning) (token : Token) : Type 0 where
  pub signed : IsSignedFor o alg accepts token
  pub body : Tree
  pub given : List Given
  pub written : IsWrittenFor o token.parts body given
  pub audited : IsAuditedFor o (without_alg body) given
