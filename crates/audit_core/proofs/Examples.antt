-- An order with a hidden member and a decoy, and a token that is issued for it: the premises of the law of the audit are met.
use Rattle.std.proofs.Common.{◌≡◌, ℕ, zero, suc, ◌+◌, ◌<◌, ◌≤◌, List, [], ◌∷◌, ◌++◌, length, length-append, IsUtf8, true, false, bytes_eq, None, Some, codes, inl, inr, rules, refl, sym, ap, ◌∙◌, arith}
use Rattle.std.specs.Fmt.{digits}
use Rattle.std.specs.Prelude.{slice_get}
use Rattle.json.proofs.Printed.Utf8.{IsUtf8-are_ascii}
use Rattle.json.specs.Print.{escape_byte}
use Rattle.sha2.specs.Sha256.{compress, digest_bytes, first_words, hash_after, rounds, schedule, sha256}
use Rattle.sd_outside.specs.Limits.{compact_max}
use Rattle.b64url_text.specs.Base64url.{letters, bits, sixes, b64}
use Rattle.sd_outside.specs.Lists.{StandsAt}
use Rattle.claim_tree.specs.Tree.{Text, Tree, leaf, text, array, object, no_elements, element, no_members, member, IsOrdered, IsRanged}
use Rattle.compact_form.specs.Compact.{compact}
use Rattle.refusals.specs.Lowest.{NoneApplies}
use Rattle.compact_form.specs.declared.parts.Parts.{Parts}
use Rattle.digest_sites.specs.Given.{Given}
use Rattle.digest_sites.specs.Reserved.{sd_name, dots_name}
use Rattle.disclosure.specs.Digest.{digest_of}
use Rattle.disclosure.specs.declared.digests.HashAlg.{HashAlg}
use Rattle.hmac_sign.specs.Algs.{alg_text}
use Rattle.hmac_sign.specs.Hmac.{AlgKey, IsGood, alg_key}
use Rattle.hmac_sign.specs.declared.alg.Alg.{Alg}
use Rattle.json_form.specs.Alone.{alone}
use Rattle.json_form.specs.Token.{IsToken, IsTooMuch}
use Rattle.json_form.proofs.AloneForms.{compact_read}
use Rattle.json_form.proofs.Lines.{read_compact_line}
use Rattle.rebuild_core.specs.Payload.{alg_name}
use Rattle.issuer_core.specs.GoodOrder.{EachText}
use Rattle.issuer_core.specs.IssueCalls.{AllDiffer}
use Rattle.issuer_core.specs.Laid.{IsLaid}
use Rattle.issuer_core.specs.Order.{Order}
use Rattle.issuer_core.specs.OrderRefusals.{AppliesToOrder}
use Rattle.issuer_core.specs.ReservedPaths.{reserved_paths}
use Rattle.issuer_core.specs.Salts.{salt_of}
use Rattle.issuer_core.specs.Seed.{maker_of}
use Rattle.issuer_core.specs.ShortLists.{HasShortLists}
use Rattle.issuer_core.specs.Written.{IsIssued}
use Rattle.issuer_core.proofs.Judged.{good_order}
use Rattle.issuer_core.proofs.LaidDecoys.{laid_is_issued_holds}
use Rattle.issuer_core.proofs.WorkedOrders.{seed, salt_1, family, bee, first_text, first_made, first_word, first_digest, first_given, digests_with, first_is, passes, head, body, token, written, words, token_length}
use Rattle.audit_core.specs.Audit.{PassesAudit}
use Rattle.audit_core.proofs.IssuedLaw.{key_issued_passes_holds}

abbrev word : Text → Tree
word s = leaf (text s)

-- {"family_name":"Bee","l":["c"]}, where /family_name is hidden, with a decoy at /l
abbrev order : Order
order = record {
  payload = object (member family bee (member (codes "l") (array (element (word (codes "c")) no_elements)) no_members));
  hide = (family ∷ []) ∷ [];
  decoys = record { at = codes "l" ∷ []; count = 1 } ∷ [];
  kid = None;
  typ = None;
  hash = HashAlg.Sha256;
}

abbrev key : AlgKey
key = alg_key Alg.Hs256 (codes "a key of bytes, as many as those")

-- ---- its digests

abbrev decoy : Text
decoy = codes "kDWMrImJyLmR69lCfN_l8WlPg9eS02gon27gSXb07mg"

hashed : (digest_of HashAlg.Sha256 first_text ≡ first_digest) × (digest_of HashAlg.Sha256 (codes "AoS086vrZ8wQa73AZnCrVQ") ≡ decoy)
unfolding b64 sixes bits letters first_words schedule rounds compress hash_after digest_bytes sha256
hashed = (refl, refl)

-- ---- what is laid

abbrev given : List Given
given = first_given ∷ []

-- {"_sd":[#0],"l":["c",{"...":#1}]}
abbrev payload : Tree
payload =
    object (member (codes "_sd") (array (element (word first_digest) no_elements))
    (member (codes "l") (array (element (word (codes "c")) (element (object (member (codes "...") (word decoy) no_members)) no_elements))) no_members))

made : (k : ℕ) (x : Given) → StandsAt given k x → digests_with decoy k ≡ digest_of HashAlg.Sha256 ((maker_of seed).disclosure k x.name x.value)
made zero x is = first_is hashed.0 x (sym is)
made (suc k) x is = absurd is

standing_decoy : (d : ℕ) → d < 1 → digests_with decoy (1 + d) ≡ digest_of HashAlg.Sha256 (salt_of seed (1 + d))
standing_decoy zero less = sym (ap (digest_of HashAlg.Sha256) salt_1 ∙ hashed.1)
standing_decoy (suc d) less = absurd (omega (arith, less))

laid : IsLaid (maker_of seed) order payload given (digests_with decoy)
unfolding sd_name dots_name digits
laid = record { payload_laid = refl; given_laid = refl; disclosures = made; decoys = standing_decoy }

-- ---- none of the refusals applies

none_reserved : slice_get (reserved_paths order.payload) 0 ≡ None
unfolding sd_name dots_name alg_name
none_reserved = refl

applies_not : NoneApplies (AppliesToOrder order)
applies_not = passes order tt none_reserved (omega arith) refl refl refl refl (omega arith) (omega arith)

-- ---- the order as a machine holds it

ordered : IsOrdered order.payload
ordered = search rules

utf8 : EachText IsUtf8 order.payload
utf8 = (IsUtf8-are_ascii family refl, IsUtf8-are_ascii (codes "Bee") refl, (IsUtf8-are_ascii (codes "l") refl, (tt, (IsUtf8-are_ascii (codes "c") refl, tt)), tt))

ranged : IsRanged order.payload
ranged = search rules

short_lists : HasShortLists order.payload
short_lists = (tt, tt, (tt, (omega arith, (tt, tt)), tt))

differ : AllDiffer (digests_with decoy) 2
differ zero zero less low e = omega (arith, less)
differ zero (suc j) less low e = let clash : true ≡ false = ap (bytes_eq first_digest) e in cc clash
differ (suc i) j less low e = omega (arith, less, low)

-- ---- the token

abbrev parts : Parts
parts = token key order payload given

issued : IsIssued (maker_of seed) order (alg_text key.alg) (IsGood key) parts
issued = record {
  payload = payload;
  given = given;
  issued = laid_is_issued_holds (maker_of seed) order payload given (digests_with decoy) (good_order order (λ error h. absurd (applies_not error h)) ordered) ranged short_lists laid differ;
  written = written key order payload given;
}

lengths : (length (head key order payload given) ≤ 1000) × (length (body key order payload given) ≤ 1000)
unfolding escape_byte alg_name sd_name
lengths = (omega arith, omega arith)

small : length (compact parts) ≤ compact_max
small =
    omega (
      arith,
      ap length first_made,
      token_length key order payload given lengths.0 lengths.1,
      length-append ((maker_of seed).disclosure 0 (Some family) bee ++ codes "~") [],
      length-append ((maker_of seed).disclosure 0 (Some family) bee) (codes "~"),
    )

few : IsTooMuch parts → ⊥
few (inl many) = omega (arith, many)
few (inr long) = omega (arith, small, long)

is_token : IsToken (compact parts) (alone parts)
is_token = compact_read (compact parts ++ 10 ∷ []) (alone parts) (read_compact_line parts (words key order payload given (omega arith) (omega arith) (first_word, tt)) few) refl

-- so the law says of it what it says
audited : PassesAudit order (alg_text key.alg) (IsGood key) (compact parts)
audited = key_issued_passes_holds key seed order parts applies_not ordered utf8 issued is_token
