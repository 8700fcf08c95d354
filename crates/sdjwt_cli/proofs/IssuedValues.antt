-- A token that is issued for the worked order: each premise of the law of presenting is met.
use Rattle.std.proofs.Common.{◌≡◌, ℕ, zero, suc, ◌≤◌, List, [], ◌∷◌, length, true, false, bytes_eq, None, Some, codes, rules, refl, sym, ap, subst, ◌∙◌, arith}
use Rattle.std.specs.List.{AllByRecursion}
use Rattle.std.specs.Prelude.{slice_get}
use Rattle.json.proofs.Printed.Utf8.{IsUtf8-are_ascii}
use Rattle.json.specs.Print.{escape_byte}
use Rattle.sha2.specs.Sha256.{compress, digest_bytes, first_words, hash_after, rounds, schedule, sha256}
use Rattle.b64url_text.specs.Base64url.{IsWord, letters, bits, sixes, b64}
use Rattle.claim_tree.specs.Tree.{Text, Tree, leaf, text, array, object, no_elements, element, no_members, member, IsOrdered}
use Rattle.disclosure.specs.Digest.{digest_of}
use Rattle.disclosure.specs.Disclosure.{array_of, disclosure_text}
use Rattle.disclosure.specs.declared.digests.HashAlg.{HashAlg}
use Rattle.issuer_core.specs.Salts.{salt_of}
use Rattle.sd_outside.specs.Lists.{StandsAt, Repeats}
use Rattle.digest_sites.specs.Given.{Given}
use Rattle.digest_sites.specs.Reserved.{sd_name, dots_name}
use Rattle.rebuild_core.specs.Payload.{alg_name}
use Rattle.rebuild_core.specs.Free.{HasNoReserved}
use Rattle.claim_tree.specs.JsonText.{json_text}
use Rattle.compact_form.specs.declared.parts.Parts.{Parts}
use Rattle.compact_form.specs.Compact.{compact}
use Rattle.refusals.specs.Lowest.{NoneApplies}
use Rattle.b64url_text.proofs.Codes.{IsWord-b64}
use Rattle.issuer_core.specs.Issue.{ClashesAt}
use Rattle.issuer_core.specs.Laid.{IsLaid}
use Rattle.issuer_core.specs.OrderRefusals.{AppliesToOrder}
use Rattle.issuer_core.specs.ReservedPaths.{reserved_paths}
use Rattle.issuer_core.specs.GoodOrder.{IsWritable}
use Rattle.issuer_core.proofs.IssuedContent.{laid_digests_differ}
use Rattle.issuer_core.specs.Seed.{maker_of}
use Rattle.issuer_core.proofs.FromLaid.{one_list}
use Rattle.issuer_core.proofs.WorkedOrders.{seed, salt_1, family, bee, first_text, first_made, first_word, first_digest, first_given, digests_with, first_is, passes, head, body, token, written, words, token_length}
use Rattle.sdjwt_cli.proofs.SuitsExample.{issuer_key, named, order}
use Rattle.sdjwt_cli.specs.Issuing.{IsIssuedBy, Issues}
use Rattle.cli_parts.specs.Lines.{line}
use Rattle.sdjwt_cli.specs.Presented.{IsShownWell}
use Rattle.sdjwt_cli.proofs.PresentedRuns.{presented_over_files}
use Rattle.sdjwt_cli.proofs.PresentedShort.{spelled_more}
use Rattle.sdjwt_cli.proofs.SuitedFiles.{order_file, seed_file, present_file, policy_file, all_suits}
use Rattle.sdjwt_cli.specs.Suits.{claims_for}

-- ---- the second disclosure, and its digest

abbrev second_text : Text
second_text = codes "WyJBb1MwODZ2clo4d1FhNzNBWm5DclZRIiwiZ2l2ZW5fbmFtZSIsIkFubiJd"

second_made : (maker_of seed).disclosure 1 (Some (codes "given_name")) (named (codes "Ann")) ≡ second_text
unfolding escape_byte letters bits sixes b64
second_made = ap (λ (s : Text). disclosure_text (leaf (text s)) (Some (codes "given_name")) (named (codes "Ann"))) salt_1

abbrev second_digest : Text
second_digest = codes "yFCBk-cMgCJuMbzz3Gd_TeOYnw6_7u8YAafmobHwNfU"

hashed : (digest_of HashAlg.Sha256 first_text ≡ first_digest) × (digest_of HashAlg.Sha256 second_text ≡ second_digest)
unfolding b64 sixes bits letters first_words schedule rounds compress hash_after digest_bytes sha256
hashed = (refl, refl)

-- ---- what is laid

abbrev given : List Given
given = first_given ∷ record { digest = second_digest; name = Some (codes "given_name"); value = named (codes "Ann") } ∷ []

abbrev payload : Tree
payload =
    object (member (codes "_sd") (array (element (named first_digest) (element (named second_digest) no_elements)))
    (member (codes "cnf") (object (member (codes "kid") (named (codes "h")) no_members)) (member (codes "iss") (named (codes "i")) no_members)))

made : (k : ℕ) (x : Given) → StandsAt given k x → digests_with second_digest k ≡ digest_of HashAlg.Sha256 ((maker_of seed).disclosure k x.name x.value)
made zero x is = first_is hashed.0 x (sym is)
made (suc zero) x is =
    subst (λ (y : Given). second_digest ≡ digest_of HashAlg.Sha256 ((maker_of seed).disclosure 1 y.name y.value)) (sym is) (sym (ap (digest_of HashAlg.Sha256) second_made ∙ hashed.1))
made (suc (suc k)) x is = absurd is

laid : IsLaid (maker_of seed) order payload given (digests_with second_digest)
unfolding sd_name
laid = record { payload_laid = refl; given_laid = refl; disclosures = made; decoys = λ d less. absurd (omega (arith, less)) }

-- ---- none of the refusals applies

none_reserved : slice_get (reserved_paths order.payload) 0 ≡ None
unfolding sd_name dots_name alg_name
none_reserved = refl

apart : first_digest ≡ second_digest → ⊥
apart e = let clash : true ≡ false = ap (bytes_eq first_digest) e in cc clash

applies_not : NoneApplies (AppliesToOrder order)
applies_not = passes order tt none_reserved (omega arith) refl refl refl refl (omega arith) (omega arith)

differ : (i j : ℕ) → ClashesAt (maker_of seed) order i j → ⊥
differ i j clash =
    let same = one_list (maker_of seed) order clash.payload payload clash.given given clash.digests (digests_with second_digest) clash.laid laid in
    no_repeat j (subst (λ (ds : List Text). Repeats ds j) same clash.clash.later.fails)
  where
    no_repeat : (j : ℕ) → Repeats (first_digest ∷ second_digest ∷ []) j → ⊥
    no_repeat zero (d, at, i, less, there) = omega (arith, less)
    no_repeat (suc zero) (d, at, zero, less, there) = apart (sym there ∙ at)
    no_repeat (suc zero) (d, at, suc i, less, there) = omega (arith, less)
    no_repeat (suc (suc k)) (d, at, i, less, there) = absurd at

-- ---- the order as a machine holds it

claims_ordered : IsOrdered order.payload
claims_ordered = search rules

free : HasNoReserved order.payload
unfolding sd_name dots_name alg_name
free = search rules

writable : IsWritable order
writable = record {
  good = record { is_object = tt; no_reserved = free; shallow = omega arith; decoys_held = λ entry none. absurd none; ordered = claims_ordered };
  held = (
    IsUtf8-are_ascii (codes "cnf") refl,
    (IsUtf8-are_ascii (codes "kid") refl, IsUtf8-are_ascii (codes "h") refl, tt),
    (IsUtf8-are_ascii (codes "family_name") refl, IsUtf8-are_ascii (codes "Bee") refl, (IsUtf8-are_ascii (codes "given_name") refl, IsUtf8-are_ascii (codes "Ann") refl, (IsUtf8-are_ascii (codes "iss") refl, IsUtf8-are_ascii (codes "i") refl, tt))),
  );
  ranged = search rules;
  kid = tt;
  typ = IsUtf8-are_ascii (codes "dc+sd-jwt") refl;
}

-- ---- the token

abbrev pub parts : Parts
parts = token issuer_key order payload given

lengths : (length (head issuer_key order payload given) ≤ 1000) × (length (body issuer_key order payload given) ≤ 1000)
unfolding escape_byte alg_name sd_name
lengths = (omega arith, omega arith)

pub parts_short : length (compact parts) ≤ 5000
parts_short =
    let first = ap length first_made in
    let second = ap length second_made in
    omega (
      arith,
      first,
      second,
      token_length issuer_key order payload given lengths.0 lengths.1,
      spelled_more ((maker_of seed).disclosure 0 (Some family) bee) ((maker_of seed).disclosure 1 (Some (codes "given_name")) (named (codes "Ann")) ∷ []),
      spelled_more ((maker_of seed).disclosure 1 (Some (codes "given_name")) (named (codes "Ann"))) [],
    )

disclosure_words : AllByRecursion IsWord parts.disclosures
disclosure_words = (first_word, (IsWord-b64 (json_text (array_of (named (salt_of seed 1)) (Some (codes "given_name")) (named (codes "Ann")))) (omega arith), tt))

-- ---- `issue` gives this line

pub issued : IsIssuedBy seed order issuer_key parts
issued = record {
  issued = record { payload = payload; given = given; issued = laid_digests_differ seed order payload given (digests_with second_digest) laid differ writable; written = written issuer_key order payload given };
  laid = record { payload = payload; given = given; digests = digests_with second_digest; laid = laid; written = written issuer_key order payload given };
  passes = applies_not;
  differ = differ;
  writable = writable;
  words = words issuer_key order payload given (omega arith) (omega arith) disclosure_words;
  few = omega arith;
  short = let few = parts_short in omega (arith, few);
}

issues : Issues order_file seed_file (line (compact parts))
issues = record {
  order = order;
  key = issuer_key;
  seed = seed;
  asked = all_suits.asked;
  parts = parts;
  answered = issued;
  line_is = refl;
}

-- so the law says of it what it says
pub shown : IsShownWell (line (compact parts)) present_file policy_file 1000 1300 (claims_for order all_suits.said.ask.want)
shown = presented_over_files order_file seed_file present_file policy_file 1000 1300 all_suits (line (compact parts)) issues
