-- What the worked orders of the crates above share: a seed, its first salts, a disclosure, and the token.
use Rattle.std.proofs.Common.{◌≡◌, ℕ, zero, suc, ◌+◌, ◌<◌, ◌≤◌, List, [], ◌++◌, length, length-append, Option, None, Some, ap, codes, refl, subst, sym, ◌∙◌, arith}
use Rattle.std.specs.List.{AllByRecursion, position_from}
use Rattle.std.specs.Prelude.{slice_get}
use Rattle.std.specs.Set.{distinct_count}
use Rattle.rand_chacha.specs.Block.{block_word, double_rounds, diagonal_round, quarter_round, column_round}
use Rattle.rand_core.specs.Steps.{u32_at}
use Rattle.json.specs.Print.{escape_byte}
use Rattle.sd_outside.specs.Limits.{count_max, depth_max}
use Rattle.b64url_text.specs.Base64url.{IsWord, letters, bits, sixes, b64}
use Rattle.b64url_text.proofs.Codes.{IsWord-b64}
use Rattle.b64url_text.proofs.Lengths.{length-b64}
use Rattle.claim_tree.specs.JsonText.{json_text}
use Rattle.claim_tree.specs.Tree.{Text, Tree, depth, leaf, object, text}
use Rattle.compact_form.specs.Compact.{AreWords, compact, hashed, jwt, spelled}
use Rattle.refusals.specs.Lowest.{NoneApplies}
use Rattle.compact_form.specs.declared.parts.Parts.{Parts}
use Rattle.digest_sites.specs.Given.{Given}
use Rattle.disclosure.specs.Digest.{digest_of}
use Rattle.disclosure.specs.Disclosure.{array_of, disclosure_text}
use Rattle.disclosure.specs.declared.digests.HashAlg.{HashAlg}
use Rattle.hmac_sign.specs.Algs.{alg_text}
use Rattle.hmac_sign.specs.CodeLengths.{code_length}
use Rattle.hmac_sign.specs.Hmac.{AlgKey, IsGood, mac}
use Rattle.hmac_sign.specs.declared.alg.Alg.{Alg}
use Rattle.hmac_sign.proofs.Macs.{length-mac}
use Rattle.jws_part.specs.Header.{header_members}
use Rattle.marked_tree.specs.Paths.{Path, same_path}
use Rattle.issuer_core.specs.Decoys.{decoys_of}
use Rattle.issuer_core.specs.Digests.{made_texts}
use Rattle.issuer_core.specs.GoodOrder.{IsObject}
use Rattle.issuer_core.specs.Judging.{is_root, is_nowhere, is_protected, is_misplaced}
use Rattle.issuer_core.specs.Laid.{with_alg}
use Rattle.issuer_core.specs.Order.{Order}
use Rattle.issuer_core.specs.OrderRefusals.{AppliesToOrder, IsRoot, IsNowhere, IsProtected, IsMisplaced}
use Rattle.issuer_core.specs.ReservedPaths.{reserved_paths}
use Rattle.issuer_core.specs.Salts.{salt_of, salt_piece}
use Rattle.issuer_core.specs.Seed.{maker_of}
use Rattle.issuer_core.specs.Written.{header_of, IsWritten}
use Rattle.issuer_core.specs.declared.errors.IssueError.TheVariants.{Memory, SignFailed, PayloadNotObject, ReservedName, TooDeep, RootMarked, NoSuchPlace, ProtectedClaim, DecoyPlace, TooManyHidden, TooManyDecoys, DigestClash, TooLong}
use Rattle.issuer_core.proofs.Firsts.{found_none}
use Rattle.issuer_core.proofs.Judged.{root_tells, nowhere_tells, protected_tells, misplaced_tells}

abbrev pub seed : List ℕ
seed = codes "a seed of bytes, no fewer than 3"

pub salt_0 : salt_of seed 0 ≡ codes "zmsWpmAHnM42j0qbcdYN8w"
unfolding salt_piece u32_at block_word double_rounds diagonal_round quarter_round column_round letters bits sixes b64
salt_0 = refl

pub salt_1 : salt_of seed 1 ≡ codes "AoS086vrZ8wQa73AZnCrVQ"
unfolding salt_piece u32_at block_word double_rounds diagonal_round quarter_round column_round letters bits sixes b64
salt_1 = refl

-- ---- a disclosure with the first salt

abbrev pub family : Text
family = codes "family_name"

abbrev pub bee : Tree
bee = leaf (text (codes "Bee"))

abbrev pub first_text : Text
first_text = codes "WyJ6bXNXcG1BSG5NNDJqMHFiY2RZTjh3IiwiZmFtaWx5X25hbWUiLCJCZWUiXQ"

pub first_made : (maker_of seed).disclosure 0 (Some family) bee ≡ first_text
unfolding escape_byte letters bits sixes b64
first_made = ap (λ (s : Text). disclosure_text (leaf (text s)) (Some family) bee) salt_0

pub first_word : IsWord ((maker_of seed).disclosure 0 (Some family) bee)
first_word = IsWord-b64 (json_text (array_of (leaf (text (salt_of seed 0))) (Some family) bee)) (omega arith)

abbrev pub first_digest : Text
first_digest = codes "IrhkXE0cW_t8C6P13VxCaIFVUCyrwNb3zaNXiocuAbg"

abbrev pub first_given : Given
first_given = record { digest = first_digest; name = Some family; value = bee }

-- its digest, and another
abbrev pub digests_with : Text → ℕ → Text
digests_with other zero = first_digest
digests_with other (suc k) = other

-- its digest is that of its text
pub first_is : digest_of HashAlg.Sha256 first_text ≡ first_digest → (x : Given) → first_given ≡ x → first_digest ≡ digest_of HashAlg.Sha256 ((maker_of seed).disclosure 0 x.name x.value)
first_is hashed x is = subst (λ (y : Given). first_digest ≡ digest_of HashAlg.Sha256 ((maker_of seed).disclosure 0 y.name y.value)) is (sym (ap (digest_of HashAlg.Sha256) first_made ∙ hashed))

-- ---- no refusal applies

-- the tests of an order find nothing
module _ (o : Order) (is : IsObject o.payload) (free : slice_get (reserved_paths o.payload) 0 ≡ None) (low : depth o.payload ≤ depth_max)
    (roots : position_from is_root 0 o.hide ≡ None) (nowheres : position_from (is_nowhere o.payload) 0 o.hide ≡ None) (protecteds : position_from is_protected 0 o.hide ≡ None)
    (misplaceds : position_from (is_misplaced o.payload) 0 o.decoys ≡ None) (few : distinct_count same_path o.hide ≤ count_max) (fewer : length (decoys_of o) ≤ count_max)
  where
    pub passes : NoneApplies (AppliesToOrder o)
    passes Memory h = h
    passes SignFailed h = h
    passes PayloadNotObject h = h is
    passes (ReservedName path) h = let clash : ◌≡◌ {A = Option Path} None (Some path) = sym free ∙ h in cc clash
    passes TooDeep h = omega (arith, h, low)
    passes (RootMarked k) h = found_none IsRoot is_root root_tells o.hide roots k h
    passes (NoSuchPlace k) h = found_none (IsNowhere o.payload) (is_nowhere o.payload) (nowhere_tells o.payload) o.hide nowheres k h
    passes (ProtectedClaim k) h = found_none IsProtected is_protected protected_tells o.hide protecteds k h
    passes (DecoyPlace k) h = found_none (IsMisplaced o.payload) (is_misplaced o.payload) (misplaced_tells o.payload) o.decoys misplaceds k h
    passes TooManyHidden h = omega (arith, h, few)
    passes TooManyDecoys h = omega (arith, h, fewer)
    passes (DigestClash i j) h = h
    passes TooLong h = h

-- ---- the token that is written

code_bounds : (alg : Alg) → (0 < code_length alg) × (code_length alg ≤ 64)
code_bounds Alg.Hs256 = (omega arith, omega arith)
code_bounds Alg.Hs384 = (omega arith, omega arith)
code_bounds Alg.Hs512 = (omega arith, omega arith)

module _ (key : AlgKey) (o : Order) (payload : Tree) (given : List Given) where
  abbrev pub head : Text
  head = json_text (object (header_members (header_of (alg_text key.alg) o)))

  abbrev pub body : Text
  body = json_text (with_alg o.hash payload)

  abbrev code : List ℕ
  code = mac key (b64 head) (b64 body)

  abbrev pub token : Parts
  token = record {
    signed = record { protected = b64 head; payload = b64 body; signature = b64 code };
    disclosures = made_texts (maker_of seed).disclosure 0 given;
    binding = None;
  }

  pub written : IsWritten (maker_of seed) o (alg_text key.alg) (IsGood key) payload given token
  written = record { protected = refl; body = refl; signature = code; signature_text = refl; signed = refl; disclosures = refl; unbound = refl }

  pub words : 0 < length head → 0 < length body → AllByRecursion IsWord token.disclosures → AreWords token
  words of_head of_body disclosures = record {
    signed = record {
      protected = IsWord-b64 head of_head;
      payload = IsWord-b64 body of_body;
      signature = IsWord-b64 code (omega (arith, length-mac key (b64 head) (b64 body), (code_bounds key.alg).0));
    };
    disclosures = disclosures;
    binding = tt;
  }

  -- it is not much longer than its disclosures
  pub token_length : length head ≤ 1000 → length body ≤ 1000 → length (compact token) ≤ 2800 + length (spelled token.disclosures)
  token_length of_head of_body =
      omega (
        arith,
        of_head,
        of_body,
        length-b64 head,
        length-b64 body,
        length-b64 code,
        length-mac key (b64 head) (b64 body),
        (code_bounds key.alg).1,
        length-append (b64 head) (codes "." ++ (b64 body ++ (codes "." ++ b64 code))),
        length-append (b64 body) (codes "." ++ b64 code),
        length-append (jwt token.signed) (codes "~" ++ spelled token.disclosures),
        length-append (hashed token) [],
      )
