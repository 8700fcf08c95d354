-- From what is laid and signed to what is issued, and why it is not.
use Rattle.std.proofs.Common.{◌≡◌, ℕ, suc, ◌+◌, ◌<◌, ◌≤◌, ◌⊎◌, inl, inr, List, [], ◌∷◌, None, Option, Some, refl, arith, length, subst, sym, ◌∙◌, IfSome, ap}
use Rattle.std.specs.List.{AllByRecursion}
use Rattle.b64url_text.specs.Base64url.{IsWord, b64}
use Rattle.b64url_text.proofs.Codes.{IsWord-b64}
use Rattle.sd_outside.specs.Lists.{StandsAt, Repeats, AtNone}
use Rattle.claim_tree.specs.Tree.{Text, Tree, leaf, text, array, object, IsRanged}
use Rattle.claim_tree.proofs.Datas.{MembersRanged-inserted}
use Rattle.rebuild_core.specs.Payload.{alg_name}
use Rattle.claim_tree.specs.JsonText.{json_text}
use Rattle.compact_form.specs.declared.parts.Parts.{Parts}
use Rattle.compact_form.specs.Compact.{AreWords, HasWords}
use Rattle.hmac_sign.specs.Signatures.{Meaning}
use Rattle.disclosure.specs.Digest.{hash_name}
use Rattle.disclosure.specs.Disclosure.{array_of, disclosure_text}
use Rattle.disclosure.specs.declared.digests.HashAlg.{HashAlg}
use Rattle.digest_sites.specs.Given.{Given}
use Rattle.jws_part.specs.declared.header.Header.{Header}
use Rattle.jws_part.specs.Header.{header_members}
use Rattle.issuer_core.specs.declared.errors.IssueError.{IssueError}
use Rattle.issuer_core.specs.declared.errors.IssueError.TheVariants.{Memory, SignFailed, PayloadNotObject, ReservedName, TooDeep, RootMarked, NoSuchPlace, ProtectedClaim, DecoyPlace, TooManyHidden, TooManyDecoys, DigestClash, TooLong}
use Rattle.issuer_core.specs.Order.{Order}
use Rattle.issuer_core.specs.Decoys.{decoys_of}
use Rattle.issuer_core.specs.GoodOrder.{IsGoodOrder, IsObject}
use Rattle.issuer_core.specs.ShortLists.{HasShortLists}
use Rattle.issuer_core.specs.Digests.{Maker, hidden_of, made_texts, digests_from}
use Rattle.issuer_core.specs.IssueCalls.{AllDiffer, IsToBeSigned, IsNotIssued}
use Rattle.issuer_core.specs.Laying.{IsLaidFor}
use Rattle.issuer_core.specs.Laid.{IsLaid, with_alg}
use Rattle.issuer_core.specs.Clash.{IsFirstClash}
use Rattle.issuer_core.specs.Laws.{PartsAreIssued, SignedIsIssued}
use Rattle.refusals.specs.Lowest.{NoneApplies}
use Rattle.issuer_core.specs.OrderRefusals.{AppliesToOrder, IsLowestRefusal, issue_number, refusal_place}
use Rattle.issuer_core.specs.JudgeCalls.{IsOrderRefused}
use Rattle.issuer_core.specs.Salts.{salt_of}
use Rattle.issuer_core.specs.Seed.{maker_of}
use Rattle.issuer_core.specs.Written.{header_of, IsIssued, IsLaidOut}
use Rattle.issuer_core.specs.Issue.{laid_digests, ClashesAt, IsIssueTooLong, AppliesToIssue}
use Rattle.issuer_core.specs.IssueSteps.{HasClash, AreWritten}
use Rattle.issuer_core.specs.ToSign.{IsToSign, AppliesToSign, IsNotToSign, IsTokenWith, IsTokenUnmade, AreUnsignedWords}
use Rattle.issuer_core.specs.declared.unsigned_token.UnsignedToken.{UnsignedToken}
use Rattle.issuer_core.proofs.LaidDecoys.{laid_is_issued_holds}
use Rattle.issuer_core.proofs.Judged.{good_order}
use Rattle.issuer_core.proofs.NumberedDigests.{digest_stands, are_numbered, numbered_same}
use Rattle.issuer_core.proofs.OneLaid.{one_digest}
use Rattle.issuer_core.proofs.ReservedPlaces.{held_short}
use Rattle.issuer_core.proofs.WithAlg.{payload_object}

-- ---- the digests as a list

pub all_differ : (dg : ℕ → Text) (n : ℕ) → AtNone (Repeats (digests_from dg 0 n)) → AllDiffer dg n
all_differ dg n none i j less low same =
    none j (dg i, subst (λ d. StandsAt (digests_from dg 0 n) j d) (sym same) (digest_stands dg 0 n j j low (omega arith)), i, less, digest_stands dg 0 n i i (omega (arith, less, low)) (omega arith))

pub one_list : (maker : Maker) (o : Order) (p q : Tree) (g h : List Given) (dg dh : ℕ → Text) → IsLaid maker o p g dg → IsLaid maker o q h dh → laid_digests o dg ≡ laid_digests o dh
one_list maker o p q g h dg dh one other = numbered_same dg dh 0 (hidden_of o + length (decoys_of o)) (λ i l. one_digest maker o p q g h dg dh one other (0 + i) (omega (arith, l)))

-- ---- what is laid and signed

-- what is laid out for a good order, with digests that differ, is issued
laid_out_issued : (maker : Maker) (o : Order) (alg : Text) (good : Meaning) (parts : Parts) → IsGoodOrder o → IsRanged o.payload → HasShortLists o.payload
    → (out : IsLaidOut maker o alg good parts) → AllDiffer out.digests (hidden_of o + length (decoys_of o)) → IsIssued maker o alg good parts
laid_out_issued maker o alg good parts is_good ranged short out differ = record {
  payload = out.payload;
  given = out.given;
  issued = laid_is_issued_holds maker o out.payload out.given out.digests is_good ranged short out.laid differ;
  written = out.written;
}

pub parts_are_issued_holds : (alg : Text) (good : Meaning) → PartsAreIssued alg good
parts_are_issued_holds alg good maker o parts none ordered ranged short out differ =
    laid_out_issued maker o alg good parts (good_order o (λ error h. absurd (none error h)) ordered) ranged short out differ

-- what is to be signed is laid out, with a good signature
pub laid_out : (maker : Maker) (o : Order) (alg : Text) (good : Meaning) (token : UnsignedToken) → IsToSign maker o alg token → (signature : List ℕ) (parts : Parts) → IsTokenWith token signature parts
    → good token.jwt.protected token.jwt.payload signature → IsLaidOut maker o alg good parts
laid_out maker o alg good token to_sign signature parts is is_good = record {
  payload = to_sign.payload;
  given = to_sign.given;
  digests = to_sign.digests;
  laid = to_sign.laid;
  written = record {
    protected = is.jwt.protected ∙ to_sign.unsigned.protected;
    body = is.jwt.payload ∙ to_sign.unsigned.body;
    signature = signature;
    signature_text = is.jwt.signature_text;
    signed = subst (λ x. good x parts.signed.payload signature) (sym is.jwt.protected) (subst (λ x. good token.jwt.protected x signature) (sym is.jwt.payload) is_good);
    disclosures = is.disclosures ∙ to_sign.unsigned.disclosures;
    unbound = is.unbound;
  };
}

pub signed_is_issued_holds : (alg : Text) (good : Meaning) → SignedIsIssued alg good
unfolding laid_out
signed_is_issued_holds alg good maker o token signature parts writable to_sign is is_good =
    let out = laid_out maker o alg good token to_sign signature parts is is_good in
    (laid_out_issued maker o alg good parts writable.good writable.ranged (held_short o.payload writable.held) out to_sign.differ, out)

digests_are : (seed : List ℕ) (o : Order) (body : Tree) (texts digests : List Text) (laid : IsLaidFor (maker_of seed) o body texts digests) → digests ≡ laid_digests o laid.dg
digests_are seed o body texts digests laid = are_numbered digests laid.dg 0 (hidden_of o + length (decoys_of o)) laid.count (λ k d a. laid.each k d a ∙ ap laid.dg (omega arith))

-- ---- refusals

-- a refusal of the order alone is the lowest of all
module _ (maker : Maker) (o : Order) where
  -- what applies is a refusal of the order alone, or two digests clash
  clash_or : (error : IssueError) → AppliesToSign maker o error → NoneApplies (AppliesToOrder o) → 60 ≤ issue_number error
  clash_or (DigestClash i j) h none = omega arith
  clash_or error h none = absurd (none error h)

  clash_lowest : NoneApplies (AppliesToOrder o) → (i j : ℕ) → ClashesAt maker o i j → IsLowestRefusal (AppliesToSign maker o) (DigestClash i j)
  clash_lowest none i j clash = record { applies = clash; lowest = λ other h. clash_or other h none; first = λ other h e. omega arith }

  raised : (error : IssueError) → issue_number error ≤ 59 → (AppliesToOrder o error → AppliesToSign maker o error) → IsLowestRefusal (AppliesToOrder o) error → IsLowestRefusal (AppliesToSign maker o) error
  raised error low same l = record { applies = same l.applies; lowest = lower; first = earlier }
    where
      lower : (other : IssueError) → AppliesToSign maker o other → issue_number error ≤ issue_number other
      lower (DigestClash i j) h = omega (arith, low)
      lower other h = l.lowest other h

      earlier : (other : IssueError) → AppliesToSign maker o other → issue_number other ≡ issue_number error → refusal_place error ≤ refusal_place other
      earlier (DigestClash i j) h e = absurd (omega (arith, low, e))
      earlier other h e = l.first other h e

  pub order_refused : (error : IssueError) → IsOrderRefused o error → IsNotToSign maker o error
  order_refused Memory r = tt
  order_refused SignFailed r = absurd r.applies
  order_refused PayloadNotObject r = raised PayloadNotObject (omega arith) (λ h. h) r
  order_refused (ReservedName path) r = raised (ReservedName path) (omega arith) (λ h. h) r
  order_refused TooDeep r = raised TooDeep (omega arith) (λ h. h) r
  order_refused (RootMarked k) r = raised (RootMarked k) (omega arith) (λ h. h) r
  order_refused (NoSuchPlace k) r = raised (NoSuchPlace k) (omega arith) (λ h. h) r
  order_refused (ProtectedClaim k) r = raised (ProtectedClaim k) (omega arith) (λ h. h) r
  order_refused (DecoyPlace k) r = raised (DecoyPlace k) (omega arith) (λ h. h) r
  order_refused TooManyHidden r = raised TooManyHidden (omega arith) (λ h. h) r
  order_refused TooManyDecoys r = raised TooManyDecoys (omega arith) (λ h. h) r
  order_refused (DigestClash i j) r = absurd r.applies
  order_refused TooLong r = absurd r.applies

-- what keeps a token from being signed keeps it from being issued
module _ (maker : Maker) (o : Order) (alg : Text) (good : Meaning) where
  -- what applies is known before a token is signed, or the token is too long
  pub known_or_long : (error : IssueError) → AppliesToIssue maker o alg good error → AppliesToSign maker o error ⊎ (error ≡ TooLong)
  known_or_long TooLong h = inr refl
  known_or_long (DigestClash i j) h = inl h
  known_or_long error h = inl h

  lifted : (error : IssueError) → issue_number error ≤ 60 → AppliesToIssue maker o alg good error → IsLowestRefusal (AppliesToSign maker o) error → IsLowestRefusal (AppliesToIssue maker o alg good) error
  lifted error low applies l = record { applies = applies; lowest = λ other h. lower other (known_or_long other h); first = λ other h e. earlier other (known_or_long other h) e }
    where
      lower : (other : IssueError) → AppliesToSign maker o other ⊎ (other ≡ TooLong) → issue_number error ≤ issue_number other
      lower other (inl h) = l.lowest other h
      lower other (inr is) = omega (arith, low, ap issue_number is)

      earlier : (other : IssueError) → AppliesToSign maker o other ⊎ (other ≡ TooLong) → issue_number other ≡ issue_number error → refusal_place error ≤ refusal_place other
      earlier other (inl h) e = l.first other h e
      earlier other (inr is) e = absurd (omega (arith, low, e, ap issue_number is))

  pub not_signed_refused : (error : IssueError) → IsNotToSign maker o error → IsNotIssued maker o alg good error
  not_signed_refused Memory r = tt
  not_signed_refused SignFailed r = absurd r.applies
  not_signed_refused PayloadNotObject r = lifted PayloadNotObject (omega arith) r.applies r
  not_signed_refused (ReservedName path) r = lifted (ReservedName path) (omega arith) r.applies r
  not_signed_refused TooDeep r = lifted TooDeep (omega arith) r.applies r
  not_signed_refused (RootMarked k) r = lifted (RootMarked k) (omega arith) r.applies r
  not_signed_refused (NoSuchPlace k) r = lifted (NoSuchPlace k) (omega arith) r.applies r
  not_signed_refused (ProtectedClaim k) r = lifted (ProtectedClaim k) (omega arith) r.applies r
  not_signed_refused (DecoyPlace k) r = lifted (DecoyPlace k) (omega arith) r.applies r
  not_signed_refused TooManyHidden r = lifted TooManyHidden (omega arith) r.applies r
  not_signed_refused TooManyDecoys r = lifted TooManyDecoys (omega arith) r.applies r
  not_signed_refused (DigestClash i j) r = lifted (DigestClash i j) (omega arith) r.applies r
  not_signed_refused TooLong r = absurd r.applies

  long_lowest : IsToBeSigned maker o → IsIssueTooLong maker o alg good → IsLowestRefusal (AppliesToIssue maker o alg good) TooLong
  long_lowest ready long = record { applies = long; lowest = λ other h. lower other (known_or_long other h); first = λ other h e. omega arith }
    where
      none : (other : IssueError) → AppliesToSign maker o other → ⊥
      none (DigestClash i j) h = ready.differ i j h
      none other h = ready.passes other h

      lower : (other : IssueError) → AppliesToSign maker o other ⊎ (other ≡ TooLong) → 61 ≤ issue_number other
      lower other (inl h) = absurd (none other h)
      lower other (inr is) = omega (arith, ap issue_number is)

  pub unmade_refused : IsToBeSigned maker o → (token : UnsignedToken) → IsToSign maker o alg token → (error : IssueError) → IsTokenUnmade token good error → IsNotIssued maker o alg good error
  unmade_refused ready token to_sign Memory h = tt
  unmade_refused ready token to_sign SignFailed h = ready
  unmade_refused ready token to_sign TooLong (parts, is_by, long) =
      long_lowest ready (record { parts = parts; laid = laid_out maker o alg good token to_sign is_by.signature parts is_by.with_it is_by.signed; long = long })
  unmade_refused ready token to_sign error h = absurd h

-- ---- from what is laid

module _ (seed : List ℕ) (o : Order) (body : Tree) (texts digests : List Text) (laid : IsLaidFor (maker_of seed) o body texts digests) where
  clash_at : (i j : ℕ) → IsFirstClash digests i j → ClashesAt (maker_of seed) o i j
  clash_at i j clash = record {
    payload = laid.laid;
    given = laid.given;
    digests = laid.dg;
    laid = laid.is_laid;
    clash = subst (λ (ds : List Text). IsFirstClash ds i j) (digests_are seed o body texts digests laid) clash;
  }

  pub clash_refused : NoneApplies (AppliesToOrder o) → (error : IssueError) → HasClash digests error → IsNotToSign (maker_of seed) o error
  clash_refused none Memory h = tt
  clash_refused none (DigestClash i j) h = clash_lowest (maker_of seed) o none i j (clash_at i j h)
  clash_refused none error h = absurd h

  pub no_clash : AtNone (Repeats digests) → (i j : ℕ) → ClashesAt (maker_of seed) o i j → ⊥
  no_clash none i j clash =
      let same = one_list (maker_of seed) o clash.payload laid.laid clash.given laid.given clash.digests laid.dg clash.laid laid.is_laid in
      none j (subst (λ (ds : List Text). Repeats ds j) (same ∙ sym (digests_are seed o body texts digests laid)) clash.clash.later.fails)

  -- what is laid and written is to be signed
  pub to_be_signed : (alg : Text) (token : UnsignedToken) → AreWritten (header_of alg o) body texts token → AtNone (Repeats digests) → IsToSign (maker_of seed) o alg token
  to_be_signed alg token written none = record {
    payload = laid.laid;
    given = laid.given;
    digests = laid.dg;
    laid = laid.is_laid;
    differ = all_differ laid.dg (hidden_of o + length (decoys_of o)) (subst (λ (ds : List Text). AtNone (Repeats ds)) (digests_are seed o body texts digests laid) none);
    unsigned = record {
      protected = written.protected;
      body = subst (λ t. token.jwt.payload ≡ b64 (json_text t)) laid.payload_is written.payload;
      disclosures = written.disclosures ∙ laid.texts_are;
    };
  }

-- ---- words

pub with_alg_object : (hash : HashAlg) (t : Tree) → IsObject t → IsObject (with_alg hash t)
with_alg_object hash (object ms) h = tt
with_alg_object hash (leaf l) h = absurd h
with_alg_object hash (array es) h = absurd h

pub body_object : (seed : List ℕ) (o : Order) (body : Tree) (texts digests : List Text) → IsGoodOrder o → IsLaidFor (maker_of seed) o body texts digests → IsObject body
body_object seed o body texts digests good laid =
    subst IsObject (sym laid.payload_is) (with_alg_object o.hash laid.laid (payload_object (maker_of seed) o laid.laid laid.given laid.dg good laid.is_laid))

disclosure_word : (salt : Tree) (name : Option Text) (value : Tree) → IsWord (disclosure_text salt name value)
disclosure_word salt None value = IsWord-b64 (json_text (array_of salt None value)) (omega arith)
disclosure_word salt (Some name) value = IsWord-b64 (json_text (array_of salt (Some name) value)) (omega arith)

pub texts_words : (seed : List ℕ) (k : ℕ) (given : List Given) → AllByRecursion IsWord (made_texts (maker_of seed).disclosure k given)
texts_words seed k [] = tt
texts_words seed k (x ∷ given) = (disclosure_word (leaf (text (salt_of seed k))) x.name x.value, texts_words seed (suc k) given)

pub object_word : (t : Tree) → IsObject t → IsWord (b64 (json_text t))
object_word (object ms) h = IsWord-b64 (json_text (object ms)) (omega arith)
object_word (leaf l) h = absurd h
object_word (array es) h = absurd h

-- the disclosures of what is laid are words
pub laid_words : (seed : List ℕ) (o : Order) (body : Tree) (texts digests : List Text) → IsLaidFor (maker_of seed) o body texts digests → AllByRecursion IsWord texts
laid_words seed o body texts digests laid = subst (λ (ds : List Text). AllByRecursion IsWord ds) (sym laid.texts_are) (texts_words seed 0 laid.given)

pub unsigned_words : (header : Header) (body : Tree) (texts : List Text) (token : UnsignedToken) → IsObject body → AllByRecursion IsWord texts → AreWritten header body texts token → AreUnsignedWords token
unsigned_words header body texts token is_object are_words written = record {
  protected = subst IsWord (sym written.protected) (object_word (object (header_members header)) tt);
  payload = subst IsWord (sym written.payload) (object_word body is_object);
  disclosures = subst (λ (ds : List Text). AllByRecursion IsWord ds) (sym written.disclosures) are_words;
}

pub signed_words : (token : UnsignedToken) (signature : List ℕ) (parts : Parts) → AreUnsignedWords token → 0 < length signature → IsTokenWith token signature parts → AreWords parts
signed_words token signature parts words some is = record {
  signed = record {
    protected = subst IsWord (sym is.jwt.protected) words.protected;
    payload = subst IsWord (sym is.jwt.payload) words.payload;
    signature = subst IsWord (sym is.jwt.signature_text) (IsWord-b64 signature some);
  };
  disclosures = subst (λ (ds : List Text). AllByRecursion IsWord ds) (sym is.disclosures) words.disclosures;
  binding = subst (λ b. IfSome b HasWords) (sym is.unbound) tt;
}

-- ---- what laying asks for, and the range of what is laid

pub with_alg_ranged : (hash : HashAlg) (t : Tree) → IsRanged t → IsRanged (with_alg hash t)
with_alg_ranged hash (object ms) r = MembersRanged-inserted ms alg_name (leaf (text (hash_name hash))) r tt
with_alg_ranged hash (leaf l) r = r
with_alg_ranged hash (array es) r = r
