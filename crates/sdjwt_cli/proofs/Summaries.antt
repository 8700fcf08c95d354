-- What `gen` counts of a token that is issued, presented and verified.
use Rattle.std.proofs.Common.{◌≡◌, ◌≢◌, ℕ, ◌+◌, ◌-◌, ◌<◌, ◌≤◌, ◌^◌, Bool, List, [], length, refl, sym, ap, ap₂, subst, ◌∙◌, arith, codes}
use Rattle.std.proofs.lemmas.Slice.Zip.{AllZip-long}
use Rattle.std.specs.List.{count_by, range_with_len}
use Rattle.sd_outside.specs.Limits.{count_max}
use Rattle.claim_tree.specs.Tree.{Tree}
use Rattle.claim_tree.specs.View.{tree_of}
use Rattle.claim_tree.specs.JsonText.{json_text}
use Rattle.claim_tree.specs.declared.tree.Tree as code
use Rattle.compact_form.specs.declared.parts.Parts.{Parts}
use Rattle.refusals.specs.declared.fault.Fault.{Fault}
use Rattle.compact_form.specs.Compact.{compact}
use Rattle.refusals.specs.Lowest.{IsLowest}
use Rattle.digest_sites.specs.Given.{Given}
use Rattle.hmac_sign.specs.Hmac.{IsGood, hs256_key}
use Rattle.marked_tree.specs.Marked.{strip}
use Rattle.marked_tree.specs.Paths.{chosen}
use Rattle.json_form.specs.Token.{IsToken}
use Rattle.json_form.specs.declared.token.Token.{Token}
use Rattle.json_form.proofs.Tokens as tokens
use Rattle.verifier_core.specs.Check.{IsCounted}
use Rattle.verifier_core.specs.Verdict.{Fails, HasContent, demands_of}
use Rattle.verifier_core.specs.Verdicts.{IsAcceptedAs}
use Rattle.verifier_core.specs.declared.policy.Policy.{Policy}
use Rattle.verifier_core.proofs.CheckSteps.{one_content}
use Rattle.verifier_core.proofs.OneVerdict as verdicts
use Rattle.rebuild_core.specs.LookUps.{look_ups, counted}
use Rattle.issuer_core.specs.Decoys.{decoys_of}
use Rattle.issuer_core.specs.Digests.{marked_claims, hidden_of}
use Rattle.issuer_core.specs.Seed.{maker_of}
use Rattle.issuer_core.proofs.IssuedContent.{IsTextOf}
use Rattle.issuer_core.proofs.ReservedPlaces.{held_short}
use Rattle.holder_core.specs.Asked.{asked_by}
use Rattle.holder_core.specs.declared.errors.PresentError.{PresentError}
use Rattle.holder_core.specs.declared.errors.PresentError.TheVariants.{Memory, SignFailed}
use Rattle.holder_core.specs.Present.{picked, IsNotPresented}
use Rattle.sdjwt_cli.specs.Generated.{generated, generated_seed, generated_key, generated_ask, generated_policy}
use Rattle.sdjwt_cli.specs.Issuing.{IsIssuedBy}
use Rattle.selection_core.specs.Never.{never_rule}
use Rattle.json_form.specs.Alone.{alone}
use Rattle.sdjwt_cli.specs.AnySigner.{AnySigner, key_signer}
use Rattle.sdjwt_cli.specs.PresentedValues.{IsIssuedByAnyone, IsAcceptedWith, IsShownAt, IsShownOf, AcceptedBy}
use Rattle.sdjwt_cli.specs.Summary.{Summarizes, hidden_paths, chosen_places, embedded_digests, shown_claims, shown_length, summary_lines}
use Rattle.sdjwt_cli.specs.SummarySteps.{IsPresentedOf, IsAcceptable, IsVerified}
use Rattle.sdjwt_cli.proofs.CheckedParts.{content}
use Rattle.sdjwt_cli.proofs.EmbeddedDigests.{issued_count, fewer_embedded, length_picked, fewer_picked}
use Rattle.sdjwt_cli.proofs.GeneratedOrder.{generated_suits}
use Rattle.sdjwt_cli.proofs.HeldIssued.{IsTokenOf, by_anyone}
use Rattle.sdjwt_cli.proofs.HiddenPaths.{hidden_count_is}
use Rattle.sdjwt_cli.proofs.KeySuits.{key_token_of}
use Rattle.sdjwt_cli.proofs.NothingRefused.{is_presented_of}
use Rattle.sdjwt_cli.proofs.PresentedAccepted as holder
use Rattle.sdjwt_cli.proofs.PresentedValues.{presented_over_values}

uncapped : (many : ℕ) → many < 2 ^ 63 → counted 0 many ≡ many
uncapped many low = omega (arith, low)

module _ (n : ℕ) (issued : Parts) (is_issued : IsIssuedBy generated_seed (generated n) generated_key issued) where
  abbrev claims : Tree
  claims = shown_claims n

  abbrev issuer : AnySigner
  issuer = key_signer generated_key

  abbrev holder_signs : AnySigner
  holder_signs = key_signer (hs256_key generated_key.block)

  anyone : IsIssuedByAnyone generated_seed (generated n) issuer issued
  anyone = by_anyone generated_seed (generated n) generated_key issued is_issued

  through : IsShownOf never_rule [] issued (asked_by (generated_ask n)) holder_signs 0 (AcceptedBy (demands_of generated_policy) 0 claims)
  through = presented_over_values never_rule [] generated_seed (generated n) generated_key issued anyone (generated_ask n) generated_key.block generated_policy 0 0 (generated_suits n) tt (omega arith)

  here : IsShownAt never_rule [] (compact issued) (asked_by (generated_ask n)) holder_signs 0 (AcceptedBy (demands_of generated_policy) 0 claims)
  here = through.shown (compact issued) through.reads

  pub nothing_refused : (error : PresentError) → error ≢ Memory → error ≢ SignFailed → IsNotPresented never_rule [] (compact issued) (asked_by (generated_ask n)) (codes "HS256") (IsGood generated_key) 0 error → ⊥
  nothing_refused = here.presents

  is : IsTokenOf generated_seed (generated n) issuer issued
  is = key_token_of generated_seed (generated n) generated_key issued anyone

  abbrev s : ℕ → Bool
  s = chosen (marked_claims (generated n)) (generated_ask n).want

  given_count : length is.has.given ≡ hidden_of (generated n)
  given_count = is.has.issued.count

  text_count : length issued.disclosures ≡ hidden_of (generated n)
  text_count = sym (AllZip-long (IsTextOf (generated n).hash) issued.disclosures is.has.given is.has.texts) ∙ given_count

  hidden_is : length issued.disclosures ≡ hidden_paths n
  hidden_is = text_count ∙ hidden_count_is (generated n) is_issued.passes is_issued.writable.good.ordered (held_short (generated n).payload is_issued.writable.held)

  module _ (presented : Parts) (is_presented : IsPresentedOf n issued presented) where
    accepted_with : IsAcceptedWith presented (AcceptedBy (demands_of generated_policy) 0 claims)
    accepted_with = here.verifies presented is_presented

    pub acceptable : IsAcceptable presented
    acceptable = (claims, accepted_with)

    of : holder.IsPresentedOf (generated n) (asked_by (generated_ask n)) holder_signs issued 0 presented
    of = is_presented_of generated_seed (generated n) issuer issued is never_rule [] (asked_by (generated_ask n)) holder_signs 0 (compact issued) through.reads presented is_presented

    abbrev given : List Given
    given = picked s is.has.given

    has_content : HasContent (alone presented) is.has.payload given
    has_content =
        content (generated n) issuer is.has.payload given presented
        (holder.carries_answer generated_seed (generated n) issuer issued is (asked_by (generated_ask n)) holder_signs 0 presented of)

    chosen_is : length presented.disclosures ≡ chosen_places n
    chosen_is = ap length of.presents.disclosures ∙ length_picked s issued.disclosures ∙ ap (λ many. count_by s (range_with_len 0 many)) text_count

    given_is : length given ≡ length presented.disclosures
    given_is = length_picked s is.has.given ∙ ap (λ many. count_by s (range_with_len 0 many)) given_count ∙ sym chosen_is

    few : embedded_digests is.has.payload given ≤ count_max + 1
    few =
        let fewer = fewer_embedded is.has.payload s is.has.given in
        let all = issued_count (maker_of generated_seed) (generated n) is.has.payload is.has.given is.has.issued in
        let texts = is_issued.few in
        let one : length (decoys_of (generated n)) ≡ 1 = refl in
        omega (arith, fewer, all, texts, text_count, one)

    few_presented : length presented.disclosures ≤ count_max
    few_presented =
        let fewer = fewer_picked s issued.disclosures in
        let same = ap length of.presents.disclosures in
        let texts = is_issued.few in
        omega (arith, fewer, same, texts)

    module _ (found : code.Tree) (many : ℕ) (verified : IsVerified presented found many) where
      same_content : (p : Tree) (g : List Given) → HasContent (alone presented) p g → look_ups p g ≡ look_ups is.has.payload given
      same_content p g there = let same = one_content (alone presented) p is.has.payload g given there has_content in ap₂ look_ups same.0 same.1

      looked_up : many ≡ embedded_digests is.has.payload given + length presented.disclosures
      looked_up =
          let c = verified.counted in
          let counted_is : many ≡ counted 0 (look_ups c.0 c.1) = c.3 in
          let sum : look_ups is.has.payload given ≡ embedded_digests is.has.payload given + length given = omega arith in
          counted_is ∙ ap (counted 0) (same_content c.0 c.1 c.2) ∙ uncapped (look_ups is.has.payload given) (omega (arith, sum, few, few_presented, given_is)) ∙ sum ∙ ap (λ k. embedded_digests is.has.payload given + k) given_is

      pub no_fewer : length presented.disclosures ≤ many
      no_fewer = omega (arith, looked_up)

      digests_are : many - length presented.disclosures ≡ embedded_digests is.has.payload given
      digests_are = omega (arith, looked_up)

      claims_are : tree_of found ≡ claims
      claims_are =
          let a = verified.accepted in
          let b = accepted_with.accepted (compact presented) accepted_with.reads in
          a.2 ∙ (ap strip (verdicts.one_accepted (compact presented) (demands_of generated_policy) 0 a.0 b.0 a.1 b.1) ∙ sym b.2)

      lines_are : (hidden shown bytes : ℕ) → hidden ≡ length issued.disclosures → shown ≡ length presented.disclosures → bytes ≡ length (json_text (tree_of found))
          → summary_lines hidden shown (many - shown) bytes ≡ summary_lines (hidden_paths n) (chosen_places n) (embedded_digests is.has.payload given) (shown_length n)
      lines_are hidden shown bytes h k b =
          ap (λ m. summary_lines m shown (many - shown) bytes) (h ∙ hidden_is)
          ∙ ap (λ m. summary_lines (hidden_paths n) shown m bytes) (ap (λ m. many - m) k ∙ digests_are)
          ∙ ap (λ m. summary_lines (hidden_paths n) m (embedded_digests is.has.payload given) bytes) (k ∙ chosen_is)
          ∙ ap (λ m. summary_lines (hidden_paths n) (chosen_places n) (embedded_digests is.has.payload given) m) (b ∙ ap (λ (t : Tree). length (json_text t)) claims_are)

      pub summarizes : (hidden shown bytes : ℕ) → hidden ≡ length issued.disclosures → shown ≡ length presented.disclosures → bytes ≡ length (json_text (tree_of found))
          → (text : List ℕ) → text ≡ summary_lines hidden shown (many - shown) bytes → Summarizes n text
      summarizes hidden shown bytes h k b text written = record {
        issued = issued;
        presented = presented;
        shown = record { is_issued = is_issued; is_presented = is_presented; marked = verified.accepted.0; is_accepted = verified.accepted.1; claims_are = sym verified.accepted.2 ∙ claims_are };
        payload = is.has.payload;
        given = given;
        content = has_content;
        lines = written ∙ lines_are hidden shown bytes h k b;
      }

-- ---- what the verifier answers

module _ (presented : Parts) (ok : IsAcceptable presented) (text : List ℕ) (text_is : text ≡ compact presented) (policy : Policy) (policy_is : policy ≡ generated_policy) where
  pub not_refused : (fault : Fault) → IsLowest (Fails text policy 0) fault → ⊥
  not_refused fault lowest =
      let here = subst (λ (t : List ℕ). IsLowest (Fails t policy 0) fault) text_is lowest in
      let under = subst (λ (p : Policy). IsLowest (Fails (compact presented) p 0) fault) policy_is here in
      let accepted = ok.1.accepted (compact presented) ok.1.reads in
      verdicts.accepted_not_refused (compact presented) (demands_of generated_policy) 0 accepted.0 fault accepted.1 under

  one_token : (token : Token) → IsToken text token → token ≡ alone presented
  one_token token there = tokens.one (compact presented) token (alone presented) (subst (λ (t : List ℕ). IsToken t token) text_is there) ok.1.reads

  pub is_verified : (claims : code.Tree) → IsAcceptedAs text policy 0 (tree_of claims)
      → (old new count : ℕ) → old ≡ 0 → count ≡ new → (token : Token) → IsToken text token → IsCounted token old new → IsVerified presented claims count
  is_verified claims accepted old new count none same token there counted = record {
    accepted = subst (λ (p : Policy). IsAcceptedAs (compact presented) p 0 (tree_of claims)) policy_is (subst (λ (t : List ℕ). IsAcceptedAs t policy 0 (tree_of claims)) text_is accepted);
    counted = subst (λ (many : ℕ). IsCounted (alone presented) 0 many) (sym same) (subst (λ (first : ℕ). IsCounted (alone presented) first new) none (subst (λ (t : Token). IsCounted t old new) (one_token token there) counted));
  }
