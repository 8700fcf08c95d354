-- What is presented of an issued token is accepted, where what is demanded suits, with what is asked for of the claims.
use Rattle.std.proofs.Common.{◌≡◌, ℕ, ◌<◌, Bool, true, List, length, Option, None, Some, refl, sym, ap, ap₂, subst, ◌∙◌, arith}
use Rattle.std.specs.Prelude.{option_and_then}
use Rattle.std.specs.List.{AllZip}
use Rattle.claim_tree.specs.Tree.{Text, Tree, no_members}
use Rattle.refusals.specs.declared.fault.Place.{Place}
use Rattle.refusals.specs.Faults.{fault_at}
use Rattle.compact_form.specs.declared.parts.JwtParts.{JwtParts}
use Rattle.compact_form.specs.declared.parts.Parts.{Parts}
use Rattle.compact_form.specs.Compact.{hashed, compact}
use Rattle.refusals.specs.declared.condition.Condition.{Condition}
use Rattle.refusals.specs.Lowest.{NoneFails}
use Rattle.digest_sites.specs.Given.{Given}
use Rattle.disclosure.specs.declared.digests.HashAlg.{HashAlg}
use Rattle.hmac_sign.specs.Keys.{key_named}
use Rattle.hmac_sign.specs.Signatures.{Meaning}
use Rattle.jws_part.specs.Header.{IsHeader}
use Rattle.jws_part.specs.Part.{IsBody}
use Rattle.json_form.specs.Token.{IsToken}
use Rattle.json_form.specs.declared.token.Token.{Token}
use Rattle.json_form.proofs.AloneForms.{compact_read}
use Rattle.json_form.proofs.Tokens as tokens
use Rattle.key_binding.specs.Binding.{IsBinding, IsReadBack}
use Rattle.key_binding.specs.Judged.{Holders, of_keys, of_caller, judged, holder_kid}
use Rattle.key_binding.specs.Trusted.{TrustsHolder}
use Rattle.key_binding.proofs.Accepted.{accepted as bound_accepted}
use Rattle.marked_tree.specs.Paths.{chosen}
use Rattle.marked_tree.specs.Marked.{Marked, strip}
use Rattle.marked_tree.specs.Laws.{HasEachMarkOnce}
use Rattle.marked_tree.proofs.LeastChoice.{chosen_below}
use Rattle.marked_tree.proofs.MarkFacts.{marks_once_holds}
use Rattle.marked_tree.proofs.LeftOut.{chosen_is_left}
use Rattle.rebuild_core.specs.Opening.{processed}
use Rattle.selection_core.specs.Consent.{RuleAnswers}
use Rattle.verifier_core.specs.Asking.{IsAcceptedForAs}
use Rattle.verifier_core.specs.Verdict.{Demands, TokenFails, ClaimFails, HolderFails, FailsFor, of_file, of_missing, of_token, of_claims, of_holder, Opens, HasContent, HasHash, IsChecked, IsBindingMissing}
use Rattle.verifier_core.proofs.CheckSteps.{one_content}
use Rattle.verifier_core.proofs.Verdicts.{one_hash}
use Rattle.issuer_core.specs.Digests.{marked_claims, hidden_of}
use Rattle.issuer_core.specs.Laid.{with_alg}
use Rattle.issuer_core.specs.Laws.{IsShownAs}
use Rattle.issuer_core.specs.Order.{Order}
use Rattle.issuer_core.specs.Seed.{maker_of}
use Rattle.issuer_core.specs.Written.{header_of}
use Rattle.issuer_core.proofs.IssuedContent.{IsTextOf}
use Rattle.issuer_core.proofs.IssuedShown.{issued_is_shown_holds}
use Rattle.holder_core.specs.Asked.{Asked, BindingAsked}
use Rattle.holder_core.specs.Present.{shown_for, picked, PicksParts, IsBoundBy, IsBoundWith, IsBoundAs}
use Rattle.holder_core.proofs.PickedNumbers.{numbers, rising, enumerates, is_pick, zip_picked}
use Rattle.cli_parts.specs.Lines.{line}
use Rattle.json_form.specs.Alone.{alone}
use Rattle.sdjwt_cli.specs.AnySigner.{AnySigner, BindingFits, DemandsSuit}
use Rattle.sdjwt_cli.specs.PresentedValues.{IsSendable}
use Rattle.sdjwt_cli.specs.Suits.{claims_for}
use Rattle.sdjwt_cli.proofs.CompactLines.{line_token}
use Rattle.sdjwt_cli.proofs.CheckedParts.{CarriesFor, content, checked}
use Rattle.sdjwt_cli.proofs.HeldIssued.{IsTokenOf, carries_issued}
use Rattle.sdjwt_cli.proofs.KeptClaims.{holder_kept}
use Rattle.sdjwt_cli.proofs.PresentedShort.{answer_few, answer_sendable}

-- the parts are what a holder presents of the issued ones, at a moment
pub record IsPresentedOf (o : Order) (asked : Asked) (holder : AnySigner) (parts : Parts) (now : ℕ) (answer : Parts) : Type 0 where
  pub presents : PicksParts parts (chosen (marked_claims o) asked.want) answer.binding answer
  pub bound : IsBoundAs asked.binding holder.alg holder.good o.hash now answer

-- who is trusted where a payload names the holder's key is trusted where another names the same
trusted : (holders : Holders) (payload other : Tree) (alg : Text) (good : Meaning) → holder_kid other ≡ holder_kid payload → TrustsHolder holders payload alg good → TrustsHolder holders other alg good
trusted (of_keys keys) payload other alg good same (is, key, found, goods) = (is, key, ap (option_and_then (key_named keys)) same ∙ found, goods)
trusted (of_caller caller) payload other alg good same trusts = trusts

module _ (seed : List ℕ) (o : Order) (issuer : AnySigner) (parts : Parts) (is : IsTokenOf seed o issuer parts)
    (asked : Asked) (holder : AnySigner) (now : ℕ) (answer : Parts) (presented : IsPresentedOf o asked holder parts now answer) where
  abbrev pub s : ℕ → Bool
  s = chosen (marked_claims o) asked.want

  abbrev pub p : Tree
  p = is.has.payload

  abbrev pub g : List Given
  g = is.has.given

  few_chosen : (i : ℕ) → s i ≡ true → i < length g
  few_chosen i there =
      let once : HasEachMarkOnce (marked_claims o) (hidden_of o) = marks_once_holds o.payload o.hide in
      let low = chosen_below (marked_claims o) (hidden_of o) once asked.want i there in
      omega (arith, low, is.has.issued.count)

  pub what_is_shown : IsShownAs o asked.want p (picked s g)
  what_is_shown =
      issued_is_shown_holds (maker_of seed) o p g is.good is.has.issued asked.want (numbers s 0 (length g)) (enumerates s (length g) few_chosen) (rising s 0 (length g)) (picked s g) (is_pick s g)

  pub carries_answer : CarriesFor o issuer p (picked s g) answer
  carries_answer =
      let carries = carries_issued seed o issuer parts is.has in
      let same = presented.presents.signed in
      record {
        header = subst (λ (j : JwtParts). IsHeader j.protected no_members (header_of issuer.alg o)) (sym same) carries.header;
        signature = carries.signature;
        signature_text = ap (λ (j : JwtParts). j.signature) same ∙ carries.signature_text;
        good = subst (λ (j : JwtParts). issuer.good j.protected j.payload carries.signature) (sym same) carries.good;
        body = subst (λ (j : JwtParts). IsBody j.payload (with_alg o.hash p)) (sym same) carries.body;
        hash = carries.hash;
        bare = carries.bare;
        texts = subst (λ (ds : List Text). AllZip (IsTextOf o.hash) ds (picked s g)) (sym presented.presents.disclosures) (zip_picked (IsTextOf o.hash) s parts.disclosures g carries.texts);
      }

  -- it can be sent, where key binding tokens fit
  pub can_be_sent : BindingFits asked.binding holder now → IsSendable answer
  can_be_sent fits = answer_sendable holder o.hash now asked.binding fits parts answer s presented.presents presented.bound is.words is.short

  -- the line of its compact text is read as its parts, and so is the text itself
  pub answer_line : IsSendable answer → IsToken (line (compact answer)) (alone answer)
  answer_line sendable = line_token answer sendable.words sendable.short (answer_few parts answer s presented.presents is.few)

  pub answer_text : IsSendable answer → IsToken (compact answer) (alone answer)
  answer_text sendable = compact_read (line (compact answer)) (alone answer) (answer_line sendable) refl

  answer_content : HasContent (alone answer) p (picked s g)
  answer_content = content o issuer p (picked s g) answer carries_answer

  -- it processes to what is shown
  pub answer_opens : (marked : Marked) → Opens (alone answer) marked → strip marked ≡ shown_for (marked_claims o) asked.want
  answer_opens marked (q, h, there, e) =
      let same = one_content (alone answer) q p h (picked s g) there answer_content in
      ap strip (e ∙ ap₂ processed same.0 same.1) ∙ what_is_shown.shows

  -- a key binding token that is asked for is there
  not_missing : (binding : Option BindingAsked) (token : Option JwtParts) → IsBoundWith binding holder.alg holder.good o.hash (hashed answer) now token → (ask : BindingAsked) → binding ≡ Some ask → token ≡ None → ⊥
  not_missing None token bound ask e none = cc e
  not_missing (Some a) None bound ask e none = bound
  not_missing (Some a) (Some t) bound ask e none = cc none

  -- and it is the one that the holder made
  pub made_binding : (binding : Option BindingAsked) (sent : Option JwtParts) (ask : BindingAsked) (token : JwtParts) → IsBoundWith binding holder.alg holder.good o.hash (hashed answer) now sent → binding ≡ Some ask → sent ≡ Some token
      → IsBoundBy ask holder.alg holder.good o.hash (hashed answer) now token
  made_binding None sent ask token bound e f = cc e
  made_binding (Some a) None ask token bound e f = absurd bound
  made_binding (Some a) (Some t) ask token bound e f =
      let asks : a ≡ ask = cc e in
      let tokens_same : t ≡ token = cc f in
      subst (λ (x : BindingAsked). IsBoundBy x holder.alg holder.good o.hash (hashed answer) now token) asks
      (subst (λ (x : JwtParts). IsBoundBy a holder.alg holder.good o.hash (hashed answer) now x) tokens_same bound)

  -- of each text that is read as its parts no condition fails
  module _ {F : Type 0} (answers : RuleAnswers F) (rule : F) (demands : Demands) (later : ℕ) (suits : DemandsSuit answers rule o issuer asked holder demands now later) (text : List ℕ) (is_text : IsToken text (alone answer)) where
    answer_checked : IsChecked (alone answer) demands.rules (processed p (picked s g))
    answer_checked = checked o issuer p (picked s g) answer carries_answer demands.rules suits.verifier_takes what_is_shown.sound

    pub one_answer : (token : Token) → IsToken text token → token ≡ alone answer
    one_answer token there = tokens.one text token (alone answer) there is_text

    binding_passes : (payload : Tree) → payload ≡ shown_for (marked_claims o) asked.want → (c : Condition) (place : Place) → HolderFails answer payload o.hash demands later c place → ⊥
    binding_passes payload shown c place fails =
        let suit = suits.bound fails.binding fails.asked in
        let made = made_binding asked.binding answer.binding suit.ask fails.token presented.bound suit.asked_for fails.sent in
        let j = judged fails.token payload fails.binding demands.skew o.hash (hashed answer) later in
        let is_binding = subst (λ (x : Text). IsBinding holder.alg holder.good o.hash (hashed answer) suit.ask.aud x now fails.token) suit.nonce made.is_binding in
        let read_back = subst (λ (x : Text). IsReadBack holder.alg o.hash (hashed answer) suit.ask.aud x now fails.token) suit.nonce made.read_back in
        let trusts = trusted fails.binding.holders o.payload payload holder.alg holder.good (ap holder_kid shown ∙ holder_kept o is.passes asked.want) suit.trusts in
        bound_accepted holder.alg holder.good suit.ask.aud now j is_binding read_back trusts suit.aud suit.not_stale suit.not_early c place fails.fails

    hash_passes : (payload : Tree) (hash : HashAlg) → HasHash (alone answer) hash → payload ≡ shown_for (marked_claims o) asked.want → (c : Condition) (place : Place) → HolderFails answer payload hash demands later c place → ⊥
    hash_passes payload hash has shown c place fails =
        let same = one_hash (alone answer) hash o.hash has (with_alg o.hash p, carries_answer.body, carries_answer.hash) in
        binding_passes payload shown c place (subst (λ (h : HashAlg). HolderFails answer payload h demands later c place) same fails)

    missing_passes : IsBindingMissing demands answer → ⊥
    missing_passes (rules, wanted, none) = let suit = suits.bound rules wanted in not_missing asked.binding answer.binding presented.bound suit.ask suit.asked_for none

    none_fails : NoneFails (FailsFor text demands later)
    none_fails c place (of_file h) = is_text.passes (fault_at c place) h
    none_fails c place (of_missing token there h) = missing_passes (subst (λ (t : Token). IsBindingMissing demands t.parts) (one_answer token there) h.1.1)
    none_fails c place (of_token token there h) = answer_checked.passes c place (subst (λ (t : Token). TokenFails t demands.rules c place) (one_answer token there) h)
    none_fails c place (of_claims token marked there opens h) =
        let shown = answer_opens marked (subst (λ (t : Token). Opens t marked) (one_answer token there) opens) in
        suits.claims c place (subst (λ (t : Tree). ClaimFails t demands later c place) (shown ∙ chosen_is_left o.payload o.hide asked.want) h)
    none_fails c place (of_holder token marked hash there opens has h) =
        let shown = answer_opens marked (subst (λ (t : Token). Opens t marked) (one_answer token there) opens) in
        hash_passes (strip marked) hash (subst (λ (t : Token). HasHash t hash) (one_answer token there) has) shown c place (subst (λ (t : Token). HolderFails t.parts (strip marked) hash demands later c place) (one_answer token there) h)

    pub answer_accepted : IsAcceptedForAs text demands later (claims_for o asked.want)
    answer_accepted = (
      processed p (picked s g),
      record { passes = none_fails; token = alone answer; is_token = is_text; opens = answer_checked.opens },
      sym (what_is_shown.shows ∙ chosen_is_left o.payload o.hide asked.want),
    )
