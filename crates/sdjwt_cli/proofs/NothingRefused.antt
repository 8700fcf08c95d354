-- Presenting refuses nothing on a text that is read as an issued token, where what is demanded suits.
use Rattle.std.proofs.Common.{◌≡◌, ◌≢◌, ℕ, ◌<◌, true, List, length, Option, Some, refl, sym, ap, subst, ◌∙◌, arith}
use Rattle.claim_tree.specs.Path.{tree_at}
use Rattle.claim_tree.specs.Tree.{Text, Tree}
use Rattle.sd_outside.proofs.Lists.{At-In}
use Rattle.sd_outside.specs.Limits.{compact_max}
use Rattle.compact_form.specs.declared.parts.Parts.{Parts}
use Rattle.compact_form.specs.Compact.{compact}
use Rattle.disclosure.specs.declared.digests.HashAlg.{HashAlg}
use Rattle.json_form.specs.Token.{IsToken}
use Rattle.json_form.specs.declared.token.Token.{Token}
use Rattle.json_form.proofs.Tokens as tokens
use Rattle.key_binding.specs.Judged.{holder_kid}
use Rattle.marked_tree.specs.Marked.{Marked, strip, prune}
use Rattle.marked_tree.specs.Paths.{mark_path, chosen}
use Rattle.marked_tree.proofs.MarkFacts.{mark_strips_holds}
use Rattle.marked_tree.proofs.LeftOut.{chosen_leads}
use Rattle.selection_core.specs.Consent.{RuleAnswers, IsRefusedAt}
use Rattle.selection_core.specs.ChoiceRefusals.{IsMissing}
use Rattle.issuer_core.specs.Digests.{marked_claims}
use Rattle.issuer_core.specs.Laid.{with_alg}
use Rattle.issuer_core.specs.Order.{Order}
use Rattle.refusals.specs.Faults.{failed_of}
use Rattle.holder_core.specs.Asked.{Asked, BindingAsked}
use Rattle.holder_core.specs.declared.errors.PresentError.{PresentError}
use Rattle.holder_core.specs.declared.errors.PresentError.TheVariants.{Memory, Token as OnCondition, HasBinding, NoSuchPlace, ConsentRefused, BindingKeyDiffers, SignFailed, TooLong}
use Rattle.holder_core.specs.Present.{shown_for, IsHeld, PicksParts, NamesKid, NamesKey, IsBoundAs, IsAnswer, IsNoAnswer, IsPresented, IsNotPresented, not_read, refused, no_memory}
use Rattle.verifier_core.specs.Verdict.{HasHash, Demands}
use Rattle.verifier_core.proofs.Verdicts.{one_hash}
use Rattle.json_form.specs.Alone.{alone}
use Rattle.sdjwt_cli.specs.AnySigner.{AnySigner, BindingFits, DemandsSuit}
use Rattle.sdjwt_cli.proofs.HeldIssued.{IsTokenOf, issued_held, one_marked}
use Rattle.sdjwt_cli.proofs.KeptClaims.{holder_kept}
use Rattle.sdjwt_cli.proofs.PresentedAccepted.{IsPresentedOf}
use Rattle.sdjwt_cli.proofs.PresentedShort.{answer_short}

-- a payload that names the key of what is asked for names that of the ask
names_kid : (asked : Option BindingAsked) (payload : Tree) → NamesKey asked payload → (ask : BindingAsked) → asked ≡ Some ask → (kid : Text) → ask.kid ≡ Some kid → holder_kid payload ≡ Some kid
names_kid asked payload names ask is kid named = subst (λ (k : Option Text). NamesKid k payload) named (subst (λ (a : Option BindingAsked). NamesKey a payload) is names)

module _ (seed : List ℕ) (o : Order) (issuer : AnySigner) (parts : Parts) (is : IsTokenOf seed o issuer parts)
    {F : Type 0} (answers : RuleAnswers F) (rule : F) (asked : Asked) (holder : AnySigner) (now : ℕ) (text : List ℕ) (is_text : IsToken text (alone parts)) where
  one_token : (token : Token) → IsToken text token → token ≡ alone parts
  one_token token there = tokens.one text token (alone parts) there is_text

  marked_is : (marked : Marked) → IsHeld (alone parts) asked marked → marked ≡ marked_claims o
  marked_is marked held = one_marked seed o issuer parts is marked held.checked.opens

  hash_is : (hash : HashAlg) → HasHash (alone parts) hash → hash ≡ o.hash
  hash_is hash has = one_hash (alone parts) hash o.hash has (with_alg o.hash is.has.payload, is.has.back.body, is.has.hash)

  -- what meets the definition of an answer is presented of the issued parts
  pub answer_presented : (answer : Parts) → IsAnswer answers rule (alone parts) asked holder.alg holder.good now answer → IsPresentedOf o asked holder parts now answer
  answer_presented answer a =
      let same = marked_is a.marked a.agreed.held in
      record {
        presents = subst (λ (m : Marked). PicksParts parts (chosen m asked.want) answer.binding answer) same a.presents;
        bound = subst (λ (h : HashAlg). IsBoundAs asked.binding holder.alg holder.good h now answer) (hash_is a.hash a.has_hash) a.bound;
      }

  pub is_presented_of : (answer : Parts) → IsPresented answers rule text asked holder.alg holder.good now answer → IsPresentedOf o asked holder parts now answer
  is_presented_of answer presented =
      answer_presented answer (subst (λ (t : Token). IsAnswer answers rule t asked holder.alg holder.good now answer) (one_token presented.token presented.is_token) presented.is_answer)

  module _ (demands : Demands) (later : ℕ) (suits : DemandsSuit answers rule o issuer asked holder demands now later) where
    held : IsHeld (alone parts) asked (marked_claims o)
    held = issued_held seed o issuer parts is asked suits.holder_takes

    stripped : (marked : Marked) → IsHeld (alone parts) asked marked → strip marked ≡ o.payload
    stripped marked there = ap strip (marked_is marked there) ∙ mark_strips_holds o.payload o.hide

    not_missing : (marked : Marked) → IsHeld (alone parts) asked marked → (k : ℕ) → IsMissing (strip marked) asked.want k → ⊥
    not_missing marked there k (path, at, none) = suits.there path (At-In asked.want k path at) (ap (λ t. tree_at t path) (sym (stripped marked there)) ∙ none)

    not_refused_at : (marked : Marked) → IsHeld (alone parts) asked marked → (i : ℕ) → IsRefusedAt answers rule marked (chosen marked asked.want) i → ⊥
    not_refused_at marked there i r =
        let same = marked_is marked there in
        let is_chosen = subst (λ (m : Marked). chosen m asked.want i ≡ true) same r.chosen in
        let stands = subst (λ (m : Marked). mark_path m i ≡ Some r.at) same r.stands in
        let leads = chosen_leads o.payload o.hide asked.want i r.at is_chosen stands in
        suits.unrefused r.at leads.0 leads.1 r.refused

    kid_differs : (ask : BindingAsked) → asked.binding ≡ Some ask → (kid : Text) → ask.kid ≡ Some kid
        → (marked : Marked) → IsHeld (alone parts) asked marked → holder_kid (strip (prune marked (chosen marked asked.want))) ≢ Some kid → ⊥
    kid_differs ask asked_for kid named marked there differs =
        let same = marked_is marked there in
        let kept : holder_kid (shown_for (marked_claims o) asked.want) ≡ Some kid = holder_kept o is.passes asked.want ∙ names_kid asked.binding o.payload suits.named ask asked_for kid named in
        differs (ap (λ (m : Marked). holder_kid (strip (prune m (chosen m asked.want)))) same ∙ kept)

    too_long : BindingFits asked.binding holder now → (answer : Parts) → IsAnswer answers rule (alone parts) asked holder.alg holder.good now answer → compact_max < length (compact answer) → ⊥
    too_long fits answer a long =
        let of = answer_presented answer a in
        let short = answer_short holder o.hash now asked.binding fits parts answer (chosen (marked_claims o) asked.want) of.presents of.bound is.short in
        omega (arith, short, long)

    refuses_nothing : BindingFits asked.binding holder now → (error : PresentError) → error ≢ Memory → error ≢ SignFailed → IsNoAnswer answers rule (alone parts) asked holder.alg holder.good now error → ⊥
    refuses_nothing fits Memory memory signed h = memory refl
    refuses_nothing fits SignFailed memory signed h = signed refl
    refuses_nothing fits HasBinding memory signed h = h is.has.written.unbound
    refuses_nothing fits (OnCondition fault) memory signed h = held.checked.passes (failed_of fault) fault.place h.1.fails
    refuses_nothing fits (NoSuchPlace k) memory signed h = not_missing h.marked h.held k h.missing.fails
    refuses_nothing fits (ConsentRefused i) memory signed h = not_refused_at h.marked h.held i h.refused
    refuses_nothing fits BindingKeyDiffers memory signed h = kid_differs h.binding h.asked_for h.kid h.named h.marked h.agreed.held h.differs
    refuses_nothing fits TooLong memory signed h = too_long fits h.answer h.is_answer h.long

    pub nothing_refused : BindingFits asked.binding holder now → (error : PresentError) → error ≢ Memory → error ≢ SignFailed → IsNotPresented answers rule text asked holder.alg holder.good now error → ⊥
    nothing_refused fits error memory signed (no_memory e) = memory e
    nothing_refused fits error memory signed (not_read fault e h) = is_text.passes fault h.applies
    nothing_refused fits error memory signed (refused token there h) =
        refuses_nothing fits error memory signed (subst (λ (t : Token). IsNoAnswer answers rule t asked holder.alg holder.good now error) (one_token token there) h)
