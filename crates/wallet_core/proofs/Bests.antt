-- The best of the credentials that were judged, and of one more.
use Rattle.std.proofs.Math.Seq.{take-suc}
use Rattle.std.proofs.lemmas.List.{take_all, length-take-le}
use Rattle.std.proofs.Common.{◌≡◌, take, get_or, add-one, ◌∙◌, ℕ, zero, suc, ◌+◌, ◌<◌, ◌≤◌, List, [], ◌∷◌, ◌++◌, length, ◌⊎◌, inl, inr, Bool, Option, None, Some, refl, sym, ap, subst, arith}
use Rattle.sd_outside.specs.Lists.{StandsAt}
use Rattle.claim_tree.specs.Tree.{Text}
use Rattle.sd_outside.proofs.Lists.{At-left, At-right, At-either, At-below}
use Rattle.compact_form.specs.declared.parts.Parts.{Parts}
use Rattle.holder_core.specs.Asked.{held_rules}
use Rattle.holder_core.proofs.Picking.{picked_fewer}
use Rattle.json_form.proofs.Tokens as tokens
use Rattle.json_form.specs.Token.{IsToken}
use Rattle.json_form.specs.declared.token.Token.{Token}
use Rattle.marked_tree.specs.Marked.{Marked}
use Rattle.marked_tree.specs.Numbers.{has}
use Rattle.selection_core.specs.Consent.{RuleAnswers}
use Rattle.selection_core.specs.AllowCalls.{IsDecided}
use Rattle.verifier_core.specs.Verdict.{Opens, Rules, IsChecked}
use Rattle.verifier_core.proofs.Verdicts.{one_opening}
use Rattle.wallet_core.specs.Meets.{Meets, CantFail}
use Rattle.wallet_core.specs.WalletCalls.{MayMeet}
use Rattle.wallet_core.specs.Picked.{IsPicked, OfUsable, sent}
use Rattle.wallet_core.specs.Usable.{IsUsable}
use Rattle.wallet_core.specs.WalletSteps.{choice_of, IsSent, IsPassedOver, IsUnanswered, IsTold, IsToldOf, IsBetter, IsBest}
use Rattle.wallet_core.specs.declared.answering.Picked.{Picked}
use Rattle.wallet_core.specs.declared.query.Query.{Query}

-- an element of a list with one more behind stands in the list, or is the last
last_or : (xs : List Text) (x : Text) (j : ℕ) (y : Text) → StandsAt (xs ++ x ∷ []) j y → StandsAt xs j y ⊎ ((j ≡ length xs) × (y ≡ x))
last_or xs x j y h = go (At-either xs (x ∷ []) j y h)
  where
    last : (k : ℕ) → j ≡ length xs + k → StandsAt (x ∷ []) k y → (j ≡ length xs) × (y ≡ x)
    last zero is there = (omega (arith, is), there)
    last (suc k) is there = absurd there

    go : StandsAt xs j y ⊎ ((k : ℕ) × (j ≡ length xs + k) × StandsAt (x ∷ []) k y) → StandsAt xs j y ⊎ ((j ≡ length xs) × (y ≡ x))
    go (inl h) = inl h
    go (inr h) = inr (last h.0 h.1 h.2)

pub one_more : (xs : List Text) (k : ℕ) (x : Text) → k < length xs → x ≡ get_or xs k x → take (k + 1) xs ≡ take k xs ++ x ∷ []
one_more xs k x within is = rw add-one (take-suc xs k x within) ∙ ap (λ (y : Text). take k xs ++ y ∷ []) (sym is)

-- no set that can't fail has fewer disclosures than the choice, and none of a credential before it as many
abbrev IsFew : Picked → ℕ → Token → (ℕ → Bool) → Type 0
IsFew choice j token s = (length choice.parts.disclosures ≤ sent s token) × (sent s token ≡ length choice.parts.disclosures → choice.index ≤ j)

-- what is picked from a list is so from another that has the credential at the same place, and where all such sets are such as well
picked_too : (IsSuch IsOther : Marked → Query → (ℕ → Bool) → Type 0) (held more : List Text) (query : Query) (choice : Picked) → ((content : Text) → StandsAt held choice.index content → StandsAt more choice.index content)
    → ((marked : Marked) (s : ℕ → Bool) → IsSuch marked query s → IsOther marked query s) → IsPicked IsSuch held query choice → IsPicked IsOther more query choice
picked_too IsSuch IsOther held more query choice there also is = record {
  content = is.content;
  stands = there is.content is.stands;
  token = is.token;
  marked = is.marked;
  usable = is.usable;
  s = is.s;
  such = also is.marked is.s is.such;
  presents = is.presents;
}

module _ {F : Type 0} (answers : RuleAnswers F) (rule : F) (query : Query) where
  -- no set of a text that can't fail has fewer disclosures than what is sent
  fewest_of : (content : Text) (parts : Parts) → IsSent answers rule query content parts → (token : Token) (marked : Marked) (s : ℕ → Bool)
      → IsUsable content query.keys token marked → CantFail answers rule marked query s → length parts.disclosures ≤ sent s token
  fewest_of content parts is token marked s usable sure =
      let one : token ≡ is.token = tokens.one content token is.token usable.is_token is.usable.is_token in
      let same : marked ≡ is.marked = one_opening is.token marked is.marked (subst (λ (t : Token). Opens t marked) one usable.checked.opens) is.usable.checked.opens in
      let sure_there : CantFail answers rule is.marked query s = subst (λ (m : Marked). CantFail answers rule m query s) same sure in
      let fewer = picked_fewer (has is.is_sent.marks) s (λ i h. is.is_sent.least.least s sure_there i h) is.token.parts.disclosures in
      let sent_here : length parts.disclosures ≤ sent s is.token = subst (λ (ds : List Text). length ds ≤ sent s is.token) (sym is.is_sent.presents.disclosures) fewer in
      subst (λ (t : Token). length parts.disclosures ≤ sent s t) (sym one) sent_here

  module _ (xs : List Text) (x : Text) where
    -- what was picked is so among more
    kept_picked : (choice : Picked) → IsPicked (MayMeet answers rule) xs query choice → IsPicked (MayMeet answers rule) (xs ++ x ∷ []) query choice
    kept_picked choice is = picked_too (MayMeet answers rule) (MayMeet answers rule) xs (xs ++ x ∷ []) query choice (At-left xs (x ∷ []) choice.index) (λ marked s such. such) is

    new_picked : (parts : Parts) → IsSent answers rule query x parts → IsPicked (MayMeet answers rule) (xs ++ x ∷ []) query (choice_of (length xs) parts)
    new_picked parts is = record {
      content = x;
      stands = subst (λ (n : ℕ). StandsAt (xs ++ x ∷ []) n x) (omega arith) (At-right xs (x ∷ []) 0 x refl);
      token = is.token;
      marked = is.marked;
      usable = is.usable;
      s = has is.is_sent.marks;
      such = is.is_sent.least.meets;
      presents = is.is_sent.presents;
    }

    -- what is so of the others, and of one more, is so of them all
    of_more : (IsSo : ℕ → Token → (ℕ → Bool) → Type 0) → OfUsable (CantFail answers rule) xs query IsSo
        → ((token : Token) (marked : Marked) (s : ℕ → Bool) → IsUsable x query.keys token marked → CantFail answers rule marked query s → IsSo (length xs) token s)
        → OfUsable (CantFail answers rule) (xs ++ x ∷ []) query IsSo
    of_more IsSo old new j content token marked s there usable sure = go (last_or xs x j content there)
      where
        go : StandsAt xs j content ⊎ ((j ≡ length xs) × (content ≡ x)) → IsSo j token s
        go (inl h) = old j content token marked s h usable sure
        go (inr h) = subst (λ (i : ℕ). IsSo i token s) (sym h.0) (new token marked s (subst (λ (c : Text). IsUsable c query.keys token marked) h.1 usable) sure)

    pub passed_best : IsPassedOver answers rule query x → (best : Option Picked) → IsBest answers rule xs query best → IsBest answers rule (xs ++ x ∷ []) query best
    passed_best passed None none = of_more (λ j token s. ⊥) none (λ token marked s usable sure. passed token marked usable s sure)
    passed_best passed (Some choice) is = (kept_picked choice is.0, of_more (IsFew choice) is.1 (λ token marked s usable sure. absurd (passed token marked usable s sure)))

    module _ (parts : Parts) (is : IsSent answers rule query x parts) where
      -- of one more no set sends fewer
      new_few : (token : Token) (marked : Marked) (s : ℕ → Bool) → IsUsable x query.keys token marked → CantFail answers rule marked query s → IsFew (choice_of (length xs) parts) (length xs) token s
      new_few token marked s usable sure = (fewest_of x parts is token marked s usable sure, λ _. omega arith)

      -- the first that answers
      pub first_best : IsBest answers rule xs query None → IsBest answers rule (xs ++ x ∷ []) query (Some (choice_of (length xs) parts))
      first_best none = (new_picked parts is, of_more (IsFew (choice_of (length xs) parts)) (λ j content token marked s there usable sure. absurd (none j content token marked s there usable sure)) new_few)

      module _ (choice : Picked) (old : IsBest answers rule xs query (Some choice)) where
        -- one with no fewer
        pub kept_best : length choice.parts.disclosures ≤ length parts.disclosures → IsBest answers rule (xs ++ x ∷ []) query (Some choice)
        kept_best no_fewer =
            let below : choice.index < length xs = At-below xs choice.index old.0.content old.0.stands in
            (kept_picked choice old.0, of_more (IsFew choice) old.1 (λ token marked s usable sure. let least = fewest_of x parts is token marked s usable sure in (omega (arith, no_fewer, least), λ _. omega (arith, below))))

        -- one with fewer
        pub new_best : length parts.disclosures < length choice.parts.disclosures → IsBest answers rule (xs ++ x ∷ []) query (Some (choice_of (length xs) parts))
        new_best fewer = (
          new_picked parts is,
          of_more (IsFew (choice_of (length xs) parts))
              (λ j content token marked s there usable sure.
              let least = (old.1 j content token marked s there usable sure).0 in (omega (arith, fewer, least), λ same. absurd (omega (arith, fewer, least, same)))) new_few,
        )

  -- one more
  pub better_best : (xs : List Text) (x : Text) (best : Option Picked) (told : Option Parts) (better : Option Picked)
      → IsBetter best (length xs) told better → IsTold answers rule query x told → IsBest answers rule xs query best → IsBest answers rule (xs ++ x ∷ []) query better
  better_best xs x best None better is told old = subst (λ (b : Option Picked). IsBest answers rule (xs ++ x ∷ []) query b) (sym is) (passed_best xs x told best old)
  better_best xs x None (Some parts) better is told old = subst (λ (b : Option Picked). IsBest answers rule (xs ++ x ∷ []) query b) (sym is) (first_best xs x parts told old)
  better_best xs x (Some choice) (Some parts) better (inl is) told old = subst (λ (b : Option Picked). IsBest answers rule (xs ++ x ∷ []) query b) (sym is.1) (kept_best xs x parts told choice old is.0)
  better_best xs x (Some choice) (Some parts) better (inr is) told old = subst (λ (b : Option Picked). IsBest answers rule (xs ++ x ∷ []) query b) (sym is.1) (new_best xs x parts told choice old is.0)

  -- the same in a turn of a loop
  pub turn_best : (xs : List Text) (k : ℕ) (x seen : Text) (best : Option Picked) (told : Option Parts) (better : Option Picked) → k < length xs → x ≡ get_or xs k x → seen ≡ x
      → IsBetter best k told better → IsTold answers rule query seen told → IsBest answers rule (take k xs) query best → IsBest answers rule (take (k + 1) xs) query better
  turn_best xs k x seen best told better within is same is_better is_told old =
      let len : length (take k xs) ≡ k = length-take-le k xs (omega (arith, within)) in
      subst (λ (ys : List Text). IsBest answers rule ys query better) (sym (one_more xs k x within is))
      (better_best (take k xs) x best told better (subst (λ (n : ℕ). IsBetter best n told better) (sym len) is_better) (subst (λ (c : Text). IsTold answers rule query c told) same is_told) old)

  -- when all were judged
  pub last_best : (xs held : List Text) (k : ℕ) (best found : Option Picked) → (length xs ≤ k) → xs ≡ held → best ≡ found → IsBest answers rule (take k xs) query best → IsBest answers rule held query found
  last_best xs held k best found done same is h =
      subst (λ (b : Option Picked). IsBest answers rule held query b) is (subst (λ (ys : List Text). IsBest answers rule ys query best) (take_all k xs done ∙ same) h)

  -- a token has one processed payload: where no set of its marks answers, none of any does
  pub unanswered_all : (token : Token) (rules : Rules) (marked : Marked) → IsChecked token rules marked → IsUnanswered answers rule marked query
      → (other : Marked) → IsChecked token rules other → IsUnanswered answers rule other query
  unanswered_all token rules marked checked none other also s sure =
      none s (subst (λ (m : Marked). CantFail answers rule m query s) (one_opening token other marked also.opens checked.opens) sure)

  -- what is sent of the token of a text is sent of the text
  pub told_of : (content : Text) (token : Token) → IsToken content token → token.parts.binding ≡ None → (told : Option Parts) → IsToldOf answers rule query token told → IsTold answers rule query content told
  told_of content token is unbound None none =
      λ other marked usable.
      let one : other ≡ token = tokens.one content other token usable.is_token is in
      none marked (subst (λ (t : Token). IsChecked t (held_rules query.keys) marked) one usable.checked)
  told_of content token is unbound (Some parts) h =
      record { token = token; marked = h.0; usable = record { is_token = is; unbound = unbound; checked = h.1 }; is_sent = h.2 }

  -- a rule that has one answer for each place refuses none that it may allow
  pub decided_meets : IsDecided answers rule → (held : List Text) (choice : Picked) → IsPicked (MayMeet answers rule) held query choice → IsPicked (Meets answers rule) held query choice
  decided_meets decided held choice is =
      picked_too (MayMeet answers rule) (Meets answers rule) held held query choice (λ content there. there)
      (λ marked s such. record { serves = such.serves; allowed = such.allowed; unrefused = λ i at kept stands refuses. decided at (such.allowed i at kept stands) refuses }) is
