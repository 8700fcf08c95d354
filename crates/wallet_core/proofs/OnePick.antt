-- Under a rule one credential is picked, and one presentation of it, or none is.
use Rattle.std.proofs.Common.{◌≡◌, ℕ, suc, ◌≤◌, Bool, true, false, List, [], ◌∷◌, length, Option, None, refl, sym, ap, ap₂, subst, ◌∙◌, arith}
use Rattle.std.specs.Prelude.{◌&&◌}
use Rattle.sd_outside.specs.Lists.{StandsAt}
use Rattle.claim_tree.specs.Tree.{Text}
use Rattle.sd_outside.proofs.Lists.{At-same}
use Rattle.compact_form.specs.declared.parts.Parts.{Parts}
use Rattle.compact_form.specs.declared.parts.JwtParts.{JwtParts}
use Rattle.holder_core.specs.Present.{picked, PicksParts}
use Rattle.holder_core.proofs.Picking.{first_if, picked_fewer}
use Rattle.json_form.proofs.Tokens as tokens
use Rattle.json_form.specs.Token.{IsToken}
use Rattle.json_form.specs.declared.token.Token.{Token}
use Rattle.marked_tree.specs.Marked.{Marked}
use Rattle.selection_core.specs.Consent.{RuleAnswers}
use Rattle.verifier_core.specs.Verdict.{Opens}
use Rattle.verifier_core.proofs.Verdicts.{one_opening}
use Rattle.wallet_core.specs.Meets.{Meets, CantFail}
use Rattle.wallet_core.specs.Picked.{IsPicked, IsFewest, HasNoAnswer, sent}
use Rattle.wallet_core.specs.declared.answering.Picked.{Picked}
use Rattle.wallet_core.specs.declared.query.Query.{Query}

-- ---- sets of marks

-- a part of a set that picks no fewer picks the same
picked_all : {X : Type 0} (s part : ℕ → Bool) → ((i : ℕ) → part i ≡ true → s i ≡ true) → (xs : List X) → length (picked s xs) ≤ length (picked part xs) → picked part xs ≡ picked s xs
picked_all s part within [] long = refl
picked_all {X} s part within (x ∷ xs) long =
    let fewer = picked_fewer (λ k. part (suc k)) (λ k. s (suc k)) (λ i h. within (suc i) h) xs in
    go (s 0) (part 0) (within 0) fewer (λ more. picked_all (λ k. s (suc k)) (λ k. part (suc k)) (λ i h. within (suc i) h) xs more) long
  where
    go : (b c : Bool) → (c ≡ true → b ≡ true) → length (picked (λ k. part (suc k)) xs) ≤ length (picked (λ k. s (suc k)) xs)
        → (length (picked (λ k. s (suc k)) xs) ≤ length (picked (λ k. part (suc k)) xs) → picked (λ k. part (suc k)) xs ≡ picked (λ k. s (suc k)) xs)
        → length (first_if b x (picked (λ k. s (suc k)) xs)) ≤ length (first_if c x (picked (λ k. part (suc k)) xs))
        → first_if c x (picked (λ k. part (suc k)) xs) ≡ first_if b x (picked (λ k. s (suc k)) xs)
    go true true h fewer same more = ap (λ (ys : List X). x ∷ ys) (same (omega (arith, more)))
    go true false h fewer same more = absurd (omega (arith, fewer, more))
    go false true h fewer same more = absurd (cc (h refl))
    go false false h fewer same more = same more

-- the marks of both sets
abbrev both : (ℕ → Bool) → (ℕ → Bool) → ℕ → Bool
both s r = λ i. s i && r i

in_both : (s r : ℕ → Bool) (i : ℕ) → s i ≡ true → r i ≡ true → both s r i ≡ true
in_both s r i h k = ap₂ (λ (b c : Bool). b && c) h k

of_left : (s r : ℕ → Bool) (i : ℕ) → both s r i ≡ true → s i ≡ true
of_left s r i h = go (s i) (r i) h
  where
    go : (b c : Bool) → (b && c) ≡ true → b ≡ true
    go true c e = refl
    go false c e = e

of_right : (s r : ℕ → Bool) (i : ℕ) → both s r i ≡ true → r i ≡ true
of_right s r i h = go (s i) (r i) h
  where
    go : (b c : Bool) → (b && c) ≡ true → c ≡ true
    go true c e = e
    go false c e = absurd (cc e)

-- ---- credentials

parts_made : JwtParts → List Text → Option JwtParts → Parts
parts_made signed disclosures binding = record { signed = signed; disclosures = disclosures; binding = binding }

choice_made : ℕ → Parts → Picked
choice_made index parts = record { index = index; parts = parts }

module _ {F : Type 0} (answers : RuleAnswers F) (rule : F) (query : Query) where
  sure_of : (marked : Marked) (s : ℕ → Bool) → Meets answers rule marked query s → CantFail answers rule marked query s
  sure_of marked s meets = record { serves = meets.serves; unrefused = meets.unrefused }

  -- what both sets have can't fail, where neither can
  sure_of_both : (marked : Marked) (s r : ℕ → Bool) → CantFail answers rule marked query s → CantFail answers rule marked query r → CantFail answers rule marked query (both s r)
  sure_of_both marked s r h k = record {
    serves = record {
      closed = λ node among kept j above. in_both s r j (h.serves.closed node among (of_left s r node.mark kept) j above) (k.serves.closed node among (of_right s r node.mark kept) j above);
      there = h.serves.there;
      values = h.serves.values;
      keeps = λ node among p asked leads.
          let here = h.serves.keeps node among p asked leads in
          let too = k.serves.keeps node among p asked leads in
          (in_both s r node.mark here.0 too.0, λ j above. in_both s r j (here.1 j above) (too.1 j above));
    };
    unrefused = λ i at kept stands. h.unrefused i at (of_left s r i kept) stands;
  }

  module _ (held : List Text) where
    pub picked_not_none : (choice : Picked) → IsPicked (Meets answers rule) held query choice → HasNoAnswer answers rule held query → ⊥
    picked_not_none choice is none = none choice.index is.content is.token is.marked is.s is.stands is.usable (sure_of is.marked is.s is.such)

    -- of one choice no set of the other's credential has fewer disclosures, and it is no later where that has as many
    module _ (choice other : Picked) (is : IsPicked (Meets answers rule) held query choice) (also : IsPicked (Meets answers rule) held query other) where
      sends : length other.parts.disclosures ≡ sent also.s also.token
      sends = ap length also.presents.disclosures

      pub no_more : IsFewest answers rule held query choice → length choice.parts.disclosures ≤ length other.parts.disclosures
      no_more fewest =
          let least = (fewest other.index also.content also.token also.marked also.s also.stands also.usable (sure_of also.marked also.s also.such)).0 in
          omega (arith, least, sends)

      pub no_later : IsFewest answers rule held query choice → length other.parts.disclosures ≡ length choice.parts.disclosures → choice.index ≤ other.index
      no_later fewest same = (fewest other.index also.content also.token also.marked also.s also.stands also.usable (sure_of also.marked also.s also.such)).1 (sym sends ∙ same)

    module _ (choice other : Picked) (is : IsPicked (Meets answers rule) held query choice) (also : IsPicked (Meets answers rule) held query other) (fewest : IsFewest answers rule held query choice) (fewest_too : IsFewest answers rule held query other) where
      same_length : length choice.parts.disclosures ≡ length other.parts.disclosures
      same_length =
          let less = no_more choice other is also fewest in
          let more = no_more other choice also is fewest_too in
          omega (arith, less, more)

      same_index : choice.index ≡ other.index
      same_index =
          let before = no_later choice other is also fewest (sym same_length) in
          let behind = no_later other choice also is fewest_too same_length in
          omega (arith, before, behind)

      same_content : also.content ≡ is.content
      same_content = At-same held choice.index also.content is.content (subst (λ (j : ℕ). StandsAt held j also.content) (sym same_index) also.stands) is.stands

      same_token : also.token ≡ is.token
      same_token = tokens.one is.content also.token is.token (subst (λ (c : Text). IsToken c also.token) same_content also.usable.is_token) is.usable.is_token

      same_marked : also.marked ≡ is.marked
      same_marked = one_opening is.token also.marked is.marked (subst (λ (t : Token). Opens t also.marked) same_token also.usable.checked.opens) is.usable.checked.opens

      -- the parts that the other sends are of the token of the first
      presents_too : PicksParts is.token.parts also.s None other.parts
      presents_too = subst (λ (t : Token). PicksParts t.parts also.s None other.parts) same_token also.presents

      least : length choice.parts.disclosures ≤ sent (both is.s also.s) is.token
      least =
          let sure = sure_of is.marked is.s is.such in
          let sure_too = subst (λ (m : Marked). CantFail answers rule m query also.s) same_marked (sure_of also.marked also.s also.such) in
          (fewest choice.index is.content is.token is.marked (both is.s also.s) is.stands is.usable (sure_of_both is.marked is.s also.s sure sure_too)).0

      same_disclosures : choice.parts.disclosures ≡ other.parts.disclosures
      same_disclosures =
          let ds = is.token.parts.disclosures in
          let here : length choice.parts.disclosures ≡ length (picked is.s ds) = ap length is.presents.disclosures in
          let there : length other.parts.disclosures ≡ length (picked also.s ds) = ap length presents_too.disclosures in
          let first = picked_all is.s (both is.s also.s) (of_left is.s also.s) ds (omega (arith, least, here)) in
          let second = picked_all also.s (both is.s also.s) (of_right is.s also.s) ds (omega (arith, least, there, same_length)) in
          is.presents.disclosures ∙ (sym first ∙ (second ∙ sym presents_too.disclosures))

      same_parts : choice.parts ≡ other.parts
      unfolding parts_made
      same_parts =
          let signed : choice.parts.signed ≡ other.parts.signed = is.presents.signed ∙ sym presents_too.signed in
          let binding : choice.parts.binding ≡ other.parts.binding = is.presents.binding_is ∙ sym presents_too.binding_is in
          ap (λ x. parts_made x choice.parts.disclosures choice.parts.binding) signed
          ∙ (ap (λ x. parts_made other.parts.signed x choice.parts.binding) same_disclosures ∙ ap (λ x. parts_made other.parts.signed other.parts.disclosures x) binding)

      pub one_pick : choice ≡ other
      unfolding choice_made
      one_pick = ap (λ j. choice_made j choice.parts) same_index ∙ ap (λ x. choice_made other.index x) same_parts
