-- A text is accepted or refused, in one way.
use Rattle.std.proofs.Common.{◌≡◌, ℕ, List, [], sym, ap, subst, ◌∙◌, arith, rules}
use Rattle.refusals.specs.declared.fault.Fault.{Fault}
use Rattle.refusals.specs.declared.fault.Place.{Place}
use Rattle.refusals.specs.declared.fault.Place.TheVariants.{Nowhere, At}
use Rattle.compact_form.specs.declared.parts.Parts.{Parts}
use Rattle.compact_form.specs.Compact.{hashed}
use Rattle.compact_form.specs.Trim.{trimmed}
use Rattle.disclosure.specs.declared.digests.HashAlg.{HashAlg}
use Rattle.key_binding.specs.Judged.{Judged, judged}
use Rattle.key_binding.specs.BindingConditions.{BindingFails}
use Rattle.json_form.specs.declared.token.Token.{Token}
use Rattle.json_form.specs.Token as file
use Rattle.json_form.specs.Token.{IsMisformed}
use Rattle.json_form.proofs.Tokens as tokens
use Rattle.claim_tree.specs.Tree.{Tree}
use Rattle.marked_tree.specs.Marked.{Marked, strip}
use Rattle.refusals.specs.declared.condition.Condition.{Condition}
use Rattle.verifier_core.specs.Verdict.{Rules, Demands, TokenFails, ClaimFails, MissingFails, HolderFails, FileFails, FailsFor, of_file, of_missing, of_token, of_claims, of_holder, Opens, IsAcceptedFor}
use Rattle.refusals.specs.Lowest.{IsNoLater, IsLowest}
use Rattle.refusals.specs.Numbered.{one_condition}
use Rattle.refusals.proofs.Numbers.{same_fault}
use Rattle.refusals.proofs.Lowest.{one_failed, one_number}
use Rattle.refusals.specs.Faults.{failed_of}
use Rattle.verifier_core.proofs.Verdicts.{one_opening}

-- ---- the place of a condition

-- what a condition names: nothing, a number, or where the text is misformed
pub data Kind : Type 0 where
  no_place : Kind
  at_number : Kind
  in_text : Kind

abbrev pub kind_of : Condition → Kind
kind_of Condition.Form = in_text
kind_of Condition.DisclosureUnreadable = at_number
kind_of Condition.RepeatedDisclosure = at_number
kind_of Condition.ReservedMisused = at_number
kind_of Condition.RepeatedDigest = at_number
kind_of Condition.UnreferencedDisclosure = at_number
kind_of Condition.WrongShape = at_number
kind_of Condition.ReservedName = at_number
kind_of Condition.NameClash = at_number
kind_of Condition.ClaimMissing = at_number
kind_of _ = no_place

abbrev pub Suits : List ℕ → Kind → Place → Type 0
Suits content no_place place = place ≡ Nowhere
Suits content at_number place = (i : ℕ) × (place ≡ At i)
Suits content in_text place = IsMisformed (trimmed content) place

abbrev at : ℕ → Place
at i = At i

-- two places of one condition, neither of which is later, are one
one_place : (content : List ℕ) (kind : Kind) (p q : Place) → Suits content kind p → Suits content kind q → IsNoLater p q → IsNoLater q p → p ≡ q
one_place content no_place p q h k l m = h ∙ sym k
one_place content at_number p q (i, h) (j, k) l m =
    let there : IsNoLater (At i) (At j) = subst (λ (x : Place). IsNoLater x (At j)) h (subst (λ (x : Place). IsNoLater p x) k l) in
    let back : IsNoLater (At j) (At i) = subst (λ (x : Place). IsNoLater x (At i)) k (subst (λ (x : Place). IsNoLater q x) h m) in
    let same : i ≡ j = omega (arith, there, back) in
    h ∙ (ap at same ∙ sym k)
one_place content in_text p q h k l m = tokens.one_place (trimmed content) p q h k

module _ (content : List ℕ) where
  token_place : (token : Token) (rules : Rules) (c : Condition) (place : Place) → TokenFails token rules c place → Suits content (kind_of c) place
  token_place _ _ Condition.HeaderUnreadable place h = search rules
  token_place _ _ _ place h = search rules

  claim_place : (payload : Tree) (demands : Demands) (now : ℕ) (c : Condition) (place : Place) → ClaimFails payload demands now c place → Suits content (kind_of c) place
  claim_place payload demands now Condition.IssuerRefused place h = search rules
  claim_place payload demands now _ place h = search rules

  file_place : (c : Condition) (place : Place) → FileFails content c place → Suits content (kind_of c) place
  file_place c place (file.too_long e h) =
      let is : c ≡ Condition.TooLong = one_condition c Condition.TooLong (ap (λ (x : Fault). x.number) e) in
      subst (λ (d : Condition). Suits content (kind_of d) place) (sym is) (ap (λ (x : Fault). x.place) e)
  file_place c place (file.form at e h) =
      let is : c ≡ Condition.Form = one_condition c Condition.Form (ap (λ (x : Fault). x.number) e) in
      subst (λ (d : Condition). Suits content (kind_of d) place) (sym is) (subst (IsMisformed (trimmed content)) (sym (ap (λ (x : Fault). x.place) e)) h)
  file_place c place (file.too_much token e h much) =
      let is : c ≡ Condition.TooMuch = one_condition c Condition.TooMuch (ap (λ (x : Fault). x.number) e) in
      subst (λ (d : Condition). Suits content (kind_of d) place) (sym is) (ap (λ (x : Fault). x.place) e)

  missing_place : (demands : Demands) (parts : Parts) (c : Condition) (place : Place) → MissingFails demands parts c place → Suits content (kind_of c) place
  missing_place demands parts c place h = subst (λ (d : Condition). Suits content (kind_of d) place) (sym h.0) h.1.0

  -- a condition on the key binding token fails at no number
  no_number : (j : Judged) (c : Condition) (place : Place) → BindingFails j c place → Suits content (kind_of c) place
  no_number j Condition.HolderKeyUnknown place h = search rules
  no_number j _ place h = search rules

  holder_place : (parts : Parts) (payload : Tree) (hash : HashAlg) (demands : Demands) (now : ℕ) (c : Condition) (place : Place) → HolderFails parts payload hash demands now c place → Suits content (kind_of c) place
  holder_place parts payload hash demands now c place h = no_number (judged h.token payload h.binding demands.skew hash (hashed parts) now) c place h.fails

-- ---- the lowest

-- where each condition fails at places of one kind, the lowest is one
pub one_placed : (content : List ℕ) (FailsSo : Condition → Place → Type 0) → ((c : Condition) (place : Place) → FailsSo c place → Suits content (kind_of c) place)
    → (f g : Fault) → IsLowest FailsSo f → IsLowest FailsSo g → f ≡ g
one_placed content FailsSo suits f g l m =
    let one = one_failed FailsSo f g l m in
    let at_g = subst (λ (c : Condition). Suits content (kind_of c) g.place) one.0 (suits (failed_of g) g.place m.fails) in
    let places : f.place ≡ g.place = one_place content (kind_of (failed_of f)) f.place g.place (suits (failed_of f) f.place l.fails) at_g one.1.0 one.1.1 in
    same_fault f g (one_number FailsSo f g l m) places

-- the lowest condition on a token is one
pub one_token_fault : (token : Token) (rules : Rules) (f g : Fault) → IsLowest (TokenFails token rules) f → IsLowest (TokenFails token rules) g → f ≡ g
one_token_fault token rules = one_placed [] (TokenFails token rules) (token_place [] token rules)

module _ (content : List ℕ) (demands : Demands) (now : ℕ) where
  pub place_of : (c : Condition) (place : Place) → FailsFor content demands now c place → Suits content (kind_of c) place
  place_of c place (of_file h) = file_place content c place h
  place_of c place (of_missing token there h) = missing_place content demands token.parts c place h
  place_of c place (of_token token there h) = token_place content token demands.rules c place h
  place_of c place (of_claims token marked there opens h) = claim_place content (strip marked) demands now c place h
  place_of c place (of_holder token marked hash there opens has h) = holder_place content token.parts (strip marked) hash demands now c place h

  pub accepted_not_refused : (marked : Marked) (fault : Fault) → IsAcceptedFor content demands now marked → IsLowest (FailsFor content demands now) fault → ⊥
  accepted_not_refused marked fault accepted refused = accepted.passes (failed_of fault) fault.place refused.fails

  pub one_lowest : (f g : Fault) → IsLowest (FailsFor content demands now) f → IsLowest (FailsFor content demands now) g → f ≡ g
  one_lowest = one_placed content (FailsFor content demands now) place_of

  pub one_accepted : (m n : Marked) → IsAcceptedFor content demands now m → IsAcceptedFor content demands now n → m ≡ n
  one_accepted m n a b =
      let same : a.token ≡ b.token = tokens.one content a.token b.token a.is_token b.is_token in
      one_opening b.token m n (subst (λ (t : Token). Opens t m) same a.opens) b.opens
