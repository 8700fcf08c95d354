-- Conditions that the answers of a caller do not bear upon.
use Rattle.std.proofs.Common.{◌≡◌, ℕ, List, Option, Some, None, refl, ap, subst, sym}
use Rattle.std.specs.Option.{option_map}
use Rattle.claim_tree.specs.Tree.{Text, Tree}
use Rattle.compact_form.specs.Compact.{hashed}
use Rattle.refusals.specs.declared.condition.Condition.{Condition}
use Rattle.refusals.specs.declared.fault.Place.{Place}
use Rattle.compact_form.specs.declared.parts.JwtParts.{JwtParts}
use Rattle.compact_form.specs.declared.parts.Parts.{Parts}
use Rattle.disclosure.specs.declared.digests.HashAlg.{HashAlg}
use Rattle.json_form.specs.declared.token.Token.{Token}
use Rattle.key_binding.specs.BindingConditions.{BindingFails}
use Rattle.key_binding.specs.Judged.{judged, BindingRules}
use Rattle.key_binding.specs.declared.caller.SignatureAnswer.{SignatureAnswer}
use Rattle.key_binding.specs.declared.policy.BindingPolicy.{BindingPolicy}
use Rattle.marked_tree.specs.Marked.{strip}
use Rattle.verifier_core.specs.Asking.{caller_demands, asked_rules, holder_answer}
use Rattle.verifier_core.specs.Verdict.{TokenFails, ClaimFails, IsBindingMissing, HolderFails, FailsFor, of_file, of_missing, of_token, of_claims, of_holder}
use Rattle.verifier_core.specs.declared.asking.Answers.{Answers}
use Rattle.verifier_core.specs.declared.policy.Policy.{Policy}

-- the conditions on what signatures are
abbrev pub IsOfSignature : Condition → Type 0
IsOfSignature Condition.IssuerKeyUnknown = Unit {0}
IsOfSignature Condition.BadSignature = Unit {0}
IsOfSignature Condition.HolderKeyUnknown = Unit {0}
IsOfSignature Condition.BindingSignature = Unit {0}
IsOfSignature _ = ⊥

-- the policy by which a key binding token is asked for
pub policy_of : (algs : List Text) (said : Option SignatureAnswer) (policy : Option BindingPolicy) (rules : BindingRules) → option_map (asked_rules algs said) policy ≡ Some rules
    → (binding : BindingPolicy) × (policy ≡ Some binding) × (asked_rules algs said binding ≡ rules)
policy_of algs said None rules e = absurd (cc e)
policy_of algs said (Some binding) rules e = (binding, refl, cc e)

module _ (policy : Policy) (algs : List Text) (a b : Answers) where
  token_same : (token : Token) (c : Condition) (place : Place) → (IsOfSignature c → ⊥) → TokenFails token (caller_demands policy algs a).rules c place → TokenFails token (caller_demands policy algs b).rules c place
  token_same token Condition.IssuerKeyUnknown place other h = absurd (other tt)
  token_same token Condition.BadSignature place other h = absurd (other tt)
  token_same token _ place other h = h

  claims_same : (payload : Tree) (now : ℕ) (c : Condition) (place : Place) → ClaimFails payload (caller_demands policy algs a) now c place → ClaimFails payload (caller_demands policy algs b) now c place
  claims_same payload now Condition.IssuerRefused place h = h
  claims_same payload now _ place h = h

  missing_same : (parts : Parts) → IsBindingMissing (caller_demands policy algs a) parts → IsBindingMissing (caller_demands policy algs b) parts
  missing_same parts (rules, asked, none) =
      let (binding, by, is) = policy_of algs (holder_answer a) policy.binding rules asked in
      (asked_rules algs (holder_answer b) binding, ap (option_map (asked_rules algs (holder_answer b))) by, none)

  binding_same : (token : JwtParts) (payload : Tree) (binding : BindingPolicy) (skew : ℕ) (hash : HashAlg) (hashed : Text) (now : ℕ) (c : Condition) (place : Place) → (IsOfSignature c → ⊥)
      → BindingFails (judged token payload (asked_rules algs (holder_answer a) binding) skew hash hashed now) c place → BindingFails (judged token payload (asked_rules algs (holder_answer b) binding) skew hash hashed now) c place
  binding_same token payload binding skew hash hashed now Condition.HolderKeyUnknown place other h = absurd (other tt)
  binding_same token payload binding skew hash hashed now Condition.BindingSignature place other h = absurd (other tt)
  binding_same token payload binding skew hash hashed now _ place other h = h

  holder_same : (parts : Parts) (payload : Tree) (hash : HashAlg) (now : ℕ) (c : Condition) (place : Place) → (IsOfSignature c → ⊥)
      → HolderFails parts payload hash (caller_demands policy algs a) now c place → HolderFails parts payload hash (caller_demands policy algs b) now c place
  holder_same parts payload hash now c place other h =
      let (binding, by, is) = policy_of algs (holder_answer a) policy.binding h.binding h.asked in
      let fails = subst (λ (r : BindingRules). BindingFails (judged h.token payload r policy.skew hash (hashed parts) now) c place) (sym is) h.fails in
      record {
        binding = asked_rules algs (holder_answer b) binding;
        asked = ap (option_map (asked_rules algs (holder_answer b))) by;
        token = h.token;
        sent = h.sent;
        fails = binding_same h.token payload binding policy.skew hash (hashed parts) now c place other fails;
      }

  -- it fails whatever was said
  pub same_fails : (text : List ℕ) (now : ℕ) (c : Condition) (place : Place) → (IsOfSignature c → ⊥) → FailsFor text (caller_demands policy algs a) now c place → FailsFor text (caller_demands policy algs b) now c place
  same_fails text now c place other (of_file h) = of_file h
  same_fails text now c place other (of_missing token is h) = of_missing token is (h.0, (h.1.0, missing_same token.parts h.1.1))
  same_fails text now c place other (of_token token is h) = of_token token is (token_same token c place other h)
  same_fails text now c place other (of_claims token marked is opens h) = of_claims token marked is opens (claims_same (strip marked) now c place h)
  same_fails text now c place other (of_holder token marked hash is opens has h) = of_holder token marked hash is opens has (holder_same token.parts (strip marked) hash now c place other h)
