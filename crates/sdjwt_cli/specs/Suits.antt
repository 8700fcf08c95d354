-- When a policy suits what a holder is asked to present of a token that is issued for an order.
use Rattle.std.specs.Prelude.{◌≡◌, ◌≢◌, ◌≤◌, ℕ, ◌+◌, true, false, List, Option, None, Some}
use Rattle.claim_tree.specs.Tree.{Text, Tree}
use Rattle.sd_outside.specs.Lists.{In}
use Rattle.claim_tree.specs.Path.{tree_at}
use Rattle.refusals.specs.Lowest.{NoneFails}
use Rattle.hmac_sign.specs.Algs.{alg_text}
use Rattle.hmac_sign.specs.Hmac.{AlgKey}
use Rattle.hmac_sign.specs.Keys.{key_named, picked_key}
use Rattle.key_binding.specs.Judged.{holder_kid}
use Rattle.key_binding.specs.declared.policy.BindingPolicy.{BindingPolicy}
use Rattle.marked_tree.specs.LeftOut.{leads_to, shown}
use Rattle.marked_tree.specs.Paths.{Path}
use Rattle.selection_core.specs.Consent.{RuleAnswers, Allows}
use Rattle.verifier_core.specs.Verdict.{ClaimFails, demands_of}
use Rattle.verifier_core.specs.declared.policy.Policy.{Policy}
use Rattle.issuer_core.specs.Order.{Order}
use Rattle.holder_core.specs.declared.ask.Ask.{Ask}
use Rattle.holder_core.specs.declared.ask.BindingAsk.{BindingAsk}

-- the holder is asked for a key binding token for an audience and with the
-- nonce of the policy, signs it with a key that the policy knows by the same
-- name, and both moments lie within its age, as far as clocks may differ
pub record BindingSuits (asked : Option BindingAsk) (signing : List ℕ) (binding : BindingPolicy)
    (skew presented verified : ℕ) : Type 0 where
  pub ask : BindingAsk
  pub asked_for : asked ≡ Some ask
  pub aud : In ask.aud binding.aud
  pub nonce : ask.nonce ≡ binding.nonce
  pub known : key_named binding.keys ask.kid ≡ Some signing
  pub not_stale : verified ≤ presented + binding.max_age + skew
  pub not_early : presented ≤ verified + skew

-- what is shown in the end: the payload without the hidden places that lead to
-- none of the wanted ones
abbrev pub claims_for : Order → List Path → Tree
claims_for o want = shown o.hide want o.payload

-- with a rule of consent, the key of the issuer, that with which the holder signs, and the moments
-- of presenting and of verifying, in seconds since 1970
pub record Suits {F : Type 0} (answers : RuleAnswers F) (rule : F) (o : Order) (key : AlgKey)
    (ask : Ask) (signing : List ℕ) (policy : Policy) (presented verified : ℕ) : Type 0 where
  -- holder and verifier pick the key of the issuer for its algorithm: by the
  -- name that the order gives it, where it gives one
  pub holder_finds : picked_key ask.keys o.kid key.alg ≡ Some key
  pub verifier_finds : picked_key policy.keys o.kid key.alg ≡ Some key
  -- the verifier takes the algorithm, and the type of the token where it asks for one
  pub alg : In (alg_text key.alg) policy.algs
  pub typ : (name : Text) → policy.typ ≡ Some name → o.typ ≡ Some name
  -- each wanted path is in the payload, and the rule refuses none of the hidden
  -- places that lead to one
  pub there : (path : Path) → In path ask.want → tree_at o.payload path ≢ None
  pub unrefused : (place : Path) → In place o.hide → leads_to ask.want place ≡ true
      → Allows answers rule place false → ⊥
  -- where the holder is asked for a key binding token, the payload names its
  -- key (RFC 7800 section 3.4)
  pub named : (binding : BindingAsk) → ask.binding ≡ Some binding
      → holder_kid o.payload ≡ Some binding.kid
  -- where the verifier asks for a key binding token, so is the holder
  pub bound : (binding : BindingPolicy) → policy.binding ≡ Some binding
      → BindingSuits ask.binding signing binding policy.skew presented verified
  -- what is shown has the claims that the verifier wants, and its times hold
  pub claims : NoneFails (ClaimFails (claims_for o ask.want) (demands_of policy) verified)
