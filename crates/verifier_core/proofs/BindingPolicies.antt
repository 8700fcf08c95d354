-- The member of a policy file for key binding says one binding policy.
use Rattle.std.proofs.Common.{◌≡◌, ℕ, List, sym, ap, subst, ◌∙◌, codes}
use Rattle.claim_tree.specs.Tree.{Text, object, member_named}
use Rattle.claim_tree.specs.TreeValues.{IsWholeUpTo, Says}
use Rattle.claim_tree.proofs.TreeValues as values
use Rattle.claim_tree.proofs.TreeValues.{SaysOne}
use Rattle.hmac_sign.specs.Keys.{IsKeySet}
use Rattle.hmac_sign.specs.declared.key_set.NamedKey.{NamedKey}
use Rattle.hmac_sign.proofs.KeySetVerdicts.{one_key_set}
use Rattle.key_binding.specs.ShortText.{IsShortText}
use Rattle.key_binding.specs.declared.policy.BindingPolicy.{BindingPolicy}
use Rattle.verifier_core.specs.PolicyFile.{IsBindingPolicy}
use Rattle.verifier_core.specs.PolicyVersion.{IsAudiences}
use Rattle.verifier_core.specs.declared.policy_version.PolicyVersion.{PolicyVersion}
use Rattle.verifier_core.proofs.PolicyVersions.{one_short_text, one_audiences}
use Rattle.sd_outside.specs.Limits.{age_max}

binding_made : List Text → Text → List NamedKey → ℕ → BindingPolicy
binding_made aud nonce keys max_age = record { aud = aud; nonce = nonce; keys = keys; max_age = max_age }

pub one_binding : (version : PolicyVersion) → SaysOne (IsBindingPolicy version)
unfolding binding_made
one_binding version t b d h k =
    let both : object h.members ≡ object k.members = sym h.is ∙ k.is in
    let same : h.members ≡ k.members = cc both in
    let ms = k.members in
    let aud : b.aud ≡ d.aud = values.says_one (IsAudiences version) (member_named ms (codes "aud")) b.aud d.aud (one_audiences version) (subst (λ ns. Says (IsAudiences version) (member_named ns (codes "aud")) b.aud) same h.aud) k.aud in
    let nonce : b.nonce ≡ d.nonce = values.says_one IsShortText (member_named ms (codes "nonce")) b.nonce d.nonce one_short_text (subst (λ ns. Says IsShortText (member_named ns (codes "nonce")) b.nonce) same h.nonce) k.nonce in
    let keys : b.keys ≡ d.keys = values.says_one IsKeySet (member_named ms (codes "keys")) b.keys d.keys one_key_set (subst (λ ns. Says IsKeySet (member_named ns (codes "keys")) b.keys) same h.keys) k.keys in
    let max_age : b.max_age ≡ d.max_age = values.says_one (IsWholeUpTo age_max) (member_named ms (codes "max_age")) b.max_age d.max_age (values.one_whole age_max) (subst (λ ns. Says (IsWholeUpTo age_max) (member_named ns (codes "max_age")) b.max_age) same h.max_age) k.max_age in
    ap (λ x. binding_made x b.nonce b.keys b.max_age) aud ∙ (ap (λ x. binding_made d.aud x b.keys b.max_age) nonce ∙ (ap (λ x. binding_made d.aud d.nonce x b.max_age) keys ∙ ap (λ x. binding_made d.aud d.nonce d.keys x) max_age))
