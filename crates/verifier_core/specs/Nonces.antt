-- Not needed to believe the program's promises: a policy with another nonce.
use Rattle.std.specs.Prelude.{option_map}
use Rattle.claim_tree.specs.Tree.{Text}
use Rattle.key_binding.specs.declared.policy.BindingPolicy.{BindingPolicy}
use Rattle.verifier_core.specs.declared.policy.Policy.{Policy}

-- what is wanted of a key binding token, with this nonce and all else as it was
abbrev pub binding_with_nonce : Text → BindingPolicy → BindingPolicy
binding_with_nonce nonce binding = record binding { nonce = nonce }

-- the policy with this nonce in its binding, where it has one, and all else as it was
abbrev pub with_nonce : Policy → Text → Policy
with_nonce policy nonce =
    record policy { binding = option_map (binding_with_nonce nonce) policy.binding }
