-- The key set of `gen`: its JSON is read as the one key.
use Rattle.std.proofs.Common.{◌≡◌, ◌≢◌, ℕ, List, [], None, replicate, refl, subst, arith}
use Rattle.json.proofs.Printed.Utf8.{IsUtf8-are_ascii}
use Rattle.sd_outside.specs.Limits.{key_min}
use Rattle.b64url_text.specs.Base64url.{b64, Decodes}
use Rattle.b64url_text.proofs.Texts.{AreBytes-text}
use Rattle.claim_tree.specs.Tree.{Tree, no_elements, element}
use Rattle.hmac_sign.specs.Keys.{IsKeySet, key, no_keys}
use Rattle.hmac_sign.specs.KeyRefusals.{IsNoKeySet, KeyNotBase64At, KeyShortAt}
use Rattle.hmac_sign.specs.declared.key_set.KeySetError.{KeySetError}
use Rattle.hmac_sign.specs.declared.key_set.KeySetError.TheVariants.{Memory, NotASet, KeyNotBase64, KeyShort}
use Rattle.hmac_sign.specs.declared.key_set.NamedKey.{NamedKey}
use Rattle.hmac_sign.proofs.KeySetVerdicts.{one_key_set, not_read}
use Rattle.sdjwt_cli.specs.Generated.{generated_key, generated_keys}
use Rattle.sdjwt_cli.specs.GeneratedSteps.{key_tree, set_tree}

decodes : Decodes (b64 (replicate key_min 1)) (replicate key_min 1)
decodes = record { fit = AreBytes-text (replicate key_min 1) (IsUtf8-are_ascii (replicate key_min 1) refl); spelling = refl }

is_set : IsKeySet set_tree generated_keys
is_set = record {
  elements = element key_tree no_elements;
  stand = refl;
  good = refl;
  keys_are = key key_tree no_elements (record { kid = None; hs256 = generated_key.block; hs384 = None; hs512 = None }) [] (replicate key_min 1) (record { code = b64 (replicate key_min 1); is = refl; decodes = decodes }) (omega arith) (record { kid = refl; hs256 = refl; hs384 = refl; hs512 = refl }) no_keys;
}

module _ (t : Tree) (same : set_tree ≡ t) where
  set_here : IsKeySet t generated_keys
  set_here = subst (λ (u : Tree). IsKeySet u generated_keys) same is_set

  pub keys_are : (keys : List NamedKey) → IsKeySet t keys → keys ≡ generated_keys
  keys_are keys set = one_key_set t keys generated_keys set set_here

  pub no_fault : (error : KeySetError) → (error ≡ NotASet → IsNoKeySet t) → ((place : ℕ) → error ≡ KeyNotBase64 place → KeyNotBase64At t place) → ((place : ℕ) → error ≡ KeyShort place → KeyShortAt t place) → error ≢ Memory → ⊥
  no_fault error no_set no_code short cause = not_read t error no_set no_code short cause generated_keys set_here
