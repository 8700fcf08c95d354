-- For private functions: what is judged, of what is borrowed.
use Rattle.std.specs.Prelude.{◌≡◌, ◌≢◌, Some, codes}
use Rattle.claim_tree.specs.View.{tree_of}
use Rattle.claim_tree.specs.Tree.{Text, Tree}
use Rattle.compact_form.specs.declared.parts.JwtParts.{JwtParts}
use Rattle.hmac_sign.specs.Hmac.{IsGoodText, hs256_key}
use Rattle.key_binding.specs.Caller.{IsAlgUntaken, IsUnknownTo, IsBadTo}
use Rattle.compact_form.specs.Views.{jwt_of}
use Rattle.key_binding.specs.CallerSeen.{caller_of}
use Rattle.key_binding.specs.declared.judging.Bound.{Bound}
use Rattle.key_binding.specs.declared.judging.Holder as found
use Rattle.key_binding.specs.declared.policy.BindingRules.{BindingRules}
use Rattle.key_binding.specs.declared.policy.Holders as declared
use Rattle.key_binding.specs.Judged.{Judged, judged, Holders, of_keys, of_caller, holder_key}
use Rattle.key_binding.specs.Judged as seen

abbrev pub holders_of : declared.Holders → Holders
holders_of (declared.Holders.Keys keys) = of_keys keys.now
holders_of (declared.Holders.Caller caller) = of_caller (caller_of caller)

abbrev pub rules_seen : BindingRules → seen.BindingRules
rules_seen r =
    record {
      holders = holders_of r.holders;
      aud = r.aud.now;
      nonce = r.nonce.now;
      max_age = r.max_age;
    }

abbrev pub judged_of : Bound → Judged
judged_of b =
    judged (jwt_of b.token) (tree_of b.payload.now) (rules_seen b.rules) b.skew b.hash b.hashed.now
    b.now

-- what checks the signature is the key that the payload names, or the caller
abbrev pub IsHolder : Holders → Tree → found.Holder → Type 0
IsHolder (of_keys keys) payload (found.Holder.Key key) = holder_key keys payload ≡ Some key.now
IsHolder (of_caller caller) payload (found.Holder.Caller own) = caller_of own ≡ caller
IsHolder (of_keys keys) payload (found.Holder.Caller own) = ⊥
IsHolder (of_caller caller) payload (found.Holder.Key key) = ⊥

-- with what checks the signature: the algorithm is refused, the key is not
-- known, the signature is bad
abbrev pub IsAlgRefusedBy : found.Holder → Text → Type 0
IsAlgRefusedBy (found.Holder.Key key) alg = alg ≢ codes "HS256"
IsAlgRefusedBy (found.Holder.Caller caller) alg = IsAlgUntaken (caller_of caller) alg

abbrev pub IsUnknownBy : found.Holder → JwtParts → Type 0
IsUnknownBy (found.Holder.Key key) token = ⊥
IsUnknownBy (found.Holder.Caller caller) token = IsUnknownTo (caller_of caller) token.signature

abbrev pub IsBadBy : found.Holder → JwtParts → Type 0
IsBadBy (found.Holder.Key key) token =
    IsGoodText (hs256_key key.now) token.protected token.payload token.signature → ⊥
IsBadBy (found.Holder.Caller caller) token = IsBadTo (caller_of caller) token.signature
