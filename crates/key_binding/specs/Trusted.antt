-- Not needed to believe the program's promises: whose key binding tokens a verifier trusts.
use Rattle.std.specs.Prelude.{◌≡◌, ℕ, List, Some, codes}
use Rattle.claim_tree.specs.Tree.{Text, Tree}
use Rattle.hmac_sign.specs.Hmac.{IsGood, hs256_key}
use Rattle.hmac_sign.specs.Agreement.{Implies, IsOfBytes}
use Rattle.hmac_sign.specs.Signatures.{Meaning}
use Rattle.key_binding.specs.Caller.{IsAlgUntaken}
use Rattle.key_binding.specs.Judged.{Holders, of_keys, of_caller, holder_key}
use Rattle.key_binding.specs.declared.caller.SignatureAnswer.{SignatureAnswer}

-- the algorithm of this name is taken, and the holder of the processed payload is known and makes
-- these good signatures: by its key, or as the caller says
abbrev pub TrustsHolder : Holders → Tree → Text → Meaning → Type 0
TrustsHolder (of_keys keys) payload alg good =
    (alg ≡ codes "HS256") × (key : List ℕ) × (holder_key keys payload ≡ Some key)
    × Implies good (IsGood (hs256_key key))
TrustsHolder (of_caller caller) payload alg good =
    (IsAlgUntaken caller alg → ⊥) × (caller.answer ≡ Some SignatureAnswer.Good) × IsOfBytes good
