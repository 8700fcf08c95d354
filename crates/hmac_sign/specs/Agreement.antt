-- Not needed to believe the program's promises: signers that mean the same.
use Rattle.std.specs.Prelude.{◌≡◌, ◌≤◌, ◌↔◌, ℕ, List}
use Rattle.b64url_text.specs.Base64url.{AreBytes}
use Rattle.claim_tree.specs.Tree.{Text}
use Rattle.hmac_sign.specs.Signatures.{Meaning}

-- the same signatures are good
abbrev pub Agree : Meaning → Meaning → Type 0
Agree good other =
    (head body signature : List ℕ) → good head body signature ↔ other head body signature

-- what stays of a signer: the same signatures are good, by the same algorithm, and it has failed
-- at least as often
pub record IsSameSigner
    {S : Type 0} (good : S → Meaning) (alg_name : S → Text) (faults : S → ℕ) (old new : S)
    : Type 0 where
  pub same_good : Agree (good new) (good old)
  pub same_alg : alg_name new ≡ alg_name old
  pub later : faults old ≤ faults new

-- what is good of the one is good of the other
abbrev pub Implies : Meaning → Meaning → Type 0
Implies good other =
    (head body signature : List ℕ) → good head body signature → other head body signature

-- each good signature is a list of bytes
abbrev pub IsOfBytes : Meaning → Type 0
IsOfBytes good = (head body signature : List ℕ) → good head body signature → AreBytes signature
