-- Not needed to believe the program's promises: what is read of a token, before it is opened.
use Rattle.std.specs.Prelude.{◌≡◌, ◌≤◌, ◌<◌, ◌-◌, ◌^◌, ℕ, zero, suc, List, length, refl}
use Rattle.std.specs.Coded.{Coded, coded_ℕ, coded×, code_by}
use Rattle.sd_outside.specs.Limits.{json_depth_max}
use Rattle.claim_tree.specs.Tree.{Tree, depth}
use Rattle.digest_sites.specs.Code.{tree_code, given_code}
use Rattle.digest_sites.specs.Given.{Given}
use Rattle.disclosure.specs.declared.digests.HashAlg.{HashAlg}
use Rattle.rebuild_core.specs.Answer.{IsPayload, ValuesShallow}

-- its payload, the algorithm of its digests, and what its disclosures give
pub record Content : Type 0 where
  pub body : Tree
  pub hash : HashAlg
  pub given : List Given

-- ---- for the model

-- what is read can be opened
pub record IsReadyToOpen (body : Tree) (given : List Given) : Type 0 where
  pub object : IsPayload body
  pub body_depth : depth body ≤ json_depth_max
  pub values_depth : ValuesShallow given
  pub few : length given < 2 ^ 32 - 1

-- a code for it, by which a proof tells two of them apart
abbrev hash_to : HashAlg → ℕ
hash_to HashAlg.Sha256 = 0
hash_to HashAlg.Sha384 = 1
hash_to HashAlg.Sha512 = 2

abbrev hash_from : ℕ → HashAlg
hash_from zero = HashAlg.Sha256
hash_from (suc zero) = HashAlg.Sha384
hash_from (suc (suc _)) = HashAlg.Sha512

pub hash_back : (hash : HashAlg) → hash_from (hash_to hash) ≡ hash
hash_back HashAlg.Sha256 = refl
hash_back HashAlg.Sha384 = refl
hash_back HashAlg.Sha512 = refl

abbrev hash_code : Coded HashAlg
hash_code = code_by ℕ coded_ℕ hash_to hash_from hash_back

abbrev pub content_code : Coded Content
content_code =
    code_by (Tree × (HashAlg × List Given)) (coded× tree_code (coded× hash_code given_code))
    (λ c. (c.body, (c.hash, c.given)))
    (λ p. record { body = p.0; hash = p.1.0; given = p.1.1 }) (λ _. refl)
