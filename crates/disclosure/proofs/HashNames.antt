-- The names of the hashes that are known.
use Rattle.std.proofs.Common.{◌≡◌, Some, IsUtf8, codes, refl}
use Rattle.json.proofs.Printed.Utf8.{IsUtf8-are_ascii}
use Rattle.disclosure.specs.Digest.{hash_name, hash_of_text}
use Rattle.disclosure.specs.declared.digests.HashAlg.{HashAlg}

pub of_its_name : (alg : HashAlg) → Some alg ≡ hash_of_text (hash_name alg)
of_its_name HashAlg.Sha256 = refl
of_its_name HashAlg.Sha384 = refl
of_its_name HashAlg.Sha512 = refl

pub name_utf8 : (alg : HashAlg) → IsUtf8 (hash_name alg)
name_utf8 HashAlg.Sha256 = IsUtf8-are_ascii (codes "sha-256") refl
name_utf8 HashAlg.Sha384 = IsUtf8-are_ascii (codes "sha-384") refl
name_utf8 HashAlg.Sha512 = IsUtf8-are_ascii (codes "sha-512") refl
