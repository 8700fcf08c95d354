-- The names of the algorithms that are known.
use Rattle.std.proofs.Common.{◌≡◌, Some, IsUtf8, codes, refl}
use Rattle.json.proofs.Printed.Utf8.{IsUtf8-are_ascii}
use Rattle.hmac_sign.specs.Algs.{alg_text, alg_of_text}
use Rattle.hmac_sign.specs.declared.alg.Alg.{Alg}

pub of_its_text : (alg : Alg) → Some alg ≡ alg_of_text (alg_text alg)
of_its_text Alg.Hs256 = refl
of_its_text Alg.Hs384 = refl
of_its_text Alg.Hs512 = refl

pub text_utf8 : (alg : Alg) → IsUtf8 (alg_text alg)
text_utf8 Alg.Hs256 = IsUtf8-are_ascii (codes "HS256") refl
text_utf8 Alg.Hs384 = IsUtf8-are_ascii (codes "HS384") refl
text_utf8 Alg.Hs512 = IsUtf8-are_ascii (codes "HS512") refl
