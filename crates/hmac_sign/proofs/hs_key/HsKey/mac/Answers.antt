use Rattle.std.proofs.Common.{◌≡◌, ◌++◌, ◌∙◌, ap, ap₂, refl, List, ℕ, codes, length}
use Rattle.hmac_sign.specs.Codes.{IsHashing}
use Rattle.hmac_sign.specs.Hmac.{xored, hmac}
use Rattle.hmac_sign.proofs.Blocks.{length-hash_by, of_block}
use Rattle.hmac_sign.proofs.hs_key.HsKey.mac.Goals as goal

pub returns-clause-code : goal.returns-clause-code
returns-clause-code c =
    let alg = c.args.self.now.alg in
    let block = c.args.self.now.block in
    let head = c.as_bytes.result.now in
    let body = c.as_bytes-2.result.now in
    let inner : IsHashing c.with-inner.result alg (((xored block 0x36 ++ head) ++ codes ".") ++ body) = c.with-inner.ensures alg _ (c.with-2.ensures alg _ (c.with.ensures alg _ c.hashers-inner.ensures.inner)) in
    let code : c.code_over.result ≡ hmac alg block (head ++ (codes "." ++ body)) = of_block alg block head (codes ".") body _ c.code_over.result c.hashers-inner.ensures.whole refl (c.code_over.ensures alg _ _ inner c.hashers-inner.ensures.outer) in
    code ∙ ap₂ (λ (h b : List ℕ). hmac alg block (h ++ (codes "." ++ b))) c.as_bytes.ensures.value c.as_bytes-2.ensures.value

pub returns-clause-long : goal.returns-clause-long
returns-clause-long c =
    let alg = c.args.self.now.alg in
    ap length (c.code_over.ensures alg _ _ (c.with-inner.ensures alg _ (c.with-2.ensures alg _ (c.with.ensures alg _ c.hashers-inner.ensures.inner))) c.hashers-inner.ensures.outer) ∙ length-hash_by alg _
