-- The text of a key says one key.
use Rattle.std.proofs.Common.{◌≡◌, ℕ, ◌<◌, List, length, sym, ap, subst, ◌∙◌, arith}
use Rattle.b64url_text.specs.Base64url.{Decodes}
use Rattle.b64url_text.proofs.Codes.{one_code}
use Rattle.claim_tree.specs.Tree.{Text, leaf, text}
use Rattle.claim_tree.specs.View.{tree_of}
use Rattle.claim_tree.specs.declared.tree.Tree as tree
use Rattle.claim_tree.specs.TreeValues.{HasValue}
use Rattle.claim_tree.proofs.TreeValues.{SaysOne}
use Rattle.hmac_sign.specs.Hmac.{key_block}
use Rattle.hmac_sign.specs.KeyText.{IsKeyBytes, IsKeyText}
use Rattle.hmac_sign.specs.declared.alg.Alg.{Alg}

pub one_key_bytes : SaysOne IsKeyBytes
one_key_bytes t x y h k =
    let both : leaf (text h.code) ≡ leaf (text k.code) = sym h.is ∙ k.is in
    let same : h.code ≡ k.code = cc both in
    one_code k.code x y (subst (λ code. Decodes code x) same h.decodes) k.decodes

pub one_key_text : SaysOne IsKeyText
one_key_text t x y h k = h.key_is ∙ (ap (key_block Alg.Hs256) (one_key_bytes t h.bytes k.bytes h.are k.are) ∙ sym k.key_is)

same_code : (t : tree.Tree) (s : Text) → t ≡ tree.Tree.Text s → (h : HasValue IsKeyBytes (tree_of t)) → h.1.code ≡ s
same_code t s is h = let both : leaf (text h.1.code) ≡ leaf (text s) = sym h.1.is ∙ ap tree_of is in cc both

pub short_key : (t : tree.Tree) (s : Text) (bytes : List ℕ) → t ≡ tree.Tree.Text s → Decodes s bytes → length bytes < 32 → HasValue IsKeyBytes (tree_of t) → ⊥
short_key t s bytes is decodes short h =
    let same : h.0 ≡ bytes = one_code s h.0 bytes (subst (λ code. Decodes code h.0) (same_code t s is h) h.1.decodes) decodes in
    omega (arith, short, h.1.enough, ap length same)
