-- A tree is read as one key set, or is refused.
use Rattle.std.proofs.Common.{◌≡◌, ◌≢◌, ℕ, zero, suc, ◌≤◌, List, ◌∷◌, length, Option, Some, None, true, false, refl, sym, ap, subst, ◌∙◌}
use Rattle.b64url_text.specs.Base64url.{Decodes}
use Rattle.b64url_text.proofs.Codes.{one_code}
use Rattle.claim_tree.specs.Tree.{Text, Tree, Elements, element_at}
use Rattle.hmac_sign.specs.Hmac.{AlgKey}
use Rattle.hmac_sign.specs.Keys.{oct_text, keys_under, are_keys, IsNamedKey, IsOct, KeysOf, no_keys, other, key, IsKeySet}
use Rattle.hmac_sign.specs.KeyRefusals.{IsKeyNotBase64, IsKeyShort, IsNoKeySet, no_array, no_key, KeyNotBase64At, KeyShortAt}
use Rattle.hmac_sign.specs.declared.key_set.NamedKey.{NamedKey}
use Rattle.hmac_sign.specs.declared.key_set.KeySetError.{KeySetError}
use Rattle.hmac_sign.specs.declared.key_set.KeySetError.TheVariants.{Memory, NotASet, KeyNotBase64, KeyShort}
use Rattle.hmac_sign.proofs.KeySets.{has_code, of_other_kind, not_short, no_short}

-- ---- no element of a set has a fault

no_such : (P : Tree → Type 0) → ((t : Tree) → oct_text t ≡ None → P t → ⊥) → ((t : Tree) (bytes : List ℕ) → IsOct t bytes → 32 ≤ length bytes → P t → ⊥)
    → (es : Elements) (keys : List NamedKey) → KeysOf es keys → (i : ℕ) (u : Tree) → element_at es i ≡ Some u → P u → ⊥
no_such P not_other not_oct _ _ no_keys i u at p = absurd (cc at)
no_such P not_other not_oct _ _ (other t es keys e more) zero u at p = let same : t ≡ u = cc at in not_other t e (subst P (sym same) p)
no_such P not_other not_oct _ _ (other t es keys e more) (suc i) u at p = no_such P not_other not_oct es keys more i u at p
no_such P not_other not_oct _ _ (key t es n keys bytes o enough kept more) zero u at p = let same : t ≡ u = cc at in not_oct t bytes o enough (subst P (sym same) p)
no_such P not_other not_oct _ _ (key t es n keys bytes o enough kept more) (suc i) u at p = no_such P not_other not_oct es keys more i u at p

same_elements : (o : Option Elements) (es fs : Elements) → o ≡ Some es → o ≡ Some fs → es ≡ fs
same_elements o es fs e f = let both : Some es ≡ Some fs = sym e ∙ f in cc both

pub not_no_set : (t : Tree) (keys : List NamedKey) → IsKeySet t keys → IsNoKeySet t → ⊥
not_no_set t keys set (no_array none) = let both : Some set.elements ≡ None = sym set.stand ∙ none in cc both
not_no_set t keys set (no_key es stand bad) =
    let same : es ≡ set.elements = same_elements (keys_under t) es set.elements stand set.stand in
    let both : true ≡ false = sym set.good ∙ (sym (ap are_keys same) ∙ bad) in
    cc both

pub not_no_code : (t : Tree) (keys : List NamedKey) (place : ℕ) → IsKeySet t keys → KeyNotBase64At t place → ⊥
not_no_code t keys place set no_code =
    let same : no_code.elements ≡ set.elements = same_elements (keys_under t) no_code.elements set.elements no_code.stand set.stand in
    no_such IsKeyNotBase64 of_other_kind (λ u bytes o enough. has_code u bytes o) set.elements keys set.keys_are place no_code.first.key (ap (λ es. element_at es place) (sym same) ∙ no_code.first.at) no_code.first.is

pub not_too_short : (t : Tree) (keys : List NamedKey) (place : ℕ) → IsKeySet t keys → KeyShortAt t place → ⊥
not_too_short t keys place set short =
    let same : short.elements ≡ set.elements = same_elements (keys_under t) short.elements set.elements short.stand set.stand in
    no_such IsKeyShort no_short not_short set.elements keys set.keys_are place short.first.key (ap (λ es. element_at es place) (sym same) ∙ short.first.at) short.first.is

-- ---- a tree is one set

one_oct : (t : Tree) (bytes more : List ℕ) → IsOct t bytes → IsOct t more → bytes ≡ more
one_oct t bytes more o p =
    let both : Some o.code ≡ Some p.code = sym o.is ∙ p.is in
    let same : o.code ≡ p.code = cc both in
    one_code p.code bytes more (subst (λ code. Decodes code bytes) same o.decodes) p.decodes

same_named : (n m : NamedKey) → n.kid ≡ m.kid → n.hs256 ≡ m.hs256 → n.hs384 ≡ m.hs384 → n.hs512 ≡ m.hs512 → n ≡ m
same_named n m k a b c =
    let made : Option Text → List ℕ → Option AlgKey → Option AlgKey → NamedKey = λ kid x y z. record { kid = kid; hs256 = x; hs384 = y; hs512 = z } in
    ap (λ kid. made kid n.hs256 n.hs384 n.hs512) k ∙ (ap (λ x. made m.kid x n.hs384 n.hs512) a ∙ (ap (λ y. made m.kid m.hs256 y n.hs512) b ∙ ap (made m.kid m.hs256 m.hs384) c))

one_named : (t : Tree) (bytes : List ℕ) (n m : NamedKey) → IsNamedKey t bytes n → IsNamedKey t bytes m → n ≡ m
one_named t bytes n m h k = same_named n m (h.kid ∙ sym k.kid) (h.hs256 ∙ sym k.hs256) (h.hs384 ∙ sym k.hs384) (h.hs512 ∙ sym k.hs512)

one_keys : (es : Elements) (keys others : List NamedKey) → KeysOf es keys → KeysOf es others → keys ≡ others
one_keys _ _ _ no_keys no_keys = refl
one_keys _ _ _ (other t es keys e more) (other _ _ others f rest) = one_keys es keys others more rest
one_keys _ _ _ (other t es keys e more) (key _ _ m others bytes o enough kept rest) = let both : None ≡ Some o.code = sym e ∙ o.is in absurd (cc both)
one_keys _ _ _ (key t es n keys bytes o enough kept more) (other _ _ others f rest) = let both : None ≡ Some o.code = sym f ∙ o.is in absurd (cc both)
one_keys _ _ _ (key t es n keys bytes o enough kept more) (key _ _ m others bits p long held rest) =
    let same : n ≡ m = one_named t bits n m (subst (λ bs. IsNamedKey t bs n) (one_oct t bytes bits o p) kept) held in
    ap (λ x. x ∷ keys) same ∙ ap (λ xs. m ∷ xs) (one_keys es keys others more rest)

pub one_key_set : (t : Tree) (keys others : List NamedKey) → IsKeySet t keys → IsKeySet t others → keys ≡ others
one_key_set t keys others set more =
    let same : set.elements ≡ more.elements = same_elements (keys_under t) set.elements more.elements set.stand more.stand in
    one_keys more.elements keys others (subst (λ es. KeysOf es keys) same set.keys_are) more.keys_are

-- a tree that is refused for another cause than want of memory is no set
pub not_read : (t : Tree) (error : KeySetError) → (error ≡ NotASet → IsNoKeySet t) → ((place : ℕ) → error ≡ KeyNotBase64 place → KeyNotBase64At t place) → ((place : ℕ) → error ≡ KeyShort place → KeyShortAt t place) → error ≢ Memory
    → (keys : List NamedKey) → IsKeySet t keys → ⊥
not_read t Memory no_set no_code short cause keys set = cause refl
not_read t NotASet no_set no_code short cause keys set = not_no_set t keys set (no_set refl)
not_read t (KeyNotBase64 place) no_set no_code short cause keys set = not_no_code t keys place set (no_code place refl)
not_read t (KeyShort place) no_set no_code short cause keys set = not_too_short t keys place set (short place refl)
