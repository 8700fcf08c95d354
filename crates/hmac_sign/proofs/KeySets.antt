-- The elements of a key set, one by one.
use Rattle.std.proofs.Common.{◌≡◌, ℕ, ◌+◌, ◌<◌, ◌≤◌, List, [], ◌∷◌, ◌++◌, length, get_or, Option, Some, None, IfSome, ◌⊎◌, inl, inr, refl, sym, ap, subst, ◌∙◌, arith}
use Rattle.std.proofs.lemmas.Bool.{cases_lt}
use Rattle.b64url_text.specs.Base64url.{Decodes}
use Rattle.b64url_text.proofs.Codes.{one_code}
use Rattle.claim_tree.specs.Tree as spec
use Rattle.claim_tree.specs.Tree.{Elements, no_elements, element_at}
use Rattle.claim_tree.specs.TreeCalls.{pushed}
use Rattle.claim_tree.specs.View.{tree_of}
use Rattle.claim_tree.specs.ListViews.{elements_of}
use Rattle.claim_tree.specs.declared.tree.Tree.{Tree}
use Rattle.claim_tree.proofs.Views.{element_at-there, element_at-past}
use Rattle.hmac_sign.specs.Keys.{oct_text, IsNamedKey, IsOct, KeysOf, no_keys, other, key}
use Rattle.hmac_sign.specs.KeyRefusals.{IsKeyNotBase64, IsKeyShort, NoneBefore, IsFirstKey, IsAdded, added_none, added_key}
use Rattle.hmac_sign.specs.declared.key_set.NamedKey.{NamedKey}

-- the element that stands there
pub at_is : (ts : List Tree) (i : ℕ) (t : Tree) → i < length ts → t ≡ get_or ts i t → element_at (elements_of ts) i ≡ Some (tree_of t)
at_is ts i t within is = element_at-there ts i t within ∙ ap (λ u. Some (tree_of u)) (sym is)

pub none_more : (P : spec.Tree → Type 0) (ts : List Tree) (i : ℕ) (t : Tree) → i < length ts → t ≡ get_or ts i t → NoneBefore P (elements_of ts) i → (P (tree_of t) → ⊥) → NoneBefore P (elements_of ts) (i + 1)
none_more P ts i t within is before here j u below at p = by_place (cases_lt j i)
  where
    by_place : (j < i) ⊎ (i ≤ j) → ⊥
    by_place (inl earlier) = before j u earlier at p
    by_place (inr later) =
        let same : j ≡ i = omega (arith, below, later) in
        let found : Some u ≡ Some (tree_of t) = sym at ∙ (ap (element_at (elements_of ts)) same ∙ at_is ts i t within is) in
        let one : u ≡ tree_of t = cc found in
        here (subst P one p)

pub first_at : (P : spec.Tree → Type 0) (ts : List Tree) (i : ℕ) (t : Tree) → i < length ts → t ≡ get_or ts i t → NoneBefore P (elements_of ts) i → P (tree_of t) → IsFirstKey P (elements_of ts) i
first_at P ts i t within is before p = record { key = tree_of t; at = at_is ts i t within is; is = p; first = before }

pub none_at_all : (P : spec.Tree → Type 0) (ts : List Tree) → NoneBefore P (elements_of ts) (length ts) → (i : ℕ) (u : spec.Tree) → element_at (elements_of ts) i ≡ Some u → P u → ⊥
none_at_all P ts before i u at p = by_place (cases_lt i (length ts))
  where
    by_place : (i < length ts) ⊎ (length ts ≤ i) → ⊥
    by_place (inl below) = before i u below at p
    by_place (inr past) = let same : None ≡ Some u = sym (element_at-past ts i past) ∙ at in absurd (cc same)

-- ---- what a key is not

pub has_code : (t : spec.Tree) (bytes : List ℕ) → IsOct t bytes → IsKeyNotBase64 t → ⊥
has_code t bytes o n =
    let same : Some o.code ≡ Some n.code = sym o.is ∙ n.is in
    let one : o.code ≡ n.code = cc same in
    n.none bytes (subst (λ code. Decodes code bytes) one o.decodes)

pub of_other_kind : (t : spec.Tree) → oct_text t ≡ None → IsKeyNotBase64 t → ⊥
of_other_kind t none n = let same : None ≡ Some n.code = sym none ∙ n.is in absurd (cc same)

pub not_short : (t : spec.Tree) (bytes : List ℕ) → IsOct t bytes → 32 ≤ length bytes → IsKeyShort t → ⊥
not_short t bytes o enough s =
    let same : Some o.code ≡ Some s.is.code = sym o.is ∙ s.is.is in
    let one : o.code ≡ s.is.code = cc same in
    let equal : bytes ≡ s.bytes = one_code s.is.code bytes s.bytes (subst (λ code. Decodes code bytes) one o.decodes) s.is.decodes in
    let long : 32 ≤ length s.bytes = subst (λ bs. 32 ≤ length bs) equal enough in
    absurd (omega (arith, long, s.short))

pub no_short : (t : spec.Tree) → oct_text t ≡ None → IsKeyShort t → ⊥
no_short t none s = let same : None ≡ Some s.is.code = sym none ∙ s.is.is in absurd (cc same)

pub decoded : (t : spec.Tree) (o : Option (List ℕ)) → (o ≡ None → oct_text t ≡ None) → IfSome o (IsOct t) → IsKeyNotBase64 t → ⊥
decoded t None none oct = of_other_kind t (none refl)
decoded t (Some bytes) none oct = has_code t bytes oct

-- ---- one element more

pub other_more : (es : Elements) (keys : List NamedKey) (t : spec.Tree) → KeysOf es keys → oct_text t ≡ None → KeysOf (pushed es t) keys
other_more _ _ t no_keys none = other t no_elements [] none no_keys
other_more _ _ t (other u es keys e more) none = other u (pushed es t) keys e (other_more es keys t more none)
other_more _ _ t (key u es n keys bytes o enough kept more) none = key u (pushed es t) n keys bytes o enough kept (other_more es keys t more none)

pub key_more : (es : Elements) (keys : List NamedKey) (t : spec.Tree) (named : NamedKey) (bytes : List ℕ) → KeysOf es keys → IsOct t bytes → 32 ≤ length bytes → IsNamedKey t bytes named → KeysOf (pushed es t) (keys ++ named ∷ [])
key_more _ _ t named bytes no_keys o enough kept = key t no_elements named [] bytes o enough kept no_keys
key_more _ _ t named bytes (other u es keys e more) o enough kept = other u (pushed es t) (keys ++ named ∷ []) e (key_more es keys t named bytes more o enough kept)
key_more _ _ t named bytes (key u es n keys bs p long k more) o enough kept = key u (pushed es t) n (keys ++ named ∷ []) bs p long k (key_more es keys t named bytes more o enough kept)

pub added : (es : Elements) (t : spec.Tree) (old new : List NamedKey) → KeysOf es old → IsAdded t old new → KeysOf (pushed es t) new
added es t old new before (added_none none same) = rw same (other_more es old t before none)
added es t old new before (added_key named bytes o enough kept more) = rw more (key_more es old t named bytes before o enough kept)

pub added_long : (t : spec.Tree) (old new : List NamedKey) → IsAdded t old new → IsKeyShort t → ⊥
added_long t old new (added_none none same) = no_short t none
added_long t old new (added_key named bytes o enough kept more) = not_short t bytes o enough
