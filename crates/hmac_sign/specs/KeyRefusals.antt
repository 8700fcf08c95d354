-- Not needed to believe the program's promises: why a tree is no key set.
use Rattle.std.specs.Prelude.{◌≡◌, ℕ, ◌<◌, ◌≤◌, List, [], ◌∷◌, ◌++◌, Some, None, true, false, length}
use Rattle.sd_outside.specs.Limits.{key_min}
use Rattle.b64url_text.specs.NotBase64.{IsNotBase64}
use Rattle.claim_tree.specs.Tree.{Text, Tree, Elements, element_at}
use Rattle.hmac_sign.specs.declared.key_set.NamedKey.{NamedKey}
use Rattle.hmac_sign.specs.declared.key_set.KeySetError.{KeySetError}
use Rattle.hmac_sign.specs.declared.key_set.KeySetError.TheVariants.{Memory, NotASet, KeyNotBase64, KeyShort}
use Rattle.hmac_sign.specs.Keys.{IsNamedKey, IsOct, are_keys, keys_under, oct_text}

-- its `k` is the code of no bytes
pub record IsKeyNotBase64 (t : Tree) : Type 0 where
  pub code : Text
  pub is : oct_text t ≡ Some code
  pub none : IsNotBase64 code

-- its `k` is the code of fewer bytes than a key has
pub record IsKeyShort (t : Tree) : Type 0 where
  pub bytes : List ℕ
  pub is : IsOct t bytes
  pub short : length bytes < key_min

-- none of the first elements is such
abbrev pub NoneBefore : (Tree → Type 0) → Elements → ℕ → Type 0
NoneBefore P es place = (i : ℕ) (t : Tree) → i < place → element_at es i ≡ Some t → P t → ⊥

-- the first element that is such
pub record IsFirstKey (P : Tree → Type 0) (es : Elements) (place : ℕ) : Type 0 where
  pub key : Tree
  pub at : element_at es place ≡ Some key
  pub is : P key
  pub first : NoneBefore P es place

-- what one element adds to the keys; only private functions cite this
pub data IsAdded (t : Tree) (old new : List NamedKey) : Type 0 where
  added_none : oct_text t ≡ None → new ≡ old → IsAdded t old new
  added_key : (named : NamedKey) (bytes : List ℕ) → IsOct t bytes → key_min ≤ length bytes
      → IsNamedKey t bytes named → new ≡ old ++ named ∷ [] → IsAdded t old new

-- the refusals of the codes alone, and of the lengths alone; only private functions cite these
abbrev pub IsOfCodes : KeySetError → Type 0
IsOfCodes Memory = Unit {0}
IsOfCodes NotASet = ⊥
IsOfCodes (KeyNotBase64 place) = Unit {0}
IsOfCodes (KeyShort place) = ⊥

abbrev pub IsOfLengths : KeySetError → Type 0
IsOfLengths Memory = Unit {0}
IsOfLengths NotASet = ⊥
IsOfLengths (KeyNotBase64 place) = ⊥
IsOfLengths (KeyShort place) = Unit {0}

-- there is no array `keys`, or an element of it is no key
pub data IsNoKeySet (t : Tree) : Type 0 where
  no_array : keys_under t ≡ None → IsNoKeySet t
  no_key : (es : Elements) → keys_under t ≡ Some es → are_keys es ≡ false → IsNoKeySet t

-- the key at the place is the first whose `k` is no code
pub record KeyNotBase64At (t : Tree) (place : ℕ) : Type 0 where
  pub elements : Elements
  pub stand : keys_under t ≡ Some elements
  pub good : are_keys elements ≡ true
  pub first : IsFirstKey IsKeyNotBase64 elements place

-- each `k` is a code, and the key at the place is the first that is too short
pub record KeyShortAt (t : Tree) (place : ℕ) : Type 0 where
  pub elements : Elements
  pub stand : keys_under t ≡ Some elements
  pub good : are_keys elements ≡ true
  pub codes_are : (i : ℕ) (u : Tree) → element_at elements i ≡ Some u → IsKeyNotBase64 u → ⊥
  pub first : IsFirstKey IsKeyShort elements place
