-- Key sets (RFC 7517 section 5): an object whose `keys` is an array of keys.
use Rattle.std.specs.Prelude.{◌≡◌, ℕ, ◌≤◌, List, [], ◌∷◌, Option, Some, None, Bool, true, ◌&&◌, nat_lt, length, codes, is_some, option_and_then, if◌then◌else◌}
use Rattle.std.specs.Option.{option_or}
use Rattle.sd_outside.specs.Limits.{key_min}
use Rattle.b64url_text.specs.Base64url.{Decodes}
use Rattle.claim_tree.specs.Tree.{Text, Tree, array, Elements, no_elements, element, get, text_of, has_text}
use Rattle.hmac_sign.specs.Algs.{key_least}
use Rattle.hmac_sign.specs.Hmac.{AlgKey, alg_key, hs256_key, key_block}
use Rattle.hmac_sign.specs.declared.alg.Alg.{Alg}
use Rattle.hmac_sign.specs.declared.key_set.NamedKey.{NamedKey}

-- the text under a name
abbrev pub text_under : Tree → Text → Option Text
text_under t name = option_and_then text_of (get t name)

abbrev pub array_in : Option Tree → Option Elements
array_in (Some (array es)) = Some es
array_in _ = None

-- the keys of a set
abbrev pub keys_under : Tree → Option Elements
keys_under t = array_in (get t (codes "keys"))

-- the key is of the kind `oct` (RFC 7518 section 6.4)
abbrev pub is_oct : Tree → Bool
is_oct t = has_text (text_under t (codes "kty")) (codes "oct")

-- there is no `kid`, or it is a text
abbrev pub is_name : Option Tree → Bool
is_name None = true
is_name (Some t) = is_some (text_of t)

-- an object with a text `kty`; one of the kind `oct` has a text `k`, and no `kid` or a text
abbrev pub is_key : Tree → Bool
is_key t =
    if is_oct t then is_some (text_under t (codes "k")) && is_name (get t (codes "kid"))
    else is_some (text_under t (codes "kty"))

abbrev pub are_keys : Elements → Bool
are_keys no_elements = true
are_keys (element t es) = is_key t && are_keys es

-- the `k` of a key of the kind `oct`
abbrev pub oct_text : Tree → Option Text
oct_text t = if is_oct t then text_under t (codes "k") else None

-- a key of the kind `oct`, whose `k` is the code of these bytes
pub record IsOct (t : Tree) (bytes : List ℕ) : Type 0 where
  pub code : Text
  pub is : oct_text t ≡ Some code
  pub decodes : Decodes code bytes

-- the key of the bytes for an algorithm, where there are enough of them
abbrev pub kept_key : Alg → List ℕ → Option AlgKey
kept_key alg bytes =
    if nat_lt (length bytes) (key_least alg) then None else Some (alg_key alg bytes)

-- what is kept of the bytes, for each algorithm, and of the `kid`
pub record IsNamedKey (t : Tree) (bytes : List ℕ) (named : NamedKey) : Type 0 where
  pub kid : named.kid ≡ text_under t (codes "kid")
  pub hs256 : named.hs256 ≡ key_block Alg.Hs256 bytes
  pub hs384 : named.hs384 ≡ kept_key Alg.Hs384 bytes
  pub hs512 : named.hs512 ≡ kept_key Alg.Hs512 bytes

-- the keys of the kind `oct`, in their order
pub data KeysOf : Elements → List NamedKey → Type 0 where
  no_keys : KeysOf no_elements []
  other : (t : Tree) (es : Elements) (keys : List NamedKey) → oct_text t ≡ None → KeysOf es keys
      → KeysOf (element t es) keys
  key : (t : Tree) (es : Elements) (named : NamedKey) (keys : List NamedKey) (bytes : List ℕ)
      → IsOct t bytes → key_min ≤ length bytes → IsNamedKey t bytes named → KeysOf es keys
      → KeysOf (element t es) (named ∷ keys)

-- ---- what a reading answers

pub record IsKeySet (t : Tree) (keys : List NamedKey) : Type 0 where
  pub elements : Elements
  pub stand : keys_under t ≡ Some elements
  pub good : are_keys elements ≡ true
  pub keys_are : KeysOf elements keys

-- ---- keys that are asked for

-- the first key of this name, for HS256
abbrev pub key_named : List NamedKey → Text → Option (List ℕ)
key_named [] kid = None
key_named (named ∷ keys) kid =
    if has_text named.kid kid then Some named.hs256 else key_named keys kid

-- the element has this name, where one is given
abbrev pub answers : Option Text → Option Text → Bool
answers own None = true
answers own (Some kid) = has_text own kid

-- its key for an algorithm, where it has enough bytes for it
abbrev pub key_by : NamedKey → Alg → Option AlgKey
key_by named Alg.Hs256 = Some (hs256_key named.hs256)
key_by named Alg.Hs384 = named.hs384
key_by named Alg.Hs512 = named.hs512

-- the key for an algorithm of the first element that has one and the name that is given
abbrev pub picked_key : List NamedKey → Option Text → Alg → Option AlgKey
picked_key [] kid alg = None
picked_key (named ∷ keys) kid alg =
    option_or (if answers named.kid kid then key_by named alg else None) (picked_key keys kid alg)
