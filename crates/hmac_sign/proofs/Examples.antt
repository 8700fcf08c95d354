-- Worked values, by the definitions.
use Rattle.std.proofs.Common.{◌≡◌, ℕ, zero, suc, ◌<◌, List, [], ◌∷◌, ◌++◌, Option, Some, None, codes, refl, subst, arith}
use Rattle.std.specs.Prelude.{replicate}
use Rattle.sha2.specs.Sha256.{compress, digest_bytes, first_words, hash_after, rounds, schedule, sha256}
use Rattle.b64url_text.specs.Base64url.{letters, bits, sixes, b64, AreBytes}
use Rattle.claim_tree.specs.Tree.{Text, Tree, leaf, text, array, object, Elements, no_elements, element, element_at, no_members, member}
use Rattle.hmac_sign.specs.Hmac.{key_block, xored, hmac, hs256_key, mac}
use Rattle.hmac_sign.specs.Keys.{key_named, picked_key, IsNamedKey, IsKeySet, no_keys, other, key, IsOct}
use Rattle.hmac_sign.specs.KeyRefusals.{IsKeyNotBase64, KeyShortAt, IsNoKeySet, no_key, no_array}
use Rattle.hmac_sign.specs.declared.alg.Alg.{Alg}
use Rattle.hmac_sign.specs.declared.key_set.NamedKey.{NamedKey}
use Rattle.hmac_sign.proofs.KeySets.{has_code}

-- ---- codes

short_key : key_block Alg.Hs256 (codes "Jefe") ≡ codes "Jefe" ++ replicate 60 0
short_key = refl

inner_block : xored (key_block Alg.Hs256 (codes "Jefe")) 0x36 ≡ 0x7C ∷ 0x53 ∷ 0x50 ∷ 0x53 ∷ replicate 60 0x36
inner_block = refl

outer_block : xored (key_block Alg.Hs256 (codes "Jefe")) 0x5c ≡ 0x16 ∷ 0x39 ∷ 0x3A ∷ 0x39 ∷ replicate 60 0x5c
outer_block = refl

-- what is signed is the head, a full stop and the body
signing_input : mac (hs256_key (codes "k")) (codes "head") (codes "body") ≡ hmac Alg.Hs256 (codes "k") (codes "head.body")
signing_input = refl

-- RFC 4231, case 2
case_2 : hmac Alg.Hs256 (codes "Jefe") (codes "what do ya want for nothing?") ≡
    0x5B ∷ 0xDC ∷ 0xC1 ∷ 0x46 ∷ 0xBF ∷ 0x60 ∷ 0x75 ∷ 0x4E ∷ 0x6A ∷ 0x04 ∷ 0x24 ∷ 0x26 ∷ 0x08 ∷ 0x95 ∷ 0x75 ∷ 0xC7 ∷
    0x5A ∷ 0x00 ∷ 0x3F ∷ 0x08 ∷ 0x9D ∷ 0x27 ∷ 0x39 ∷ 0x83 ∷ 0x9D ∷ 0xEC ∷ 0x58 ∷ 0xB9 ∷ 0x64 ∷ 0xEC ∷ 0x38 ∷ 0x43 ∷ []
unfolding first_words schedule rounds compress hash_after digest_bytes sha256
case_2 = refl

-- RFC 7515, appendix A.1: the octets of the key, and the signature as base64url
abbrev octets : List ℕ
octets =
    3 ∷ 35 ∷ 53 ∷ 75 ∷ 43 ∷ 15 ∷ 165 ∷ 188 ∷ 131 ∷ 126 ∷ 6 ∷ 101 ∷ 119 ∷ 123 ∷ 166 ∷ 143 ∷
    90 ∷ 179 ∷ 40 ∷ 230 ∷ 240 ∷ 84 ∷ 201 ∷ 40 ∷ 169 ∷ 15 ∷ 132 ∷ 178 ∷ 210 ∷ 80 ∷ 46 ∷ 191 ∷
    211 ∷ 251 ∷ 90 ∷ 146 ∷ 210 ∷ 6 ∷ 71 ∷ 239 ∷ 150 ∷ 138 ∷ 180 ∷ 195 ∷ 119 ∷ 98 ∷ 61 ∷ 34 ∷
    61 ∷ 46 ∷ 33 ∷ 114 ∷ 5 ∷ 46 ∷ 79 ∷ 8 ∷ 192 ∷ 205 ∷ 154 ∷ 245 ∷ 103 ∷ 208 ∷ 128 ∷ 163 ∷ []

signature : b64 (mac (hs256_key octets) (codes "eyJ0eXAiOiJKV1QiLA0KICJhbGciOiJIUzI1NiJ9") (codes "eyJpc3MiOiJqb2UiLA0KICJleHAiOjEzMDA4MTkzODAsDQogImh0dHA6Ly9leGFtcGxlLmNvbS9pc19yb290Ijp0cnVlfQ")) ≡ codes "dBjftJeZ4CVP-mB92K27uhbUJU1p1r_wW1gFWFOEjXk"
unfolding first_words schedule rounds compress hash_after digest_bytes sha256 b64 sixes bits letters
signature = refl

-- ---- key sets

bytes_fit : (n byte : ℕ) → byte < 256 → AreBytes (replicate n byte)
bytes_fit zero byte h i = omega arith
bytes_fit (suc n) byte h zero = h
bytes_fit (suc n) byte h (suc i) = bytes_fit n byte h i

abbrev word : Text → Tree
word s = leaf (text s)

-- {"kty":"RSA"}
abbrev of_another_kind : Tree
of_another_kind = object (member (codes "kty") (word (codes "RSA")) no_members)

-- {"k":"AAAAAAAAAAAAAAAAAAAAAAAAAAAAAAAAAAAAAAAAAAA","kid":"one","kty":"oct"}
abbrev key_one : Tree
key_one = object (member (codes "k") (word (codes "AAAAAAAAAAAAAAAAAAAAAAAAAAAAAAAAAAAAAAAAAAA")) (member (codes "kid") (word (codes "one")) (member (codes "kty") (word (codes "oct")) no_members)))

-- {"k":"__________________________________________8","kty":"oct"}
abbrev key_two : Tree
key_two = object (member (codes "k") (word (codes "__________________________________________8")) (member (codes "kty") (word (codes "oct")) no_members))

abbrev set_of : Elements → Tree
set_of es = object (member (codes "keys") (array es) no_members)

-- of 32 bytes, which are enough for HS256 alone
abbrev named : List ℕ → Option Text → NamedKey
named bytes kid = record { kid = kid; hs256 = key_block Alg.Hs256 bytes; hs384 = None; hs512 = None }

abbrev are_kept : (t : Tree) (bytes : List ℕ) (kid : Option Text) → Type 0
are_kept t bytes kid = IsNamedKey t bytes (named bytes kid)

abbrev zeros : List ℕ
zeros = replicate 32 0

abbrev ones : List ℕ
ones = replicate 32 255

is_zeros : IsOct key_one zeros
unfolding b64 sixes bits letters
is_zeros = record { code = codes "AAAAAAAAAAAAAAAAAAAAAAAAAAAAAAAAAAAAAAAAAAA"; is = refl; decodes = record { fit = bytes_fit 32 0 (omega arith); spelling = refl } }

is_ones : IsOct key_two ones
unfolding b64 sixes bits letters
is_ones = record { code = codes "__________________________________________8"; is = refl; decodes = record { fit = bytes_fit 32 255 (omega arith); spelling = refl } }

abbrev two_keys : List NamedKey
two_keys = named zeros (Some (codes "one")) ∷ named ones None ∷ []

kept_one : are_kept key_one zeros (Some (codes "one"))
kept_one = record { kid = refl; hs256 = refl; hs384 = refl; hs512 = refl }

kept_two : are_kept key_two ones None
kept_two = record { kid = refl; hs256 = refl; hs384 = refl; hs512 = refl }

-- a key of another kind is left out
set_of_two : IsKeySet (set_of (element of_another_kind (element key_one (element key_two no_elements)))) two_keys
set_of_two = record {
  elements = element of_another_kind (element key_one (element key_two no_elements));
  stand = refl;
  good = refl;
  keys_are = other of_another_kind (element key_one (element key_two no_elements)) two_keys refl (
      key key_one (element key_two no_elements) (named zeros (Some (codes "one"))) (named ones None ∷ []) zeros is_zeros (omega arith) kept_one (
      key key_two no_elements (named ones None) [] ones is_ones (omega arith) kept_two no_keys
      )
      );
}

found : key_named two_keys (codes "one") ≡ Some (zeros ++ replicate 32 0)
found = refl

picked_first : picked_key two_keys None Alg.Hs256 ≡ Some (hs256_key (zeros ++ replicate 32 0))
picked_first = refl

-- none is long enough
none_picked : picked_key two_keys None Alg.Hs512 ≡ None
none_picked = refl

not_found : key_named two_keys (codes "two") ≡ None
not_found = refl

-- {}
no_set : IsNoKeySet (object no_members)
no_set = no_array refl

-- {"keys":[{}]}
no_kind : IsNoKeySet (set_of (element (object no_members) no_elements))
no_kind = no_key (element (object no_members) no_elements) refl refl

-- {"k":"AA","kty":"oct"}
abbrev one_byte : Tree
one_byte = object (member (codes "k") (word (codes "AA")) (member (codes "kty") (word (codes "oct")) no_members))

is_one_byte : IsOct one_byte (0 ∷ [])
unfolding b64 sixes bits letters
is_one_byte = record { code = codes "AA"; is = refl; decodes = record { fit = bytes_fit 1 0 (omega arith); spelling = refl } }

it_decodes : (i : ℕ) (t : Tree) → element_at (element one_byte no_elements) i ≡ Some t → IsKeyNotBase64 t → ⊥
it_decodes zero t at none = let same : one_byte ≡ t = cc at in has_code t (0 ∷ []) (subst (λ u. IsOct u (0 ∷ [])) same is_one_byte) none
it_decodes (suc i) t at none = absurd (cc at)

too_short : KeyShortAt (set_of (element one_byte no_elements)) 0
too_short = record {
  elements = element one_byte no_elements;
  stand = refl;
  good = refl;
  codes_are = it_decodes;
  first = record { key = one_byte; at = refl; is = record { bytes = 0 ∷ []; is = is_one_byte; short = omega arith }; first = λ i t below. absurd (omega (arith, below)) };
}
