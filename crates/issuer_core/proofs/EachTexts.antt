-- What is so of each text of a tree.
use Rattle.std.proofs.Common.{ℕ, List, IsUtf8, Option, None, Some, IfSome, codes, refl}
use Rattle.json.proofs.Printed.Utf8.{IsUtf8-are_ascii}
use Rattle.b64url_text.specs.Base64url.{AreBytes, b64}
use Rattle.b64url_text.proofs.Texts.{AreBytes-text, b64_utf8}
use Rattle.claim_tree.specs.Everywhere.{LeafIsUtf8, InElements, InMembers}
use Rattle.sd_outside.specs.Lists.{In}
use Rattle.claim_tree.specs.Tree.{null, flag, whole, text, Text, Leaf, Tree, leaf, array, object, Elements, Members}
use Rattle.claim_tree.proofs.Everywheres.{everywhere_else, inserted_everywhere}
use Rattle.claim_tree.proofs.TreeTexts.{HasTexts}
use Rattle.digest_sites.specs.Given.{Given}
use Rattle.digest_sites.specs.Reserved.{sd_name, dots_name}
use Rattle.disclosure.specs.Digest.{hash_name}
use Rattle.disclosure.specs.Disclosure.{array_of}
use Rattle.disclosure.specs.declared.digests.HashAlg.{HashAlg}
use Rattle.disclosure.proofs.HashNames.{name_utf8}
use Rattle.rebuild_core.specs.Payload.{alg_name}
use Rattle.issuer_core.specs.GoodOrder.{TextIs, EachText, FitsMachine}
use Rattle.issuer_core.specs.Laid.{with_alg}

abbrev pub ElementsEach : (Text → Type 0) → Elements → Type 0
ElementsEach P es = InElements (TextIs P) (λ _. Unit {0}) (λ name _. P name) es

abbrev pub MembersEach : (Text → Type 0) → Members → Type 0
MembersEach P ms = InMembers (TextIs P) (λ _. Unit {0}) (λ name _. P name) ms

abbrev pub AllTexts : (Text → Type 0) → List Text → Type 0
AllTexts P ds = (d : Text) → In d ds → P d

-- so are the name, where there is one, and each text of the value
abbrev pub GivenEach : (Text → Type 0) → Given → Type 0
GivenEach P x = IfSome x.name P × EachText P x.value

-- so is each text that an issuer puts in
pub record OwnTexts (P : Text → Type 0) : Type 0 where
  pub sd : P sd_name
  pub dots : P dots_name
  pub alg : P alg_name
  pub hash : (hash : HashAlg) → P (hash_name hash)
  pub code : (bytes : List ℕ) → P (b64 bytes)

sd_utf8 : IsUtf8 sd_name
unfolding sd_name
sd_utf8 = IsUtf8-are_ascii (codes "_sd") refl

dots_utf8 : IsUtf8 dots_name
unfolding dots_name
dots_utf8 = IsUtf8-are_ascii (codes "...") refl

alg_utf8 : IsUtf8 alg_name
unfolding alg_name
alg_utf8 = IsUtf8-are_ascii (codes "_sd_alg") refl

pub own_utf8 : OwnTexts IsUtf8
own_utf8 = record { sd = sd_utf8; dots = dots_utf8; alg = alg_utf8; hash = name_utf8; code = b64_utf8 }

pub own_bytes : OwnTexts AreBytes
own_bytes = record {
  sd = AreBytes-text sd_name sd_utf8;
  dots = AreBytes-text dots_name dots_utf8;
  alg = AreBytes-text alg_name alg_utf8;
  hash = λ hash. AreBytes-text (hash_name hash) (name_utf8 hash);
  code = λ bytes. AreBytes-text (b64 bytes) (b64_utf8 bytes);
}

-- the payload with the name of its hash
pub with_alg_each : (P : Text → Type 0) → OwnTexts P → (hash : HashAlg) (t : Tree) → EachText P t → EachText P (with_alg hash t)
with_alg_each P own hash (leaf l) h = h
with_alg_each P own hash (array es) h = h
with_alg_each P own hash (object ms) h = inserted_everywhere (TextIs P) (λ _. Unit {0}) (λ name _. P name) ms alg_name (leaf (text (hash_name hash))) own.alg (own.hash hash) h

-- a disclosure
pub array_each : (P : Text → Type 0) (salt : Text) (name : Option Text) (value : Tree) → P salt → IfSome name P → EachText P value → EachText P (array_of (leaf (text salt)) name value)
array_each P salt None value s n v = (tt, (s, (v, tt)))
array_each P salt (Some name) value s n v = (tt, (s, (n, (v, tt))))

-- ---- what follows

leaf_utf8 : (l : Leaf) → LeafIsUtf8 l → TextIs IsUtf8 l
leaf_utf8 null h = tt
leaf_utf8 (flag b) h = tt
leaf_utf8 (whole z) h = tt
leaf_utf8 (text s) h = h

utf8_leaf : (l : Leaf) → TextIs IsUtf8 l → LeafIsUtf8 l
utf8_leaf null h = tt
utf8_leaf (flag b) h = tt
utf8_leaf (whole z) h = tt
utf8_leaf (text s) h = h

bytes_leaf : (l : Leaf) → TextIs IsUtf8 l → TextIs AreBytes l
bytes_leaf null h = tt
bytes_leaf (flag b) h = tt
bytes_leaf (whole z) h = tt
bytes_leaf (text s) h = AreBytes-text s h

pub held_utf8 : (t : Tree) → FitsMachine t → EachText IsUtf8 t
held_utf8 t h = everywhere_else leaf_utf8 (λ es few. tt) (λ name u name_is. name_is) t h

pub utf8_texts : (t : Tree) → EachText IsUtf8 t → HasTexts t
utf8_texts t h = everywhere_else utf8_leaf (λ es u. u) (λ name u name_is. name_is) t h

pub utf8_bytes : (t : Tree) → EachText IsUtf8 t → EachText AreBytes t
utf8_bytes t h = everywhere_else bytes_leaf (λ es u. u) (λ name u name_is. AreBytes-text name name_is) t h
