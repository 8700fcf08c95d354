-- Where the salt of a disclosure stands in its JSON.
use Rattle.std.proofs.Common.{◌≡◌, ℕ, zero, suc, ◌*◌, ◌/◌, ◌%◌, ◌<◌, ◌≤◌, List, [], ◌∷◌, ◌++◌, length, map, slice_index, take, drop, length-drop, Option, Some, None, refl, sym, ap, subst, ◌∙◌, arith, append_assoc, IsUtf8}
use Rattle.std.proofs.lemmas.List.{length-take, map-append}
use Rattle.std.proofs.Math.Seq.{take-append_seam}
use Rattle.json.specs.Print.{escape}
use Rattle.b64url_text.specs.Base64url.{letters, bits_of, bits, sixes, b64, AreBytes, Decodes}
use Rattle.b64url_text.proofs.Codes.{letters-b64, one_code}
use Rattle.b64url_text.proofs.Texts.{AreBytes-text, b64_utf8}
use Rattle.b64url_text.proofs.Lengths.{length-b64}
use Rattle.claim_tree.specs.Tree.{Text, Tree, leaf, text, array}
use Rattle.claim_tree.specs.JsonText.{Reads, json_text}
use Rattle.claim_tree.specs.ListTails.{short_list}
use Rattle.b64url_text.proofs.PlainLetters.{plain_letters}
use Rattle.disclosure.specs.Disclosure.{array_of}
use Rattle.disclosure.proofs.Arrays.{array_of-listed}
use Rattle.audit_core.specs.Audited.{IsSaltedText}
use Rattle.audit_core.specs.AuditSteps.{IsSalt}

-- it has four letters for three bytes
letters_for : (bytes : List ℕ) → 4 * length bytes ≤ 3 * length (b64 bytes)
unfolding b64 bits sixes
letters_for [] = omega arith
letters_for (a ∷ []) = omega arith
letters_for (a ∷ b ∷ []) = omega arith
letters_for (a ∷ b ∷ c ∷ rest) = omega (arith, letters_for rest)

pub salt_length : (salt : Text) → IsSalt salt → length salt ≡ 22
salt_length salt s = omega (arith, s.long, ap length s.decodes.spelling, length-b64 s.bytes, letters_for s.bytes)

pub bytes_length : (salt : Text) (bytes : List ℕ) → Decodes salt bytes → length salt ≡ 22 → length bytes ≡ 16
bytes_length salt bytes d long = omega (arith, long, ap length d.spelling, length-b64 bytes, letters_for bytes)

plain_salt : (salt : Text) → IsSalt salt → escape salt ≡ salt
plain_salt salt s = subst (λ w. escape w ≡ w) (sym s.decodes.spelling) (plain_letters (b64 s.bytes) (letters-b64 s.bytes))

salt_utf8 : (salt : Text) → IsSalt salt → IsUtf8 salt
salt_utf8 salt s = subst IsUtf8 (sym s.decodes.spelling) (b64_utf8 s.bytes)

-- ---- bytes that are too great, which base64url does not see

low : ℕ → ℕ
low x = x % 256

bits_of_low : (x : ℕ) → bits_of (low x) ≡ bits_of x
unfolding low
bits_of_low x =
    rw (
      (let e : x % 256 / 128 % 2 ≡ x / 128 % 2 = omega arith in e),
      (let e : x % 256 / 64 % 2 ≡ x / 64 % 2 = omega arith in e),
      (let e : x % 256 / 32 % 2 ≡ x / 32 % 2 = omega arith in e),
      (let e : x % 256 / 16 % 2 ≡ x / 16 % 2 = omega arith in e),
      (let e : x % 256 / 8 % 2 ≡ x / 8 % 2 = omega arith in e),
      (let e : x % 256 / 4 % 2 ≡ x / 4 % 2 = omega arith in e),
      (let e : x % 256 / 2 % 2 ≡ x / 2 % 2 = omega arith in e),
      (let e : x % 256 % 2 ≡ x % 2 = omega arith in e),
    ) refl

bits_low : (xs : List ℕ) → bits (map low xs) ≡ bits xs
unfolding bits
bits_low [] = refl
bits_low (x ∷ xs) = λ i. bits_of_low x i ++ bits_low xs i

b64_low : (xs : List ℕ) → b64 (map low xs) ≡ b64 xs
unfolding b64
b64_low xs = ap (λ w. map (slice_index letters) (sixes w)) (bits_low xs)

AreBytes-low : (xs : List ℕ) → AreBytes (map low xs)
unfolding low
AreBytes-low [] i = omega arith
AreBytes-low (x ∷ xs) zero = omega arith
AreBytes-low (x ∷ xs) (suc i) = AreBytes-low xs i

low_same : (xs : List ℕ) → AreBytes xs → map low xs ≡ xs
unfolding low
low_same [] h = refl
low_same (x ∷ xs) h =
    let small : x < 256 = h 0 in
    let here : x % 256 ≡ x = omega (arith, small) in
    λ i. here i ∷ low_same xs (λ k. h (suc k)) i

front : (s more : Text) → escape s ≡ s → length s ≡ 22 → AreBytes s → take 22 (map low ((escape s ++ 34 ∷ []) ++ more)) ≡ s
front s more plain long fit =
    ap (λ w. take 22 (map low ((w ++ 34 ∷ []) ++ more))) plain ∙ ap (λ w. take 22 (map low w)) (append_assoc s (34 ∷ []) more) ∙ ap (take 22) (map-append low s (34 ∷ more))
    ∙ ap (λ w. take 22 (w ++ map low (34 ∷ more))) (low_same s fit) ∙ ap (λ n. take n (s ++ map low (34 ∷ more))) (sym long) ∙ take-append_seam s (map low (34 ∷ more))

salt_front : (salt : Text) (name : Option Text) (value : Tree) → IsSalt salt → take 22 (drop 2 (map low (json_text (array_of (leaf (text salt)) name value)))) ≡ salt
salt_front salt None value s = front salt _ (plain_salt salt s) (salt_length salt s) (AreBytes-text salt (salt_utf8 salt s))
salt_front salt (Some name) value s = front salt _ (plain_salt salt s) (salt_length salt s) (AreBytes-text salt (salt_utf8 salt s))

-- where the salt of a disclosure stands in its JSON
pub salt_stands : (disclosure json : Text) (name : Option Text) (value : Tree) → Decodes disclosure json → (w : IsSaltedText disclosure name value) → take 22 (drop 2 json) ≡ w.salt
salt_stands disclosure json name value d w =
    let written = json_text (array_of (leaf (text w.salt)) name value) in
    let bytes = one_code disclosure json (map low written) d (record { fit = AreBytes-low written; spelling = w.written.written ∙ sym (b64_low written) }) in
    ap (λ x. take 22 (drop 2 x)) bytes ∙ salt_front w.salt name value (record { bytes = w.bytes; decodes = w.salt_text; long = w.long })

-- where such a text stands in others, they have as many letters
pub salt_within : (json : Text) → IsSalt (take 22 (drop 2 json)) → 24 ≤ length json
salt_within json s = omega (arith, salt_length _ s, length-take 22 (drop 2 json), length-drop 2 json)

-- the text of a list is that of a disclosure
pub listed_text : (written first salt : Text) (second name : Option Text) (value : Tree) → written ≡ json_text (array (short_list first second value)) → first ≡ salt → second ≡ name → written ≡ json_text (array_of (leaf (text salt)) name value)
listed_text written first salt second name value is f s =
    is ∙ ap json_text (array_of-listed first second value) ∙ ap (λ x. json_text (array_of (leaf (text x)) second value)) f ∙ ap (λ n. json_text (array_of (leaf (text salt)) n value)) s

-- what is the text of a disclosure is its JSON
pub coded : (disclosure json written : Text) (name : Option Text) (value : Tree) → Decodes disclosure json → (w : IsSaltedText disclosure name value) → written ≡ json_text (array_of (leaf (text w.salt)) name value) → IsUtf8 written → json ≡ written
coded disclosure json written name value d w is utf8 = one_code disclosure json written d (record { fit = AreBytes-text written utf8; spelling = w.written.written ∙ ap b64 (sym is) })

-- and the other way round
pub salted_text : (disclosure json written salt : Text) (second name : Option Text) (value : Tree) → Decodes disclosure json → IsSalt salt → second ≡ name → json ≡ written → written ≡ json_text (array (short_list salt second value))
    → Reads written (array (short_list salt second value)) → IsSaltedText disclosure name value
salted_text disclosure json written salt second name value d s same is text_is reads =
    let list = array_of-listed salt second value ∙ ap (λ n. array_of (leaf (text salt)) n value) same in
    record {
      salt = salt;
      bytes = s.bytes;
      salt_text = s.decodes;
      long = s.long;
      written = record {
        written = d.spelling ∙ ap b64 (is ∙ text_is ∙ ap json_text list);
        carried = record { bytes = json; decodes = d; reads = subst (λ x. Reads x (array_of (leaf (text salt)) name value)) (sym is) (subst (Reads written) list reads) };
      };
    }
