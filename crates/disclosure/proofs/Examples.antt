-- Worked values, by the definitions.
use Rattle.std.proofs.Common.{◌≡◌, Some, None, codes, pos, refl, arith}
use Rattle.std.specs.Fmt.{digits}
use Rattle.json.specs.Print.{escape_byte}
use Rattle.json.proofs.Printed.Utf8.{IsUtf8-are_ascii}
use Rattle.b64url_text.specs.Base64url.{letters, bits, sixes, b64}
use Rattle.b64url_text.proofs.Texts.{AreBytes-text}
use Rattle.claim_tree.specs.Tree.{Tree, leaf, whole, text}
use Rattle.claim_tree.specs.JsonText.{json_text}
use Rattle.claim_tree.proofs.RoundTrip.{read_of_text}
use Rattle.sha2.specs.Sha256.{compress, digest_bytes, first_words, hash_after, rounds, schedule, sha256}
use Rattle.disclosure.specs.Disclosure.{disclosure_text, array_of, IsDisclosure}
use Rattle.disclosure.specs.Digest.{digest_of}
use Rattle.disclosure.specs.declared.digests.HashAlg.{HashAlg}

-- ["s","a",1]
of_a_member : disclosure_text (leaf (text (codes "s"))) (Some (codes "a")) (leaf (whole (pos 1))) ≡ codes "WyJzIiwiYSIsMV0"
unfolding b64 sixes bits letters digits escape_byte
of_a_member = refl

-- ["lklxF5jMYlGTPUovMNIvCA","FR"]
of_an_element : disclosure_text (leaf (text (codes "lklxF5jMYlGTPUovMNIvCA"))) None (leaf (text (codes "FR"))) ≡ codes "WyJsa2x4RjVqTVlsR1RQVW92TU5JdkNBIiwiRlIiXQ"
unfolding b64 sixes bits letters escape_byte
of_an_element = refl

-- RFC 9901, section 4.2.4.2: the digest of ["lklxF5jMYlGTPUovMNIvCA", "FR"]
of_its_text : digest_of HashAlg.Sha256 (codes "WyJsa2x4RjVqTVlsR1RQVW92TU5JdkNBIiwgIkZSIl0") ≡ codes "w0I8EKcdCtUPkGCNUrfwVp2xEgNjtoIDlOxc9-PlOhs"
unfolding b64 sixes bits letters first_words schedule rounds compress hash_after digest_bytes sha256
of_its_text = refl

-- ---- a text, the disclosure that it is, and its digest

abbrev pub salt : Tree
salt = leaf (text (codes "lklxF5jMYlGTPUovMNIvCA"))

abbrev pub value : Tree
value = leaf (text (codes "FR"))

pub a_disclosure : IsDisclosure (codes "WyJsa2x4RjVqTVlsR1RQVW92TU5JdkNBIiwiRlIiXQ") salt None value
unfolding b64 sixes bits letters escape_byte
a_disclosure =
    let utf8 = IsUtf8-are_ascii (json_text (array_of salt None value)) refl in
    record {
      json = json_text (array_of salt None value);
      decodes = record { fit = AreBytes-text (json_text (array_of salt None value)) utf8; spelling = refl };
      reads = record { utf8 = utf8; value = read_of_text (array_of salt None value) (tt, (tt, tt)) (tt, (tt, tt)) (omega arith) };
    }

pub its_digest : digest_of HashAlg.Sha256 (codes "WyJsa2x4RjVqTVlsR1RQVW92TU5JdkNBIiwiRlIiXQ") ≡ codes "qswwxPH-MjwEMOgKBBv2x2CF7lufmWFrWvVq7pj7YJE"
unfolding b64 sixes bits letters first_words schedule rounds compress hash_after digest_bytes sha256
its_digest = refl
