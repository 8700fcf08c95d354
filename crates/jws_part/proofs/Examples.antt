-- Worked values, by the definitions.
use Rattle.std.proofs.Common.{◌≡◌, ◌≤◌, Some, None, true, codes, refl, arith}
use Rattle.json.specs.Print.{escape_byte}
use Rattle.json.proofs.Printed.Utf8.{are_ascii, IsUtf8-are_ascii}
use Rattle.b64url_text.specs.Base64url.{letters, bits, sixes, b64}
use Rattle.b64url_text.proofs.Texts.{AreBytes-text}
use Rattle.claim_tree.specs.Tree.{Text, Tree, Members, leaf, text, object, no_members, member, depth, IsRanged, IsOrdered}
use Rattle.claim_tree.specs.JsonText.{json_text}
use Rattle.claim_tree.proofs.RoundTrip.{read_of_text}
use Rattle.jws_part.specs.Part.{Carries, IsBody}
use Rattle.jws_part.specs.Header.{header_members, has_crit, shares_name, IsHeader}
use Rattle.jws_part.proofs.Parts.{body_of}

plain : b64 (json_text (object (header_members (record { alg = codes "HS256"; kid = None; typ = None })))) ≡ codes "eyJhbGciOiJIUzI1NiJ9"
unfolding b64 sixes bits letters escape_byte
plain = refl

typed : b64 (json_text (object (header_members (record { alg = codes "HS256"; kid = None; typ = Some (codes "JWT") })))) ≡ codes "eyJhbGciOiJIUzI1NiIsInR5cCI6IkpXVCJ9"
unfolding b64 sixes bits letters escape_byte
typed = refl

abbrev outer : Members
outer = member (codes "crit") (leaf (text (codes "x"))) no_members

critical : has_crit no_members outer ≡ true
critical = refl

shared : shares_name outer outer ≡ true
shared = refl

-- ---- texts and what they carry

carries : (part : Text) (t : Tree) → part ≡ b64 (json_text t) → are_ascii (json_text t) ≡ true → IsRanged t → IsOrdered t → depth t ≤ 127 → Carries part t
carries part t is ascii ranged ordered shallow =
    let utf8 = IsUtf8-are_ascii (json_text t) ascii in
    record {
      bytes = json_text t;
      decodes = record { fit = AreBytes-text (json_text t) utf8; spelling = is };
      reads = record { utf8 = utf8; value = read_of_text t ranged ordered shallow };
    }

-- {"alg":"HS256"}
abbrev pub alg_alone : Members
alg_alone = member (codes "alg") (leaf (text (codes "HS256"))) no_members

pub a_head : IsBody (codes "eyJhbGciOiJIUzI1NiJ9") (object alg_alone)
unfolding b64 sixes bits letters escape_byte
a_head = body_of (codes "eyJhbGciOiJIUzI1NiJ9") alg_alone (carries (codes "eyJhbGciOiJIUzI1NiJ9") (object alg_alone) refl refl (tt, tt) (tt, tt, tt) (omega arith))

pub a_header : IsHeader (codes "eyJhbGciOiJIUzI1NiJ9") no_members (record { alg = codes "HS256"; kid = None; typ = None })
a_header = record {
  members = alg_alone;
  carried = a_head.carried;
  says = record { apart = refl; alg = refl; typ = refl; kid = refl };
  crit = refl;
}

-- {"_sd_alg":"sha-256"}
abbrev pub sd_alg_alone : Members
sd_alg_alone = member (codes "_sd_alg") (leaf (text (codes "sha-256"))) no_members

pub a_body : IsBody (codes "eyJfc2RfYWxnIjoic2hhLTI1NiJ9") (object sd_alg_alone)
unfolding b64 sixes bits letters escape_byte
a_body = body_of (codes "eyJfc2RfYWxnIjoic2hhLTI1NiJ9") sd_alg_alone (carries (codes "eyJfc2RfYWxnIjoic2hhLTI1NiJ9") (object sd_alg_alone) refl refl (tt, tt) (tt, tt, tt) (omega arith))
