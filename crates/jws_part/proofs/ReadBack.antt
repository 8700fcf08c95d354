-- What is written as a part of a JWT is read again.
use Rattle.std.proofs.Common.{◌≡◌, ◌≤◌, false, None, Option, Some, IfSome, IsUtf8, arith, codes, refl}
use Rattle.json.proofs.Printed.Utf8.{IsUtf8-are_ascii}
use Rattle.b64url_text.specs.Base64url.{b64}
use Rattle.b64url_text.proofs.Texts.{AreBytes-text}
use Rattle.claim_tree.specs.Tree.{Text, Tree, object, no_members, depth, IsOrdered, IsRanged}
use Rattle.claim_tree.specs.JsonText.{json_text}
use Rattle.claim_tree.proofs.TreeTexts.{HasTexts, read_back}
use Rattle.jws_part.specs.declared.header.Header.{Header}
use Rattle.jws_part.specs.Header.{HeadersSay, IsHeader, has_crit, header_members}
use Rattle.jws_part.specs.Part.{Carries}

pub carried_back : (part : Text) (t : Tree) → part ≡ b64 (json_text t) → HasTexts t → IsRanged t → IsOrdered t → depth t ≤ 127 → Carries part t
carried_back part t is texts ranged ordered shallow =
    let reads = read_back t texts ranged ordered shallow in
    record { bytes = json_text t; decodes = record { fit = AreBytes-text (json_text t) reads.utf8; spelling = is }; reads = reads }

-- ---- a header

made : Text → Option Text → Option Text → Header
made alg kid typ = record { alg = alg; kid = kid; typ = typ }

says_back : (alg : Text) (kid typ : Option Text) → HeadersSay (header_members (made alg kid typ)) no_members (made alg kid typ)
unfolding made
says_back alg None None = record { apart = refl; alg = refl; typ = refl; kid = refl }
says_back alg None (Some typ) = record { apart = refl; alg = refl; typ = refl; kid = refl }
says_back alg (Some kid) None = record { apart = refl; alg = refl; typ = refl; kid = refl }
says_back alg (Some kid) (Some typ) = record { apart = refl; alg = refl; typ = refl; kid = refl }

no_crit : (alg : Text) (kid typ : Option Text) → has_crit (header_members (made alg kid typ)) no_members ≡ false
unfolding made
no_crit alg None None = refl
no_crit alg None (Some typ) = refl
no_crit alg (Some kid) None = refl
no_crit alg (Some kid) (Some typ) = refl

alg_utf8 : IsUtf8 (codes "alg")
alg_utf8 = IsUtf8-are_ascii (codes "alg") refl

kid_utf8 : IsUtf8 (codes "kid")
kid_utf8 = IsUtf8-are_ascii (codes "kid") refl

typ_utf8 : IsUtf8 (codes "typ")
typ_utf8 = IsUtf8-are_ascii (codes "typ") refl

header_texts : (alg : Text) (kid typ : Option Text) → IsUtf8 alg → IfSome kid IsUtf8 → IfSome typ IsUtf8 → HasTexts (object (header_members (made alg kid typ)))
unfolding made
header_texts alg None None a k t = (alg_utf8, a, tt)
header_texts alg None (Some typ) a k t = (alg_utf8, a, (typ_utf8, t, tt))
header_texts alg (Some kid) None a k t = (alg_utf8, a, (kid_utf8, k, tt))
header_texts alg (Some kid) (Some typ) a k t = (alg_utf8, a, (kid_utf8, k, (typ_utf8, t, tt)))

header_carried : (part alg : Text) (kid typ : Option Text) → part ≡ b64 (json_text (object (header_members (made alg kid typ)))) → HasTexts (object (header_members (made alg kid typ))) → Carries part (object (header_members (made alg kid typ)))
unfolding made
header_carried part alg None None is h = carried_back part (object (header_members (made alg None None))) is h (tt, tt) (tt, tt, tt) (omega arith)
header_carried part alg None (Some typ) is h = carried_back part (object (header_members (made alg None (Some typ)))) is h (tt, (tt, tt)) ((refl, tt), tt, (tt, tt, tt)) (omega arith)
header_carried part alg (Some kid) None is h = carried_back part (object (header_members (made alg (Some kid) None))) is h (tt, (tt, tt)) ((refl, tt), tt, (tt, tt, tt)) (omega arith)
header_carried part alg (Some kid) (Some typ) is h =
    carried_back part (object (header_members (made alg (Some kid) (Some typ)))) is h (tt, (tt, (tt, tt))) ((refl, (refl, tt)), tt, ((refl, tt), tt, (tt, tt, tt))) (omega arith)

made_back : (part alg : Text) (kid typ : Option Text) → part ≡ b64 (json_text (object (header_members (made alg kid typ)))) → IsUtf8 alg → IfSome kid IsUtf8 → IfSome typ IsUtf8 → IsHeader part no_members (made alg kid typ)
made_back part alg kid typ is a k t = record {
  members = header_members (made alg kid typ);
  carried = header_carried part alg kid typ is (header_texts alg kid typ a k t);
  says = says_back alg kid typ;
  crit = no_crit alg kid typ;
}

pub header_back : (part : Text) (h : Header) → part ≡ b64 (json_text (object (header_members h))) → IsUtf8 h.alg → IfSome h.kid IsUtf8 → IfSome h.typ IsUtf8 → IsHeader part no_members h
unfolding made
header_back part h is a k t = made_back part h.alg h.kid h.typ is a k t
