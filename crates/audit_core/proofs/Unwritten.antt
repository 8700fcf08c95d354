-- When a text is not that of the compact JSON of a tree.
use Rattle.std.proofs.Common.{◌≡◌, ◌≢◌, refl, sym, ap, subst, ◌∙◌, IsUtf8}
use Rattle.b64url_text.specs.Base64url.{b64, Decodes}
use Rattle.b64url_text.proofs.Codes.{one_code}
use Rattle.b64url_text.proofs.Texts.{AreBytes-text}
use Rattle.claim_tree.specs.Tree.{Text, Tree}
use Rattle.claim_tree.specs.JsonText.{Reads, json_text}
use Rattle.claim_tree.specs.JsonRefusals.{IsReadRefused}
use Rattle.claim_tree.specs.declared.text.ReadError.{ReadError}
use Rattle.claim_tree.proofs.OneTree.{one_tree, is_json, is_whole}
use Rattle.audit_core.specs.Audited.{IsWrittenAs}
use Rattle.audit_core.specs.AuditSteps.{IsUnwritten}

pub same_reads : (part bytes : Text) (t : Tree) → Decodes part bytes → IsWrittenAs part t → Reads bytes t
same_reads part bytes t d w = subst (λ x. Reads x t) (one_code part w.carried.bytes bytes w.carried.decodes d) w.carried.reads

pub unread_unwritten : (part bytes : Text) (error : ReadError) → error ≢ ReadError.Memory → Decodes part bytes → IsReadRefused bytes error → IsUnwritten part
unread_unwritten part bytes ReadError.Memory n d u t w = n refl
unread_unwritten part bytes ReadError.NotJson n d u t w = is_json bytes t (same_reads part bytes t d w) u
unread_unwritten part bytes ReadError.NotWhole n d u t w = is_whole bytes t (same_reads part bytes t d w) u

pub other_unwritten : (part bytes : Text) (t : Tree) → Decodes part bytes → Reads bytes t → IsUtf8 (json_text t) → bytes ≢ json_text t → IsUnwritten part
other_unwritten part bytes t d r utf8 n u w =
    let same : t ≡ u = one_tree bytes t u r (same_reads part bytes u d w) in
    n (one_code part bytes (json_text t) d (record { fit = AreBytes-text (json_text t) utf8; spelling = w.written ∙ ap (λ x. b64 (json_text x)) (sym same) }))
