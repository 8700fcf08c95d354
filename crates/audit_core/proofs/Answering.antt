-- The words of an audit, and what refuses a token with its line.
use Rattle.std.proofs.Common.{◌≡◌, ◌≢◌, ℕ, ◌≤◌, ◌<◌, length, List, [], ◌∷◌, Bool, true, String, Global, map, get_or, string_bytes, subst, sym, refl, ap, ◌∙◌, arith}
use Rattle.std.specs.Prelude.{bytes_eq}
use Rattle.std.proofs.lemmas.Slice.Eq.{bytes_eq-Decides}
use Rattle.claim_tree.specs.Tree.{Text}
use Rattle.cli_parts.specs.Lines.{line}
use Rattle.hmac_sign.specs.Algs.{alg_text}
use Rattle.hmac_sign.specs.Hmac.{IsGood}
use Rattle.hmac_sign.specs.Signatures.{Meaning}
use Rattle.issuer_core.specs.Order.{Order, order_of}
use Rattle.issuer_core.specs.OrderFile.{IsOrderFile}
use Rattle.issuer_core.specs.declared.order_file.IssueFile.{IssueFile}
use Rattle.audit_core.specs.declared.errors.AuditError.{AuditError}
use Rattle.audit_core.specs.declared.errors.AuditError.TheVariants.{Memory as OnMemory, Order as OnOrder, Token as OnCondition, Part}
use Rattle.audit_core.specs.Audit.{FailsAudit}
use Rattle.audit_core.specs.AuditCalls.{IsAuditRefused}
use Rattle.audit_core.specs.AuditRefusal.{audit_refusal_text}
use Rattle.audit_core.specs.AuditRun.{SaysNo}

-- three words, of which the first is this name
pub three_words : (words : List (String Global)) (a b c : String Global) (said order token name : List ℕ) (same : Bool) → 3 ≤ length words → length words < 4
    → a ≡ get_or words 0 a → b ≡ get_or words 1 b → c ≡ get_or words 2 c → said ≡ string_bytes a → same ≡ true → same ≡ bytes_eq said name
    → order ≡ string_bytes b → token ≡ string_bytes c → map string_bytes words ≡ name ∷ order ∷ token ∷ []
three_words [] a b c said order token name same long short is_a is_b is_c text was tells order_is token_is = absurd (omega (arith, long))
three_words (w ∷ []) a b c said order token name same long short is_a is_b is_c text was tells order_is token_is = absurd (omega (arith, long))
three_words (w ∷ v ∷ []) a b c said order token name same long short is_a is_b is_c text was tells order_is token_is = absurd (omega (arith, long))
three_words (w ∷ v ∷ u ∷ []) a b c said order token name same long short is_a is_b is_c text was tells order_is token_is =
    let first : string_bytes w ≡ name = sym (ap string_bytes is_a) ∙ (sym text ∙ (bytes_eq-Decides said name).0 (sym tells ∙ was)) in
    let second : string_bytes v ≡ order = sym (ap string_bytes is_b) ∙ sym order_is in
    let third : string_bytes u ≡ token = sym (ap string_bytes is_c) ∙ sym token_is in
    ap (λ (x : List ℕ). x ∷ string_bytes v ∷ string_bytes u ∷ []) first ∙ (ap (λ (x : List ℕ). name ∷ x ∷ string_bytes u ∷ []) second ∙ ap (λ (x : List ℕ). name ∷ order ∷ x ∷ []) third)
three_words (w ∷ v ∷ u ∷ t ∷ ts) a b c said order token name same long short is_a is_b is_c text was tells order_is token_is = absurd (omega (arith, short))

-- what refuses a text, where there was memory
failed : (o : Order) (alg : Text) (accepts : Meaning) (content : Text) (error : AuditError) → error ≢ OnMemory → IsAuditRefused o alg accepts content error → FailsAudit o alg accepts content error
failed o alg accepts content OnMemory other h = absurd (other refl)
failed o alg accepts content (OnOrder k) other h = h
failed o alg accepts content (OnCondition fault) other h = h
failed o alg accepts content (Part k) other h = h

-- the line of what refuses it
pub says_no : (order_file token_file answer : List ℕ) (said : IssueFile) (alg : Text) (error : AuditError) → IsOrderFile order_file said → alg ≡ alg_text said.key.alg → error ≢ OnMemory
    → IsAuditRefused (order_of said.order) alg (IsGood said.key) token_file error → answer ≡ line (audit_refusal_text error) → SaysNo order_file token_file answer
says_no order_file token_file answer said alg error file same other h told = record {
  order = order_of said.order;
  key = said.key;
  asks = record { said = said; is_order = file; order_is = refl; key_is = refl };
  error = error;
  fails = subst (λ (x : Text). FailsAudit (order_of said.order) x (IsGood said.key) token_file error) same (failed (order_of said.order) alg (IsGood said.key) token_file error other h);
  line_is = told;
}
