-- The command `gen` has one verdict.
use Rattle.std.proofs.Common.{◌≡◌, ℕ, List, [], ap, ap₂, subst, ◌∙◌, sym, codes}
use Rattle.claim_tree.specs.Tree.{Tree}
use Rattle.compact_form.specs.declared.parts.Parts.{Parts}
use Rattle.compact_form.specs.Compact.{compact}
use Rattle.digest_sites.specs.Given.{Given}
use Rattle.hmac_sign.specs.Algs.{alg_text}
use Rattle.hmac_sign.specs.Hmac.{AlgKey, IsGood}
use Rattle.verifier_core.specs.Verdict.{HasContent}
use Rattle.verifier_core.proofs.CheckSteps.{one_content}
use Rattle.issuer_core.specs.declared.errors.IssueError.{IssueError}
use Rattle.issuer_core.specs.RefusalLine.{issue_refusal_text}
use Rattle.issuer_core.specs.Seed.{maker_of}
use Rattle.issuer_core.proofs.OneToken.{one_token, issued_not_refused}
use Rattle.issuer_core.proofs.OneRefusal.{one_refusal}
use Rattle.holder_core.specs.Asked.{asked_by}
use Rattle.holder_core.specs.Present.{IsPresented}
use Rattle.holder_core.proofs.OnePresentation.{HasOneSignature, one_presented}
use Rattle.cli_parts.specs.Replies.{Reply}
use Rattle.cli_parts.proofs.OneReply.{one_readable_reply}
use Rattle.sdjwt_cli.specs.Answers.{GenAnswers}
use Rattle.sdjwt_cli.specs.Generated.{generated, generated_seed, generated_key, generated_ask}
use Rattle.cli_parts.specs.Lines.{line}
use Rattle.selection_core.specs.Never.{never_rule}
use Rattle.json_form.specs.Alone.{alone}
use Rattle.sdjwt_cli.specs.Summary.{Summarizes, DoesNotSummarize, hidden_paths, chosen_places, embedded_digests, shown_length, summary_lines}
use Rattle.selection_core.proofs.NeverShown.{never_decided}

one_signature : (key : AlgKey) → HasOneSignature (IsGood key)
one_signature key head body one other h k = h ∙ sym k

module _ (n : ℕ) where
  same_presented : (a b : List ℕ) (g : Summarizes n a) (h : Summarizes n b) → g.presented ≡ h.presented
  same_presented a b g h =
      let issued : g.issued ≡ h.issued = one_token (maker_of generated_seed) (generated n) generated_key g.issued h.issued g.shown.is_issued.laid h.shown.is_issued.laid in
      let presented = subst (λ (parts : Parts). IsPresented never_rule [] (compact parts) (asked_by (generated_ask n)) (codes "HS256") (IsGood generated_key) 0 g.presented) issued g.shown.is_presented in
      one_presented never_rule [] (never_decided []) (compact h.issued) (asked_by (generated_ask n)) (codes "HS256") (IsGood generated_key) (one_signature generated_key) 0 g.presented h.presented presented h.shown.is_presented

  summarized : (a b : List ℕ) → Summarizes n a → Summarizes n b → a ≡ b
  summarized a b g h =
      let content = subst (λ (parts : Parts). HasContent (alone parts) g.payload g.given) (same_presented a b g h) g.content in
      let same = one_content (alone h.presented) g.payload h.payload g.given h.given content h.content in
      g.lines ∙ (ap₂ (λ (p : Tree) (given : List Given). summary_lines (hidden_paths n) (chosen_places n) (embedded_digests p given) (shown_length n)) same.0 same.1 ∙ sym h.lines)

  refused : (a b : List ℕ) → DoesNotSummarize n a → DoesNotSummarize n b → a ≡ b
  refused a b g h =
      g.line_is ∙ (ap (λ (error : IssueError). line (issue_refusal_text error)) (one_refusal (maker_of generated_seed) (generated n) (alg_text generated_key.alg) (IsGood generated_key) g.error h.error g.lowest h.lowest) ∙ sym h.line_is)

  not_both : (a b : List ℕ) → Summarizes n a → DoesNotSummarize n b → ⊥
  not_both a b g h =
      let is = g.shown.is_issued in
      issued_not_refused (maker_of generated_seed) (generated n) generated_key g.issued is.passes is.differ is.laid is.short h.error h.lowest.applies

  pub one_gen : (v w : Reply) → GenAnswers n v → GenAnswers n w → v ≡ w
  one_gen = one_readable_reply (Summarizes n) (DoesNotSummarize n) summarized refused not_both
