-- What is read of files that suit: it suits by each rule that refuses no more than the present order says.
use Rattle.std.proofs.Common.{◌≡◌, ℕ, List, false, subst, ◌∙◌}
use Rattle.hmac_sign.specs.Hmac.{AlgKey}
use Rattle.marked_tree.specs.Paths.{Path}
use Rattle.selection_core.specs.Consent.{RuleAnswers, Allows}
use Rattle.selection_core.specs.Never.{never_rule}
use Rattle.verifier_core.specs.PolicyFile.{IsPolicyFile}
use Rattle.verifier_core.specs.declared.policy.Policy.{Policy}
use Rattle.verifier_core.proofs.Policies.{one_policy}
use Rattle.issuer_core.specs.Order.{Order, order_of}
use Rattle.issuer_core.specs.OrderFile.{IsOrderFile}
use Rattle.issuer_core.specs.declared.order_file.IssueFile.{IssueFile}
use Rattle.issuer_core.proofs.OrderFiles.{one_order}
use Rattle.holder_core.specs.PresentFile.{IsPresentFile}
use Rattle.holder_core.specs.declared.present_file.PresentFile.{PresentFile}
use Rattle.holder_core.proofs.PresentFiles.{one_present}
use Rattle.sdjwt_cli.specs.Presented.{AllSuits}
use Rattle.sdjwt_cli.specs.PresentedValues.{AreShort}
use Rattle.sdjwt_cli.specs.Presenting.{signing_key}
use Rattle.sdjwt_cli.specs.Suits.{Suits}
use Rattle.sdjwt_cli.proofs.PresentedVerified.{asks_short}

module _ (order_file seed_file present_file policy_file : List ℕ) (now later : ℕ) (all : AllSuits order_file seed_file present_file policy_file now later)
    (file : IssueFile) (is_order : IsOrderFile order_file file) (said : PresentFile) (is_said : IsPresentFile present_file said) (policy : Policy) (is_policy : IsPolicyFile policy_file policy) where
  same_file : (all.order ≡ order_of file.order) × (all.key ≡ file.key)
  same_file = let one = one_order order_file all.asked.asks.said file all.asked.asks.is_order is_order in (all.asked.asks.order_is ∙ one.0, all.asked.asks.key_is ∙ one.1)

  by_file : Suits never_rule said.never (order_of file.order) file.key said.ask (signing_key said.key) policy now later
  by_file =
      let of_order = subst (λ (o : Order). Suits never_rule all.said.never o all.key all.said.ask (signing_key all.said.key) all.policy now later) same_file.0 all.suits in
      let of_key = subst (λ (k : AlgKey). Suits never_rule all.said.never (order_of file.order) k all.said.ask (signing_key all.said.key) all.policy now later) same_file.1 of_order in
      let of_policy = subst (λ (p : Policy). Suits never_rule all.said.never (order_of file.order) file.key all.said.ask (signing_key all.said.key) p now later) (one_policy policy_file all.policy policy all.is_policy is_policy) of_key in
      subst (λ (s : PresentFile). Suits never_rule s.never (order_of file.order) file.key s.ask (signing_key s.key) policy now later) (one_present present_file all.said said all.is_said is_said) of_policy

  pub suits_too : {F : Type 0} (answers : RuleAnswers F) (rule : F) → ((at : Path) → Allows answers rule at false → Allows never_rule said.never at false)
      → Suits answers rule (order_of file.order) file.key said.ask (signing_key said.key) policy now later
  suits_too answers rule refuses_no_more = record {
    holder_finds = by_file.holder_finds;
    verifier_finds = by_file.verifier_finds;
    alg = by_file.alg;
    typ = by_file.typ;
    there = by_file.there;
    unrefused = λ place hidden leads refuses. by_file.unrefused place hidden leads (refuses_no_more place refuses);
    named = by_file.named;
    bound = by_file.bound;
    claims = by_file.claims;
  }

  pub short_too : AreShort said.ask.binding
  short_too = asks_short present_file said is_said
