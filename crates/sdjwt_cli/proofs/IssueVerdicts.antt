-- The command `issue` has one verdict over its files.
use Rattle.std.proofs.Common.{◌≡◌, ℕ, List, ap, ◌∙◌, sym, subst, arith}
use Rattle.compact_form.specs.declared.parts.Parts.{Parts}
use Rattle.compact_form.specs.Compact.{compact}
use Rattle.hmac_sign.specs.Algs.{alg_text}
use Rattle.hmac_sign.specs.Hmac.{AlgKey, IsGood}
use Rattle.issuer_core.specs.declared.errors.IssueError.{IssueError}
use Rattle.issuer_core.specs.Order.{Order}
use Rattle.issuer_core.specs.OrderRefusals.{IsLowestRefusal}
use Rattle.issuer_core.specs.RefusalLine.{issue_refusal_text}
use Rattle.issuer_core.specs.Seed.{maker_of}
use Rattle.issuer_core.specs.Written.{IsLaidOut}
use Rattle.issuer_core.specs.Issue.{AppliesToIssue}
use Rattle.issuer_core.proofs.OrderFiles as orders
use Rattle.issuer_core.proofs.OneToken.{one_token, issued_not_refused}
use Rattle.issuer_core.proofs.OneRefusal.{one_refusal}
use Rattle.cli_parts.specs.Lines.{line, unreadable_line}
use Rattle.sdjwt_cli.specs.Issuing.{IsAsked, Issues, DoesNotIssue, HasNoOrder, no_order, no_seed}
use Rattle.cli_parts.specs.Replies.{Reply}
use Rattle.cli_parts.proofs.OneReply.{one_reply}
use Rattle.sdjwt_cli.specs.Answers.{IssueAnswers}

-- what the files ask for is one
module _ (order_file seed_file : List ℕ) (o p : Order) (key other : AlgKey) (seed grain : List ℕ) (this : IsAsked order_file seed_file o key seed) (that : IsAsked order_file seed_file p other grain) where
  pub same_order : o ≡ p
  same_order = this.asks.order_is ∙ ((orders.one_order order_file this.asks.said that.asks.said this.asks.is_order that.asks.is_order).0 ∙ sym that.asks.order_is)

  same_key : key ≡ other
  same_key = this.asks.key_is ∙ ((orders.one_order order_file this.asks.said that.asks.said this.asks.is_order that.asks.is_order).1 ∙ sym that.asks.key_is)

  same_seed : seed ≡ grain
  same_seed = this.seed_is ∙ sym that.seed_is

  -- a fact on what the first asks for is one on what the second does
  pub carried : (P : Order → AlgKey → List ℕ → Type 0) → P o key seed → P p other grain
  carried P h = subst (λ (x : Order). P x other grain) same_order (subst (λ (k : AlgKey). P o k grain) same_key (subst (λ (s : List ℕ). P o key s) same_seed h))

printed : (order seed : List ℕ) (a b : List ℕ) → Issues order seed a → Issues order seed b → a ≡ b
printed order seed a b g h =
    let laid : IsLaidOut (maker_of h.seed) h.order (alg_text h.key.alg) (IsGood h.key) g.parts =
    carried order seed g.order h.order g.key h.key g.seed h.seed g.asked h.asked (λ (o : Order) (k : AlgKey) (s : List ℕ). IsLaidOut (maker_of s) o (alg_text k.alg) (IsGood k) g.parts) g.answered.laid in
    g.line_is ∙ (ap (λ (parts : Parts). line (compact parts)) (one_token (maker_of h.seed) h.order h.key g.parts h.parts laid h.answered.laid) ∙ sym h.line_is)

refused : (order seed : List ℕ) (a b : List ℕ) → DoesNotIssue order seed a → DoesNotIssue order seed b → a ≡ b
refused order seed a b g h =
    let lowest : IsLowestRefusal (AppliesToIssue (maker_of h.seed) h.order (alg_text h.key.alg) (IsGood h.key)) g.refused.error =
    carried order seed g.order h.order g.key h.key g.seed h.seed g.asked h.asked (λ (o : Order) (k : AlgKey) (s : List ℕ). IsLowestRefusal (AppliesToIssue (maker_of s) o (alg_text k.alg) (IsGood k)) g.refused.error) g.refused.lowest in
    g.refused.line_is ∙ (ap (λ (error : IssueError). line (issue_refusal_text error)) (one_refusal (maker_of h.seed) h.order (alg_text h.key.alg) (IsGood h.key) g.refused.error h.refused.error lowest h.refused.lowest) ∙ sym h.refused.line_is)

printed_not_refused : (order seed : List ℕ) (a b : List ℕ) → Issues order seed a → DoesNotIssue order seed b → ⊥
printed_not_refused order seed a b g h =
    let lowest : IsLowestRefusal (AppliesToIssue (maker_of g.seed) g.order (alg_text g.key.alg) (IsGood g.key)) h.refused.error =
    carried order seed h.order g.order h.key g.key h.seed g.seed h.asked g.asked (λ (o : Order) (k : AlgKey) (s : List ℕ). IsLowestRefusal (AppliesToIssue (maker_of s) o (alg_text k.alg) (IsGood k)) h.refused.error) h.refused.lowest in
    issued_not_refused (maker_of g.seed) g.order g.key g.parts g.answered.passes g.answered.differ g.answered.laid g.answered.short h.refused.error lowest.applies

-- what is asked for is of its form
asked_not_unreadable : (order_file seed_file : List ℕ) (o : Order) (key : AlgKey) (seed : List ℕ) (text : List ℕ) → IsAsked order_file seed_file o key seed → HasNoOrder order_file seed_file text → ⊥
asked_not_unreadable order_file seed_file o key seed text asked (no_order fault refused cause is) = cause (orders.not_both order_file asked.asks.said fault asked.asks.is_order refused)
asked_not_unreadable order_file seed_file o key seed text asked (no_seed said is_order short is) = let enough = asked.enough in omega (arith, short, enough)

one_reason : (order seed : List ℕ) (a b : List ℕ) → HasNoOrder order seed a → HasNoOrder order seed b → a ≡ b
one_reason order seed a b (no_order f r c is) (no_order g q d also) = is ∙ (ap (unreadable_line 1) (orders.one_fault order f g r q c d) ∙ sym also)
one_reason order seed a b (no_order f r c is) (no_seed said says short also) = absurd (c (orders.not_both order said f says r))
one_reason order seed a b (no_seed said says short is) (no_order g q d also) = absurd (d (orders.not_both order said g says q))
one_reason order seed a b (no_seed said says short is) (no_seed other also_says also_short also) = is ∙ sym also

pub one_issue : (order seed : List ℕ) (v w : Reply) → IssueAnswers order seed v → IssueAnswers order seed w → v ≡ w
one_issue order seed =
    one_reply (Issues order seed) (DoesNotIssue order seed) (HasNoOrder order seed) (printed order seed) (refused order seed) (one_reason order seed) (printed_not_refused order seed)
    (λ a b g h. asked_not_unreadable order seed g.order g.key g.seed b g.asked h) (λ a b g h. asked_not_unreadable order seed g.order g.key g.seed b g.asked h)
