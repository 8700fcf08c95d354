-- What suits by one rule of consent suits by each rule that refuses no more.
use Rattle.std.proofs.Common.{ℕ, List, false}
use Rattle.hmac_sign.specs.Hmac.{AlgKey}
use Rattle.marked_tree.specs.Paths.{Path}
use Rattle.selection_core.specs.Consent.{RuleAnswers, Allows}
use Rattle.verifier_core.specs.declared.policy.Policy.{Policy}
use Rattle.issuer_core.specs.Order.{Order}
use Rattle.holder_core.specs.declared.ask.Ask.{Ask}
use Rattle.sdjwt_cli.specs.Suits.{Suits}

pub suits_by : {F G : Type 0} {answers : RuleAnswers F} {rule : F} {others : RuleAnswers G} {o : Order} {key : AlgKey} {ask : Ask} {signing : List ℕ} {policy : Policy} {presented verified : ℕ}
    → Suits answers rule o key ask signing policy presented verified → (other : G)
    → ((at : Path) → Allows others other at false → Allows answers rule at false) → Suits others other o key ask signing policy presented verified
suits_by suits other refuses_no_more = record {
  holder_finds = suits.holder_finds;
  verifier_finds = suits.verifier_finds;
  alg = suits.alg;
  typ = suits.typ;
  there = suits.there;
  unrefused = λ place hidden leads refuses. suits.unrefused place hidden leads (refuses_no_more place refuses);
  named = suits.named;
  bound = suits.bound;
  claims = suits.claims;
}
