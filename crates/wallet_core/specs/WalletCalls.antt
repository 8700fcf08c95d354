-- Not needed to believe the program's promises: what a credential may meet
-- whose rule has two answers.
use Rattle.std.specs.Prelude.{ℕ, Bool}
use Rattle.marked_tree.specs.Marked.{Marked}
use Rattle.selection_core.specs.Consent.{RuleAnswers, AllAllowed}
use Rattle.wallet_core.specs.declared.query.Query.{Query}
use Rattle.wallet_core.specs.Meets.{Serves}

-- the set serves the query, and the rule may allow each place
pub record MayMeet {F : Type 0} (answers : RuleAnswers F) (rule : F) (marked : Marked)
    (query : Query) (s : ℕ → Bool) : Type 0 where
  pub serves : Serves marked query s
  pub allowed : AllAllowed answers rule marked s
