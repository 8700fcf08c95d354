-- The marks that are chosen for a query, and why none are.
use Rattle.std.proofs.Common.{◌≡◌, ℕ, List, subst}
use Rattle.sd_outside.specs.Lists.{IsLeast, AtNone}
use Rattle.marked_tree.specs.Choice.{IsLeastChoice}
use Rattle.marked_tree.specs.Marked.{Marked, strip}
use Rattle.marked_tree.specs.Numbers.{has}
use Rattle.marked_tree.specs.Paths.{Path}
use Rattle.selection_core.specs.ChoiceRefusals.{IsMissing}
use Rattle.selection_core.specs.Consent.{RuleAnswers, AllAllowed, IsRefusedAt}
use Rattle.wallet_core.specs.Meets.{asked_places, HasValues}
use Rattle.wallet_core.specs.WalletSteps.{IsLeastSet, IsUnanswered}
use Rattle.wallet_core.specs.declared.query.Query.{Query}

module _ {F : Type 0} (answers : RuleAnswers F) (rule : F) (marked : Marked) (query : Query) where
  module _ (asked : List Path) (same : asked ≡ asked_places query) where
    pub missing_unanswered : (k : ℕ) → IsLeast (IsMissing (strip marked) asked) k → IsUnanswered answers rule marked query
    missing_unanswered k least s sure = sure.serves.there k (subst (λ (ps : List Path). IsMissing (strip marked) ps k) same least.fails)

    module _ (marks : List ℕ) (choice : IsLeastChoice marked asked (has marks)) where
      of_query : IsLeastChoice marked (asked_places query) (has marks)
      of_query = subst (λ (ps : List Path). IsLeastChoice marked ps (has marks)) same choice

      pub refused_unanswered : (i : ℕ) → IsRefusedAt answers rule marked (has marks) i → IsUnanswered answers rule marked query
      refused_unanswered i refused s sure = sure.unrefused i refused.at (of_query.least s sure.serves.keeps i refused.chosen) refused.stands refused.refused

      pub least_set : AtNone (IsMissing (strip marked) asked) → HasValues (strip marked) query.equal → AllAllowed answers rule marked (has marks) → IsLeastSet answers rule marked query marks
      least_set there values allowed = record {
        meets = record {
          serves = record {
            closed = of_query.closed;
            there = subst (λ (ps : List Path). AtNone (IsMissing (strip marked) ps)) same there;
            values = values;
            keeps = of_query.keeps;
          };
          allowed = allowed;
        };
        least = λ s sure i is. of_query.least s sure.serves.keeps i is;
      }
