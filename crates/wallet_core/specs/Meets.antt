-- What a query asks, and which sets of marks answer it.
use Rattle.std.specs.Prelude.{◌≡◌, ◌++◌, ℕ, Bool, List, map, Some}
use Rattle.sd_outside.specs.Lists.{In, AtNone}
use Rattle.claim_tree.specs.Path.{tree_at}
use Rattle.claim_tree.specs.Tree.{Tree}
use Rattle.claim_tree.specs.View.{tree_of}
use Rattle.marked_tree.specs.Closed.{IsClosed, KeepsTheWay}
use Rattle.marked_tree.specs.Marked.{Marked, strip}
use Rattle.marked_tree.specs.Paths.{Path}
use Rattle.selection_core.specs.ChoiceRefusals.{IsMissing}
use Rattle.selection_core.specs.Consent.{RuleAnswers, AllAllowed, NoneRefused}
use Rattle.wallet_core.specs.declared.query.Equal.{Equal}
use Rattle.wallet_core.specs.declared.query.Query.{Query}

-- the places of a query: those that are wanted, and then those whose values are asked for
abbrev pub asked_places : Query → List Path
asked_places query = query.want ++ map (λ equal. equal.at) query.equal

-- the payload has each value at its place
abbrev pub HasValues : Tree → List Equal → Type 0
HasValues payload equal =
    (one : Equal) → In one equal → tree_at payload one.at ≡ Some (tree_of one.value)

-- with each mark the set has all above it; each place of the query is there, with its value where
-- one is asked for; and the set keeps each mark on the way to such a place
pub record Serves (marked : Marked) (query : Query) (s : ℕ → Bool) : Type 0 where
  pub closed : IsClosed marked s
  pub there : AtNone (IsMissing (strip marked) (asked_places query))
  pub values : HasValues (strip marked) query.equal
  pub keeps : KeepsTheWay marked (asked_places query) s

-- the set serves the query, and the rule allows the place of each mark of it, and doesn't refuse it
pub record Meets {F : Type 0} (answers : RuleAnswers F) (rule : F) (marked : Marked) (query : Query)
    (s : ℕ → Bool) : Type 0 where
  pub serves : Serves marked query s
  pub allowed : AllAllowed answers rule marked s
  pub unrefused : NoneRefused answers rule marked s

-- ---- of a rule that may give two answers for one place

-- the set serves the query, and the rule can't refuse a place: this is so of
-- each set that meets the query
pub record CantFail {F : Type 0} (answers : RuleAnswers F) (rule : F) (marked : Marked)
    (query : Query) (s : ℕ → Bool) : Type 0 where
  pub serves : Serves marked query s
  pub unrefused : NoneRefused answers rule marked s
