-- What is picked by a rule of consent, or not, is so by each rule that may answer as it does.
use Rattle.std.proofs.Common.{ℕ, Bool, true, false, List, Result, Ok, Err, IfOk}
use Rattle.claim_tree.specs.Tree.{Text}
use Rattle.marked_tree.specs.Marked.{Marked}
use Rattle.marked_tree.specs.Paths.{Path}
use Rattle.selection_core.specs.Consent.{RuleAnswers, Allows}
use Rattle.selection_core.specs.AllowCalls.{IsDecided}
use Rattle.wallet_core.specs.Meets.{Meets, CantFail}
use Rattle.wallet_core.specs.WalletCalls.{MayMeet}
use Rattle.wallet_core.specs.Picked.{IsPicked, IsFewest, HasNoAnswer}
use Rattle.wallet_core.specs.declared.answering.Picked.{Picked}
use Rattle.wallet_core.specs.declared.error.WalletError.{WalletError}
use Rattle.wallet_core.specs.declared.query.Query.{Query}
use Rattle.wallet_core.proofs.Bests.{decided_meets}

module _ {F G : Type 0} {answers : RuleAnswers F} {rule : F} (others : RuleAnswers G) (other : G) (carries : (at : Path) (b : Bool) → Allows answers rule at b → Allows others other at b) where
  cant_fail : (marked : Marked) (query : Query) (s : ℕ → Bool) → CantFail others other marked query s → CantFail answers rule marked query s
  cant_fail marked query s sure = record { serves = sure.serves; unrefused = λ i at kept stands refuses. sure.unrefused i at kept stands (carries at false refuses) }

  may_meet : (marked : Marked) (query : Query) (s : ℕ → Bool) → MayMeet answers rule marked query s → MayMeet others other marked query s
  may_meet marked query s may = record { serves = may.serves; allowed = λ i at kept stands. carries at true (may.allowed i at kept stands) }

-- the fact comes first, and tells the rule
pub picked_by : {F G : Type 0} {answers : RuleAnswers F} {rule : F} (held : List Text) (query : Query) (r : Result Picked WalletError) → IfOk r (IsPicked (MayMeet answers rule) held query) → (others : RuleAnswers G) (other : G)
    → ((at : Path) (b : Bool) → Allows answers rule at b → Allows others other at b) → IsDecided others other → IfOk r (IsPicked (Meets others other) held query)
picked_by held query (Ok choice) is others other carries decided =
    decided_meets others other query decided held choice
    (record { content = is.content; stands = is.stands; token = is.token; marked = is.marked; usable = is.usable; s = is.s; such = may_meet others other carries is.marked query is.s is.such; presents = is.presents })
picked_by held query (Err e) is others other carries decided = tt

pub fewest_by : {F G : Type 0} {answers : RuleAnswers F} {rule : F} (held : List Text) (query : Query) (r : Result Picked WalletError) → IfOk r (IsFewest answers rule held query) → (others : RuleAnswers G) (other : G)
    → ((at : Path) (b : Bool) → Allows answers rule at b → Allows others other at b) → IfOk r (IsFewest others other held query)
fewest_by held query (Ok choice) few others other carries = λ j content token marked s there usable sure. few j content token marked s there usable (cant_fail others other carries marked query s sure)
fewest_by held query (Err e) few others other carries = tt

pub none_by : {F G : Type 0} {answers : RuleAnswers F} {rule : F} (held : List Text) (query : Query) → HasNoAnswer answers rule held query → (others : RuleAnswers G) (other : G)
    → ((at : Path) (b : Bool) → Allows answers rule at b → Allows others other at b) → HasNoAnswer others other held query
none_by held query none others other carries j content token marked s there usable sure = none j content token marked s there usable (cant_fail others other carries marked query s sure)
