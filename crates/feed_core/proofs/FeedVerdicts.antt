-- A line has one verdict, and lines that are too long have the same.
use Rattle.std.proofs.Common.{◌≡◌, ◌++◌, ℕ, ◌<◌, List, length, refl, sym, ap, ◌∙◌, Result, Ok, Err, OnOk}
use Rattle.std.specs.Prelude.{codes}
use Rattle.sd_outside.specs.Limits.{file_max}
use Rattle.claim_tree.specs.JsonText.{json_text}
use Rattle.refusals.specs.declared.condition.Condition.{Condition}
use Rattle.refusals.specs.declared.fault.Fault.{Fault}
use Rattle.refusals.specs.Faults.{unplaced}
use Rattle.refusals.specs.Lowest.{IsLowest}
use Rattle.json_form.proofs.Tokens.{refused_long}
use Rattle.claim_tree.specs.Tree.{Tree}
use Rattle.marked_tree.specs.Marked.{Marked, strip}
use Rattle.verifier_core.specs.declared.policy.Policy.{Policy}
use Rattle.refusals.specs.RefusedText.{fault_text}
use Rattle.verifier_core.specs.Verdict.{Fails, demands_of}
use Rattle.verifier_core.specs.Verdicts.{IsAcceptedAs}
use Rattle.verifier_core.proofs.Verdicts.{file_lowest}
use Rattle.verifier_core.proofs.OneVerdict.{accepted_not_refused, one_accepted, one_lowest}
use Rattle.cli_parts.specs.Lines.{line}
use Rattle.feed_core.specs.FeedVerdict.{TellsVerdict, accepts, refuses}

told : Marked → List ℕ
told marked = codes "accepted " ++ json_text (strip marked)

pub one_verdict_text : (policy : Policy) (now : ℕ) (token text other : List ℕ) → TellsVerdict policy now token text → TellsVerdict policy now token other → text ≡ other
unfolding told
one_verdict_text policy now token text other (accepts m a e) (accepts n b f) = e ∙ ap told (one_accepted token (demands_of policy) now m n a b) ∙ sym f
one_verdict_text policy now token text other (accepts m a e) (refuses fault l f) = absurd (accepted_not_refused token (demands_of policy) now m fault a l)
one_verdict_text policy now token text other (refuses fault l e) (accepts n b f) = absurd (accepted_not_refused token (demands_of policy) now n fault b l)
one_verdict_text policy now token text other (refuses fault l e) (refuses another m f) = e ∙ ap fault_text (one_lowest token (demands_of policy) now fault another l m) ∙ sym f

too_long : (policy : Policy) (now : ℕ) (token : List ℕ) → file_max < length token → IsLowest (Fails token policy now) (unplaced Condition.TooLong)
too_long policy now token long = file_lowest token (demands_of policy) now (unplaced Condition.TooLong) (refused_long token (unplaced Condition.TooLong) refl long)

pub long_alike : (policy : Policy) (now : ℕ) (token other text : List ℕ) → file_max < length token → file_max < length other → TellsVerdict policy now token text → TellsVerdict policy now other text
long_alike policy now token other text long more (accepts m a e) = absurd (accepted_not_refused token (demands_of policy) now m (unplaced Condition.TooLong) a (too_long policy now token long))
long_alike policy now token other text long more (refuses fault l e) =
    refuses (unplaced Condition.TooLong) (too_long policy now other more) (e ∙ ap fault_text (one_lowest token (demands_of policy) now fault (unplaced Condition.TooLong) l (too_long policy now token long)))

-- ---- the line of a verdict, behind what is held

pub line_accepted : {T E : Type 0} (policy : Policy) (now : ℕ) (token : List ℕ) (payload : Tree) → IsAcceptedAs token policy now payload → (r : Result T E) (old new : List ℕ)
    → OnOk r (new ≡ old ++ line (codes "accepted " ++ json_text payload)) → OnOk r ((verdict : List ℕ) × TellsVerdict policy now token verdict × (new ≡ old ++ line verdict))
line_accepted policy now token payload accepted (Ok done) old new is =
    (codes "accepted " ++ json_text payload, accepts accepted.0 accepted.1 (ap (λ (t : Tree). codes "accepted " ++ json_text t) accepted.2), is)
line_accepted policy now token payload accepted (Err e) old new is = tt

pub line_refused : {T E : Type 0} (policy : Policy) (now : ℕ) (token : List ℕ) (fault : Fault) → IsLowest (Fails token policy now) fault → (r : Result T E) (old new : List ℕ)
    → OnOk r (new ≡ old ++ line (fault_text fault)) → OnOk r ((verdict : List ℕ) × TellsVerdict policy now token verdict × (new ≡ old ++ line verdict))
line_refused policy now token fault lowest (Ok done) old new is = (fault_text fault, refuses fault lowest refl, is)
line_refused policy now token fault lowest (Err e) old new is = tt
