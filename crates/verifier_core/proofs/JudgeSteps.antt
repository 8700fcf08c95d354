-- Where a caller checks the signatures: from what is read of a token to what is answered.
use Rattle.std.proofs.Common.{◌≡◌, ℕ, ◌<◌, List, Ok, Err, sym, subst, arith}
use Rattle.claim_tree.specs.View.{tree_of}
use Rattle.claim_tree.specs.declared.tree.Tree as owned
use Rattle.refusals.proofs.Numbers.{fault_is}
use Rattle.refusals.specs.Faults.{failed_of}
use Rattle.refusals.specs.Lowest.{IsLowest}
use Rattle.refusals.specs.declared.fault.Fault.{Fault}
use Rattle.disclosure.specs.declared.digests.HashAlg.{HashAlg}
use Rattle.json_form.specs.Token as file
use Rattle.json_form.specs.declared.token.Token.{Token}
use Rattle.marked_tree.specs.Marked.{Marked, strip}
use Rattle.verifier_core.specs.Asking.{IsNeededAt, IsAcceptedForAs, IsOpenedAs}
use Rattle.verifier_core.specs.AskingSteps.{demands_in, fails_in, WasAskedIn, IsAskedNextIn, IsTried}
use Rattle.verifier_core.specs.Check.{OnFault, IsOpened}
use Rattle.verifier_core.specs.Verdict.{Demands, FailsFor, TokenFails, IsAcceptedFor}
use Rattle.verifier_core.specs.declared.asking.Case.{Case}
use Rattle.verifier_core.specs.declared.token_checking.VerifyError.{VerifyError}
use Rattle.verifier_core.proofs.Asked.{file_numbers, signed_text, not_unsaid, said_good, needed_below, done_below}
use Rattle.verifier_core.proofs.TokenConditions.{token_numbers}
use Rattle.verifier_core.proofs.Verdicts.{file_lowest, token_lowest}

-- the fault of an error
pub at_fault : (error : VerifyError) (fault : Fault) (P : Fault → Type 0) → error ≡ VerifyError.Fault fault → OnFault error P → P fault
at_fault error fault P same h = subst (λ (e : VerifyError). OnFault e P) same h

-- ---- a text that is no token

module _ (text : List ℕ) (demands : Demands) (now : ℕ) (fault : Fault) (refused : file.IsTextRefused text fault) where
  pub text_lowest : IsLowest (FailsFor text demands now) fault
  text_lowest = file_lowest text demands now fault refused

  pub text_low : fault.number < 9
  text_low = let number = file_numbers text (failed_of fault) fault.place (subst (file.TextFails text) (fault_is fault) refused.applies) in omega (arith, number, fault.of_condition.1)

-- ---- a token whose content is read

module _ (k : Case) (token : Token) (hash : HashAlg) where
  -- it is not opened
  module _ (error : VerifyError) (fault : Fault) (at : error ≡ VerifyError.Fault fault) (tried : IsTried k.text.now (demands_in k) token hash (Err error)) where
    lowest : IsLowest (TokenFails token (demands_in k).rules) fault
    lowest = at_fault error fault (IsLowest (TokenFails token (demands_in k).rules)) at tried.refused

    pub unopened_low : fault.number < 27
    unopened_low = let numbers = token_numbers token (demands_in k).rules (failed_of fault) fault.place lowest.fails in omega (arith, numbers.1, fault.of_condition.1)

    pub unopened_lowest : IsLowest (fails_in k) fault
    unopened_lowest = token_lowest k.text.now (demands_in k) k.now token tried.is_token tried.sent fault lowest

    pub unopened_needed : IsNeededAt k.answers fault.number → WasAskedIn k
    unopened_needed = needed_below k.text.now (demands_in k) k.now fault unopened_lowest token tried.is_token k.answers (signed_text k.policy.now k.binding_algs.now k.answers token tried.signed) unopened_low

    pub unopened_done : IsAskedNextIn k → ⊥
    unopened_done = done_below k.text.now (demands_in k) k.now fault unopened_lowest k.answers (said_good k.answers (not_unsaid k.policy.now k.binding_algs.now k.answers token tried.signed)) unopened_low

  -- it is opened
  module _ (payload : owned.Tree) (tried : IsTried k.text.now (demands_in k) token hash (Ok payload)) (demands : Demands) (same : demands ≡ demands_in k) where
    opened : IsOpened k.text.now (demands_in k) token tried.checked.0 hash
    opened = record { is_token = tried.is_token; sent = tried.sent; checked = tried.checked.1; hash_is = tried.hash_is }

    -- what is shown under demands that are those of the case is shown under these
    shown : (P : Demands → Marked → Type 0) → ((marked : Marked) → IsOpened k.text.now demands token marked hash → tree_of payload ≡ strip marked → P demands marked) → P (demands_in k) tried.checked.0
    shown P so =
        let here = subst (λ (d : Demands). IsOpened k.text.now d token tried.checked.0 hash) (sym same) opened in
        subst (λ (d : Demands). P d tried.checked.0) same (so tried.checked.0 here tried.checked.2)

    pub shown_accepted : ((t : List ℕ) (marked : Marked) → IsOpened t demands token marked hash → tree_of payload ≡ strip marked → IsAcceptedFor t demands k.now marked) → IsAcceptedForAs k.text.now (demands_in k) k.now (tree_of payload)
    shown_accepted accepts = (tried.checked.0, shown (λ d marked. IsAcceptedFor k.text.now d k.now marked) (accepts k.text.now), tried.checked.2)

    pub shown_lowest : (error : VerifyError) (fault : Fault) → error ≡ VerifyError.Fault fault
        → ((t : List ℕ) (marked : Marked) → IsOpened t demands token marked hash → tree_of payload ≡ strip marked → OnFault error (IsLowest (FailsFor t demands k.now)))
        → IsLowest (fails_in k) fault
    shown_lowest error fault at refuses =
        at_fault error fault (IsLowest (fails_in k)) at (shown (λ d marked. OnFault error (IsLowest (FailsFor k.text.now d k.now))) (refuses k.text.now))

    pub shown_opened : IsOpenedAs token (tree_of payload)
    shown_opened = (tried.checked.0, tried.checked.1.opens, tried.checked.2)
