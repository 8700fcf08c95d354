-- A wallet has one answer over its files, and a run of it that nothing stops writes it.
use Rattle.std.proofs.Common.{◌≡◌, ◌⊎◌, ℕ, ◌+◌, List, ◌∷◌, Option, ap, ◌∙◌, sym, subst, codes}
use Rattle.std.specs.List.{AllZip}
use Rattle.std.specs.Io.KnownBytes.{Appends}
use Rattle.sd_outside.specs.Causes.{Rose}
use Rattle.sd_outside.specs.Limits.{file_max}
use Rattle.sd_outside.specs.declared.status.Status.{Status}
use Rattle.sd_outside.specs.declared.status.Status.TheVariants.{Done, Memory}
use Rattle.cli_parts.specs.Outside.{Outside}
use Rattle.cli_parts.specs.Replies.{Reply, gives}
use Rattle.cli_parts.specs.Runs.{IsFetched, MissesWord}
use Rattle.cli_parts.specs.Told.{IsFileTold}
use Rattle.cli_parts.proofs.CompletedRuns.{told_as_fetched, all_as_fetched, run_completes}
use Rattle.cli_parts.proofs.OneReply.{one_reply_of_file}
use Rattle.selection_core.specs.Never.{never_rule}
use Rattle.wallet_core.specs.Meets.{Meets}
use Rattle.wallet_core.specs.Picked.{IsPicked, IsFewest}
use Rattle.wallet_core.specs.QueryFile.{IsQueryFile, IsQueryFileRefused}
use Rattle.wallet_core.specs.WalletRun.{picked_text, PicksFewest, PicksNone, WalletAnswers, IsWallet, PicksFromFiles, WalletEnds}
use Rattle.wallet_core.specs.declared.query_file.QueryFile.{QueryFile}
use Rattle.wallet_core.proofs.OneQuery as queries
use Rattle.wallet_core.proofs.OnePick.{one_pick, picked_not_none}

-- ---- over the bytes of its files

module _ (query_file : List ℕ) (held : List (List ℕ)) where
  pick_alone : (a b : List ℕ) → PicksFewest query_file held a → PicksFewest query_file held b → a ≡ b
  pick_alone a b g h =
      let same : g.said ≡ h.said = queries.one_query query_file g.said h.said g.is_query h.is_query in
      let is = subst (λ (said : QueryFile). IsPicked (Meets never_rule said.never) held said.query g.choice) same g.picked in
      let fewest = subst (λ (said : QueryFile). IsFewest never_rule said.never held said.query g.choice) same g.fewest in
      let choice = one_pick never_rule h.said.never h.said.query held g.choice h.choice is h.picked fewest h.fewest in
      g.lines_are ∙ (ap picked_text choice ∙ sym h.lines_are)

  none_alone : (a b : List ℕ) → PicksNone query_file held a → PicksNone query_file held b → a ≡ b
  none_alone a b g h = g.line_is ∙ sym h.line_is

  pick_not_none : (a b : List ℕ) → PicksFewest query_file held a → PicksNone query_file held b → ⊥
  pick_not_none a b g h =
      let same : g.said ≡ h.said = queries.one_query query_file g.said h.said g.is_query h.is_query in
      let is = subst (λ (said : QueryFile). IsPicked (Meets never_rule said.never) held said.query g.choice) same g.picked in
      picked_not_none never_rule h.said.never h.said.query held g.choice is h.none

  pub one_answer : (v w : Reply) → WalletAnswers query_file held v → WalletAnswers query_file held w → v ≡ w
  one_answer =
      one_reply_of_file (IsQueryFile query_file) (IsQueryFileRefused query_file) (queries.one_fault query_file) (queries.not_both query_file) (PicksFewest query_file held) (PicksNone query_file held)
      (λ a g. (g.said, g.is_query)) (λ a g. (g.said, g.is_query)) pick_alone none_alone pick_not_none

-- ---- over what the cabinet tells

module _ (holds : List ℕ → Option (List ℕ)) (query : List ℕ) (tokens : List (List ℕ)) (query_file : List ℕ) (held : List (List ℕ)) (query_told : IsFileTold holds query query_file) (tokens_told : AllZip (IsFileTold holds) tokens held)
    (answer : List ℕ) (good : WalletAnswers query_file held (gives answer)) where
  told_alone : (reply : Reply) → PicksFromFiles holds query tokens reply → gives answer ≡ reply
  told_alone reply h =
      let one = λ (name : List ℕ). told_as_fetched (holds name) (file_max + 1) in
      let query_same : query_file ≡ h.query_file = one query query_file h.query_file query_told h.fetched in
      let held_same : held ≡ h.held = all_as_fetched (IsFileTold holds) (IsFetched holds) one tokens held h.held tokens_told h.all_fetched in
      let answers = subst (λ (files : List (List ℕ)). WalletAnswers query_file files reply) (sym held_same) (subst (λ (file : List ℕ). WalletAnswers file h.held reply) (sym query_same) h.answers) in
      one_answer query_file held (gives answer) reply good answers

  -- the words name one query file and one list of token files
  pub named_alone : (words : List (List ℕ)) → IsWallet words query tokens → (names : List ℕ × List (List ℕ)) (reply : Reply) → IsWallet words names.0 names.1 → PicksFromFiles holds names.0 names.1 reply → gives answer ≡ reply
  named_alone words named names reply also h =
      let both : codes "wallet" ∷ names.0 ∷ names.1 ≡ codes "wallet" ∷ query ∷ tokens = sym also.words_are ∙ named.words_are in
      let first : names.0 ≡ query = cc both in
      let others : names.1 ≡ tokens = cc both in
      told_alone reply (subst (λ (files : List (List ℕ)). PicksFromFiles holds query files reply) others (subst (λ (name : List ℕ). PicksFromFiles holds name names.1 reply) first h))

pub completes : (words : List (List ℕ)) (before after : Outside) (status : Status) (query : List ℕ) (tokens : List (List ℕ)) (query_file : List ℕ) (held : List (List ℕ)) (answer : List ℕ)
    → IsWallet words query tokens → IsFileTold before.holds query query_file → AllZip (IsFileTold before.holds) tokens held → WalletAnswers query_file held (gives answer)
    → (Rose before.faults after.faults → ⊥) → (Rose before.out.faults after.out.faults → ⊥) → WalletEnds words before after status
    → ((status ≡ Done) × Appends before.out.written after.out.written answer) ⊎ (status ≡ Memory)
completes words before after status query tokens query_file held answer named query_told tokens_told good read written ends =
    run_completes {Asked = List ℕ × List (List ℕ)} (λ names. IsWallet words names.0 names.1) (λ names reply. PicksFromFiles before.holds names.0 names.1 reply) (λ names word missed. MissesWord (names.0 ∷ names.1) word missed) before after (query, tokens) named
    answer (named_alone before.holds query tokens query_file held query_told tokens_told answer good words named) read written status ends
