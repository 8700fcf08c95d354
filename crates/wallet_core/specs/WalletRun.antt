-- What a run of the wallet answers, and does to the outside.
use Rattle.std.specs.Prelude.{◌≡◌, ◌<◌, ◌≤◌, ◌++◌, ℕ, List, ◌∷◌, length, Option, None, codes}
use Rattle.std.specs.Fmt.{decimal}
use Rattle.std.specs.List.{AllZip}
use Rattle.sd_outside.specs.Limits.{tokens_max}
use Rattle.sd_outside.specs.declared.status.Status.{Status}
use Rattle.cli_parts.specs.Lines.{line}
use Rattle.cli_parts.specs.Outside.{Outside}
use Rattle.cli_parts.specs.Replies.{Reply, Replies}
use Rattle.cli_parts.specs.Runs.{IsFetched, MissesWord, RunEnds}
use Rattle.cli_parts.specs.Telling.{TellsFileFault}
use Rattle.compact_form.specs.Compact.{compact}
use Rattle.refusals.specs.RefusedText.{refused_text}
use Rattle.refusals.specs.declared.refusal.Refusal.{Refusal}
use Rattle.selection_core.specs.Never.{never_rule}
use Rattle.wallet_core.specs.Meets.{Meets}
use Rattle.wallet_core.specs.Picked.{IsPicked, IsFewest, HasNoAnswer}
use Rattle.wallet_core.specs.QueryFile.{IsQueryFile, IsQueryFileRefused}
use Rattle.wallet_core.specs.declared.answering.Picked.{Picked}
use Rattle.wallet_core.specs.declared.query_file.QueryFile.{QueryFile}

-- ---- what is answered over the bytes of a query file and of the token files

-- the number of the credential that is picked, and the compact text of what it presents
abbrev pub picked_text : Picked → List ℕ
picked_text choice =
    line (codes "credential " ++ decimal choice.index) ++ line (compact choice.parts)

-- the credential with the fewest disclosures that answer the query, under the rule that shows no
-- place to which a path of `never` leads
pub record PicksFewest (query_file : List ℕ) (held : List (List ℕ)) (answer : List ℕ) : Type 0 where
  pub said : QueryFile
  pub is_query : IsQueryFile query_file said
  pub choice : Picked
  pub picked : IsPicked (Meets never_rule said.never) held said.query choice
  pub fewest : IsFewest never_rule said.never held said.query choice
  pub lines_are : answer ≡ picked_text choice

-- the line of the refusal
abbrev pub none_text : List ℕ
none_text = line (refused_text Refusal.NoCredentialAnswers None)

-- no credential answers the query
pub record PicksNone (query_file : List ℕ) (held : List (List ℕ)) (text : List ℕ) : Type 0 where
  pub said : QueryFile
  pub is_query : IsQueryFile query_file said
  pub none : HasNoAnswer never_rule said.never held said.query
  pub line_is : text ≡ none_text

-- or the query file is not of its form
abbrev pub WalletAnswers : List ℕ → List (List ℕ) → Reply → Type 0
WalletAnswers query_file held reply =
    Replies (PicksFewest query_file held) (PicksNone query_file held)
    (TellsFileFault (IsQueryFileRefused query_file)) reply

-- ---- over what the cabinet holds

-- the words of a wallet: `wallet`, the name of its query file, and those of 1 to 64 token files
pub record IsWallet (words : List (List ℕ)) (query : List ℕ) (tokens : List (List ℕ)) : Type 0 where
  pub words_are : words ≡ codes "wallet" ∷ query ∷ tokens
  pub some : 0 < length tokens
  pub within : length tokens ≤ tokens_max

-- the reply over the files with these names
pub record PicksFromFiles (holds : List ℕ → Option (List ℕ)) (query : List ℕ)
    (tokens : List (List ℕ)) (reply : Reply) : Type 0 where
  pub query_file : List ℕ
  pub held : List (List ℕ)
  pub fetched : IsFetched holds query query_file
  pub all_fetched : AllZip (IsFetched holds) tokens held
  pub answers : WalletAnswers query_file held reply

-- the words ask for a query file and token files, by their names
abbrev pub WalletEnds : List (List ℕ) → Outside → Outside → Status → Type 0
WalletEnds words before after status =
    RunEnds {Asked = List ℕ × List (List ℕ)} (λ names. IsWallet words names.0 names.1)
    (λ names reply. PicksFromFiles before.holds names.0 names.1 reply)
    (λ names word missed. MissesWord (names.0 ∷ names.1) word missed) before after status
