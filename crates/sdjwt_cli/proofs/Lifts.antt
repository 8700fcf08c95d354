-- From the answer over files to that of the command that fetched them.
use Rattle.std.proofs.Common.{◌≡◌, ℕ, List, [], ◌∷◌, Option, Result, String, Global, IfOk, IfErr, IfSome, take, string_bytes, sym}
use Rattle.cli_parts.specs.Replies.{gives, refuses, unreadable}
use Rattle.cli_parts.specs.Stops.{IsReply, OnRefused, OnUnreadable}
use Rattle.cli_parts.specs.declared.stop.Stop.{Stop}
use Rattle.cli_parts.proofs.Finished.{replied, reply_more}
use Rattle.sdjwt_cli.specs.Command.{Command, NamedFile, files_of}
use Rattle.sdjwt_cli.specs.Answers.{Answers, AreFetched, IsAnswered}

-- the bytes are what a fetch answers of a file, where the cabinet tells it
abbrev pub IsFetched : (List ℕ → Option (List ℕ)) → NamedFile → List ℕ → Type 0
IsFetched holds wanted bytes = IfSome (holds wanted.name) (λ content. bytes ≡ take wanted.most content)

module _ (holds : List ℕ → Option (List ℕ)) (command : Command) where
  -- what is answered over the files that were fetched is what the command answers
  pub lifted : (files : List (List ℕ)) (now : ℕ) (answer : Result (String Global) Stop) → AreFetched holds command files → IfOk answer (λ text. Answers command files now (gives (string_bytes text)))
      → IfErr answer (λ stop. OnRefused stop (λ text. Answers command files now (refuses text))) → IfErr answer (λ stop. OnUnreadable stop (λ text. Answers command files now (unreadable text)))
      → IsReply (IsAnswered holds command now) answer
  lifted files now answer fetched ok refusal unfit =
      let is = replied (Answers command files now) answer ok refusal unfit in
      reply_more (Answers command files now) (IsAnswered holds command now) (λ reply h. record { files = files; fetched = fetched; answers = h }) answer is

  -- of a command with one file: its bytes are those of the box that was fetched
  pub lifted_one : {wanted : NamedFile} {file bytes : List ℕ} (now : ℕ) (answer : Result (String Global) Stop) → files_of command ≡ wanted ∷ [] → IsFetched holds wanted file → bytes ≡ file
      → IfOk answer (λ text. Answers command (bytes ∷ []) now (gives (string_bytes text))) → IfErr answer (λ stop. OnRefused stop (λ text. Answers command (bytes ∷ []) now (refuses text)))
      → IfErr answer (λ stop. OnUnreadable stop (λ text. Answers command (bytes ∷ []) now (unreadable text))) → IsReply (IsAnswered holds command now) answer
  lifted_one {bytes = bytes} now answer files_are fetched same = lifted (bytes ∷ []) now answer (rw (files_are, same) (fetched, tt))

  -- of one with two files: the second was fetched when the cabinet held what it holds later, the same under its name
  pub lifted_two : {wanted other : NamedFile} {file second bytes more : List ℕ} (later : List ℕ → Option (List ℕ)) (now : ℕ) (answer : Result (String Global) Stop) → files_of command ≡ wanted ∷ other ∷ []
      → IsFetched holds wanted file → IsFetched later other second → later other.name ≡ holds other.name → bytes ≡ file → more ≡ second
      → IfOk answer (λ text. Answers command (bytes ∷ more ∷ []) now (gives (string_bytes text))) → IfErr answer (λ stop. OnRefused stop (λ text. Answers command (bytes ∷ more ∷ []) now (refuses text)))
      → IfErr answer (λ stop. OnUnreadable stop (λ text. Answers command (bytes ∷ more ∷ []) now (unreadable text))) → IsReply (IsAnswered holds command now) answer
  lifted_two {bytes = bytes} {more = more} later now answer files_are fetched after kept same also =
      lifted (bytes ∷ more ∷ []) now answer (rw (files_are, same, also, sym kept) (fetched, (after, tt)))
