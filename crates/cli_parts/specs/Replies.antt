-- What a command answers over its files.
use Rattle.std.specs.Prelude.{ℕ, List}

-- the bytes for standard output, or the line of a refusal, or that of a file
-- that is not of its form
pub data Reply : Type 0 where
  gives : (answer : List ℕ) → Reply
  refuses : (text : List ℕ) → Reply
  unreadable : (text : List ℕ) → Reply

-- what is so of each kind of reply
abbrev pub Replies : (List ℕ → Type 0) → (List ℕ → Type 0) → (List ℕ → Type 0) → Reply → Type 0
Replies Gives Refuses Unreadable (gives answer) = Gives answer
Replies Gives Refuses Unreadable (refuses text) = Refuses text
Replies Gives Refuses Unreadable (unreadable text) = Unreadable text
