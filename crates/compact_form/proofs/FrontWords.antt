-- The word at the front of a text, and what stands behind it and the byte after it.
use Rattle.std.specs.Prelude.{ℕ, ◌+◌, List, take, drop}
use Rattle.std.specs.List.{prefix_len}
use Rattle.b64url_text.specs.Base64url.{is_letter}

abbrev pub word_len : List ℕ → ℕ
word_len text = prefix_len is_letter text

abbrev pub front_word : List ℕ → List ℕ
front_word text = take (word_len text) text

abbrev pub behind_word : List ℕ → List ℕ
behind_word text = drop (word_len text + 1) text
