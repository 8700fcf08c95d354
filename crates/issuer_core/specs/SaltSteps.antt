-- For private functions: how far the salts are made.
use Rattle.std.specs.Prelude.{◌≡◌, ℕ, ◌*◌, List}
use Rattle.rand_chacha.specs.ChaCha.{ChaCha, key_of}

-- for private functions: the generator stands before piece k of the seed's stream
abbrev pub IsBeforePiece : ChaCha → List ℕ → ℕ → Type 0
IsBeforePiece rng seed k = rng ≡ record { key = key_of seed; stream = 0; word_pos = 4 * k }
