-- For private functions and callers of `decode_into`: how much room a decoded text takes.
use Rattle.std.specs.Prelude.{ℕ, ◌+◌, ◌*◌, ◌/◌}

-- three bytes for each group of four letters, a last group that is not whole counted as one
abbrev pub room_for : ℕ → ℕ
room_for len = (len + 3) / 4 * 3
