-- The limits, as plain numbers. Each definition that has a limit cites it by its name here.
use Rattle.std.specs.Prelude.{ℕ}

-- the most bytes of a file
abbrev pub file_max : ℕ
file_max = 16777216

-- the most bytes of a compact text
abbrev pub compact_max : ℕ
compact_max = 8388608

-- the most bytes of a compact text that is issued: what is left holds a key binding token
abbrev pub issue_max : ℕ
issue_max = 8380416

-- the most disclosures of a token, and the most hidden places and decoys of an
-- order, in all and in one entry
abbrev pub count_max : ℕ
count_max = 32768

-- the deepest a payload nests
abbrev pub depth_max : ℕ
depth_max = 100

-- the most seconds by which the clocks of a policy may differ
abbrev pub skew_max : ℕ
skew_max = 3600

-- the most seconds of age that a policy may allow a key binding token
abbrev pub age_max : ℕ
age_max = 4294967295

-- the most bytes of an audience or a nonce
abbrev pub binding_text_max : ℕ
binding_text_max = 256

-- the most audiences of a policy
abbrev pub audiences_max : ℕ
audiences_max = 16

-- the fewest bytes of a key
abbrev pub key_min : ℕ
key_min = 32

-- the bytes of a seed
abbrev pub seed_len : ℕ
seed_len = 32

-- the deepest a JSON text nests
abbrev pub json_depth_max : ℕ
json_depth_max = 127

-- the most members of what `gen` issues
abbrev pub members_max : ℕ
members_max = 3000

-- the most bytes that a feed may be asked to take
abbrev pub feed_max : ℕ
feed_max = 1073741824

-- the most tokens that a wallet looks through
abbrev pub tokens_max : ℕ
tokens_max = 64
