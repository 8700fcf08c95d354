-- Not needed to believe the program's promises: what contracts see of the
-- cabinet, the sink and the source in memory.
use Rattle.std.specs.Prelude.{◌≡◌, ◌==◌, ◌<◌, ◌+◌, ◌-◌, ◌^◌, ◌++◌, min, ℕ, length, take, slice_index_or, IsTrue, List, [], ◌∷◌, Option, None, Some, bytes_eq, if◌then◌else◌}
use Rattle.std.specs.List.{list_any}

-- names, each with the content under it
abbrev pub Files : Type 0
Files = List (List ℕ × List ℕ)

-- the content under a name, where there is one
abbrev pub content_of : Files → List ℕ → Option (List ℕ)
content_of [] name = None
content_of (file ∷ files) name = if bytes_eq file.0 name then Some file.1 else content_of files name

-- one more fault or call, short of the last value of a `u64`
abbrev pub one_more : ℕ → ℕ
one_more count = min (count + 1) (2 ^ 64 - 1)

-- how many calls an object got, and the numbers of those that are to fail
pub record Calls : Type 0 where
  pub made : ℕ
  pub failing : List ℕ

abbrev pub no_calls : Calls
no_calls = record { made = 0; failing = [] }

-- the next call is to fail
abbrev pub IsToFail : Calls → Type 0
IsToFail calls = IsTrue (list_any (λ call. call == calls.made) calls.failing)

abbrev pub after_call : Calls → Calls
after_call calls = record { made = one_more calls.made; failing = calls.failing }

-- the call of this number is to fail, too
abbrev pub failing_at : Calls → ℕ → Calls
failing_at calls call = record { made = calls.made; failing = calls.failing ++ call ∷ [] }

pub record CabinetState : Type 0 where
  pub files : Files
  pub faults : ℕ
  pub missed : Option (List ℕ)
  pub calls : Calls

-- what was written, the most bytes that the sink takes in all, its faults, and its calls
pub record SinkState : Type 0 where
  pub bytes : List ℕ
  pub room : ℕ
  pub faults : ℕ
  pub calls : Calls

-- what is left, how many bytes were given, the most that one pull gives, its faults, and its calls
pub record SourceState : Type 0 where
  pub left : List ℕ
  pub taken : ℕ
  pub step : ℕ
  pub faults : ℕ
  pub calls : Calls

-- for private functions: the first file of this name stands at i
pub record IsPositionOf (files : Files) (name : List ℕ) (i : ℕ) : Type 0 where
  pub within : i < length files
  pub none_before : content_of (take i files) name ≡ None
  pub named : (d : List ℕ × List ℕ) → (slice_index_or files i d).0 ≡ name
