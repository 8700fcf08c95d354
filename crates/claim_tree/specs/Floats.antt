-- For private functions: numbers that are not whole.
use Rattle.std.specs.Prelude.{◌≡◌, ℤ, List, Bool, true, false, Option, Some, None, option_map, Result, Ok, Err}
use Rattle.std.specs.Ordering.{nat_cmp}
use Rattle.std.specs.Cmp.Lexicographic.{slice_cmp}
use Rattle.std.specs.BTreeSet.{insert_key}
use Rattle.std.specs.Set.{remove_key}
use Rattle.std.specs.BTreeMap.{is_at}
use Rattle.serde_json.specs.Data.{Num}
use Rattle.serde_json.specs.Find.{is_float, of_integer}
use Rattle.claim_tree.specs.Tree.{Text}
use Rattle.claim_tree.specs.declared.whole_number.NumberError.{NumberError}
use Rattle.claim_tree.specs.declared.whole_number.NumberError.TheVariants.{Float, TooGreat}

-- what is kept of what a number's text is read as
abbrev pub IsNumber : Option Num → Result ℤ NumberError → Type 0
IsNumber read (Ok z) = read ≡ Some (of_integer z)
IsNumber read (Err Float) = option_map is_float read ≡ Some true
IsNumber read (Err TooGreat) = read ≡ None

-- the names under which such a number stands, after the value under this name was read
abbrev pub noted : List Text → Text → Bool → List Text
noted names name true = insert_key (slice_cmp nat_cmp) names name
noted names name false = remove_key (is_at (slice_cmp nat_cmp name)) names
