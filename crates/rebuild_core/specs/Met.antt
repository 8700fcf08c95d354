-- For private functions: the met list by numbers, and why the disclosures alone are refused.
use Rattle.std.specs.Prelude.{ℕ, List, ◌++◌, Bool}
use Rattle.sd_outside.specs.Lists.{IsLeast}
use Rattle.digest_sites.specs.Given.{Given}
use Rattle.rebuild_core.specs.Conditions as fails
use Rattle.rebuild_core.specs.Graph.{roots_in, rows_in, flagged_rows}
use Rattle.rebuild_core.specs.declared.errors.ProcessError.{ProcessError}
use Rattle.rebuild_core.specs.declared.graph.Graph.{Graph}

-- the numbers of the payload, and then those of the values that are flagged
abbrev pub met_in : Graph → List Bool → List ℕ
met_in graph flags =
    roots_in graph.ends.items graph.numbers.items
    ++ flagged_rows flags (rows_in graph.ends.items graph.numbers.items)

-- memory ended, or a disclosure is given twice
abbrev pub IsGivenRefusal : List Given → ProcessError → Type 0
IsGivenRefusal given ProcessError.Memory = Unit {0}
IsGivenRefusal given (ProcessError.RepeatedDisclosure i) =
    IsLeast (fails.RepeatedDisclosure given) i
IsGivenRefusal given error = ⊥
