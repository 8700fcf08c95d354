-- Not needed to believe the program's promises: what an answer of processing
-- says, over the payload without its own `_sd_alg`.
use Rattle.std.specs.Prelude.{◌≡◌, ◌≤◌, List, Some}
use Rattle.sd_outside.specs.Limits.{json_depth_max}
use Rattle.claim_tree.specs.Tree.{Text, Tree, object, leaf, text, member_named, depth}
use Rattle.sd_outside.specs.Lists.{In, AtNone, IsLeast}
use Rattle.digest_sites.specs.Given.{Given}
use Rattle.rebuild_core.specs.Payload.{alg_name}
use Rattle.rebuild_core.specs.Conditions as fails
use Rattle.rebuild_core.specs.Soundness.{IsReferencedOnce, IsWellNamed}
use Rattle.rebuild_core.specs.declared.errors.ProcessError.{ProcessError}

-- an object whose `_sd_alg`, where it is there, is a text
abbrev pub IsPayload : Tree → Type 0
IsPayload (object ms) =
    (t : Tree) → member_named ms alg_name ≡ Some t → (s : Text) × (t ≡ leaf (text s))
IsPayload _ = ⊥

-- no value nests deeper than a tree that is read
abbrev pub ValuesShallow : List Given → Type 0
ValuesShallow given = (x : Given) → In x given → depth x.value ≤ json_depth_max

-- the lowest condition that fails, at its least place
abbrev pub IsProcessRefused : Tree → List Given → ProcessError → Type 0
IsProcessRefused p given ProcessError.Memory = Unit {0}
IsProcessRefused p given (ProcessError.RepeatedDisclosure i) =
    IsLeast (fails.RepeatedDisclosure given) i
IsProcessRefused p given (ProcessError.ReservedMisused i) =
    AtNone (fails.RepeatedDisclosure given) × IsLeast (fails.Misused p given) i
IsProcessRefused p given (ProcessError.RepeatedDigest place) =
    AtNone (fails.RepeatedDisclosure given) × AtNone (fails.Misused p given)
    × IsLeast (fails.RepeatedDigest p given) place
IsProcessRefused p given (ProcessError.Unreferenced i) =
    AtNone (fails.RepeatedDisclosure given) × AtNone (fails.Misused p given)
    × AtNone (fails.RepeatedDigest p given) × IsLeast (fails.Unreferenced p given) i
IsProcessRefused p given (ProcessError.WrongShape i) =
    IsReferencedOnce p given × IsLeast (fails.WrongShape p given) i
IsProcessRefused p given (ProcessError.ReservedName i) =
    IsReferencedOnce p given × AtNone (fails.WrongShape p given)
    × IsLeast (fails.ReservedName p given) i
IsProcessRefused p given (ProcessError.NameClash place) =
    IsReferencedOnce p given × AtNone (fails.WrongShape p given)
    × AtNone (fails.ReservedName p given) × IsLeast (fails.NameClash p given) place
IsProcessRefused p given ProcessError.TooDeep =
    IsReferencedOnce p given × IsWellNamed p given × fails.IsTooDeep p given
