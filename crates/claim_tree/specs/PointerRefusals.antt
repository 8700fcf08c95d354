-- Not needed to believe the program's promises: why a text is no pointer.
use Rattle.std.specs.Prelude.{◌≡◌, ◌≢◌, nat_eq, false, [], ◌++◌, codes}
use Rattle.claim_tree.specs.Tree.{Text}
use Rattle.std.specs.List.{starts_with}
use Rattle.std.specs.Str.Iter.{LacksByte}

-- the text begins with neither `0` nor `1`, which end an escape
pub record EndsNoEscape (text : Text) : Type 0 where
  pub no_zero : starts_with nat_eq text (codes "0") ≡ false
  pub no_one : starts_with nat_eq text (codes "1") ≡ false

-- a `~` stands in the text with neither behind it
pub record HasLoneTilde (text : Text) : Type 0 where
  pub front : Text
  pub rest : Text
  pub stands : text ≡ front ++ (codes "~" ++ rest)
  pub alone : EndsNoEscape rest

-- the text begins with another byte than `/`, or has a lone `~`
pub data IsNoPointer (text : Text) : Type 0 where
  no_slash : text ≢ [] → starts_with nat_eq text (codes "/") ≡ false → IsNoPointer text
  lone_tilde : HasLoneTilde text → IsNoPointer text

-- for private functions: the text has no `/`
abbrev pub HasNoSlash : Text → Type 0
HasNoSlash text = LacksByte 47 text
