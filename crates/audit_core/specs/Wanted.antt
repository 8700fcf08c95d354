-- For private functions: where an order wants its decoys, as texts.
use Rattle.std.specs.Prelude.{ℕ, zero, suc, ◌+◌, List, [], ◌∷◌, ◌++◌, decimal, Option, Some, unwrap_or, replicate}
use Rattle.std.specs.Ordering.{nat_cmp}
use Rattle.std.specs.Cmp.Lexicographic.{slice_cmp}
use Rattle.std.specs.BTreeMap.{BTreeMap, get}
use Rattle.claim_tree.specs.Tree.{Text, Tree, array, object, elements_len}
use Rattle.digest_sites.specs.declared.site.SiteKind.TheVariants.{Member, Element}
use Rattle.marked_tree.specs.Paths.{Path}
use Rattle.audit_core.specs.Audited.{standing}
use Rattle.audit_core.specs.AuditSteps.{standing_text}

-- how many decoys the place with the pointer has
abbrev pub count_at : BTreeMap Text ℕ → Text → ℕ
count_at counts pointer = unwrap_or (get (slice_cmp nat_cmp) counts pointer) 0

abbrev pub member_texts : Path → ℕ → List Text
member_texts at count = replicate count (standing_text (standing Member at))

-- those of a list, from this position on
abbrev pub element_texts : Path → ℕ → ℕ → List Text
element_texts at first zero = []
element_texts at first (suc count) =
    standing_text (standing Element (at ++ decimal first ∷ [])) ∷ element_texts at (suc first) count

-- so many at a place, which has so many earlier ones
abbrev pub entry_texts : Path → ℕ → ℕ → Option Tree → List Text
entry_texts at before count (Some (object ms)) = member_texts at count
entry_texts at before count (Some (array es)) = element_texts at (elements_len es + before) count
entry_texts at before count _ = []
