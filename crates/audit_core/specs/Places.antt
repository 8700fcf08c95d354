-- For private functions: the sites of values whose digests are not known, each value at the node
-- with its mark, as they are listed on a walk of the claims.
use Rattle.std.specs.Prelude.{ℕ, suc, List, [], ◌∷◌, ◌++◌, Bool, Option, Some, None, decimal, slice_get}
use Rattle.claim_tree.specs.Tree.{Text}
use Rattle.digest_sites.specs.Given.{Given}
use Rattle.digest_sites.specs.declared.site.Site.{Site}
use Rattle.marked_tree.specs.Marked.{Marked, marked_leaf, marked_array, marked_object, MarkedElements, no_marked_elements, marked_element, MarkedMembers, no_marked_members, marked_member}
use Rattle.marked_tree.specs.Paths.{Path}
use Rattle.audit_core.specs.Strange.{strange_at}

-- nothing is inside
abbrev pub IsBare : Marked → Type 0
IsBare (marked_leaf l) = Unit {0}
IsBare (marked_array es) = ⊥
IsBare (marked_object ms) = ⊥

abbrev pub given_at : (Text → Bool) → Path → Option Given → List Site
given_at known at None = []
given_at known at (Some x) = strange_at known at x.value

-- of the value with this number
abbrev pub value_at : (Text → Bool) → List Given → Path → Option ℕ → List Site
value_at known given at None = []
value_at known given at (Some i) = given_at known at (slice_get given i)

-- of the values at the marked nodes, each behind those inside it
abbrev mutual
  pub values_at : (Text → Bool) → List Given → Path → Marked → List Site
  values_at known given at (marked_leaf l) = []
  values_at known given at (marked_array es) = elements_values known given at 0 es
  values_at known given at (marked_object ms) = members_values known given at ms

  -- the first element has the position n
  pub elements_values : (Text → Bool) → List Given → Path → ℕ → MarkedElements → List Site
  elements_values known given at n no_marked_elements = []
  elements_values known given at n (marked_element i t es) =
      (values_at known given (at ++ decimal n ∷ []) t
      ++ value_at known given (at ++ decimal n ∷ []) i)
      ++ elements_values known given at (suc n) es

  pub members_values : (Text → Bool) → List Given → Path → MarkedMembers → List Site
  members_values known given at no_marked_members = []
  members_values known given at (marked_member k i t ms) =
      (values_at known given (at ++ k ∷ []) t ++ value_at known given (at ++ k ∷ []) i)
      ++ members_values known given at ms
