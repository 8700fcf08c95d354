-- The refusals of an order: what each says of it, and the lowest that applies.
use Rattle.std.specs.Prelude.{◌≡◌, ℕ, ◌<◌, ◌≤◌, List, [], ◌∷◌, length, Option, Some, None, codes, slice_get}
use Rattle.std.specs.Set.{distinct_count}
use Rattle.claim_tree.specs.Tree.{Text, Tree, depth}
use Rattle.sd_outside.specs.Lists.{IsSuchAt, In}
use Rattle.claim_tree.specs.Path.{tree_at}
use Rattle.sd_outside.specs.Limits.{count_max, depth_max}
use Rattle.refusals.specs.declared.refusal.Refusal.{Refusal}
use Rattle.refusals.specs.Refusal.{refusal_number}
use Rattle.marked_tree.specs.Paths.{Path, same_path}
use Rattle.issuer_core.specs.declared.order.Decoy.{Decoy}
use Rattle.issuer_core.specs.declared.errors.IssueError.{IssueError}
use Rattle.issuer_core.specs.declared.errors.IssueError.TheVariants.{Memory, SignFailed, PayloadNotObject, ReservedName, TooDeep, RootMarked, NoSuchPlace, ProtectedClaim, DecoyPlace, TooManyHidden, TooManyDecoys, DigestClash, TooLong}
use Rattle.issuer_core.specs.Order.{Order}
use Rattle.issuer_core.specs.Decoys.{decoys_of}
use Rattle.issuer_core.specs.GoodOrder.{IsObject, HoldsOthers}
use Rattle.issuer_core.specs.ReservedPaths.{reserved_paths}

abbrev pub IsRoot : Path → Type 0
IsRoot path = path ≡ []

-- the path leads nowhere in the payload
abbrev pub IsNowhere : Tree → Path → Type 0
IsNowhere claims path = tree_at claims path ≡ None

-- the claims that a verifier cannot do without (RFC 9901 section 9.7)
abbrev pub protected_names : List Text
protected_names = codes "iss" ∷ codes "aud" ∷ codes "exp" ∷ codes "nbf" ∷ codes "cnf" ∷ []

-- the path begins with such a claim
abbrev pub IsProtected : Path → Type 0
IsProtected [] = ⊥
IsProtected (name ∷ path) = In name protected_names

-- the place of the entry is no object and no list of the payload
abbrev pub IsMisplaced : Tree → Decoy → Type 0
IsMisplaced claims entry = HoldsOthers (tree_at claims entry.at) → ⊥

-- what each refusal says of an order, and of a refusal with a place what it says of this place
abbrev pub AppliesToOrder : Order → IssueError → Type 0
AppliesToOrder o PayloadNotObject = IsObject o.payload → ⊥
AppliesToOrder o (ReservedName path) = slice_get (reserved_paths o.payload) 0 ≡ Some path
AppliesToOrder o TooDeep = depth_max < depth o.payload
AppliesToOrder o (RootMarked k) = IsSuchAt IsRoot o.hide k
AppliesToOrder o (NoSuchPlace k) = IsSuchAt (IsNowhere o.payload) o.hide k
AppliesToOrder o (ProtectedClaim k) = IsSuchAt IsProtected o.hide k
AppliesToOrder o (DecoyPlace k) = IsSuchAt (IsMisplaced o.payload) o.decoys k
AppliesToOrder o TooManyHidden = count_max < distinct_count same_path o.hide
AppliesToOrder o TooManyDecoys = count_max < length (decoys_of o)
AppliesToOrder o _ = ⊥

-- the refusal that the error is, where it is one
abbrev pub refusal_of : IssueError → Option Refusal
refusal_of Memory = None
refusal_of SignFailed = None
refusal_of PayloadNotObject = Some Refusal.PayloadNotObject
refusal_of (ReservedName path) = Some Refusal.ReservedInPayload
refusal_of TooDeep = Some Refusal.PayloadTooDeep
refusal_of (RootMarked k) = Some Refusal.RootMarked
refusal_of (NoSuchPlace k) = Some Refusal.NoSuchPlace
refusal_of (ProtectedClaim k) = Some Refusal.ProtectedClaim
refusal_of (DecoyPlace k) = Some Refusal.DecoyPlace
refusal_of TooManyHidden = Some Refusal.TooManyHidden
refusal_of TooManyDecoys = Some Refusal.TooManyDecoys
refusal_of (DigestClash i j) = Some Refusal.DigestClash
refusal_of TooLong = Some Refusal.IssueTooLong

-- its number; what is no refusal has none
abbrev pub number_in : Option Refusal → ℕ
number_in None = 0
number_in (Some refusal) = refusal_number refusal

abbrev pub issue_number : IssueError → ℕ
issue_number error = number_in (refusal_of error)

-- the place among those of one number; a refusal with one place at most has none
abbrev pub refusal_place : IssueError → ℕ
refusal_place (RootMarked k) = k
refusal_place (NoSuchPlace k) = k
refusal_place (ProtectedClaim k) = k
refusal_place (DecoyPlace k) = k
refusal_place _ = 0

-- the refusal applies, none with a lower number does, and none with this number at a lower place
pub record IsLowestRefusal (Applies : IssueError → Type 0) (error : IssueError) : Type 0 where
  pub applies : Applies error
  pub lowest : (other : IssueError) → Applies other → issue_number error ≤ issue_number other
  pub first : (other : IssueError) → Applies other → issue_number other ≡ issue_number error
      → refusal_place error ≤ refusal_place other
