-- For private functions: what is shown, how deep it is, and what is left of the disclosures.
use Rattle.std.specs.Prelude.{◌≡◌, ℕ, ◌+◌, ◌<◌, ◌≤◌, ◌^◌, max, List, [], ◌∷◌, length, drop, Bool, true, false, Option, Some, None, not, ◌&&◌, bytes_eq, if◌then◌else◌}
use Rattle.claim_tree.specs.Tree.{Text, Tree, leaf, array, object, Elements, no_elements, element, Members, no_members, member, depth}
use Rattle.sd_outside.specs.Lists.{StandsAt, In}
use Rattle.claim_tree.specs.Removed.{removed}
use Rattle.digest_sites.specs.Reserved.{sd_name, sd_texts, element_digest}
use Rattle.digest_sites.specs.Given.{Given}
use Rattle.marked_tree.specs.Marked.{Marked, marked_object, strip, MarkedMembers, no_marked_members, marked_member}
use Rattle.marked_tree.specs.MarkedCalls.{marked_names, put_all}
use Rattle.marked_tree.specs.View.{marked_of, marked_members_of}
use Rattle.marked_tree.specs.Ways.{weight, only}
use Rattle.rebuild_core.specs.Payload.{alg_name}
use Rattle.rebuild_core.specs.Opening.{Shown, nothing_shown, shown, show_member, reveal, open_tree, open_members}
use Rattle.rebuild_core.specs.Cursor.{tree_digests, TellFirst, TellEach}
use Rattle.rebuild_core.specs.declared.errors.ProcessError.{ProcessError}
use Rattle.rebuild_core.specs.declared.graph.Graph.{Graph}
use Rattle.rebuild_core.specs.declared.shown.OpenedMembers.{OpenedMembers}
use Rattle.rebuild_core.specs.declared.shown.Revealed.{Revealed}

-- what a digest shows, as the code has it
abbrev pub shown_of : Option Revealed → Shown
shown_of None = nothing_shown
shown_of (Some r) = shown r.mark r.name (marked_of r.tree)

-- what each digest shows, without fuel
abbrev pub settled : List Given → Text → Shown
settled given digest = reveal (length given) given digest

-- ---- lists

-- what a digest shows, before these members
abbrev pub shown_member : Shown → MarkedMembers → MarkedMembers
shown_member nothing_shown ms = ms
shown_member (shown i None t) ms = ms
shown_member (shown i (Some name) t) ms = marked_member name (Some i) t ms

-- what the digests show, in their order
abbrev pub shown_members : (Text → Shown) → List Text → MarkedMembers
shown_members reveals [] = no_marked_members
shown_members reveals (digest ∷ digests) =
    shown_member (reveals digest) (shown_members reveals digests)

-- the object that opened members are, the hidden put there in turn
abbrev pub whole_object : OpenedMembers → Marked
whole_object o = marked_object (put_all (marked_members_of o.hidden.items) o.plain)

-- ---- depths

-- where it is no lack of memory, the tree is too deep
abbrev pub IfTooDeep : ProcessError → Type 0 → Type 0
IfTooDeep ProcessError.Memory P = Unit {0}
IfTooDeep ProcessError.TooDeep P = P
IfTooDeep _ P = ⊥

-- 0 where nothing is shown
abbrev pub shown_depth : Shown → ℕ
shown_depth nothing_shown = 0
shown_depth (shown i name t) = depth (strip t)

-- the greatest
abbrev pub shown_depths : (Text → Shown) → List Text → ℕ
shown_depths reveals [] = 0
shown_depths reveals (digest ∷ digests) =
    max (shown_depth (reveals digest)) (shown_depths reveals digests)

-- ---- the payload's own object

-- the members without `_sd_alg`, where the object is the payload itself
abbrev pub topped : Bool → Members → Members
topped top ms = if top then removed ms alg_name else ms

-- a member that stays a member
abbrev pub stays : Bool → Text → Bool
stays top name = not (bytes_eq name sd_name) && not (top && bytes_eq name alg_name)

-- ---- where nothing that is shown is left out

-- a member with a name that is not there, where it is shown
abbrev pub IsNew : Shown → MarkedMembers → Type 0
IsNew nothing_shown ms = Unit {0}
IsNew (shown i None t) ms = ⊥
IsNew (shown i (Some name) t) ms = In name (marked_names ms) → ⊥

-- each of them, beside those that are put before it
abbrev pub AllNew : (Text → Shown) → List Text → MarkedMembers → Type 0
AllNew reveals [] ms = Unit {0}
AllNew reveals (digest ∷ digests) ms =
    IsNew (reveals digest) ms × AllNew reveals digests (show_member (reveals digest) ms)

-- an element, where it is shown
abbrev pub IsElement : Shown → Type 0
IsElement nothing_shown = Unit {0}
IsElement (shown i None t) = Unit {0}
IsElement (shown i (Some name) t) = ⊥

-- of an element with a digest what it shows, of any other what is inside
abbrev pub WholeOn : (Text → Shown) → Option Text → Type 0 → Type 0
WholeOn reveals None Inside = Inside
WholeOn reveals (Some digest) Inside = IsElement (reveals digest)

-- nothing is asked inside `_sd`
abbrev pub WholeUnless : Bool → Type 0 → Type 0
WholeUnless true Inside = Unit {0}
WholeUnless false Inside = Inside

-- what each digest of a tree shows stands in the opened tree
abbrev mutual
  pub OpensWhole : (Text → Shown) → Tree → Type 0
  OpensWhole reveals (leaf l) = Unit {0}
  OpensWhole reveals (array es) = ElementsWhole reveals es
  OpensWhole reveals (object ms) =
      AllNew reveals (sd_texts ms) (open_members reveals ms) × MembersWhole reveals ms

  pub ElementsWhole : (Text → Shown) → Elements → Type 0
  ElementsWhole reveals no_elements = Unit {0}
  ElementsWhole reveals (element t es) =
      WholeOn reveals (element_digest t) (OpensWhole reveals t) × ElementsWhole reveals es

  pub MembersWhole : (Text → Shown) → Members → Type 0
  MembersWhole reveals no_members = Unit {0}
  MembersWhole reveals (member name t ms) =
      WholeUnless (bytes_eq name sd_name) (OpensWhole reveals t) × MembersWhole reveals ms

-- ---- what every step of opening asks

-- the sum of w over the marks of what is shown, its own and those inside it
abbrev pub shown_weight : (ℕ → ℕ) → Shown → ℕ
shown_weight w nothing_shown = 0
shown_weight w (shown i name t) = w i + weight w t

-- how often the disclosure with number k is shown where these digests stand
abbrev pub uses : List Given → ℕ → List Text → ℕ
uses given k [] = 0
uses given k (digest ∷ digests) =
    shown_weight (only k) (settled given digest) + uses given k digests

-- the numbers of all values, that each value opens whole, and what it shows
pub record IsOpenable (given : List Given) (numbers ends : List ℕ) : Type 0 where
  pub few : length given < 2 ^ 32
  pub told : TellEach tree_digests given numbers ends
  pub whole : (j : ℕ) (x : Given) → StandsAt given j x → OpensWhole (settled given) x.value
  pub shows : (j k : ℕ) (x : Given) → StandsAt given j x
      → weight (only k) (open_tree (settled given) x.value) ≡ uses given k (tree_digests x.value)

-- What is opened is taken out of its place: `given` are all disclosures as they came in, and `left`
-- is the list as it is now. It still has those that the digests show, each of them once.
pub record OpensFrom (given left : List Given) (numbers ends : List ℕ) (at : ℕ)
    (digests : List Text) (Whole : Type 0) : Type 0 where
  pub ready : IsOpenable given numbers ends
  pub told : TellFirst given (drop at numbers) digests
  pub whole : Whole
  pub once : (k : ℕ) → uses given k digests ≤ 1
  pub there : (k : ℕ) (x : Given) → StandsAt given k x → 0 < uses given k digests
      → StandsAt left k x
  pub as_many : length left ≡ length given

-- so over the numbers of a graph
abbrev pub OpensIn : Graph → List Given → List Given → ℕ → List Text → Type 0 → Type 0
OpensIn graph given left at digests Whole =
    OpensFrom given left graph.numbers.items graph.ends.items at digests Whole

-- those that the digests do not show stay as they are
pub record TakesOnly (given old new : List Given) (digests : List Text) : Type 0 where
  pub spared : (k : ℕ) (x : Given) → uses given k digests ≡ 0 → StandsAt old k x → StandsAt new k x
  pub as_many : length new ≡ length old
