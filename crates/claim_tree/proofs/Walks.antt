-- The trees of a slice, one by one.
use Rattle.std.proofs.Common.{◌≡◌, ℕ, zero, suc, ◌+◌, ◌<◌, ◌≤◌, List, [], ◌∷◌, length, get_or, take, add-one, refl, sym, ap, ◌∙◌, arith}
use Rattle.claim_tree.specs.Tree as spec
use Rattle.claim_tree.specs.Tree.{Text, depth, elements_depth, members_depth, names, inserted, IsBefore, IsBeforeAll, MembersOrdered}
use Rattle.claim_tree.specs.TreeCalls.{pushed}
use Rattle.claim_tree.specs.Nodes.{elements_size, members_size}
use Rattle.claim_tree.specs.Falls.{deep-le}
use Rattle.claim_tree.specs.View.{tree_of}
use Rattle.claim_tree.specs.ListViews.{elements_of, members_of}
use Rattle.claim_tree.specs.declared.tree.Tree as tree
use Rattle.claim_tree.specs.declared.tree.TreeList.TheDeep.{deep-Tree}

abbrev pub Named : Type 0
Named = Text × tree.Tree

-- ---- one tree more

pub element_turn : (ts : List tree.Tree) (i : ℕ) (d : tree.Tree) → i < length ts → elements_of (take (i + 1) ts) ≡ pushed (elements_of (take i ts)) (tree_of (get_or ts i d))
element_turn ts i d within = rw add-one (go ts i within)
  where
    go : (us : List tree.Tree) (k : ℕ) → k < length us → elements_of (take (suc k) us) ≡ pushed (elements_of (take k us)) (tree_of (get_or us k d))
    go [] k within = absurd (omega arith)
    go (u ∷ us) zero within = refl
    go (u ∷ us) (suc k) within = ap (spec.element (tree_of u)) (go us k (omega arith))

pub elements_turn : (ts : List tree.Tree) (i : ℕ) (t : tree.Tree) → i < length ts → t ≡ get_or ts i t → elements_of (take (i + 1) ts) ≡ pushed (elements_of (take i ts)) (tree_of t)
elements_turn ts i t within is = element_turn ts i t within ∙ ap (λ u. pushed (elements_of (take i ts)) (tree_of u)) (sym is)

before_there : (name : Text) (ms : List Named) (i : ℕ) (d : Named) → i < length ms → IsBeforeAll name (names (members_of ms)) → IsBefore name (get_or ms i d).0
before_there name [] i d within h = absurd (omega arith)
before_there name (m ∷ ms) zero d within h = h.0
before_there name (m ∷ ms) (suc i) d within h = before_there name ms i d (omega arith) h.1

inserted_there : (ms : List Named) (i : ℕ) (d : Named) → i < length ms → MembersOrdered (members_of ms)
    → members_of (take (suc i) ms) ≡ inserted (members_of (take i ms)) (get_or ms i d).0 (tree_of (get_or ms i d).1)
inserted_there [] i d within h = absurd (omega arith)
inserted_there (m ∷ ms) zero d within h = refl
inserted_there (m ∷ ms) (suc i) d within h =
    let rest = inserted_there ms i d (omega arith) h.2 in
    rw (before_there m.0 ms i d (omega arith) h.0) (ap (spec.member m.0 (tree_of m.1)) rest)

pub member_turn : (ms : List Named) (i : ℕ) (d : Named) → i < length ms → MembersOrdered (members_of ms) → members_of (take (i + 1) ms) ≡ inserted (members_of (take i ms)) (get_or ms i d).0 (tree_of (get_or ms i d).1)
member_turn ms i d within ordered = rw add-one (inserted_there ms i d within ordered)

-- ---- a call that goes into each tree of a slice: its measure is below that of the list, and it nests no deeper

-- what is within the total of a list that begins with it is within the total of each list that it stands in
pub within_total : {A : Type 0} (f : A → ℕ) (total : List A → ℕ) → ((x : A) (xs : List A) → (f x ≤ total (x ∷ xs)) × (total xs ≤ total (x ∷ xs)))
    → (xs : List A) (i : ℕ) (d : A) → i < length xs → f (get_or xs i d) ≤ total xs
within_total f total grows [] i d within = absurd (omega arith)
within_total f total grows (x ∷ xs) zero d within = (grows x xs).0
within_total f total grows (x ∷ xs) (suc i) d within = let rest = within_total f total grows xs i d (omega arith) in omega (arith, rest, (grows x xs).1)

pub element_falls : (ts : List tree.Tree) (i : ℕ) (d : tree.Tree) → i < length ts → deep-Tree (get_or ts i d) < elements_size (elements_of ts)
element_falls = within_total (λ t. suc (deep-Tree t)) (λ ts. elements_size (elements_of ts)) (λ t ts. (omega (arith, deep-le t), omega arith))

pub element_lower : (ts : List tree.Tree) (i : ℕ) (d : tree.Tree) → i < length ts → depth (tree_of (get_or ts i d)) ≤ elements_depth (elements_of ts)
element_lower = within_total (λ t. depth (tree_of t)) (λ ts. elements_depth (elements_of ts)) (λ t ts. (omega arith, omega arith))

pub member_falls : (ms : List Named) (i : ℕ) (d : Named) → i < length ms → deep-Tree (get_or ms i d).1 < members_size (members_of ms)
member_falls = within_total (λ m. suc (deep-Tree m.1)) (λ ms. members_size (members_of ms)) (λ m ms. (omega (arith, deep-le m.1), omega arith))

pub member_lower : (ms : List Named) (i : ℕ) (d : Named) → i < length ms → depth (tree_of (get_or ms i d).1) ≤ members_depth (members_of ms)
member_lower = within_total (λ m. depth (tree_of m.1)) (λ ms. members_depth (members_of ms)) (λ m ms. (omega arith, omega arith))

pub ruleset into_element = (element_falls, element_lower)

pub ruleset into_member = (member_falls, member_lower)

-- the same, and what is copied of the list has one tree more
pub ruleset past_element = (element_falls, element_lower, element_turn)

pub ruleset past_member = (member_falls, member_lower, member_turn)
