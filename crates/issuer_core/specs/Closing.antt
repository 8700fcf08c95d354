-- For private functions: marks in closing order, each behind those inside it.
use Rattle.std.specs.Prelude.{◌≡◌, ℕ, ◌+◌, Option, Some, None}
use Rattle.marked_tree.specs.Marked.{Marked, marked_leaf, marked_array, marked_object, MarkedElements, no_marked_elements, marked_element, MarkedMembers, no_marked_members, marked_member}
use Rattle.marked_tree.specs.Ways.{weight, mark_weight}

-- weight one counts the marks
abbrev pub one : ℕ → ℕ
one i = 1

-- a mark is the number n
abbrev pub HasNumber : Option ℕ → ℕ → Type 0
HasNumber None n = Unit {0}
HasNumber (Some k) n = k ≡ n

-- the marks are numbered in closing order, from n
abbrev mutual
  pub ClosesFrom : ℕ → Marked → Type 0
  ClosesFrom n (marked_leaf l) = Unit {0}
  ClosesFrom n (marked_array es) = ElementsClose n es
  ClosesFrom n (marked_object ms) = MembersClose n ms

  pub ElementsClose : ℕ → MarkedElements → Type 0
  ElementsClose n no_marked_elements = Unit {0}
  ElementsClose n (marked_element k t es) =
      ClosesFrom n t × HasNumber k (n + weight one t)
      × ElementsClose (n + (mark_weight one k + weight one t)) es

  pub MembersClose : ℕ → MarkedMembers → Type 0
  MembersClose n no_marked_members = Unit {0}
  MembersClose n (marked_member name k t ms) =
      ClosesFrom n t × HasNumber k (n + weight one t)
      × MembersClose (n + (mark_weight one k + weight one t)) ms
