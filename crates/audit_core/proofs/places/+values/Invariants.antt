use Rattle.std.proofs.Common.{◌≡◌, ◌++◌, drop}
use Rattle.marked_tree.specs.View.{marked_of, marked_elements_of, marked_members_of}
use Rattle.audit_core.specs.Strange.{is_in}
use Rattle.audit_core.specs.Places.{values_at, elements_values, members_values}
use Rattle.audit_core.proofs.places.+values.Given as goal

abbrev pub invariant-walk-loop-i : goal.invariant-walk-loop-i
invariant-walk-loop-i l =
    (l.search.at ≡ l.fn.search.at)
    × (l.search.known ≡ l.fn.search.known)
    × (l.search.found ++ elements_values (is_in l.search.known.keys) l.given l.search.at l.i (marked_elements_of (drop l.i l.element-items))
    ≡ l.fn.search.found ++ values_at (is_in l.fn.search.known.keys) l.given l.fn.search.at (marked_of l.fn.claims))

abbrev pub invariant-walk-loop-name : goal.invariant-walk-loop-name
invariant-walk-loop-name l =
    (l.search.at ≡ l.fn.search.at)
    × (l.search.known ≡ l.fn.search.known)
    × (l.search.found ++ members_values (is_in l.search.known.keys) l.given l.search.at (marked_members_of (drop l.name-index l.name-items))
    ≡ l.fn.search.found ++ values_at (is_in l.fn.search.known.keys) l.given l.fn.search.at (marked_of l.fn.claims))
