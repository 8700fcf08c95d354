use Rattle.std.proofs.Common.{◌≡◌, ℕ, ◌+◌, ◌*◌, ◌≤◌, length}
use Rattle.json.specs.Json.{items, members, value, parse_map}
use Rattle.serde_json.specs.Data.{Members, no_members}
use Rattle.serde_json.specs.Read.{of_items, of_members, converted}
use Rattle.claim_tree.specs.ListViews.{members_of}
use Rattle.claim_tree.specs.JsonText.{members_data}
use Rattle.claim_tree.specs.Passes.{seen_items, seen_members}
use Rattle.claim_tree.proofs.TreeReading.{items_before}
use Rattle.claim_tree.proofs.FloatNames.{Ascend}
use Rattle.claim_tree.proofs.build.+build.Given as goal

abbrev pub decreases-build : goal.decreases-build
decreases-build l = 4 * l.depth + 1

abbrev pub decreases-build_value : goal.decreases-build_value
decreases-build_value l = 4 * l.depth

abbrev pub decreases-build_elements : goal.decreases-build_elements
decreases-build_elements l = 4 * l.depth + 3

abbrev pub decreases-build_object : goal.decreases-build_object
decreases-build_object l = 4 * l.depth + 3

abbrev pub decreases-build_members : goal.decreases-build_members
decreases-build_members l = 4 * l.depth + 2

abbrev pub decreases-sort_members : goal.decreases-sort_members
decreases-sort_members l = 4 * l.depth + 2

abbrev pub invariant-build_elements-loop-alloc : goal.invariant-build_elements-loop-alloc
invariant-build_elements-loop-alloc l =
    (n : ℕ) × (length l.reader ≤ n)
    × (parse_map (seen_items l.pass) (converted of_items (items (value l.depth) (length l.initial.reader) l.initial.reader))
    ≡ parse_map (items_before l.trees) (parse_map (seen_items l.pass) (converted of_items (items (value l.depth) n l.reader))))
    × (length l.reader ≤ length l.initial.reader)

abbrev pub decreases-build_elements-loop-alloc : goal.decreases-build_elements-loop-alloc
decreases-build_elements-loop-alloc l = length l.reader

abbrev pub invariant-build_members-loop-trees : goal.invariant-build_members-loop-trees
invariant-build_members-loop-trees l =
    (n : ℕ) × (length l.reader ≤ n)
    × (converted (λ ms. of_members ms no_members) (members (value l.depth) (length l.initial.reader) l.initial.reader) ≡ converted (λ ms. of_members ms (members_data l.trees)) (members (value l.depth) n l.reader))
    × (length l.reader ≤ length l.initial.reader)

abbrev pub decreases-build_members-loop-trees : goal.decreases-build_members-loop-trees
decreases-build_members-loop-trees l = length l.reader

abbrev pub invariant-sort_members-loop-found : goal.invariant-sort_members-loop-found
invariant-sort_members-loop-found l =
    (n : ℕ) × (was : Members) × (length l.reader ≤ n)
    × (converted (λ ms. of_members ms no_members) (members (value l.depth) (length l.initial.reader) l.initial.reader) ≡ converted (λ ms. of_members ms was) (members (value l.depth) n l.reader))
    × (length l.reader ≤ length l.initial.reader)
    × (seen_members l.pass was ≡ members_data (members_of l.found.entries)) × Ascend was

abbrev pub decreases-sort_members-loop-found : goal.decreases-sort_members-loop-found
decreases-sort_members-loop-found l = length l.reader
