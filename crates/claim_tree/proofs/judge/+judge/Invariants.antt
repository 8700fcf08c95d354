use Rattle.std.proofs.Common.{◌≡◌, ℕ, ◌+◌, ◌*◌, ◌≤◌, length, ◌||◌}
use Rattle.json.specs.Json.{items, members, value, parse_map}
use Rattle.serde_json.specs.Data.{Members, no_members}
use Rattle.serde_json.specs.Read.{of_items, of_members, converted}
use Rattle.serde_json.specs.Written.{items_have_float}
use Rattle.claim_tree.proofs.FloatNames.{float_names, Ascend}
use Rattle.claim_tree.proofs.judge.+judge.Given as goal

abbrev pub decreases-judge : goal.decreases-judge
decreases-judge l = 2 * l.depth

abbrev pub decreases-judge_elements : goal.decreases-judge_elements
decreases-judge_elements l = 2 * l.depth + 1

abbrev pub decreases-judge_members : goal.decreases-judge_members
decreases-judge_members l = 2 * l.depth + 1

abbrev pub invariant-judge_elements-loop-alloc : goal.invariant-judge_elements-loop-alloc
invariant-judge_elements-loop-alloc l =
    (n : ℕ) × (length l.reader ≤ n)
    × (parse_map items_have_float (converted of_items (items (value l.depth) (length l.initial.reader) l.initial.reader))
    ≡ parse_map (λ b. l.float || b) (parse_map items_have_float (converted of_items (items (value l.depth) n l.reader))))
    × (length l.reader ≤ length l.initial.reader)

abbrev pub decreases-judge_elements-loop-alloc : goal.decreases-judge_elements-loop-alloc
decreases-judge_elements-loop-alloc l = length l.reader

abbrev pub invariant-judge_members-loop-floats : goal.invariant-judge_members-loop-floats
invariant-judge_members-loop-floats l =
    (n : ℕ) × (found : Members) × (length l.reader ≤ n)
    × (converted (λ ms. of_members ms no_members) (members (value l.depth) (length l.initial.reader) l.initial.reader) ≡ converted (λ ms. of_members ms found) (members (value l.depth) n l.reader))
    × (length l.reader ≤ length l.initial.reader)
    × (l.floats.keys ≡ float_names found) × Ascend found

abbrev pub decreases-judge_members-loop-floats : goal.decreases-judge_members-loop-floats
decreases-judge_members-loop-floats l = length l.reader
