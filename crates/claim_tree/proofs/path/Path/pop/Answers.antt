use Rattle.std.proofs.Common.{◌≡◌, ◌≤◌, ◌-◌, ℕ, length, take, rules, arith, ◌∙◌, string_bytes}
use Rattle.claim_tree.proofs.PathSteps.{start_of, last_of, fewer_ends, fewer_steps, starts_at_boundary, steps_length}
use Rattle.claim_tree.proofs.path.Path.pop.Goals as goal

-- the steps that are left are these
abbrev kept : goal.After-truncate-arg-1 → ℕ
kept c = length c.self.inside.ends.items - 1

at_most : (c : goal.After-truncate-arg-1) → kept c ≤ length c.self.inside.ends.items
at_most c = omega arith

rest_is : (c : goal.After-truncate-arg-1) → c.pop-last.new.self.items ≡ take (kept c) c.self.inside.ends.items
rest_is c = search rules

end_is : (c : goal.After-truncate-arg-1) → c.start_at-end.result ≡ start_of 0 c.self.inside.ends.items (kept c)
end_is c =
    let count : c.len.result ≡ length c.pop-last.new.self.items = search rules in
    c.start_at-end.ensures ∙ rw (c.as_slice.ensures.value, count, rest_is c) (last_of 0 c.self.inside.ends.items (kept c) (at_most c))

pub truncate-requires : goal.truncate-requires
truncate-requires c within =
    let at = starts_at_boundary c.self.inside.ends.items (string_bytes c.self.inside.text) (kept c) (at_most c) c.self.invariant in
    rw (end_is c) (at.0, λ _. at.1)

pub invariant_of-self : goal.invariant_of-self
invariant_of-self c =
    rw (c.truncate.ensures.bytes, end_is c.before, rest_is c.before) (fewer_ends 0 c.self.inside.ends.items (string_bytes c.self.inside.text) (kept c.before) (at_most c.before) c.self.invariant)

pub returns : goal.returns
returns c =
    rw (c.truncate.ensures.bytes, end_is c.before, rest_is c.before, ← c.self.view_is, steps_length 0 c.self.inside.ends.items (string_bytes c.self.inside.text))
    (fewer_steps 0 c.self.inside.ends.items (string_bytes c.self.inside.text) (kept c.before) (at_most c.before) c.self.invariant)
