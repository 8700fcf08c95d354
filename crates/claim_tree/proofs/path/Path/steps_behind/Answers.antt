use Rattle.std.proofs.Common.{◌≡◌, ◌≤◌, ◌<◌, ◌^◌, min, length, drop, rules, arith, sym, ap, ◌∙◌, string_bytes}
use Rattle.std.proofs.lemmas.List.{length-drop, drop_min}
use Rattle.claim_tree.specs.Steps.{steps_between}
use Rattle.claim_tree.proofs.PathSteps.{ends_from, steps_from, steps_length}
use Rattle.claim_tree.proofs.path.Path.steps_behind.Goals as goal

count_is : (c : goal.After-t10-1) → c.min-count.result ≡ min c.args.count (length c.self.inside.ends.items)
count_is c = search rules

within : (c : goal.After-t10-1) → c.min-count.result ≤ length c.self.inside.ends.items
within c = omega (arith, count_is c)

pub invariant_of-result : goal.invariant_of-result
invariant_of-result c =
    rw (c.split_at.ensures.back, c.start_at.ensures, c.as_slice-all.ensures.value, c.as_str.ensures.value)
    (ends_from 0 c.self.inside.ends.items (string_bytes c.self.inside.text) c.min-count.result (within c) c.self.invariant)

pub returns-clause-steps : goal.returns-clause-steps
returns-clause-steps c =
    let steps = steps_between 0 c.self.inside.ends.items (string_bytes c.self.inside.text) in
    let long = steps_length 0 c.self.inside.ends.items (string_bytes c.self.inside.text) in
    rw (c.split_at.ensures.back, c.start_at.ensures, c.as_slice-all.ensures.value, c.as_str.ensures.value, ← c.self.view_is)
    (steps_from 0 c.self.inside.ends.items (string_bytes c.self.inside.text) c.min-count.result (within c) ∙ ap (λ n. drop n steps) (count_is c ∙ ap (min c.args.count) (sym long)) ∙ drop_min c.args.count steps)

pub returns-clause-countable : goal.returns-clause-countable
returns-clause-countable c =
    let count : length c.as_slice-all.result.now < 2 ^ 64 = search rules in
    rw (steps_length c.start_at.result c.split_at.result.1.now c.as_str.result.now, c.split_at.ensures.back) (omega (arith, length-drop c.min-count.result c.as_slice-all.result.now, count))
