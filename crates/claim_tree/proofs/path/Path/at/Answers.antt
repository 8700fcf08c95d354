use Rattle.std.proofs.Common.{◌≤◌, length, rules, sym, string_bytes}
use Rattle.std.proofs.lemmas.Option.{slice_get_past}
use Rattle.claim_tree.proofs.PathSteps.{steps_length}
use Rattle.claim_tree.proofs.path.Path.at.Goals as goal

pub returns-else-i-len : goal.returns-else-i-len
returns-else-i-len c =
    let count = steps_length 0 c.self.inside.ends.items (string_bytes c.self.inside.text) in
    let past : length c.self.inside.ends.items ≤ c.args.i = search rules in
    rw (← c.self.view_is) (sym (slice_get_past _ c.args.i (rw count past)))
