use Rattle.std.proofs.Common.{◌≡◌, length, rules, string_bytes}
use Rattle.claim_tree.proofs.PathSteps.{steps_length}
use Rattle.claim_tree.proofs.path.Path.len.Goals as goal

pub returns : goal.returns
returns c =
    let count : c.len.result ≡ length c.self.inside.ends.items = search rules in
    rw (← c.self.view_is, steps_length 0 c.self.inside.ends.items (string_bytes c.self.inside.text)) count
