use Rattle.std.proofs.Common.{subst}
use Rattle.marked_tree.specs.Paths.{chosen}
use Rattle.marked_tree.specs.Numbers.{has}
use Rattle.marked_tree.specs.View.{marked_of}
use Rattle.selection_core.specs.AllowCalls.{IsAllowRefused}
use Rattle.holder_core.proofs.Steps.{allowed_same, refused_same}
use Rattle.holder_core.proofs.presenting.choose_allowed.Goals as goal

pub returns-in-Ok-allow-clause-chosen : goal.returns-in-Ok-allow-clause-chosen
returns-in-Ok-allow-clause-chosen g c =
    let m = marked_of c.args.marked.now in
    record {
      same = c.in-Ok.ensures.chosen;
      there = c.in-Ok.ensures.there;
      allowed = allowed_same g.F.Fn c.args.consent.now m (has c.in-Ok.chosen) (chosen m c.args.want.now) c.in-Ok.ensures.chosen c.in-Ok-allow.ensures.allowed;
    }

pub returns-clause-refused : goal.returns-clause-refused
returns-clause-refused g c =
    let m = marked_of c.args.marked.now in
    let told = subst (λ e. IsAllowRefused g.F.Fn c.args.consent.now m (has c.in-Ok.chosen) e) c.in-Err-Refused.field-0-is c.in-Err-Refused.ensures.refused in
    (c.in-Ok.ensures.there, refused_same g.F.Fn c.args.consent.now m (has c.in-Ok.chosen) (chosen m c.args.want.now) c.in-Ok.ensures.chosen c.in-Err-Refused.mark told)
