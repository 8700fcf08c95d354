use Rattle.std.proofs.Common.{sym, ◌∙◌}
use Rattle.marked_tree.proofs.StepOrder.{behind_front}
use Rattle.marked_tree.proofs.compares.compare_paths.Goals as goal

pub returns-then-is_prefix : goal.returns-then-is_prefix
returns-then-is_prefix c = sym (behind_front c.args.other.now c.args.one.now (sym c.is_prefix.ensures ∙ c.if-is_prefix.true) (rw (← c.len.ensures, ← c.len-2.ensures) c.if-len.true))
