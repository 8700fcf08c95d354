use Rattle.std.proofs.Common.{◌≡◌, ◌++◌}
use Rattle.claim_tree.specs.Path.{pointer_text}
use Rattle.marked_tree.specs.Paths.{Path}
use Rattle.audit_core.specs.Wanted.{element_texts}
use Rattle.audit_core.proofs.wanted.push_elements.Given as goal

abbrev pub invariant-loop-i : goal.invariant-loop-i
invariant-loop-i l = (at : Path) → l.pointer ≡ pointer_text at → l.wanted.items ≡ l.fn.wanted.items ++ element_texts at l.first l.i
