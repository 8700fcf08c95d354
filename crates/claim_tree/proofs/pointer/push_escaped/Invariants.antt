use Rattle.std.proofs.Common.{◌≡◌, ◌++◌, string_bytes}
use Rattle.claim_tree.specs.Path.{escaped}
use Rattle.claim_tree.proofs.pointer.push_escaped.Given as goal

abbrev pub invariant-loop-c : goal.invariant-loop-c
invariant-loop-c l = string_bytes l.text ++ escaped l.c-iterator.rest.now ≡ string_bytes l.initial.text ++ escaped l.step
