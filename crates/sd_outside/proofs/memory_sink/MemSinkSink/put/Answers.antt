use Rattle.std.proofs.Common.{◌≡◌, ◌+◌, ◌-◌, ℕ, List, ◌++◌, length, take, ap, ◌∙◌, arith}
use Rattle.std.proofs.Math.Seq.{take-append-add}
use Rattle.std.proofs.lemmas.Grind.{common_steps}
use Rattle.sd_outside.proofs.memory_sink.MemSinkSink.put.Goals as goal

pub returns-else-bytes-left-clause-part : goal.returns-else-bytes-left-clause-part
returns-else-bytes-left-clause-part c = (c.self.inside.room - c.len.result, grind (arith, common_steps))

-- the whole room is what was written and what is left
filled : (room left : ℕ) (old piece : List ℕ) → room ≡ length old + left → take room (old ++ piece) ≡ old ++ take left piece
filled room left old piece e = ap (λ (n : ℕ). take n (old ++ piece)) e ∙ take-append-add old piece left

pub returns-else-bytes-left-clause-front : goal.returns-else-bytes-left-clause-front
returns-else-bytes-left-clause-front c =
    let all = filled c.args.self.now.room (c.self.inside.room - c.len.result) c.args.self.now.bytes c.args.bytes.now (grind (arith, common_steps)) in
    grind (arith, common_steps, all)
