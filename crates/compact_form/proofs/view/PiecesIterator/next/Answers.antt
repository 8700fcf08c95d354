use Rattle.std.proofs.Common.{length, ap, sym, ◌∙◌, arith}
use Rattle.compact_form.proofs.NextPieces.{none_left, tilde_at, piece_before, next_boundary}
use Rattle.compact_form.proofs.view.PiecesIterator.next.Goals as goal

pub returns-in_err-end-clause-steps : goal.returns-in_err-end-clause-steps
returns-in_err-end-clause-steps c =
    let none = sym c.self.view_is ∙ none_left c.self.inside.rest.now c.as_bytes.result.now c.self.invariant c.as_bytes.ensures.value c.in_err-end.ensures in
    rw c.from_residual.ensures (none, none)

pub range_from-self-inside-requires : goal.range_from-self-inside-requires
range_from-self-inside-requires c = λ some.
    let tilde = tilde_at c.self.inside.rest.now c.as_bytes.result.now c.in_ok-end.end c.as_bytes.ensures.value c.in_ok-end.ensures in
    next_boundary c.self.inside.rest.now c.in_ok-end.end c.self.invariant tilde

pub invariant_of-self : goal.invariant_of-self
invariant_of-self c =
    let tilde = tilde_at c.self.inside.rest.now c.as_bytes.result.now c.in_ok-end.end c.as_bytes.ensures.value c.in_ok-end.ensures in
    (piece_before c.self.inside.rest.now c.range-piece.result.now c.range_from-self-inside.result.now c.in_ok-end.end c.self.invariant tilde c.range-piece.ensures.value c.range_from-self-inside.ensures.value).spelling

pub returns-clause-steps : goal.returns-clause-steps
returns-clause-steps c =
    let tilde = tilde_at c.self.inside.rest.now c.as_bytes.result.now c.in_ok-end.end c.as_bytes.ensures.value c.in_ok-end.ensures in
    sym c.self.view_is ∙ (piece_before c.self.inside.rest.now c.range-piece.result.now c.range_from-self-inside.result.now c.in_ok-end.end c.self.invariant tilde c.range-piece.ensures.value c.range_from-self-inside.ensures.value).pieces

pub returns-clause-goes : goal.returns-clause-goes
returns-clause-goes c =
    let tilde = tilde_at c.self.inside.rest.now c.as_bytes.result.now c.in_ok-end.end c.as_bytes.ensures.value c.in_ok-end.ensures in
    let step = sym c.self.view_is ∙ (piece_before c.self.inside.rest.now c.range-piece.result.now c.range_from-self-inside.result.now c.in_ok-end.end c.self.invariant tilde c.range-piece.ensures.value c.range_from-self-inside.ensures.value).pieces in
    record { on = λ _. (tt, tt, omega (arith, ap length step)); keeps = tt; rests = λ _. tt }
