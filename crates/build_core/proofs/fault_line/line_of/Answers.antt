use Rattle.std.proofs.Common.{ap, length, arith}
use Rattle.build_core.proofs.Lines.{position_within}
use Rattle.build_core.proofs.fault_line.line_of.Goals as goal

pub overflow_cast-result : goal.overflow_cast-result
overflow_cast-result c =
    let near = position_within c.as_text-text.result.now c.min-place.result (omega (arith, c.min-place.ensures)) in
    omega (arith, c.requires, near.0, c.min-place.ensures, ap length c.as_text-text.ensures, ap (λ p. p.line) c.position_of-line.ensures)

pub overflow_cast-result-2 : goal.overflow_cast-result-2
overflow_cast-result-2 c =
    let near = position_within c.as_text-text.result.now c.min-place.result (omega (arith, c.min-place.ensures)) in
    omega (arith, c.requires, near.1, c.min-place.ensures, ap length c.as_text-text.ensures, ap (λ p. p.column) c.position_of-line.ensures)
