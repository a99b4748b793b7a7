use Rattle.std.proofs.Common.{◌≡◌, ◌++◌, string_bytes, drop}
use Rattle.component_print.specs.Printed.{step_lines}
use Rattle.component_print.proofs.machine.print_steps.Given as goal

abbrev pub invariant-loop-step : goal.invariant-loop-step
invariant-loop-step l = string_bytes l.out ++ step_lines (drop l.step-index l.steps) ≡ string_bytes l.initial.out ++ step_lines l.steps
