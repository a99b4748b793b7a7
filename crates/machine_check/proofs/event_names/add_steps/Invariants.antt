use Rattle.std.proofs.Common.{◌≡◌, ◌++◌, map, take}
use Rattle.context_check.specs.Texts.{mark_of}
use Rattle.machine_check.specs.PrivateNames.{step_mark}
use Rattle.machine_check.proofs.event_names.add_steps.Given as goal

abbrev pub invariant-loop-step : goal.invariant-loop-step
invariant-loop-step l = map mark_of l.marks.items ≡ map mark_of l.initial.marks.items ++ map step_mark (take l.step-index l.steps)
