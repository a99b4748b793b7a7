use Rattle.std.proofs.Common.{◌≡◌, take}
use Rattle.std.specs.FinMap.{from_entries}
use Rattle.core_steps.specs.Durable.{text_cmp}
use Rattle.core_steps.proofs.project.Project.of.Given as goal

abbrev pub invariant-loop-name : goal.invariant-loop-name
invariant-loop-name l = l.copy ≡ from_entries {R = text_cmp} (take l.name-index l.name-items)
