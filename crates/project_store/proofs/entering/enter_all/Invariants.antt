use Rattle.std.proofs.Common.{◌≡◌}
use Rattle.project_store.specs.Records.{after_all}
use Rattle.project_store.proofs.entering.enter_all.Given as goal

-- what is left to enter ends at the same durable
abbrev pub invariant-loop-entry : goal.invariant-loop-entry
invariant-loop-entry g l = after_all l.durable l.entry-iterator.rest.items ≡ after_all l.initial.durable l.fn.entries.items
