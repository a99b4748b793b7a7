use Rattle.std.proofs.Common.{◌≡◌, ◌∙◌, subst, IfOk}
use Rattle.std.specs.Option.{option_copied}
use Rattle.model_core.specs.Faults.{first_by_place}
use Rattle.refine_check.proofs.Refining.{machine_is}
use Rattle.refine_check.proofs.refinement.check_refinement.Goals as goal

pub returns-in_ok-lost-in-Machine : goal.returns-in_ok-lost-in-Machine
returns-in_ok-lost-in-Machine c = record {
  first = subst (λ x. IfOk c.first_in_machine.result (λ first. first ≡ first_by_place x))
      (machine_is c.args.raw.now c.args.checked.now (option_copied c.args.abstraction) (option_copied c.machine_of-refined.result)
      c.in-Machine.name c.in-Machine.refines c.in-Machine.sees c.in-Machine.variables c.in-Machine.invariants c.in-Machine.variant c.in-Machine.events
      c.in_ok-abstract_events-in-Machine.abstract_events c.in_ok-lost-in-Machine.lost c.items.result.now c.items-in-Machine.result.now c.items-typed.result.now
      c.in-Machine.is c.machine_of-refined.ensures (c.in_ok-abstract_events-in-Machine.ensures ∙ c.events_of.ensures) c.items.ensures c.in_ok-lost-in-Machine.ensures c.items-in-Machine.ensures c.items-typed.ensures)
      c.first_in_machine.ensures;
}
