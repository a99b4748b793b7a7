use Rattle.std.proofs.Common.{◌∙◌, [], ◌∷◌, sym, ap, map, drop}
use Rattle.std.specs.Prelude.{if◌then◌else◌}
use Rattle.std.specs.List.{zip}
use Rattle.formula_core.specs.Formulas.{joined}
use Rattle.model_core.specs.declared.fault.FaultKind.TheVariants as kind
use Rattle.model_core.specs.Faults.{first_by_place, earlier, fault_at}
use Rattle.model_core.proofs.Firsts.{first_append}
use Rattle.check_rules.specs.Contexts.{names_of}
use Rattle.check_rules.specs.Assignments.{is_bad_start}
use Rattle.model_core.specs.Borrowed.{has}
use Rattle.machine_check.specs.PrivateEvents.{reads_at}
use Rattle.machine_check.proofs.assignments.bad_start_in.Goals as goal

pub returns : goal.returns
returns c =
    let at_name = c.in_ok-at_name.ensures
    ∙ ap (λ b. first_by_place (if b then fault_at c.args.component.now kind.BadInitialisation c.args.event.now.written.now.name.place [] ∷ [] else [])) c.in_ok-bad.ensures in
    let reading = c.in_ok-reading.ensures
    ∙ (λ i. first_by_place (joined (map (reads_at c.args.component.now (has c.args.variables.now))
    (zip (c.items-2.ensures i) ((c.items_from-actions.ensures ∙ ap (drop c.args.event.now.typed.now.own_actions_from) c.items.ensures) i))))) in
    c.earlier.ensures ∙ (λ i. earlier (at_name i) (reading i))
    ∙ sym (first_append
    (if is_bad_start (names_of c.args.own.now) c.args.event.now.typed.now then fault_at c.args.component.now kind.BadInitialisation c.args.event.now.written.now.name.place [] ∷ [] else [])
    (joined (map (reads_at c.args.component.now (has c.args.variables.now)) (zip c.args.event.now.written.now.actions (drop c.args.event.now.typed.now.own_actions_from c.args.event.now.typed.now.actions)))))
