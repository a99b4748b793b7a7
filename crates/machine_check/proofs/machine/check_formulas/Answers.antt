use Rattle.std.proofs.Common.{◌∙◌, ap, refl, Some, None, Ok, Err}
use Rattle.std.specs.List.{zip}
use Rattle.std.specs.Option.{option_copied}
use Rattle.model_core.specs.Faults.{first_by_place}
use Rattle.check_rules.specs.Assignments.{assignment_faults}
use Rattle.check_rules.specs.Machines.{own_names}
use Rattle.machine_check.specs.PrivateMachine.{written_of}
use Rattle.context_check.specs.Views.{visible}
use Rattle.machine_check.proofs.Machines.{formulas_apart}
use Rattle.machine_check.proofs.machine.check_formulas.Goals as goal

pub type_machine-requires : goal.type_machine-requires
type_machine-requires c = record { events = c.requires.events; all = c.deref.ensures.value ∙ c.in_ok-variables.ensures; variables = c.requires.variables }

pub returns-in-Some : goal.returns-in-Some
returns-in-Some c =
    formulas_apart (option_copied c.args.abstraction) (written_of c.args.written.now) (visible c.args.view.now) c.in_ok-typed.typed c.in_ok-typed.first (Some c.in-Some.fault) (Err c.in-Some.fault)
    c.in_ok-typed.ensures c.in-Some.is refl

pub returns : goal.returns
returns c =
    let w = written_of c.args.written.now in
    formulas_apart (option_copied c.args.abstraction) w (visible c.args.view.now) c.in_ok-typed.typed c.in_ok-typed.first None (Ok (c.in_ok-typed.typed, c.in_ok-later-in-None.later))
    c.in_ok-typed.ensures c.in-None.is
    (ap (λ x. Ok (c.in_ok-typed.typed, x)) (c.in_ok-later-in-None.ensures
    ∙ (λ i. first_by_place (assignment_faults w.name.name w.name.place (own_names w) ((c.deref-in-None.ensures.value ∙ c.in_ok-variables.ensures) i) (zip w.events (c.items.ensures i))))))
