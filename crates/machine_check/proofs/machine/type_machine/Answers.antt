use Rattle.std.proofs.Common.{◌∙◌, ◌++◌, ap, not}
use Rattle.std.specs.List.{filter}
use Rattle.std.specs.Option.{option_copied}
use Rattle.model_core.specs.Each.{is_among}
use Rattle.model_core.specs.Faults.{earlier}
use Rattle.check_rules.specs.Machines.{checked_machine_of, own_names}
use Rattle.check_rules.specs.Visible.{entries}
use Rattle.machine_check.specs.PrivateMachine.{written_of}
use Rattle.context_check.specs.Views.{visible}
use Rattle.machine_check.proofs.Machines.{machine_typed}
use Rattle.machine_check.proofs.machine.type_machine.Goals as goal

pub machine_of-requires : goal.machine_of-requires
machine_of-requires c = record {
  new = c.deref-2.ensures.value ∙ c.in_ok-wanted.ensures ∙ ap (λ ks. filter (λ n. not (is_among ks n)) (own_names (written_of c.args.written.now))) c.abstract_variables-kept.ensures;
  variables = c.requires.variables;
}

pub returns : goal.returns
returns c =
    let m = option_copied c.args.abstraction in
    let w = written_of c.args.written.now in
    let v = visible c.args.view.now in
    machine_typed m w v c.in_ok-env.env c.type_all.new.env c.deref.result.now c.args.variables.now c.args.events.now
    c.in_ok-invariants.invariants.typed.items c.in_ok-variant.variant.typed c.in_ok-of_events.of_events.typed.items
    c.in_ok-invariants.invariants.first c.in_ok-untyped.untyped c.in_ok-variant.variant.first c.in_ok-of_events.of_events.first c.earlier-first.result c.in_ok-typed.typed
    (c.in_ok-env.ensures ∙ ap (λ ks. entries v.constants ++ filter (λ e. is_among ks e.0) (entries v.variables)) c.abstract_variables-kept.ensures)
    (c.deref.ensures.value ∙ c.in_ok-wanted.ensures ∙ ap (λ ks. filter (λ n. not (is_among ks n)) (own_names w)) c.abstract_variables-kept.ensures)
    c.requires.all c.requires.events c.in_ok-invariants.ensures c.in_ok-untyped.ensures c.in_ok-variant.ensures c.in_ok-of_events.ensures.typed
    (c.in_ok-typed.ensures ∙ ap (λ e. checked_machine_of m w v e c.in_ok-invariants.invariants.typed.items c.in_ok-variant.variant.typed c.in_ok-of_events.of_events.typed.items) c.in_ok-of_events.ensures.kept)
    (c.earlier-first.ensures ∙ ap (λ f. earlier f c.in_ok-of_events.of_events.first) (c.earlier-2.ensures ∙ ap (λ f. earlier f c.in_ok-variant.variant.first) c.earlier.ensures))
