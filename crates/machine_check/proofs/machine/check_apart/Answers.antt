use Rattle.std.proofs.Common.{◌∙◌, sym, ap, refl, map, Some, None, Err}
use Rattle.std.specs.List.{zip}
use Rattle.std.specs.Option.{option_copied}
use Rattle.model_core.specs.Faults.{first_by_place}
use Rattle.check_rules.specs.Declarations.{brings_clash}
use Rattle.check_rules.specs.Visible.{seen_from}
use Rattle.machine_check.specs.PrivateMachine.{written_of}
use Rattle.context_check.specs.Views.{visible}
use Rattle.machine_check.proofs.Machines.{begun, variables_kept}
use Rattle.machine_check.proofs.machine.check_apart.Goals as goal

pub first_own_declaration-requires : goal.first_own_declaration-requires
first_own_declaration-requires c = c.in_ok-events.ensures ∙ c.abstract_events.ensures

pub check_formulas-requires : goal.check_formulas-requires
check_formulas-requires c = record {
  events = c.in_ok-events.ensures ∙ c.abstract_events.ensures;
  variables = ap (λ v. v.variables) c.in_ok-clash.ensures.seen ∙ variables_kept (visible c.in_ok-view.view) (map (λ p. p.now) c.args.seen.now) ∙ ap (λ v. v.variables) c.in_ok-view.ensures.seen;
}

pub returns-in-Some : goal.returns-in-Some
returns-in-Some c =
    let seen = map (λ p. p.now) c.args.seen.now in
    let w = written_of c.args.written.now in
    begun (option_copied c.args.abstraction) w (visible c.add_referenced.new.view) seen c.in_ok-clash.clash c.in_ok-own.own (Some c.in-Some.fault) (Err c.in-Some.fault)
    (c.in_ok-clash.ensures.first ∙ ap (λ v. first_by_place (brings_clash w.name.name v (zip w.sees seen))) c.in_ok-view.ensures.seen)
    (c.in_ok-clash.ensures.seen ∙ ap (λ v. seen_from v seen) c.in_ok-view.ensures.seen) c.in_ok-own.ensures (sym c.in-Some.is ∙ c.earlier.ensures) refl

pub returns : goal.returns
returns c =
    let seen = map (λ p. p.now) c.args.seen.now in
    let w = written_of c.args.written.now in
    begun (option_copied c.args.abstraction) w (visible c.add_referenced.new.view) seen c.in_ok-clash.clash c.in_ok-own.own None c.in_ok-answer-in-None.answer
    (c.in_ok-clash.ensures.first ∙ ap (λ v. first_by_place (brings_clash w.name.name v (zip w.sees seen))) c.in_ok-view.ensures.seen)
    (c.in_ok-clash.ensures.seen ∙ ap (λ v. seen_from v seen) c.in_ok-view.ensures.seen) c.in_ok-own.ensures (sym c.in-None.is ∙ c.earlier.ensures) c.in_ok-answer-in-None.ensures
