use Rattle.std.proofs.Common.{◌∙◌, ◌++◌, ◌&&◌, ap, length, map, not}
use Rattle.std.specs.List.{filter}
use Rattle.std.specs.Option.{option_copied}
use Rattle.formula_core.specs.Formulas.{joined}
use Rattle.model_core.specs.Each.{is_among}
use Rattle.check_rules.specs.Machines.{own_names}
use Rattle.check_rules.specs.Typed.{in_order}
use Rattle.check_rules.specs.Visible.{entries, names, origins}
use Rattle.machine_check.specs.PrivateMachine.{written_of}
use Rattle.context_check.specs.Views.{placed, visible}
use Rattle.machine_check.proofs.Machines.{length_of_invariants}
use Rattle.machine_check.proofs.machine_parts.machine_of.Goals as goal

pub returns : goal.returns
returns c =
    let w = written_of c.args.written.now in
    let v = visible c.args.view.now in
    λ i. record {
      name = c.in_ok-copy.ensures i;
      abstraction = c.in_ok-abstract_name.ensures i;
      env = (c.in_ok-checked_env.ensures ∙ ap (λ ns. entries v.constants ++ entries v.variables ++ in_order c.args.env.now ns) c.requires.new) i;
      env_of = (c.in_ok-checked_env_of.ensures ∙ ap (λ ns. origins v.constants ++ origins v.variables ++ map (λ n. w.name.name) ns) c.requires.new) i;
      variables_from = (c.in_ok-variables_from.ensures ∙ ap (λ ps. length (map placed ps)) c.deref-2.ensures.value) i;
      axioms = (c.of.ensures ∙ c.in_ok-copy_formulas.ensures ∙ ap (λ ps. map (λ x. x.0) (map placed ps)) c.deref-3.ensures.value) i;
      axioms_of = (c.of-2.ensures ∙ c.in_ok-copy_origins.ensures ∙ ap (λ ps. origins (map placed ps)) c.deref-4.ensures.value) i;
      invariants = (c.in_ok-with_labelled.ensures ∙ ap (λ ls. ls ++ c.args.invariants.items) c.abstract_invariants-inherited.ensures) i;
      own_from = (c.in_ok-count.ensures ∙ ap length c.abstract_invariants-inherited.ensures ∙ length_of_invariants (option_copied c.args.abstraction)) i;
      variables = (c.of-3.ensures ∙ c.in_ok-names_of.ensures) i;
      lost = (c.in_ok-lost_variables.ensures
          ∙ (λ j. filter (λ n. is_among (c.abstract_variables-kept.ensures j) n && not (is_among (own_names w) n)) (names (entries (c.requires.variables j))))) i;
      variant = c.args.variant;
      events = c.of-4.ensures i;
      unrefined = (c.in_ok-unrefined.ensures
          ∙ (λ j. filter (λ n. not (is_among (joined (map (λ e. e.refines) (c.deref.ensures.value j))) n)) (map (λ e. e.name) (c.abstract_events.ensures j)))) i;
    }
