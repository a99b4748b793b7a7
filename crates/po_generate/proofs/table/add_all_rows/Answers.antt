use Rattle.std.proofs.Common.{map}
use Rattle.std.specs.Option.{option_copied}
use Rattle.po_rules.specs.Tables.{guards, witnesses, strengthening, merging, actions, simulation, equality, invariants, variant, row_of_event, EventRow}
use Rattle.po_machine.specs.Shared.{view, parts_in}
use Rattle.po_generate.proofs.Rows.{nine_gathered}
use Rattle.po_generate.proofs.table.add_all_rows.Goals as goal

pub returns : goal.returns
returns c =
    let p = c.args.parts.now in
    let row = λ (r : EventRow). row_of_event p.machine.now (option_copied c.args.abstraction) p.event.now (map (λ x. x.now) c.args.refined.now) (parts_in p) r in
    nine_gathered (view c.args.out.now) (view c.add_guard_rows.new.out) (view c.add_witness_rows.new.out) (view c.add_strengthening_rows.new.out)
    (view c.add_merging_rows.new.out) (view c.add_action_rows.new.out) (view c.add_simulation_rows.new.out) (view c.add_equality_rows.new.out)
    (view c.add_invariant_rows.new.out) (view c.add_decrease_rows.new.out)
    (row guards) (row witnesses) (row strengthening) (row merging) (row actions) (row simulation) (row equality) (row invariants) (row variant)
    c.in_ok-add_guard_rows.ensures c.in_ok-add_witness_rows.ensures c.in_ok-add_strengthening_rows.ensures c.in_ok-add_merging_rows.ensures
    c.in_ok-add_action_rows.ensures c.in_ok-add_simulation_rows.ensures c.in_ok-add_equality_rows.ensures c.in_ok-add_invariant_rows.ensures
    c.in_ok-add_decrease_rows.ensures
