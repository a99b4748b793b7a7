use Rattle.std.proofs.Common.{◌∙◌, ap, map}
use Rattle.std.specs.Option.{option_copied}
use Rattle.po_rules.specs.Gathering.{gathered}
use Rattle.po_rules.specs.Tables.{witnesses, strengthening, merging, simulation, equality, variant, row_of_event, EventRow}
use Rattle.po_machine.specs.Shared.{view, parts_in}
use Rattle.po_generate.specs.Private.{invariants_beside}
use Rattle.po_generate.proofs.Parts.{beside_is}
use Rattle.po_generate.proofs.Rows.{seven_gathered}
use Rattle.po_generate.proofs.table.add_rows_beside.Goals as goal

pub returns : goal.returns
returns c =
    let p = c.args.parts.now in
    let m = p.machine.now in
    let e = p.event.now in
    let abstraction = option_copied c.args.abstraction in
    let refined = map (λ x. x.now) c.args.refined.now in
    let row = λ (r : EventRow). row_of_event m abstraction e refined (parts_in p) r in
    seven_gathered (view c.args.out.now) (view c.add_witness_rows.new.out) (view c.add_strengthening_rows.new.out) (view c.add_merging_rows.new.out)
    (view c.add_simulation_rows.new.out) (view c.add_equality_rows.new.out) (view c.add_invariants_beside.new.out) (view c.add_decrease_rows.new.out)
    (row witnesses) (row strengthening) (row merging) (row simulation) (row equality) (invariants_beside m e refined (parts_in p)) (row variant)
    c.in_ok-add_witness_rows.ensures c.in_ok-add_strengthening_rows.ensures c.in_ok-add_merging_rows.ensures c.in_ok-add_simulation_rows.ensures
    c.in_ok-add_equality_rows.ensures c.in_ok-add_invariants_beside.ensures c.in_ok-add_decrease_rows.ensures
    ∙ ap (gathered (view c.args.out.now)) (beside_is m abstraction e refined (parts_in p))
