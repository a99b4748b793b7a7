use Rattle.std.proofs.Common.{◌∙◌, ap, sym, map}
use Rattle.std.specs.Option.{option_copied}
use Rattle.model_core.specs.Each.{for_each}
use Rattle.po_rules.specs.Gathering.{gathered}
use Rattle.po_rules.specs.Tables.{guards, actions, invariants, row_of_event, EventRow}
use Rattle.po_machine.specs.Shared.{view, parts_in}
use Rattle.po_generate.proofs.Parts.{alone_none, alone_some}
use Rattle.po_generate.proofs.Rows.{two_gathered, three_gathered}
use Rattle.po_generate.proofs.table.add_rows_alone.Goals as goal

pub returns-then-not-is_empty : goal.returns-then-not-is_empty
returns-then-not-is_empty c =
    let p = c.args.parts.now in
    let old = view c.args.out.now in
    let row = λ (r : EventRow). row_of_event p.machine.now (option_copied c.args.abstraction) p.event.now (map (λ x. x.now) c.args.refined.now) (parts_in p) r in
    two_gathered old (view c.add_guard_rows.new.out) (view c.add_action_rows.new.out) (row guards) (row actions) c.in_ok-add_guard_rows.ensures c.in_ok-add_action_rows.ensures
    ∙ ap (λ rs. gathered old (for_each row rs)) (sym (alone_some c.args.refined.now (sym c.is_empty.ensures ∙ c.if-not-is_empty.true)))

pub returns : goal.returns
returns c =
    let p = c.args.parts.now in
    let old = view c.args.out.now in
    let row = λ (r : EventRow). row_of_event p.machine.now (option_copied c.args.abstraction) p.event.now (map (λ x. x.now) c.args.refined.now) (parts_in p) r in
    three_gathered old (view c.add_guard_rows.new.out) (view c.add_action_rows.new.out) (view c.add_invariant_rows.new.out) (row guards) (row actions) (row invariants)
    c.in_ok-add_guard_rows.ensures c.in_ok-add_action_rows.ensures c.in_ok-add_invariant_rows.ensures
    ∙ ap (λ rs. gathered old (for_each row rs)) (sym (alone_none c.args.refined.now (sym c.is_empty.ensures ∙ c.if-not-is_empty.false)))
