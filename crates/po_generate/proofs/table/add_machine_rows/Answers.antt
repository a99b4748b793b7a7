use Rattle.std.proofs.Common.{◌∙◌, ap, ◌++◌}
use Rattle.std.specs.Option.{option_copied, option_to_list}
use Rattle.model_core.specs.Each.{for_each}
use Rattle.po_rules.specs.Gathering.{gathered}
use Rattle.po_rules.specs.Rows.{own_invariant_rows, variant_rows}
use Rattle.po_rules.specs.Tables.{all_rows, event_rows}
use Rattle.po_machine.specs.Shared.{view}
use Rattle.po_machine.proofs.Gathering.{both_gathered}
use Rattle.po_generate.proofs.table.add_machine_rows.Goals as goal

pub returns : goal.returns
returns c =
    let m = c.args.machine.now in
    let old = view c.args.out.now in
    let own = own_invariant_rows m in
    let variants = for_each (variant_rows m) (option_to_list m.variant) in
    let rows = event_rows all_rows m (option_copied c.args.abstraction) in
    both_gathered old (view c.add_variant_rows.new.out) (view c.add_each_event.new.out) (own ++ variants) (for_each rows m.events)
    (both_gathered old (view c.add_own_invariant_rows.new.out) (view c.add_variant_rows.new.out) own variants
    c.in_ok-add_own_invariant_rows.ensures c.in_ok-add_variant_rows.ensures)
    (c.in_ok-add_each_event.ensures ∙ ap (λ es. gathered (view c.add_variant_rows.new.out) (for_each rows es)) c.items-events.ensures)
