use Rattle.std.proofs.Common.{◌∙◌, ap}
use Rattle.std.specs.Option.{option_copied, option_to_list}
use Rattle.model_core.specs.declared.checked.CheckedEvent.{CheckedEvent}
use Rattle.model_core.specs.Each.{for_each}
use Rattle.po_rules.specs.Gathering.{gathered}
use Rattle.model_core.specs.Refined.{refined_by}
use Rattle.po_rules.specs.Rows.{variant_rows}
use Rattle.po_rules.specs.Tables.{event_rows}
use Rattle.po_machine.specs.Shared.{view}
use Rattle.po_machine.proofs.Gathering.{both_gathered}
use Rattle.po_generate.specs.Lists.{rows_beside}
use Rattle.po_generate.proofs.table.add_refine_obligations.Goals as goal

pub returns : goal.returns
returns c =
    let m = c.args.machine.now in
    let abstraction = option_copied c.args.abstraction in
    let rows = λ (e : CheckedEvent). event_rows (rows_beside (refined_by abstraction e)) m abstraction e in
    both_gathered (view c.args.out.now) (view c.add_variant_rows.new.out) (view c.add_each_event.new.out) (for_each (variant_rows m) (option_to_list m.variant)) (for_each rows m.events)
    c.in_ok-add_variant_rows.ensures (c.in_ok-add_each_event.ensures ∙ ap (λ es. gathered (view c.add_variant_rows.new.out) (for_each rows es)) c.items-events.ensures)
