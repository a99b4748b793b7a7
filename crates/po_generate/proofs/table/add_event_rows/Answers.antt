use Rattle.std.proofs.Common.{◌≡◌, ◌∙◌, ap, map}
use Rattle.std.specs.Option.{option_copied}
use Rattle.model_core.specs.Each.{for_each}
use Rattle.po_rules.specs.Gathering.{gathered}
use Rattle.po_rules.specs.Parts.{parts_of}
use Rattle.model_core.specs.Refined.{refined_by}
use Rattle.po_rules.specs.Tables.{row_of_event}
use Rattle.po_machine.specs.Shared.{view, parts_in}
use Rattle.po_generate.specs.Private.{event_rows_in, rows_in}
use Rattle.po_generate.proofs.Counted.{stopped}
use Rattle.po_generate.proofs.table.add_event_rows.Goals as goal

pub returns-then-out-gt-TABLE_LIMIT : goal.returns-then-out-gt-TABLE_LIMIT
returns-then-out-gt-TABLE_LIMIT c =
    stopped (view c.args.out.now) (event_rows_in c.args.part c.args.machine.now (option_copied c.args.abstraction) c.args.event.now) c.if-out-gt-TABLE_LIMIT.true

pub returns : goal.returns
returns c =
    let m = c.args.machine.now in
    let e = c.args.event.now in
    let abstraction = option_copied c.args.abstraction in
    let first : map (λ x. x.now) c.deref.result.now ≡ refined_by abstraction e = ap (map (λ x. x.now)) c.deref.ensures.value ∙ c.in_ok-refined.ensures in
    let second : map (λ x. x.now) c.deref-2.result.now ≡ refined_by abstraction e = ap (map (λ x. x.now)) c.deref-2.ensures.value ∙ c.in_ok-refined.ensures in
    let parts : parts_in c.in_ok-parts.parts ≡ parts_of m e (refined_by abstraction e) = c.in_ok-parts.ensures.parts ∙ ap (parts_of m e) first in
    c.in_ok-add_rows.ensures
    ∙ (λ i. gathered (view c.args.out.now)
    (for_each (row_of_event (c.in_ok-parts.ensures.machine i) abstraction (c.in_ok-parts.ensures.event i) (second i) (parts i)) (rows_in c.args.part (second i))))
