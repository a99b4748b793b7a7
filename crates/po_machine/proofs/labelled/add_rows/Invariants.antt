use Rattle.std.proofs.Common.{◌≡◌, drop}
use Rattle.po_rules.specs.Gathering.{gathered}
use Rattle.po_machine.specs.Shared.{view}
use Rattle.po_machine.specs.Private.{referenced, rows_at}
use Rattle.po_machine.proofs.labelled.add_rows.Given as goal

abbrev pub invariant-loop-labelled : goal.invariant-loop-labelled
invariant-loop-labelled l =
    gathered (view l.out) (rows_at l.site (referenced l.hyps.items) (drop l.labelled-index l.own))
    ≡ gathered (view l.initial.out) (rows_at l.site (referenced l.initial.hyps.items) l.own)
