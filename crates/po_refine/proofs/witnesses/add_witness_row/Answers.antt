use Rattle.std.proofs.Common.{◌∙◌, sym, ap, map}
use Rattle.std.specs.Prelude.{codes}
use Rattle.std.specs.Option.{option_to_list}
use Rattle.formula_core.specs.Env.{type_in}
use Rattle.well_defined.specs.Conditions.{wd_of}
use Rattle.po_rules.specs.Gathering.{gathered}
use Rattle.po_rules.specs.Rows.{from_choices, of_kind, for_some_of, witness_row}
use Rattle.po_machine.specs.Shared.{view, parts_in}
use Rattle.po_machine.proofs.Gathering.{full}
use Rattle.po_refine.proofs.Tails.{same_rows, then_rows}
use Rattle.po_refine.proofs.witnesses.add_witness_row.Goals as goal

pub returns-then-is_full : goal.returns-then-is_full
returns-then-is_full c = full (view c.args.out.now) (witness_row (parts_in c.args.parts.now) c.args.witness.now) (sym c.is_full.ensures ∙ c.if-is_full.true)

pub returns : goal.returns
returns c =
    let p = parts_in c.args.parts.now in
    let w = c.args.witness.now in
    let label = c.name_part-label.ensures.text in
    let defined = from_choices p (of_kind w.0 (codes "WWD")) (wd_of w.1) in
    let feasible = from_choices p (of_kind w.0 (codes "WFIS")) (for_some_of (map (λ t. (w.0, t)) (option_to_list (type_in p.env w.0))) w.1) in
    then_rows c.add_from_choices-2.result (view c.args.out.now) (view c.add_from_choices.new.out) (view c.add_from_choices-2.new.out) defined feasible
    (c.in_ok-add_from_choices.ensures
    ∙ (λ i. gathered (view c.args.out.now) (from_choices p (of_kind (label i) (codes "WWD")) (c.in_ok-goal.ensures.value i))))
    (same_rows c.add_from_choices-2.result (view c.add_from_choices.new.out) (view c.add_from_choices-2.new.out) (from_choices p (of_kind c.name_part-label.result.now (codes "WFIS")) c.in_ok-goal-2.goal) feasible
    ((λ i. from_choices p (of_kind (label i) (codes "WFIS")) (c.in_ok-goal-2.ensures i))
    ∙ ap (λ ids. from_choices p (of_kind w.0 (codes "WFIS")) (for_some_of ids w.1)) (c.deref.ensures.value ∙ c.in_ok-identifiers.ensures))
    c.add_from_choices-2.ensures)
