use Rattle.std.proofs.Common.{◌≡◌, ◌∙◌, OnOk, ap, subst, sym}
use Rattle.std.specs.Prelude.{codes}
use Rattle.std.specs.Map.{keys_of}
use Rattle.formula_core.specs.Formulas.{substituted}
use Rattle.po_rules.specs.Gathering.{gathered}
use Rattle.po_rules.specs.Rows.{from_witnesses, invariant_row, of_kind}
use Rattle.po_machine.specs.Shared.{parts_in, view}
use Rattle.po_machine.specs.Private.{is_to_keep}
use Rattle.po_machine.proofs.Gathering.{full, if_wanted}
use Rattle.po_machine.proofs.invariants.add_invariant_row.Goals as goal

pub returns : goal.returns
returns c =
    let p = parts_in c.args.parts.now in
    let e = c.args.parts.now.event.now in
    let i = c.args.invariant.now in
    let row = from_witnesses p (of_kind i.label (codes "INV")) (substituted p.after i.formula) in
    subst (λ rows. OnOk c.add_from_witnesses.result (view c.add_from_witnesses.new.out ≡ gathered (view c.args.out.now) rows))
    (ap (λ label. from_witnesses p (of_kind label (codes "INV")) c.in_ok-goal.goal) (c.label_part.ensures.text ∙ c.get-2.ensures)
    ∙ ap (from_witnesses p (of_kind i.label (codes "INV")))
    (c.in_ok-goal.ensures ∙ ap (λ pairs. substituted pairs c.get.result.now) c.deref.ensures.value ∙ ap (substituted p.after) c.get.ensures)
    ∙ sym (if_wanted c.in_ok-is_to_keep.field-0 (is_to_keep e (keys_of p.after) i) row c.if-not-branch.false (c.in_ok-is_to_keep.ensures ∙ ap (λ names. is_to_keep e names i) c.requires)))
    c.add_from_witnesses.ensures

pub returns-then-is_full : goal.returns-then-is_full
returns-then-is_full c = full (view c.args.out.now) (invariant_row c.args.parts.now.event.now (parts_in c.args.parts.now) c.args.invariant.now) (sym c.is_full.ensures ∙ c.if-is_full.true)
