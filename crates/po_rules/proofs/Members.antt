-- The list of a component has an obligation exactly where some row gives it.
use Rattle.std.proofs.Common.{◌≡◌, inl, inr, ◌↔◌, sym, subst, refl, List, [], ◌++◌, take, drop}
use Rattle.std.specs.Prelude.{Option, Some, None}
use Rattle.std.specs.Option.{option_to_list}
use Rattle.formula_core.specs.declared.formula.Formula.{Formula}
use Rattle.model_core.specs.declared.checked.Checked.{Checked}
use Rattle.model_core.specs.declared.checked.Checked.TheVariants.{Context, Machine}
use Rattle.model_core.specs.declared.checked.CheckedMachine.{CheckedMachine}
use Rattle.model_core.specs.declared.checked.CheckedEvent.{CheckedEvent}
use Rattle.model_core.specs.Each.{IsIn, at_each, for_each, IsGivenBeside}
use Rattle.model_core.proofs.Members.{in_either, in_first, in_second, given, given_beside, is_given_beside}
use Rattle.sequent_core.specs.declared.sequent.Obligation.{Obligation}
use Rattle.po_rules.specs.Parts.{formulas, parts_of}
use Rattle.model_core.specs.Refined.{refined_by}
use Rattle.po_rules.specs.Rows.{labelled_rows, own_invariant_rows, variant_rows}
use Rattle.po_rules.specs.Tables.{EventRow, guards, witnesses, strengthening, merging, actions, simulation, equality, invariants, variant, all_rows, row_of_event, event_rows, machine_rows, obligations_of}
use Rattle.po_rules.specs.Members.{IsMachineObligation, by_own_invariant, by_variant, by_event, IsObligation}

-- the table has each row
is_row : (row : EventRow) → IsIn row all_rows
is_row guards = inl refl
is_row witnesses = inr (inl refl)
is_row strengthening = inr (inr (inl refl))
is_row merging = inr (inr (inr (inl refl)))
is_row actions = inr (inr (inr (inr (inl refl))))
is_row simulation = inr (inr (inr (inr (inr (inl refl)))))
is_row equality = inr (inr (inr (inr (inr (inr (inl refl))))))
is_row invariants = inr (inr (inr (inr (inr (inr (inr (inl refl)))))))
is_row variant = inr (inr (inr (inr (inr (inr (inr (inr (inl refl))))))))

is_beside : {X Y : Type 0} (rows : List X → X → List Y) (earlier xs : List X) (y : Y) → IsGivenBeside rows earlier xs y → IsIn y (at_each rows earlier xs)
is_beside rows earlier xs y g = subst (λ zs. IsIn y (at_each rows earlier zs)) (sym g.3) (is_given_beside rows earlier g.0 g.1 g.2 y g.4)

module _ (m : CheckedMachine) (abstraction : Option CheckedMachine) (o : Obligation) where
  abbrev Of : CheckedEvent → EventRow → List Obligation
  Of e = row_of_event m abstraction e (refined_by abstraction e) (parts_of m e (refined_by abstraction e))

  abbrev variants : List Obligation
  variants = for_each (variant_rows m) (option_to_list m.variant)

  abbrev events : List Obligation
  events = for_each (event_rows all_rows m abstraction) m.events

  of_events : IsIn o events → IsMachineObligation m abstraction o
  of_events h =
      let g = (given (event_rows all_rows m abstraction) m.events o).0 h in
      let k = (given (Of g.0) all_rows o).0 g.2 in
      by_event g.0 k.0 g.1 k.2

  in_events : (e : CheckedEvent) (row : EventRow) → IsIn e m.events → IsIn o (Of e row) → IsIn o events
  in_events e row at has = (given (event_rows all_rows m abstraction) m.events o).1 (e, at, (given (Of e) all_rows o).1 (row, is_row row, has))

  of_variant : (v : Option Formula) → IsIn o (for_each (variant_rows m) (option_to_list v)) → (w : Formula) × (v ≡ Some w) × IsIn o (variant_rows m w)
  of_variant None h = absurd h
  of_variant (Some v) h = (v, refl, elim (in_either o (variant_rows m v) [] h) [ inl a ↦ a | inr b ↦ absurd b ])

  in_variant : (v : Option Formula) (w : Formula) → v ≡ Some w → IsIn o (variant_rows m w) → IsIn o (for_each (variant_rows m) (option_to_list v))
  in_variant v w e h = subst (λ u. IsIn o (for_each (variant_rows m) (option_to_list u))) (sym e) (in_first o (variant_rows m w) [] h)

  of_machine : IsIn o (machine_rows m abstraction) → IsMachineObligation m abstraction o
  of_machine h = elim (in_either o (own_invariant_rows m ++ variants) events h) [
    | inl first ↦ elim (in_either o (own_invariant_rows m) variants first) [
      | inl i ↦ by_own_invariant (given_beside (labelled_rows m.name m.env (formulas m.axioms)) (take m.own_from m.invariants) (drop m.own_from m.invariants) o i)
      | inr v ↦ let w = of_variant m.variant v in by_variant w.0 w.1 w.2
    ]
    | inr e ↦ of_events e
  ]

  in_machine : IsMachineObligation m abstraction o → IsIn o (machine_rows m abstraction)
  in_machine (by_own_invariant i) = in_first o (own_invariant_rows m ++ variants) events (in_first o (own_invariant_rows m) variants
      (is_beside (labelled_rows m.name m.env (formulas m.axioms)) (take m.own_from m.invariants) (drop m.own_from m.invariants) o i))
  in_machine (by_variant v is has) = in_first o (own_invariant_rows m ++ variants) events (in_second o (own_invariant_rows m) variants (in_variant m.variant v is has))
  in_machine (by_event e row at has) = in_second o (own_invariant_rows m ++ variants) events (in_events e row at has)

pub rows_give : (checked : Checked) (abstraction : Option CheckedMachine) (o : Obligation) → IsIn o (obligations_of checked abstraction) ↔ IsObligation checked abstraction o
rows_give (Context c) abstraction o =
    (given_beside (labelled_rows c.name c.env []) (take c.own_from c.axioms) (drop c.own_from c.axioms) o, is_beside (labelled_rows c.name c.env []) (take c.own_from c.axioms) (drop c.own_from c.axioms) o)
rows_give (Machine m) abstraction o = (of_machine m abstraction o, in_machine m abstraction o)
