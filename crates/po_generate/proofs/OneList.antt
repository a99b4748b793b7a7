-- Each obligation stands in one of the two lists.
use Rattle.std.proofs.Common.{◌⊎◌, inl, inr, ◌↔◌, refl, List, [], ◌∷◌, ◌++◌}
use Rattle.std.specs.Prelude.{Option}
use Rattle.std.specs.Option.{option_to_list}
use Rattle.model_core.specs.declared.checked.Checked.{Checked}
use Rattle.model_core.specs.declared.checked.Checked.TheVariants.{Context, Machine}
use Rattle.model_core.specs.declared.checked.CheckedMachine.{CheckedMachine}
use Rattle.model_core.specs.declared.checked.CheckedEvent.{CheckedEvent}
use Rattle.model_core.specs.Each.{IsIn, for_each}
use Rattle.model_core.proofs.Members.{in_either, in_first, in_second, given}
use Rattle.sequent_core.specs.declared.sequent.Obligation.{Obligation}
use Rattle.po_rules.specs.Parts.{parts_of}
use Rattle.model_core.specs.Refined.{refined_by}
use Rattle.po_rules.specs.Rows.{own_invariant_rows, variant_rows}
use Rattle.po_rules.specs.Tables.{EventRow, guards, witnesses, strengthening, merging, actions, simulation, equality, invariants, variant, all_rows, row_of_event, event_rows, machine_rows, obligations_of}
use Rattle.po_generate.specs.Lists.{rows_alone, rows_beside, machine_obligations_of, refine_obligations_of}

is_row : (row : EventRow) → IsIn row all_rows
is_row guards = inl refl
is_row witnesses = inr (inl refl)
is_row strengthening = inr (inr (inl refl))
is_row merging = inr (inr (inr (inl refl)))
is_row actions = inr (inr (inr (inr (inl refl))))
is_row simulation = inr (inr (inr (inr (inr (inl refl)))))
is_row equality = inr (inr (inr (inr (inr (inr (inl refl))))))
is_row invariants = inr (inr (inr (inr (inr (inr (inr (inl refl)))))))
is_row variant = inr (inr (inr (inr (inr (inr (inr (inr (inl refl))))))))

is_either : (refined : List CheckedEvent) (row : EventRow) → IsIn row (rows_alone refined) ⊎ IsIn row (rows_beside refined)
is_either [] guards = inl (inl refl)
is_either [] witnesses = inr (inl refl)
is_either [] strengthening = inr (inr (inl refl))
is_either [] merging = inr (inr (inr (inl refl)))
is_either [] actions = inl (inr (inl refl))
is_either [] simulation = inr (inr (inr (inr (inl refl))))
is_either [] equality = inr (inr (inr (inr (inr (inl refl)))))
is_either [] invariants = inl (inr (inr (inl refl)))
is_either [] variant = inr (inr (inr (inr (inr (inr (inl refl))))))
is_either (r ∷ refined) guards = inl (inl refl)
is_either (r ∷ refined) witnesses = inr (inl refl)
is_either (r ∷ refined) strengthening = inr (inr (inl refl))
is_either (r ∷ refined) merging = inr (inr (inr (inl refl)))
is_either (r ∷ refined) actions = inl (inr (inl refl))
is_either (r ∷ refined) simulation = inr (inr (inr (inr (inl refl))))
is_either (r ∷ refined) equality = inr (inr (inr (inr (inr (inl refl)))))
is_either (r ∷ refined) invariants = inr (inr (inr (inr (inr (inr (inl refl))))))
is_either (r ∷ refined) variant = inr (inr (inr (inr (inr (inr (inr (inl refl)))))))

module _ (m : CheckedMachine) (abstraction : Option CheckedMachine) (o : Obligation) where
  abbrev Of : CheckedEvent → EventRow → List Obligation
  Of e = row_of_event m abstraction e (refined_by abstraction e) (parts_of m e (refined_by abstraction e))

  abbrev own : List Obligation
  own = own_invariant_rows m

  abbrev variants : List Obligation
  variants = for_each (variant_rows m) (option_to_list m.variant)

  abbrev some : (List CheckedEvent → List EventRow) → CheckedEvent → List Obligation
  some rows e = event_rows (rows (refined_by abstraction e)) m abstraction e

  abbrev events : (List CheckedEvent → List EventRow) → List Obligation
  events rows = for_each (some rows) m.events

  in_events : (rows : List CheckedEvent → List EventRow) (e : CheckedEvent) (row : EventRow) → IsIn e m.events → IsIn row (rows (refined_by abstraction e)) → IsIn o (Of e row) → IsIn o (events rows)
  in_events rows e row h r k = (given (some rows) m.events o).1 (e, h, (given (Of e) (rows (refined_by abstraction e)) o).1 (row, r, k))

  to_machine : IsIn o (machine_rows m abstraction) → IsIn o (own ++ events rows_alone) ⊎ IsIn o (variants ++ events rows_beside)
  to_machine h = elim (in_either o (own ++ variants) (events (λ refined. all_rows)) h) [
    | inl first ↦ elim (in_either o own variants first) [
      | inl i ↦ inl (in_first o own (events rows_alone) i)
      | inr v ↦ inr (in_first o variants (events rows_beside) v)
    ]
    | inr e ↦
        let g = (given (some (λ refined. all_rows)) m.events o).0 e in
        let k = (given (Of g.0) all_rows o).0 g.2 in
        elim (is_either (refined_by abstraction g.0) k.0) [
          | inl r ↦ inl (in_second o own (events rows_alone) (in_events rows_alone g.0 k.0 g.1 r k.2))
          | inr r ↦ inr (in_second o variants (events rows_beside) (in_events rows_beside g.0 k.0 g.1 r k.2))
        ]
  ]

  of_events : (rows : List CheckedEvent → List EventRow) → IsIn o (events rows) → IsIn o (machine_rows m abstraction)
  of_events rows h =
      let g = (given (some rows) m.events o).0 h in
      let k = (given (Of g.0) (rows (refined_by abstraction g.0)) o).0 g.2 in
      in_second o (own ++ variants) (events (λ refined. all_rows)) (in_events (λ refined. all_rows) g.0 k.0 g.1 (is_row k.0) k.2)

  of_alone : IsIn o (own ++ events rows_alone) → IsIn o (machine_rows m abstraction)
  of_alone h = elim (in_either o own (events rows_alone) h) [
    | inl i ↦ in_first o (own ++ variants) (events (λ refined. all_rows)) (in_first o own variants i)
    | inr e ↦ of_events rows_alone e
  ]

  of_beside : IsIn o (variants ++ events rows_beside) → IsIn o (machine_rows m abstraction)
  of_beside h = elim (in_either o variants (events rows_beside) h) [
    | inl v ↦ in_first o (own ++ variants) (events (λ refined. all_rows)) (in_second o own variants v)
    | inr e ↦ of_events rows_beside e
  ]

pub in_one_list : (checked : Checked) (abstraction : Option CheckedMachine) (o : Obligation) →
    IsIn o (obligations_of checked abstraction) ↔ (IsIn o (machine_obligations_of checked abstraction) ⊎ IsIn o (refine_obligations_of checked abstraction))
in_one_list (Context c) abstraction o = (λ h. inl h, λ h. elim h [ inl a ↦ a | inr b ↦ absurd b ])
in_one_list (Machine m) abstraction o = (λ h. to_machine m abstraction o h, λ h. elim h [ inl a ↦ of_alone m abstraction o a | inr b ↦ of_beside m abstraction o b ])
