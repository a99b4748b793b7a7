-- The rows of events and components.
use Rattle.std.proofs.Common.{ℕ, Bool, true, false, List, [], ◌∷◌, ◌++◌, map, Option, Some, None, IfSome}
use Rattle.std.specs.Prelude.{if◌then◌else◌, codes}
use Rattle.std.specs.List.{AllByRecursion, list_any}
use Rattle.std.specs.Option.{option_to_list}
use Rattle.formula_core.specs.declared.ty.Ty.{Ty}
use Rattle.formula_core.specs.declared.formula.Formula.{Formula}
use Rattle.formula_core.specs.declared.raw.Action.{Action}
use Rattle.formula_core.specs.declared.raw.Action.TheVariants.{Assign, ChooseIn, ChooseSuch}
use Rattle.formula_core.specs.Formulas.{substituted}
use Rattle.formula_core.specs.Same.{same_action}
use Rattle.formula_core.specs.Typed.{IsPredicateIn}
use Rattle.formula_core.specs.Wellness.{type_of}
use Rattle.formula_core.proofs.Keeping.{all_more}
use Rattle.well_defined.specs.Predicates.{conjunction}
use Rattle.model_core.specs.declared.checked.Checked.{Checked}
use Rattle.model_core.specs.declared.checked.Checked.TheVariants.{Context, Machine}
use Rattle.model_core.specs.declared.checked.CheckedEvent.{CheckedEvent}
use Rattle.model_core.specs.declared.checked.CheckedMachine.{CheckedMachine}
use Rattle.model_core.specs.Each.{for_each, is_among}
use Rattle.po_rules.specs.Parts.{EventParts, formulas, is_extended, actions_of, actions_of_first, open_targets, as_term, before_after, machine_hyps, parts_of}
use Rattle.formula_core.specs.Names.{with_prime}
use Rattle.model_core.specs.Refined.{refined_by}
use Rattle.po_rules.specs.Rows.{of_kind, chain, equal_terms, simulated_value, simulated, simulation_row, simulation_rows, own_invariant_rows, variant_rows, decrease_rows}
use Rattle.po_rules.specs.Sequents.{IsNewValueIn, AreGoodParts, AreSequents}
use Rattle.po_rules.specs.Tables.{EventRow, guards, witnesses, strengthening, merging, actions, simulation, equality, invariants, variant, all_rows, row_of_event, event_rows, machine_rows, obligations_of}
use Rattle.sequent_laws.specs.Sound.{IsTypedVariantIn, IsAbstractActionAt, IsReadIn, HasGoodParts, IsGoodMachine, IsGoodComponent}
use Rattle.sequent_laws.proofs.Formulas
use Rattle.sequent_laws.proofs.Primes.{unprimed}
use Rattle.sequent_laws.proofs.Rows

module _ (p : EventParts) (good : AreGoodParts p) where
  abbrev Is : Formula → Type 0
  Is = IsPredicateIn p.env

  abbrev new_value : List ℕ × Ty → Formula
  new_value x = substituted p.after (as_term x)

  -- SIM
  value_is : (m : CheckedMachine) (x : List ℕ × Formula) → IsNewValueIn p.env x → AllByRecursion Is (simulated_value m p x)
  value_is m x h =
      let v : List ℕ × Ty = (x.0, type_of x.1) in
      let same : Is (equal_terms (new_value v) x.1) =
      Formulas.equal_typed p.env (new_value v) x.1 (Rows.new_value_typed p good v h.1) h.0 (Formulas.value_at p.env good.env x.0 (type_of x.1) h.1) (Rows.new_value_type p good v h.1) in
      let go : (b : Bool) → AllByRecursion Is (if b then [] else (equal_terms (new_value v) x.1 ∷ [])) = elim [
        | true ↦ tt
        | false ↦ (same, tt)
      ] in
      go (is_among m.lost x.0)

  choice_is : (a : Action) → IsAbstractActionAt p.env a → Is (chain conjunction (map (substituted (map (λ x. ((with_prime x).0, substituted p.after (as_term x))) (open_targets a))) (before_after a)))
  choice_is a h =
      let put = substituted (map (λ x. ((with_prime x).0, new_value x)) (open_targets a)) in
      Formulas.conjunctions_typed p.env (map put (before_after a))
      (Rows.all_of Is put (before_after a)
      (all_more (IsPredicateIn (map with_prime (open_targets a) ++ p.env)) (λ f. Is (put f))
      (unprimed p.env good.env new_value (Rows.new_value_typed p good) (Rows.new_value_type p good) (open_targets a) h.targets) (before_after a) h.choices))

  simulated_is : (m : CheckedMachine) (a : Action) → IsAbstractActionAt p.env a → Is (simulated m p a)
  simulated_is m (Assign pairs) h =
      Formulas.conjunctions_typed p.env (for_each (simulated_value m p) pairs)
      (Rows.all_given Is (simulated_value m p) pairs (all_more (IsNewValueIn p.env) (λ x. AllByRecursion Is (simulated_value m p x)) (value_is m) pairs h.values))
  simulated_is m (ChooseIn x s) h = choice_is (ChooseIn x s) h
  simulated_is m (ChooseSuch targets q) h = choice_is (ChooseSuch targets q) h

  simulation_is : (m : CheckedMachine) (e : CheckedEvent) (a : List ℕ × Action) → IsAbstractActionAt p.env a.1 → AreSequents (simulation_row m e p a)
  simulation_is m e a h =
      Rows.if_not (list_any (same_action a.1) (actions_of e)) _ (Rows.from_witnesses_is p good (of_kind a.0 (codes "SIM")) (simulated m p a.1) (simulated_is m a.1 h))

  each_action : (labelled : List (List ℕ × Action)) → AllByRecursion (IsAbstractActionAt p.env) (map (λ a. a.1) labelled) → AllByRecursion (λ a. IsAbstractActionAt p.env a.1) labelled
  each_action [] h = tt
  each_action (a ∷ labelled) h = (h.0, each_action labelled h.1)

  simulation_are : (m : CheckedMachine) (e : CheckedEvent) (refined : List CheckedEvent) → AllByRecursion (IsAbstractActionAt p.env) (actions_of_first refined) → AreSequents (simulation_rows m e refined p)
  simulation_are m e [] h = tt
  simulation_are m e (r ∷ refined) h =
      Rows.if_not (is_extended e) _ (Rows.each_by (λ a. IsAbstractActionAt p.env a.1) (simulation_row m e p) (simulation_is m e) r.actions (each_action r.actions h))

listed : {X : Type 0} (P : X → Type 0) (o : Option X) → IfSome o P → AllByRecursion P (option_to_list o)
listed P None h = tt
listed P (Some x) h = (h, tt)

-- each row of an event
pub row_is : (m : CheckedMachine) (abstraction : Option CheckedMachine) (e : CheckedEvent) (refined : List CheckedEvent) (p : EventParts) (row : EventRow)
    → AreGoodParts p → IsReadIn p.env m e refined → AreSequents (row_of_event m abstraction e refined p row)
row_is m abstraction e refined p guards good reads =
    Rows.labelled_are p.path p.env (machine_hyps m) good.env (Rows.hyps_are p.env m reads.axioms reads.invariants) e.own_guards_from e.guards reads.guards
row_is m abstraction e refined p witnesses good reads = Rows.witnesses_are p good
row_is m abstraction e refined p strengthening good reads = Rows.strengthening_are p good e refined reads.refined_guards
row_is m abstraction e refined p merging good reads = Rows.merging_are p good refined reads.refined_guards
row_is m abstraction e refined p actions good reads = Rows.actions_are p good e reads.actions
row_is m abstraction e refined p simulation good reads = simulation_are p good m e refined reads.refined_actions
row_is m abstraction e refined p equality good reads = Rows.equalities_are p good m abstraction refined
row_is m abstraction e refined p invariants good reads = Rows.invariants_are p good m e reads.invariants
row_is m abstraction e refined p variant good reads =
    Rows.each_by (IsTypedVariantIn p.env) (decrease_rows e refined p) (Rows.decrease_are p good e refined) (option_to_list m.variant) (listed (IsTypedVariantIn p.env) m.variant reads.variant)

module _ (m : CheckedMachine) (abstraction : Option CheckedMachine) where
  event_is : (e : CheckedEvent) → HasGoodParts m (refined_by abstraction e) e → AreSequents (event_rows all_rows m abstraction e)
  event_is e h =
      let refined = refined_by abstraction e in
      Rows.each_of_any (row_of_event m abstraction e refined (parts_of m e refined)) (λ row. row_is m abstraction e refined (parts_of m e refined) row h.0 h.1) all_rows

  machine_is : IsGoodMachine m abstraction → AreSequents (machine_rows m abstraction)
  machine_is h =
      let hyps = Rows.hyps_are m.env m h.axioms h.invariants in
      Rows.join (own_invariant_rows m ++ for_each (variant_rows m) (option_to_list m.variant)) _
      (Rows.join (own_invariant_rows m) _
      (Rows.labelled_are m.name m.env (formulas m.axioms) h.env (Rows.formulas_are m.env m.axioms h.axioms) m.own_from m.invariants h.invariants)
      (Rows.each_by (IsTypedVariantIn m.env) (variant_rows m) (Rows.variant_are m h.env hyps) (option_to_list m.variant) (listed (IsTypedVariantIn m.env) m.variant h.variant)))
      (Rows.each_by (λ e. HasGoodParts m (refined_by abstraction e) e) (event_rows all_rows m abstraction) event_is m.events h.events)

-- the table of a component
pub table_is : (checked : Checked) (abstraction : Option CheckedMachine) → IsGoodComponent checked abstraction → AreSequents (obligations_of checked abstraction)
table_is (Context c) abstraction h = Rows.labelled_are c.name c.env [] h.env tt c.own_from c.axioms h.axioms
table_is (Machine m) abstraction h = machine_is m abstraction h
