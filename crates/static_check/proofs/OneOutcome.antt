-- A component has one outcome, with the same parts.
use Rattle.std.proofs.Common.{◌≡◌, ◌∙◌, inl, inr, sym, ap, subst, ℕ, List, [], ◌∷◌, ◌++◌, Option, Some, None}
use Rattle.std.specs.Prelude.{Ok, Err, MatchOption}
use Rattle.formula_core.specs.declared.raw.Ref.{Ref}
use Rattle.formula_core.specs.declared.formula.Formula.{Formula}
use Rattle.type_formula.specs.Answers.{HasNoFormula, HasTwoFormulas}
use Rattle.type_formula.specs.CoreForms.{core_form}
use Rattle.model_core.specs.declared.fault.Fault.{Fault}
use Rattle.model_core.specs.declared.component.RawEvent.{RawEvent}
use Rattle.model_core.specs.declared.component.RawComponent.{RawComponent}
use Rattle.model_core.specs.declared.component.RawComponent.TheVariants as raw
use Rattle.model_core.specs.declared.component.RawLabelled.{RawLabelled}
use Rattle.model_core.specs.declared.component.RawVariant.{RawVariant}
use Rattle.model_core.specs.declared.checked.Checked.{Checked}
use Rattle.model_core.specs.declared.checked.Checked.TheVariants.{Context, Machine}
use Rattle.model_core.specs.declared.checked.CheckedContext.{CheckedContext}
use Rattle.model_core.specs.declared.checked.CheckedEvent.{CheckedEvent}
use Rattle.model_core.specs.declared.checked.CheckedMachine.{CheckedMachine}
use Rattle.model_core.specs.declared.checked.Labelled.{Labelled}
use Rattle.model_core.specs.Faults.{first_by_place}
use Rattle.check_rules.specs.Visible.{Visible, nothing, seen_from}
use Rattle.check_rules.specs.Typed.{Entries, AreTyped, AreTypedActions, IsTypedVariant, never_typed}
use Rattle.check_rules.specs.Contexts.{Outcome, names_of, unless, context_env, checked_context_of, context_declarations, ChecksAxioms, ChecksContext}
use Rattle.check_rules.specs.Events.{event_env, witness_env, checked_event_of, IsTypedEvent, AreTypedEvents}
use Rattle.check_rules.specs.Machines.{Written, abstract_events, abstract_view, all_variables, new_variables, machine_env, checked_machine_of, machine_declarations, machine_assignments, machine_refinements, IsTypedMachine, ChecksFormulas, ChecksMachine}
use Rattle.check_rules.specs.Components.{ChecksBeside, contexts_in, first_machine_in}
use Rattle.static_check.proofs.OneWay.{typed_one_way, actions_one_way, mistyped_one, not_mistyped}

-- a fault, or else one outcome
one_of : (first : Option Fault) (P Q : Type 0) (one two : Outcome) → (P → Q → one ≡ two) →
    MatchOption first P (λ fault. one ≡ Err fault) → MatchOption first Q (λ fault. two ≡ Err fault) → one ≡ two
one_of None P Q one two k a b = k a b
one_of (Some fault) P Q one two k a b = a ∙ sym b

unless_one : (faults : List Fault) (c : Checked) (one two : Outcome) → unless faults c one → unless faults c two → one ≡ two
unless_one faults c one two a b = one_of (first_by_place faults) (one ≡ Ok c) (two ≡ Ok c) one two (λ x y. x ∙ sym y) a b

abbrev Typings : Type 0
Typings = List Labelled × List Fault × Entries

abbrev axioms_give : List ℕ → List Ref → List Ref → Visible → Outcome → Typings → Type 0
axioms_give name sets constants v outcome x = unless (x.1 ++ never_typed name x.2 constants) (Context (checked_context_of name (sets ++ constants) v x.0 x.2)) outcome

axioms_one : (name : List ℕ) (sets constants : List Ref) (axioms : List RawLabelled) (v : Visible) (one two : Outcome) →
    ChecksAxioms name sets constants axioms v one → ChecksAxioms name sets constants axioms v two → one ≡ two
axioms_one name sets constants axioms v one two a b =
    let same = typed_one_way name (context_env sets v) (names_of constants) axioms b.0 a.0 b.1 a.1 b.2 a.2 b.3 a.3 in
    let path : (b.0, b.1, b.2) ≡ (a.0, a.1, a.2) = λ i. (same.0 i, same.1 i, same.2 i) in
    unless_one (a.1 ++ never_typed name a.2 constants) (Context (checked_context_of name (sets ++ constants) v a.0 a.2)) one two a.4
    (subst (axioms_give name sets constants v two) path b.4)

pub context_one : (name : List ℕ) (extends sets constants : List Ref) (axioms : List RawLabelled) (parents : List CheckedContext) (one two : Outcome) →
    ChecksContext name extends sets constants axioms parents one → ChecksContext name extends sets constants axioms parents two → one ≡ two
context_one name extends sets constants axioms parents one two a b =
    one_of (first_by_place (context_declarations name extends (sets ++ constants) axioms parents)) _ _ one two
    (axioms_one name sets constants axioms (seen_from nothing parents) one two) a b

variant_one : (component : List ℕ) (env : Entries) (variant : Option RawVariant) (t u : Option Formula) (f g : List Fault) →
    IsTypedVariant component env variant t f → IsTypedVariant component env variant u g → (t ≡ u) × (f ≡ g)
variant_one component env None t u f g a b = (a.0 ∙ sym b.0, a.1 ∙ sym b.1)
variant_one component env (Some v) t u f g (inl a) (inl b) = (a.3 ∙ ap (λ x. Some x) (sym (a.2.only b.0 b.2.typed)) ∙ sym b.3, a.4 ∙ sym b.4)
variant_one component env (Some v) t u f g (inl a) (inr b) =
    absurd (not_mistyped component _ (HasNoFormula env [] (core_form v.formula) None) (HasTwoFormulas env [] (core_form v.formula) None) _ b.0 a.1 (λ c. c a.0 a.2.typed)
    (λ o. o.apart (a.2.only o.one o.first ∙ sym (a.2.only o.two o.second))) b.1)
variant_one component env (Some v) t u f g (inr a) (inl b) =
    absurd (not_mistyped component _ (HasNoFormula env [] (core_form v.formula) None) (HasTwoFormulas env [] (core_form v.formula) None) _ a.0 b.1 (λ c. c b.0 b.2.typed)
    (λ o. o.apart (b.2.only o.one o.first ∙ sym (b.2.only o.two o.second))) a.1)
variant_one component env (Some v) t u f g (inr a) (inr b) = (
  a.2 ∙ sym b.2,
  a.3 ∙ ap (λ x. x ∷ []) (mistyped_one component _ (HasNoFormula env [] (core_form v.formula) None) (HasTwoFormulas env [] (core_form v.formula) None) _ a.0 b.0 (λ c o. c o.one o.first) a.1 b.1) ∙ sym b.3,
)

event_one : (component : List ℕ) (m : List CheckedEvent) (variables : List (List ℕ)) (env : Entries) (e : RawEvent) (t u : CheckedEvent) (f g : List Fault) →
    IsTypedEvent component m variables env e t f → IsTypedEvent component m variables env e u g → (t ≡ u) × (f ≡ g)
event_one component m variables env e t u f g a b =
    let guards = typed_one_way component (event_env m e env) (names_of e.params) e.guards a.0 b.0 a.1 b.1 a.2 b.2 a.3 b.3 in
    let witnesses = typed_one_way component (witness_env m e variables env a.2) [] e.witnesses a.4 b.4 a.5 b.5 a.6 b.6 a.7
    (subst (λ n. AreTyped component (witness_env m e variables env n) [] e.witnesses b.4 b.5 b.6) (sym guards.2) b.7) in
    let actions = actions_one_way component a.2 e.actions a.8 b.8 a.9 b.9 a.10 (subst (λ n. AreTypedActions component n e.actions b.8 b.9) (sym guards.2) b.10) in (
      a.11 ∙ (λ i. checked_event_of m e (guards.2 i) (guards.0 i) (witnesses.0 i) (actions.0 i)) ∙ sym b.11,
      a.12 ∙ (λ i. guards.1 i ++ never_typed component (guards.2 i) e.params ++ witnesses.1 i ++ actions.1 i) ∙ sym b.12,
    )

events_one : (component : List ℕ) (m : List CheckedEvent) (variables : List (List ℕ)) (env : Entries) (events : List RawEvent) (t u : List CheckedEvent) (f g : List Fault) →
    AreTypedEvents component m variables env events t f → AreTypedEvents component m variables env events u g → (t ≡ u) × (f ≡ g)
events_one component m variables env [] t u f g a b = (a.0 ∙ sym b.0, a.1 ∙ sym b.1)
events_one component m variables env (e ∷ events) t u f g a b =
    let first = event_one component m variables env e a.0 b.0 a.1 b.1 a.4 b.4 in
    let others = events_one component m variables env events a.2 b.2 a.3 b.3 a.5 b.5 in
    (a.6 ∙ (λ i. first.0 i ∷ others.0 i) ∙ sym b.6, a.7 ∙ (λ i. first.1 i ++ others.1 i) ∙ sym b.7)

machine_typed_one : (m : Option CheckedMachine) (w : Written) (v : Visible) (t u : CheckedMachine) (f g : List Fault) →
    IsTypedMachine m w v t f → IsTypedMachine m w v u g → (t ≡ u) × (f ≡ g)
machine_typed_one m w v t u f g a b =
    let name = w.name.name in
    let invariants = typed_one_way name (machine_env m v) (new_variables m w) w.invariants a.0 b.0 a.1 b.1 a.2 b.2 a.3 b.3 in
    let variant = variant_one name a.2 w.variant a.4 b.4 a.5 b.5 a.6 (subst (λ n. IsTypedVariant name n w.variant b.4 b.5) (sym invariants.2) b.6) in
    let events = events_one name (abstract_events m) (all_variables m w) a.2 w.events a.7 b.7 a.8 b.8 a.9
    (subst (λ n. AreTypedEvents name (abstract_events m) (all_variables m w) n w.events b.7 b.8) (sym invariants.2) b.9) in (
      a.10 ∙ (λ i. checked_machine_of m w v (invariants.2 i) (invariants.0 i) (variant.0 i) (events.0 i)) ∙ sym b.10,
      a.11 ∙ (λ i. invariants.1 i ++ never_typed name (invariants.2 i) w.variables ++ variant.1 i ++ events.1 i) ∙ sym b.11,
    )

abbrev formulas_give : Option CheckedMachine → Written → Outcome → CheckedMachine × List Fault → Type 0
formulas_give m w outcome x =
    MatchOption (first_by_place x.1) (unless (machine_assignments m w x.0 ++ machine_refinements m w x.0) (Machine x.0) outcome) (λ fault. outcome ≡ Err fault)

formulas_one : (m : Option CheckedMachine) (w : Written) (v : Visible) (one two : Outcome) → ChecksFormulas m w v one → ChecksFormulas m w v two → one ≡ two
formulas_one m w v one two a b =
    let same = machine_typed_one m w v b.0 a.0 b.1 a.1 b.2 a.2 in
    let path : (b.0, b.1) ≡ (a.0, a.1) = λ i. (same.0 i, same.1 i) in
    one_of (first_by_place a.1) _ _ one two
    (unless_one (machine_assignments m w a.0 ++ machine_refinements m w a.0) (Machine a.0) one two) a.3 (subst (formulas_give m w two) path b.3)

pub machine_one : (m : Option CheckedMachine) (w : Written) (seen : List CheckedContext) (one two : Outcome) → ChecksMachine m w seen one → ChecksMachine m w seen two → one ≡ two
machine_one m w seen one two a b =
    one_of (first_by_place (machine_declarations m w seen)) _ _ one two (formulas_one m w (seen_from (abstract_view m) seen) one two) a b

pub beside_one : (written : RawComponent) (parts : List Checked) (one two : Outcome) → ChecksBeside written parts one → ChecksBeside written parts two → one ≡ two
beside_one (raw.Context name extends sets constants axioms) parts one two a b = context_one name.name extends sets constants axioms (contexts_in parts) one two a b
beside_one (raw.Machine name refines sees variables invariants variant events) parts one two a b =
    machine_one (first_machine_in parts)
    (record { name = name; sees = sees; variables = variables; invariants = invariants; variant = variant; events = events }) (contexts_in parts) one two a b
