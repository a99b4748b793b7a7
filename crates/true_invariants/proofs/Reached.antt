-- The invariants are true in each state that is reached.
use Rattle.std.proofs.Common.{◌≡◌, ◌∙◌, sym, subst, ℕ, true, false, List, [], ◌∷◌, None}
use Rattle.formula_core.specs.Typed.{IsPredicateIn}
use Rattle.model_core.specs.declared.checked.CheckedEvent.{CheckedEvent}
use Rattle.model_core.specs.declared.checked.CheckedMachine.{CheckedMachine}
use Rattle.model_core.specs.declared.checked.Labelled.{Labelled}
use Rattle.model_core.specs.Each.{IsIn}
use Rattle.sequent_core.specs.declared.sequent.Obligation.{Obligation}
use Rattle.po_rules.specs.Members.{IsMachineObligation}
use Rattle.po_rules.specs.Parts.{formulas, initialises, parts_of}
use Rattle.sequent_laws.specs.Sound.{IsGoodMachine, HasGoodParts}
use Rattle.meanings.specs.Denotations.{AreTrue}
use Rattle.meanings.specs.Universes.{Universe, Valuation}
use Rattle.true_rules.specs.Validity.{Satisfies}
use Rattle.true_invariants.specs.Runs.{IsState, IsStep, AreSteps, last_of, IsReached, RefinesNone}
use Rattle.true_invariants.proofs.Lists.{all_in}
use Rattle.true_invariants.proofs.Steps.{kept, invariants_follow}

module _ {carrier : List ℕ → Type 0} (U : Universe carrier) (m : CheckedMachine) (good : IsGoodMachine m None) (none : RefinesNone m)
    (valid : (o : Obligation) → IsMachineObligation m None o → Satisfies U o.sequent)
  where
    after_step : (e : CheckedEvent) → IsIn e m.events → (before after : Valuation carrier) → IsState U m before → IsStep U m e before after → IsState U m after
        → (initialises e ≡ false → AreTrue U before (formulas m.invariants)) → AreTrue U after (formulas m.invariants)
    after_step e here before after state step new held =
        let parts : HasGoodParts m [] e = all_in (HasGoodParts m []) m.events e good.events here in
        invariants_follow U m none.own valid good.axioms good.invariants after new (λ i is_own no_theorem.
        kept U m none.own valid good.axioms good.invariants e here parts (all_in (λ (e : CheckedEvent). e.witnesses ≡ []) m.events e none.witnesses here)
        (all_in (λ (e : CheckedEvent). e.own_guards_from ≡ 0) m.events e none.guards here) before after state step held i is_own no_theorem
        (all_in (λ (l : Labelled). IsPredicateIn m.env l.formula) m.invariants i good.invariants is_own)
        (all_in (λ (l : Labelled). IsPredicateIn (parts_of m e []).env l.formula) m.invariants i parts.1.invariants is_own))

    along : (v : Valuation carrier) → IsState U m v → AreTrue U v (formulas m.invariants) → (rest : List (CheckedEvent × Valuation carrier)) → AreSteps U m v rest
        → AreTrue U (last_of U m v rest) (formulas m.invariants)
    along v state held [] steps = held
    along v state held (x ∷ rest) steps =
        along x.1 steps.0.3 (after_step x.0 steps.0.0 v x.1 state steps.0.2 steps.0.3 (λ is. held)) rest steps.1

    pub reached_keep : (v : Valuation carrier) → IsReached U m v → AreTrue U v (formulas m.invariants)
    reached_keep v r =
        subst (λ w. AreTrue U w (formulas m.invariants)) (sym r.last)
        (along r.first r.is_state (after_step r.initialisation r.own r.before r.first r.start r.begins r.is_state (λ is. let l : true ≡ false = sym r.initial ∙ is in absurd cc)) r.rest r.steps)
