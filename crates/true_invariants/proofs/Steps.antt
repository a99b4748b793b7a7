-- An event keeps the invariants that are no theorems, and those that are follow in each state.
use Rattle.std.proofs.Common.{◌≡◌, ◌∙◌, inl, inr, sym, ap, subst, refl, ℕ, Bool, true, false, not, ◌&&◌, ◌||◌, List, [], ◌∷◌, ◌++◌, map, take, drop, codes, None, Some}
use Rattle.std.proofs.lemmas.List.{append-nil}
use Rattle.std.specs.Prelude.{if◌then◌else◌}
use Rattle.std.specs.List.{AllByRecursion}
use Rattle.formula_core.specs.declared.formula.Formula.{Formula}
use Rattle.formula_core.specs.Env.{type_in}
use Rattle.formula_core.specs.Formulas.{substituted}
use Rattle.formula_core.specs.Typed.{IsPredicateIn}
use Rattle.formula_core.specs.Wellness.{type_of, is_well}
use Rattle.formula_core.proofs.Keeping.{both, all_more}
use Rattle.formula_core.proofs.TypedIn.{types_agree, substituted_typed}
use Rattle.well_defined.specs.Connectives.{is_top}
use Rattle.model_core.specs.declared.checked.CheckedEvent.{CheckedEvent}
use Rattle.model_core.specs.declared.checked.CheckedMachine.{CheckedMachine}
use Rattle.model_core.specs.declared.checked.Labelled.{Labelled}
use Rattle.model_core.specs.Each.{at_each, for_each, IsIn, IsGivenBeside}
use Rattle.model_core.proofs.Members.{given, is_given_beside}
use Rattle.sequent_core.specs.declared.sequent.Obligation.{Obligation}
use Rattle.po_rules.specs.Members.{IsMachineObligation, by_own_invariant, by_event}
use Rattle.po_rules.specs.Parts.{EventParts, path_with, formulas, initialises, actions_of, new_values, after_pairs, primed_values, machine_hyps, base, parts_of}
use Rattle.po_rules.specs.Rows.{from_witnesses, of_kind, labelled_rows, invariant_row, is_changed}
use Rattle.po_rules.specs.Sequents.{IsNewValueIn}
use Rattle.po_rules.specs.Tables.{guards, invariants}
use Rattle.sequent_laws.specs.Sound.{HasGoodParts}
use Rattle.meanings.specs.Denotations.{holds, AreTrue}
use Rattle.meanings.specs.Operations.{truth_value}
use Rattle.meanings.specs.Universes.{Universe, Valuation}
use Rattle.true_rules.specs.Validity.{Satisfies}
use Rattle.true_invariants.specs.Runs.{updated, IsState, IsStep}
use Rattle.true_invariants.proofs.States.{same_truth, still_true, top_holds}
use Rattle.true_invariants.proofs.Substitution.{unchanged, substituted_denotes}
use Rattle.true_invariants.proofs.Theorems.{there, condition_holds, theorems_follow}

module _ {carrier : List ℕ → Type 0} (U : Universe carrier) (m : CheckedMachine) (own : m.own_from ≡ 0)
    (valid : (o : Obligation) → IsMachineObligation m None o → Satisfies U o.sequent)
    (axioms_typed : AllByRecursion (λ l. IsPredicateIn m.env l.formula) m.axioms)
    (invariants_typed : AllByRecursion (λ l. IsPredicateIn m.env l.formula) m.invariants)
  where
    module _ (e : CheckedEvent) (here : IsIn e m.events) (good : HasGoodParts m [] e) (none : e.witnesses ≡ []) (no_inherited : e.own_guards_from ≡ 0) (before after : Valuation carrier)
        (state : IsState U m before) (step : IsStep U m e before after) (held : initialises e ≡ false → AreTrue U before (formulas m.invariants))
      where
        abbrev p : EventParts
        p = parts_of m e []

        abbrev pairs : List (List ℕ × Formula)
        pairs = for_each new_values (actions_of e)

        abbrev Holds : Formula → Type 0
        Holds f = holds U step.within f ≡ true

        axioms_within : AreTrue U step.within (formulas m.axioms)
        axioms_within = still_true U step.within before m.env step.same m.axioms axioms_typed state.axioms

        machine_within : initialises e ≡ false → AreTrue U step.within (machine_hyps m)
        machine_within is =
            both Holds (formulas m.axioms) (formulas m.invariants) axioms_within (still_true U step.within before m.env step.same m.invariants invariants_typed (held is))

        -- theorems among the guards follow
        guards_within : initialises e ≡ false → AreTrue U step.within (formulas e.guards)
        guards_within is =
            theorems_follow U step.within p.path p.env (machine_hyps m) e.guards asked step.carriers (machine_within is) (condition_holds U step.within e.guards step.guards) good.1.guards
          where
            rows : List Labelled → Labelled → List Obligation
            rows = labelled_rows p.path p.env (machine_hyps m)

            asked : (o : Obligation) → IsGivenBeside rows [] e.guards o → Satisfies U o.sequent
            asked o g =
                let R : ℕ → Type 0 = λ n. IsIn o (at_each rows (take n e.guards) (drop n e.guards)) in
                let all : R 0 = subst (λ ls. IsIn o (at_each rows [] ls)) (sym g.3) (is_given_beside rows [] g.0 g.1 g.2 o g.4) in
                valid o (by_event e guards here (subst R (sym no_inherited) all))

        base_within : AreTrue U step.within (base m e)
        base_within = go (initialises e) refl
          where
            go : (b : Bool) → initialises e ≡ b → AreTrue U step.within (if b then formulas m.axioms else (machine_hyps m ++ formulas e.guards))
            go true is = axioms_within
            go false is =
                both Holds (machine_hyps m) (formulas e.guards) (machine_within is) (guards_within is)

        hyps_within : AreTrue U step.within (p.base ++ p.choices ++ map (λ (w : List ℕ × Formula). w.1) p.witnesses)
        hyps_within =
            let P : List (List ℕ × Formula) → Type 0 = λ ws. AreTrue U step.within (map (λ (w : List ℕ × Formula). w.1) (map (λ (w : List ℕ × Formula). (w.0, substituted (primed_values m (after_pairs m e [])) w.1)) ws)) in
            both Holds (p.base ++ p.choices) (map (λ (w : List ℕ × Formula). w.1) p.witnesses) (both Holds p.base p.choices base_within step.choices) (subst P (sym none) tt)

        module _ (i : Labelled) (is_own : IsIn i m.invariants) (no_theorem : i.theorem ≡ false) (typed : IsPredicateIn m.env i.formula) (typed_there : IsPredicateIn p.env i.formula) where
          abbrev goal : Formula
          goal = substituted p.after i.formula

          by_row : (initialises e || is_changed p i.formula) ≡ true → is_top goal ≡ false → Holds goal
          by_row c not_top =
              let name : List ℕ = path_with p.path (of_kind i.label (codes "INV")) in
              let o : Obligation = record { name = name; sequent = record { env = p.env; hyps = p.base ++ p.choices ++ map (λ (w : List ℕ × Formula). w.1) p.witnesses; goal = goal } } in
              let Q : Bool → Type 0 = λ b. IsIn o (if b then from_witnesses p (of_kind i.label (codes "INV")) goal else []) in
              let asked : (not i.theorem && (initialises e || is_changed p i.formula)) ≡ true = (λ j. not (no_theorem j) && (initialises e || is_changed p i.formula)) ∙ c in
              let in_row : IsIn o (invariant_row e p i) = subst Q (sym asked) (there name p.env (p.base ++ p.choices ++ map (λ (w : List ℕ × Formula). w.1) p.witnesses) goal not_top) in
              let own_there : IsIn i (drop m.own_from m.invariants) = subst (λ n. IsIn i (drop n m.invariants)) (sym own) is_own in
              valid o (by_event e invariants here ((given (invariant_row e p) (drop m.own_from m.invariants) o).1 (i, own_there, in_row))) step.within step.carriers hyps_within

          goal_within : Holds goal
          goal_within = go (initialises e || is_changed p i.formula) refl
            where
              goal_typed : IsPredicateIn p.env goal
              goal_typed = substituted_typed p.env p.after good.0.after i.formula typed_there

              top : (b : Bool) → is_top goal ≡ b → (initialises e || is_changed p i.formula) ≡ true → Holds goal
              top true is c = top_holds U step.within goal goal_typed.0.well goal_typed.1 is
              top false is c = by_row c is

              neither : (a b : Bool) → (a || b) ≡ false → (a ≡ false) × (b ≡ false)
              neither true b h = absurd cc
              neither false b h = (refl, h)

              index : (ls : List Labelled) → AreTrue U before (formulas ls) → IsIn i ls → holds U before i.formula ≡ true
              index [] h k = absurd k
              index (l ∷ ls) h (inl is) = ap (λ (l : Labelled). holds U before l.formula) is ∙ h.0
              index (l ∷ ls) h (inr k) = index ls h.1 k

              go : (b : Bool) → (initialises e || is_changed p i.formula) ≡ b → Holds goal
              go true c = top (is_top goal) refl c
              go false c =
                  let other = neither (initialises e) (is_changed p i.formula) c in
                  ap (holds U step.within) (unchanged p.after i.formula other.1)
                  ∙ same_truth U step.within before m.env step.same i.formula typed ∙ index m.invariants (held other.0) is_own

          pub kept : holds U after i.formula ≡ true
          kept =
              let well = all_more (IsNewValueIn p.env) (λ q. is_well q.1 ≡ true) (λ q h. h.0.well) p.after good.0.after in
              let agree = types_agree p.env p.after (all_more (IsNewValueIn p.env) (λ q. type_in p.env q.0 ≡ Some (type_of q.1)) (λ q h. h.1) p.after good.0.after) i.formula typed_there.0.names in
              same_truth U after (updated U step.within pairs) m.env step.changed i.formula typed
              ∙ ap (λ qs. holds U (updated U step.within qs) i.formula) (sym (append-nil pairs))
              ∙ sym (ap (truth_value U) (substituted_denotes U step.within p.after well i.formula agree [])) ∙ goal_within

    -- in a state, theorems follow from what stands before them
    pub invariants_follow : (v : Valuation carrier) → IsState U m v → ((i : Labelled) → IsIn i m.invariants → i.theorem ≡ false → holds U v i.formula ≡ true)
        → AreTrue U v (formulas m.invariants)
    invariants_follow v state each = theorems_follow U v m.name m.env (formulas m.axioms) m.invariants asked state.carriers state.axioms each invariants_typed
      where
        asked : (o : Obligation) → IsGivenBeside (labelled_rows m.name m.env (formulas m.axioms)) [] m.invariants o → Satisfies U o.sequent
        asked o g =
            let Q : ℕ → Type 0 = λ n. IsGivenBeside (labelled_rows m.name m.env (formulas m.axioms)) (take n m.invariants) (drop n m.invariants) o in
            valid o (by_own_invariant (subst Q (sym own) g))
