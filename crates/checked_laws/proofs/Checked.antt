-- A checked component beside sound parts is sound.
use Rattle.std.proofs.Common.{◌≡◌, ◌≢◌, ◌∙◌, sym, ap, subst, refl, ℕ, suc, Bool, true, false, not, cond, ◌||◌, ◌==◌, List, [], ◌∷◌, ◌++◌, map, length, Option, IfSome, IsTrue, bytes_eq, is_some, arith, ap₂}
use Rattle.std.specs.Prelude.{Ok}
use Rattle.std.specs.List.{AllByRecursion, filter, list_all, zip, IsDistinct}
use Rattle.std.proofs.lemmas.Bool.{ne_eqb}
use Rattle.formula_core.specs.Formulas.{joined}
use Rattle.formula_core.specs.Names.{is_identifier}
use Rattle.type_formula.proofs.Named.{all_each}
use Rattle.model_core.specs.declared.fault.Fault.{Fault}
use Rattle.model_core.specs.declared.component.RawComponent.TheVariants as raw
use Rattle.model_core.specs.declared.component.RawEvent.{RawEvent}
use Rattle.model_core.specs.declared.checked.Checked.{Checked}
use Rattle.model_core.specs.declared.checked.Checked.TheVariants.{Context, Machine}
use Rattle.model_core.specs.declared.checked.CheckedContext.{CheckedContext}
use Rattle.model_core.specs.declared.checked.CheckedEvent.{CheckedEvent}
use Rattle.model_core.specs.declared.checked.CheckedMachine.{CheckedMachine}
use Rattle.model_core.specs.Each.{at_each, is_among}
use Rattle.model_core.specs.Faults.{first_by_place}
use Rattle.check_rules.specs.Assignments.{written_targets, targets_in, all_assigned, no_variable_row, assigned_twice_row, inherited_targets, BothEvents, is_bad_start, bad_start_row, no_start, no_variables, assigned_twice}
use Rattle.check_rules.specs.Components.{context_in, contexts_in, first_machine_in}
use Rattle.check_rules.specs.Declarations.{declared_twice, brings_clash, labelled_twice}
use Rattle.check_rules.specs.Contexts.{Outcome, labels_of, unless, names_of}
use Rattle.check_rules.specs.Events.{initialisation, is_initialisation, event_declarations, AreTypedEvents}
use Rattle.check_rules.specs.Machines.{Written, abstract_variables, abstract_events, abstract_view, own_names, new_variables, lost_variables, all_variables, machine_env, checked_machine_of, machine_declarations, machine_assignments, machine_refinements, ChecksFormulas, ChecksMachine}
use Rattle.check_rules.specs.Refinements.{no_abstract_events, merged_differ, needed_witnesses, superfluous_witnesses, bad_witnesses, lost_in_own, lost_in_inherited, lost_in_variant, bad_convergence, bad_variant, refinement_row, missing_witnesses}
use Rattle.check_rules.specs.Typed.{AreTyped, IsTypedVariant, never_typed}
use Rattle.check_rules.specs.Visible.{all_visible, entries, names, seen_from}
use Rattle.type_action.specs.Laws.{TypedActionsStand}
use Rattle.checked_laws.specs.Laws.{DeclareIdentifiers, CheckedIsSound}
use Rattle.checked_laws.specs.Projects.{ProjectNames, Has, BelongsTo}
use Rattle.checked_laws.specs.Sound.{StartsPlainly, IsSoundComponent}
use Rattle.checked_laws.specs.Refining.{IsSoundBeside}
use Rattle.checked_laws.proofs.Names.{name_turned, neither_first, neither_second, or_left, or_right}
use Rattle.checked_laws.proofs.Parts.{all_map, all_unmap, all_two, filter_back, first_none, second_none, no_fault}
use Rattle.checked_laws.proofs.Contexts.{passes, same_checked, IsGoodContext, IsSoundOver, view_sound, variables_kept, context_checked}
use Rattle.checked_laws.proofs.Declared.{kept_none, declared_once}
use Rattle.checked_laws.proofs.Lost.{list_all_each, not_false}
use Rattle.checked_laws.proofs.Targets.{IsAssigningWell}
use Rattle.checked_laws.proofs.Events.{AsksWitnesses, joined_none}
use Rattle.checked_laws.proofs.Machines.{IsGoodAbstraction, abstraction_view, machine_whole}

-- The parts.

good_context : (project : ProjectNames) (part : Checked) → IsSoundComponent part × BelongsTo project part → IfSome (context_in part) (IsGoodContext project)
good_context project (Context c) h = h
good_context project (Machine m) h = tt

good_contexts : (project : ProjectNames) (parts : List Checked) → AllByRecursion (λ part. IsSoundComponent part × BelongsTo project part) parts → AllByRecursion (IsGoodContext project) (contexts_in parts)
good_contexts project [] h = tt
good_contexts project (Context c ∷ parts) h = (h.0, good_contexts project parts h.1)
good_contexts project (Machine m ∷ parts) h = good_contexts project parts h.1

good_machine : (project : ProjectNames) (parts : List Checked) → AllByRecursion (λ part. IsSoundComponent part × BelongsTo project part) parts → IsGoodAbstraction project (first_machine_in parts)
good_machine project [] h = tt
good_machine project (Context c ∷ parts) h = good_machine project parts h.1
good_machine project (Machine m ∷ parts) h = (h.0.0, h.0.1.0, h.0.1.1)

-- INITIALISATION has no parameters.

no_length : {X : Type 0} → (xs : List X) → not (length xs == 0) ≡ false → xs ≡ []
no_length [] e = refl
no_length (x ∷ xs) e =
    let h : (length (x ∷ xs) == 0) ≡ false = ne_eqb (suc (length xs)) 0 (λ k. omega arith) in
    let bad : true ≡ false = ap not (sym h) ∙ e in
    cc

-- no parameters, no guards, and all variables are assigned
abbrev Starts : List (List ℕ) → CheckedEvent → Type 0
Starts own c = (c.params ≡ []) × (c.guards ≡ []) × AllByRecursion (λ n. is_among (all_assigned c.actions) n ≡ true) own

starts_at : (component : List ℕ) (own variables : List (List ℕ)) (p : BothEvents) → bad_start_row component own variables p ≡ [] → Starts own p.1
starts_at component own variables p e =
    let good = kept_none (is_bad_start own p.1) _ (first_none (cond (is_bad_start own p.1) _ []) _ e) in
    let params = not (length p.1.params == 0) in
    let guards = not (length p.1.guards == 0) in
    let unassigned = not (list_all (is_among (all_assigned p.1.actions)) own) in
    let none = neither_first (params || guards) unassigned good in (
      no_length p.1.params (neither_first params guards none),
      no_length p.1.guards (neither_second params guards none),
      list_all_each (is_among (all_assigned p.1.actions)) own (not_false (list_all (is_among (all_assigned p.1.actions)) own) (neither_second (params || guards) unassigned good)),
    )

starts_in : (component : List ℕ) (m : List CheckedEvent) (variables : List (List ℕ)) (last : _) (raws : List RawEvent) (typed : List CheckedEvent) (faults : List Fault) →
    AreTypedEvents component m variables last raws typed faults → AllByRecursion (λ p. is_initialisation p.0 ≡ true → (p.1.params ≡ []) × (p.1.guards ≡ [])) (zip raws typed) → AllByRecursion StartsPlainly typed
starts_in component m variables last [] typed faults t h = subst (AllByRecursion StartsPlainly) (sym t.0) tt
starts_in component m variables last (e ∷ raws) typed faults t h =
    let k : AllByRecursion (λ p. is_initialisation p.0 ≡ true → (p.1.params ≡ []) × (p.1.guards ≡ [])) ((e, t.0) ∷ zip raws t.2) =
    subst (λ es. AllByRecursion (λ p. is_initialisation p.0 ≡ true → (p.1.params ≡ []) × (p.1.guards ≡ [])) (zip (e ∷ raws) es)) t.6 h in
    let named : t.0.name ≡ e.name.name = ap (λ c. c.name) t.4.11 in
    subst (AllByRecursion StartsPlainly) (sym t.6)
    (λ is. k.0 (name_turned initialisation e.name.name true (ap (bytes_eq initialisation) (sym named) ∙ is)), starts_in component m variables last raws t.2 t.3 t.5 k.1)

-- The names of its events.

names_typed : (component : List ℕ) (m : List CheckedEvent) (variables : List (List ℕ)) (last : _) (raws : List RawEvent) (typed : List CheckedEvent) (faults : List Fault) →
    AreTypedEvents component m variables last raws typed faults → names_of (map (λ e. e.name) raws) ≡ map (λ c. c.name) typed
names_typed component m variables last [] typed faults t = ap (map (λ c. c.name)) (sym t.0)
names_typed component m variables last (e ∷ raws) typed faults t =
    ap₂ (λ n ns. n ∷ ns) (ap (λ c. c.name) (sym t.4.11)) (names_typed component m variables last raws t.2 t.3 t.5) ∙ ap (map (λ c. c.name)) (sym t.6)

starts_once : (component : List ℕ) (heading : ℕ) (raws : List RawEvent) (typed : List CheckedEvent) → no_start component heading (filter (λ p. is_initialisation p.0) (zip raws typed)) ≡ []
    → is_among (names_of (map (λ e. e.name) raws)) initialisation ≡ true
starts_once component heading [] typed e = let no : ⊥ = cc in absurd no
starts_once component heading (r ∷ raws) [] e = let no : ⊥ = cc in absurd no
starts_once component heading (r ∷ raws) (c ∷ typed) e = go (is_initialisation r) refl (starts_once component heading raws typed) e
  where
    rest : List BothEvents
    rest = filter (λ p. is_initialisation p.0) (zip raws typed)

    go : (b : Bool) → is_initialisation r ≡ b → (no_start component heading rest ≡ [] → is_among (names_of (map (λ x. x.name) raws)) initialisation ≡ true)
        → no_start component heading (cond b ((r, c) ∷ rest) rest) ≡ [] → is_among (names_of (map (λ x. x.name) (r ∷ raws))) initialisation ≡ true
    go true is more h = or_left (bytes_eq initialisation r.name.name) (is_among (names_of (map (λ x. x.name) raws)) initialisation) (name_turned r.name.name initialisation true is)
    go false is more h = or_right (bytes_eq initialisation r.name.name) (is_among (names_of (map (λ x. x.name) raws)) initialisation) (more h)

-- What the abstraction asks.

asked : (component : List ℕ) (m : List CheckedEvent) (lost : List (List ℕ)) (has_variant : Bool) (p : BothEvents) → refinement_row component m lost has_variant p ≡ [] → AsksWitnesses component m lost p.0
asked component m lost has_variant p e =
    let unpaired = no_abstract_events component m p.0 in
    let differ = merged_differ component m p.0 in
    let bad = bad_witnesses component m lost p.0 in
    let own = lost_in_own component lost p.0 in
    let inherited = lost_in_inherited component lost p in
    let none : unpaired ++ differ ++ bad ≡ [] = first_none (unpaired ++ differ ++ bad) own (first_none (unpaired ++ differ ++ bad ++ own) inherited
    (first_none (unpaired ++ differ ++ bad ++ own ++ inherited) (bad_convergence component m has_variant p.0) e)) in
    record {
      merged = second_none unpaired differ (first_none (unpaired ++ differ) bad none);
      missing = first_none (missing_witnesses component p.0.name.place (map (λ w. w.label) p.0.witnesses) (needed_witnesses m lost p.0)) _ (second_none (unpaired ++ differ) bad none);
      superfluous = second_none _ (superfluous_witnesses component (needed_witnesses m lost p.0) p.0.witnesses) (second_none (unpaired ++ differ) bad none);
    }

keeps_own : (component : List ℕ) (m : List CheckedEvent) (lost : List (List ℕ)) (has_variant : Bool) (p : BothEvents) → refinement_row component m lost has_variant p ≡ []
    → (lost_in_own component lost p.0 ≡ []) × (lost_in_inherited component lost p ≡ [])
keeps_own component m lost has_variant p e =
    let front = no_abstract_events component m p.0 ++ merged_differ component m p.0 ++ bad_witnesses component m lost p.0 in
    let own = lost_in_own component lost p.0 in
    let inherited = lost_in_inherited component lost p in
    let none : front ++ own ++ inherited ≡ [] = first_none (front ++ own ++ inherited) (bad_convergence component m has_variant p.0) e in
    (second_none front own (first_none (front ++ own) inherited none), second_none (front ++ own) inherited none)

-- Machines.

machine_checked : TypedActionsStand → (project : ProjectNames) (m : Option CheckedMachine) (w : Written) (seen : List CheckedContext) (checked : Checked) → IsGoodAbstraction project m →
    DeclareIdentifiers w.variables → AllByRecursion (λ e. DeclareIdentifiers e.params) w.events → AllByRecursion (λ e. AllByRecursion (λ s. written_targets s.action ≢ []) e.actions) w.events → length seen ≡ length w.sees → AllByRecursion (IsGoodContext project) seen → Has project checked →
    ChecksMachine m w seen (Ok checked) → IsSoundComponent checked × IsSoundBeside m checked × BelongsTo project checked
machine_checked stand project m w seen checked good ids params some n contexts has h =
    let name = w.name.name in
    let v = seen_from (abstract_view m) seen in
    let declared = passes (ChecksFormulas m w v (Ok checked)) (first_by_place (machine_declarations m w seen)) checked h in
    let none = no_fault (machine_declarations m w seen) declared.0 in
    let known = filter (λ x. not (is_among (abstract_variables m) x)) (names (entries (all_visible v))) in
    let clashes = brings_clash name (abstract_view m) (zip w.sees seen) in
    let twice = declared_twice name known w.variables in
    let labels = labelled_twice name [] (labels_of w.invariants) in
    let names_twice = declared_twice name [] (map (λ e. e.name) w.events) in
    let in_events = joined (map (event_declarations name (abstract_events m) (names (entries (all_visible v)) ++ own_names w)) w.events) in
    let clear = second_none (clashes ++ twice ++ labels ++ names_twice) in_events none in
    let none1 = first_none (clashes ++ twice) labels (first_none (clashes ++ twice ++ labels) names_twice (first_none (clashes ++ twice ++ labels ++ names_twice) in_events none)) in
    let clash = first_none clashes twice none1 in
    let once = declared_once name known w.variables (second_none clashes twice none1) in
    let over : IsSoundOver project (abstract_view m) v = view_sound project name (abstract_view m) w.sees seen (abstraction_view project m good) clash n contexts in
    let a = declared.1 in
    let p = passes (unless (machine_assignments m w a.0 ++ machine_refinements m w a.0) (Machine a.0) (Ok checked)) (first_by_place a.1) checked a.3 in
    let out = passes (◌≡◌ {A = Outcome} (Ok checked) (Ok (Machine a.0))) (first_by_place (machine_assignments m w a.0 ++ machine_refinements m w a.0)) checked p.1 in
    let t = a.2 in
    let last = t.2 in
    let never = never_typed name last w.variables in
    let faults : t.1 ++ never ++ t.5 ++ t.8 ≡ [] = sym t.11 ∙ no_fault a.1 p.0 in
    let faults1 : t.1 ++ never ++ t.5 ≡ [] = first_none (t.1 ++ never ++ t.5) t.8 faults in
    let faults2 : t.1 ++ never ≡ [] = first_none (t.1 ++ never) t.5 faults1 in
    let checks : AreTyped name (machine_env m v) (new_variables m w) w.invariants t.0 [] last =
    subst (λ fs. AreTyped name (machine_env m v) (new_variables m w) w.invariants t.0 fs last) (first_none t.1 never faults2) t.3 in
    let variant : IsTypedVariant name last w.variant t.4 [] = subst (IsTypedVariant name last w.variant t.4) (second_none (t.1 ++ never) t.5 faults1) t.6 in
    let events : AreTypedEvents name (abstract_events m) (all_variables m w) last w.events t.7 [] =
    subst (AreTypedEvents name (abstract_events m) (all_variables m w) last w.events t.7) (second_none (t.1 ++ never ++ t.5) t.8 faults) t.9 in
    let mine = checked_machine_of m w v last t.0 t.4 t.7 in
    let assigned : machine_assignments m w mine ≡ [] = subst (λ c. machine_assignments m w c ≡ []) t.10 (first_none (machine_assignments m w a.0) (machine_refinements m w a.0) (no_fault (machine_assignments m w a.0 ++ machine_refinements m w a.0) out.0)) in
    let pairs = zip w.events t.7 in
    let refinements : machine_refinements m w mine ≡ [] = subst (λ c. machine_refinements m w c ≡ []) t.10 (second_none (machine_assignments m w a.0) (machine_refinements m w a.0)
    (no_fault (machine_assignments m w a.0 ++ machine_refinements m w a.0) out.0)) in
    let row = refinement_row name (abstract_events m) (lost_variables m w) (is_some w.variant) in
    let no_rows = joined_none row pairs (second_none (lost_in_variant name (lost_variables m w) w.variant ++ bad_variant name w.variant t.4) (joined (map row pairs)) refinements) in
    let asks = all_each (λ q. row q ≡ []) (λ q. AsksWitnesses name (abstract_events m) (lost_variables m w) q.0) pairs
    (λ q e. asked name (abstract_events m) (lost_variables m w) (is_some w.variant) q e)
    no_rows in
    let starts = filter (λ e. is_initialisation e.0) pairs in
    let of_starts = joined (map (bad_start_row name (own_names w) (all_variables m w)) starts) in
    let no_variable = no_variables name (all_variables m w) (map (λ e. e.0) pairs) in
    let twice_assigned = assigned_twice name pairs in
    let assigned1 : no_start name w.name.place starts ++ of_starts ≡ [] = second_none (no_variable ++ twice_assigned) (no_start name w.name.place starts ++ of_starts) assigned in
    let assigned2 : no_variable ++ twice_assigned ≡ [] = first_none (no_variable ++ twice_assigned) (no_start name w.name.place starts ++ of_starts) assigned in
    let rows : of_starts ≡ [] = second_none (no_start name w.name.place starts) of_starts assigned1 in
    let begins : AllByRecursion (λ q. is_initialisation q.0 ≡ true → Starts (own_names w) q.1) pairs = filter_back (λ e. is_initialisation e.0) (λ q. Starts (own_names w) q.1) pairs
    (all_each (λ q. bad_start_row name (own_names w) (all_variables m w) q ≡ []) (λ q. Starts (own_names w) q.1) starts (λ q e. starts_at name (own_names w) (all_variables m w) q e)
    (joined_none (bad_start_row name (own_names w) (all_variables m w)) starts rows)) in
    let start = starts_in name (abstract_events m) (all_variables m w) last w.events t.7 [] events
    (all_each (λ q. is_initialisation q.0 ≡ true → Starts (own_names w) q.1) (λ q. is_initialisation q.0 ≡ true → (q.1.params ≡ []) × (q.1.guards ≡ [])) pairs
    (λ q h i. ((h i).0, (h i).1)) begins) in
    let targets = all_unmap (λ e. at_each (no_variable_row name (all_variables m w)) [] (targets_in e) ≡ []) (λ e. e.0) pairs
    (joined_none (λ e. at_each (no_variable_row name (all_variables m w)) [] (targets_in e)) (map (λ e. e.0) pairs) (first_none no_variable twice_assigned assigned2)) in
    let onces = joined_none (λ e. at_each (assigned_twice_row name (inherited_targets e.1)) [] (targets_in e.0)) pairs (second_none no_variable twice_assigned assigned2) in
    let Well = IsAssigningWell name (own_names w) (lost_variables m w) in
    let well : AllByRecursion Well pairs =
    all_two (λ q. row q ≡ []) (λ q. (is_initialisation q.0 ≡ true → Starts (own_names w) q.1) × (at_each (no_variable_row name (all_variables m w)) [] (targets_in q.0) ≡ [])
    × (at_each (assigned_twice_row name (inherited_targets q.1)) [] (targets_in q.0) ≡ [])) Well pairs
    (λ q e h. let kept = keeps_own name (abstract_events m) (lost_variables m w) (is_some w.variant) q e in
    record { variables = h.1; once = h.2; kept = kept.0; kept_above = kept.1; start = λ i. (h.0 i).2 })
    no_rows
    (all_two (λ q. is_initialisation q.0 ≡ true → Starts (own_names w) q.1) (λ q. (at_each (no_variable_row name (all_variables m w)) [] (targets_in q.0) ≡ [])
    × (at_each (assigned_twice_row name (inherited_targets q.1)) [] (targets_in q.0) ≡ [])) _ pairs (λ q h k. (h, k.0, k.1)) begins
    (all_two (λ q. at_each (no_variable_row name (all_variables m w)) [] (targets_in q.0) ≡ []) (λ q. at_each (assigned_twice_row name (inherited_targets q.1)) [] (targets_in q.0) ≡ []) _ pairs
    (λ q h k. (h, k)) targets onces)) in
    let named = names_typed name (abstract_events m) (all_variables m w) last w.events t.7 [] events in
    let event_names : IsDistinct bytes_eq (map (λ c. c.name) t.7) = subst (IsDistinct bytes_eq) named
    (declared_once name [] (map (λ e. e.name) w.events) (second_none (clashes ++ twice ++ labels) names_twice (first_none (clashes ++ twice ++ labels ++ names_twice) in_events none))).distinct in
    let has_start = subst (λ ns. is_among ns initialisation ≡ true) named
    (starts_once name w.name.place w.events t.7 (first_none (no_start name w.name.place starts) of_starts assigned1)) in
    let all_typed = second_none t.1 never faults2 in
    let variant_good : bad_variant name w.variant t.4 ≡ [] = second_none (lost_in_variant name (lost_variables m w) w.variant) (bad_variant name w.variant t.4)
    (first_none (lost_in_variant name (lost_variables m w) w.variant ++ bad_variant name w.variant t.4) (joined (map row pairs)) refinements) in
    let whole = machine_whole project m w v good over.sound (variables_kept (abstract_view m) seen) over.within once (all_map (λ x. IsTrue (is_identifier x)) (λ r. r.name) w.variables ids)
    t.0 last checks all_typed t.4 variant variant_good t.7 stand over.constants params some clear asks events start well event_names has_start in
    subst (λ k. Has project k → IsSoundComponent k × IsSoundBeside m k × BelongsTo project k) (ap (λ c. Machine c) (sym t.10) ∙ same_checked checked (Machine a.0) out.1) (λ own. (whole.0, whole.1, whole.2 own)) has

-- Components.

pub checked_is_sound : TypedActionsStand → CheckedIsSound
checked_is_sound stand project (raw.Context name extends sets constants axioms) parts checked ids some are has h =
    context_checked project name.name extends sets constants axioms (contexts_in parts) (first_machine_in parts) checked ids are.all (good_contexts project parts are.sound) has h
checked_is_sound stand project (raw.Machine name refines sees variables invariants variant events) parts checked ids some are has h =
    machine_checked stand project (first_machine_in parts)
    (record { name = name; sees = sees; variables = variables; invariants = invariants; variant = variant; events = events })
    (contexts_in parts) checked (good_machine project parts are.sound) ids.0 ids.1 some are.all (good_contexts project parts are.sound) has h
