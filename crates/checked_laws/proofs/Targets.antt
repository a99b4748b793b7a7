-- What the events of a machine assign.
use Rattle.std.proofs.Common.{◌≡◌, ◌∙◌, inl, inr, sym, ap, ap₂, subst, refl, ℕ, Bool, true, false, cond, List, [], ◌∷◌, ◌++◌, append_assoc, map, take, length, Option, Some, None, IfSome, bytes_eq, is_some}
use Rattle.std.specs.List.{AllByRecursion, IsDistinct, filter, zip}
use Rattle.std.specs.Option.{option_map_or}
use Rattle.std.proofs.Math.Seq.{take-append_seam}
use Rattle.formula_core.specs.declared.raw.Ref.{Ref}
use Rattle.formula_core.specs.declared.raw.Action.{Action}
use Rattle.formula_core.specs.declared.raw.RawAction.{RawAction}
use Rattle.formula_core.specs.declared.raw.RawAction.TheVariants as raw
use Rattle.formula_core.specs.declared.formula.Formula.{Formula}
use Rattle.formula_core.specs.declared.ty.Ty.{Ty}
use Rattle.formula_core.specs.Env.{type_in}
use Rattle.formula_core.specs.Formulas.{joined}
use Rattle.formula_core.specs.Names.{is_identifier}
use Rattle.type_formula.specs.Bare.{Bare}
use Rattle.type_formula.specs.CoreForms.{core_form}
use Rattle.type_formula.specs.Unknowns.{unknowns}
use Rattle.type_formula.proofs.Named.{all_append, all_front, all_each}
use Rattle.type_action.specs.Answers.{IsActionTyping}
use Rattle.type_action.specs.CoreActions.{core_action, overridden, target_type, with_target, typed_targets, unknown_targets, unknowns_of, env_after}
use Rattle.type_action.specs.Typings.{AreTypedAssignments}
use Rattle.model_core.specs.declared.fault.Fault.{Fault}
use Rattle.model_core.specs.declared.fault.FaultKind.TheVariants as kind
use Rattle.model_core.specs.declared.component.RawEvent.{RawEvent}
use Rattle.model_core.specs.declared.component.RawStep.{RawStep}
use Rattle.model_core.specs.declared.checked.CheckedEvent.{CheckedEvent}
use Rattle.model_core.specs.Each.{at_each, is_among}
use Rattle.model_core.specs.Faults.{fault_at}
use Rattle.check_rules.specs.Assignments.{BothEvents, written_targets, targets_in, assigned, all_assigned, names_on_right, free_names_of, no_variable_row, assigned_twice_row, inherited_targets}
use Rattle.check_rules.specs.Contexts.{names_of}
use Rattle.check_rules.specs.Events.{initialisation, is_initialisation, event_named, inherited, inherited_actions, AreTypedEvents}
use Rattle.check_rules.specs.Refinements.{lost_among, lost_in_own, inherited_names, lost_in_inherited}
use Rattle.check_rules.specs.Typed.{Entries, LabelledAction, AreTypedActions}
use Rattle.check_rules.specs.Visible.{names}
use Rattle.checked_laws.specs.Sound.{AssignsVariables}
use Rattle.checked_laws.proofs.Names.{here_or, apart, same_name, name_turned, or_left, or_right, or_cases, neither_first, neither_second, among_self}
use Rattle.checked_laws.proofs.Parts.{never_empty, all_map, all_two, map_append, filter_none, map_none, first_none, second_none}
use Rattle.checked_laws.proofs.Declared.{DeclaredOnce, AreOther, none_left, none_right, dropped_none, once_in}
use Rattle.checked_laws.proofs.Refined.{joined_all, event_found, if_some_each, inherited_usable}
use Rattle.checked_laws.proofs.Lost.{refined_each}
use Rattle.checked_laws.proofs.Events.{joined_none}

-- A typed action assigns the written targets.

new_values : (env : Entries) (targets : List Ref) (values : List Bare) (ps : List (List ℕ × Formula)) → AreTypedAssignments env targets values ps → map (λ p. p.0) ps ≡ names_of targets
new_values env [] [] ps h = ap (map (λ p. p.0)) h
new_values env [] (b ∷ bs) ps h = absurd h
new_values env (r ∷ rs) [] ps h = absurd h
new_values env (r ∷ rs) (b ∷ bs) ps h = ap (map (λ p. p.0)) h.4 ∙ ap₂ (λ n ns. n ∷ ns) h.2.2 (new_values env rs bs h.1 h.3)

known_target : (o : Option Ty) (r : Ref) (targets : Entries) (unknown : List (List ℕ × ℕ)) (ns : List (List ℕ)) → cond (is_some o) unknown ((r.name, r.place) ∷ unknown) ≡ []
    → (unknown ≡ [] → names targets ≡ ns) → names (with_target r.name o targets) ≡ r.name ∷ ns
known_target None r targets unknown ns e h = let no : ⊥ = cc in absurd no
known_target (Some t) r targets unknown ns e h = ap (λ xs. r.name ∷ xs) (h e)

known_targets : (env : Entries) (targets : List Ref) → unknown_targets env targets ≡ [] → names (typed_targets env targets) ≡ names_of targets
known_targets env [] e = refl
known_targets env (r ∷ rs) e = known_target (target_type env r.name) r (typed_targets env rs) (unknown_targets env rs) (names_of rs) e (known_targets env rs)

assigns_written : (env : Entries) (written : RawAction) (a : Action) → IsActionTyping env written a → assigned a ≡ names_of (written_targets written)
assigns_written env (raw.Assign targets values) a h = ap assigned h.2 ∙ new_values env targets (map core_form values) h.0 h.1
assigns_written env (raw.Apply target x e) a h = ap assigned h.2 ∙ new_values env (target ∷ []) (overridden target (core_form x) (core_form e) ∷ []) h.0 h.1
assigns_written env (raw.ChooseIn target set) a h = ap assigned h.2
assigns_written env (raw.ChooseSuch targets p) a h = ap assigned h.2 ∙ known_targets env targets h.1.0

actions_assign : (component : List ℕ) (env : Entries) (steps : List RawStep) (typed : List LabelledAction) (faults : List Fault) → AreTypedActions component env steps typed faults → faults ≡ []
    → all_assigned typed ≡ names_of (joined (map (λ s. written_targets s.action) steps))
actions_assign component env [] typed faults t none = ap all_assigned t.0
actions_assign component env (s ∷ steps) typed faults (inl t) none =
    ap all_assigned t.5
    ∙ ap₂ (λ xs ys. xs ++ ys) (assigns_written env s.action t.0 t.3.holds) (actions_assign component env steps t.1 faults t.4 none)
    ∙ sym (map_append (λ r. r.name) (written_targets s.action) (joined (map (λ x. written_targets x.action) steps)))
actions_assign component env (s ∷ steps) typed faults (inr t) none = never_empty t.0 t.1 (sym none ∙ t.4)

-- Targets that are variables, and not lost.

variables_at : (component : List ℕ) (variables : List (List ℕ)) (before refs : List Ref) → at_each (no_variable_row component variables) before refs ≡ []
    → AllByRecursion (λ r. is_among variables r.name ≡ true) refs
variables_at component variables before [] e = tt
variables_at component variables before (r ∷ refs) e = (
  dropped_none (is_among variables r.name) _ (first_none (no_variable_row component variables before r) _ e),
  variables_at component variables (before ++ r ∷ []) refs (second_none (no_variable_row component variables before r) _ e),
)

no_type : (b : Bool) (o : Option Ty) → o ≡ None → is_some (cond b o None) ≡ false
no_type true None e = refl
no_type true (Some t) e = let no : ⊥ = cc in absurd no
no_type false o e = refl

cond_not : {X : Type 0} → (P : X → Type 0) (b : Bool) (x : X) (xs : List X) → b ≡ false → AllByRecursion P (cond b xs (x ∷ xs)) → P x × AllByRecursion P xs
cond_not P true x xs e h = cc
cond_not P false x xs e h = h

-- without an environment each target is unknown
all_unknown : (P : List ℕ → Type 0) (targets : List Ref) → AllByRecursion (λ u. P u.0) (unknown_targets [] targets) → AllByRecursion (λ r. P r.name) targets
all_unknown P [] h = tt
all_unknown P (r ∷ rs) h =
    let k = cond_not (λ u. P u.0) (is_some (target_type [] r.name)) (r.name, r.place) (unknown_targets [] rs) (no_type (is_identifier r.name) (type_in [] r.name) refl) h in (k.0, all_unknown P rs k.1)

written_unknown : (P : List ℕ → Type 0) (written : RawAction) → AllByRecursion (λ u. P u.0) (unknowns_of [] (core_action written)) → AllByRecursion (λ r. P r.name) (written_targets written)
written_unknown P (raw.Assign targets values) h = all_unknown P targets (all_front (λ u. P u.0) (unknown_targets [] targets) (joined (map (unknowns [] [] []) (map core_form values))) h)
written_unknown P (raw.Apply target x e) h =
    all_unknown P (target ∷ []) (all_front (λ u. P u.0) (unknown_targets [] (target ∷ [])) (joined (map (unknowns [] [] []) (overridden target (core_form x) (core_form e) ∷ []))) h)
written_unknown P (raw.ChooseIn target set) h = all_unknown P (target ∷ []) (all_front (λ u. P u.0) (unknown_targets [] (target ∷ [])) (unknowns [] [] [] (core_form set)) h)
written_unknown P (raw.ChooseSuch targets p) h = all_unknown P targets (all_front (λ u. P u.0) (unknown_targets [] targets) (unknowns (env_after [] targets) [] [] (core_form p)) h)

none_lost : (component : List ℕ) (lost : List (List ℕ)) (used : List (List ℕ × ℕ)) → lost_among component lost used ≡ [] → AllByRecursion (λ u. is_among lost u.0 ≡ false) used
none_lost component lost used e = filter_none (λ u. is_among lost u.0) used (map_none _ (filter (λ u. is_among lost u.0) used) e)

own_not_lost : (component : List ℕ) (lost : List (List ℕ)) (e : RawEvent) → lost_in_own component lost e ≡ [] → AllByRecursion (λ r. is_among lost r.name ≡ false) (targets_in e)
own_not_lost component lost e h =
    joined_all (λ r. is_among lost r.name ≡ false) (λ s. written_targets s.action) e.actions
    (all_each (λ s. lost_among component lost (unknowns_of [] (core_action s.action)) ≡ []) (λ s. AllByRecursion (λ r. is_among lost r.name ≡ false) (written_targets s.action)) e.actions
    (λ s k. written_unknown (λ n. is_among lost n ≡ false) s.action (none_lost component lost (unknowns_of [] (core_action s.action)) k))
    (joined_none (λ s. lost_among component lost (unknowns_of [] (core_action s.action))) e.actions (second_none _ _ h)))

among_first : (ns ms : List (List ℕ)) (n : List ℕ) → is_among (ns ++ ms) n ≡ true → is_among ms n ≡ false → is_among ns n ≡ true
among_first [] ms n h k = apart (is_among ms n) h k
among_first (m ∷ ns) ms n h k = elim (or_cases (bytes_eq n m) (is_among (ns ++ ms) n) h) [
  | inl i ↦ or_left (bytes_eq n m) (is_among ns n) i
  | inr i ↦ or_right (bytes_eq n m) (is_among ns n) (among_first ns ms n i k)
]

-- Names once.

abbrev IsOther : List (List ℕ) → List ℕ → Type 0
IsOther ns n = AllByRecursion (λ m. bytes_eq n m ≡ false) ns

first_other : (m : List ℕ) (ns ms : List (List ℕ)) → AreOther (m ∷ ns) ms → IsOther ms m
first_other m ns ms h = all_each (λ n. is_among (m ∷ ns) n ≡ false) (λ n. bytes_eq m n ≡ false) ms (λ n k. name_turned n m false (neither_first (bytes_eq n m) (is_among ns n) k)) h

pub distinct_join : (ns ms : List (List ℕ)) → IsDistinct bytes_eq ns → IsDistinct bytes_eq ms → AreOther ns ms → IsDistinct bytes_eq (ns ++ ms)
unfolding IsDistinct
distinct_join [] ms d e h = e
distinct_join (n ∷ ns) ms d e h = (
  all_append (λ m. bytes_eq n m ≡ false) ns ms d.0 (first_other n ns ms h),
  distinct_join ns ms d.1 e (all_each (λ m. is_among (n ∷ ns) m ≡ false) (λ m. is_among ns m ≡ false) ms (λ m k. neither_second (bytes_eq m n) (is_among ns m) k) h),
)

among_all : (P : List ℕ → Type 0) (ns : List (List ℕ)) (n : List ℕ) → AllByRecursion P ns → is_among ns n ≡ true → P n
among_all P [] n h e = let no : ⊥ = cc in absurd no
among_all P (m ∷ ns) n h e = elim (or_cases (bytes_eq n m) (is_among ns n) e) [
  | inl i ↦ subst P (sym (same_name n m i)) h.0
  | inr i ↦ among_all P ns n h.1 i
]

-- where none of those is among these, none of these is among those
others_turned : (ns ms : List (List ℕ)) (n : List ℕ) → AreOther ns ms → is_among ns n ≡ true → is_among ms n ≡ false
others_turned ns ms n h e = elim (here_or (is_among ms n)) [
  | inl i ↦ apart (is_among ns n) e (among_all (λ m. is_among ns m ≡ false) ms n h i)
  | inr i ↦ i
]

-- What faults of kinds 17, 18 and 23 say of an event.
pub record IsAssigningWell (component : List ℕ) (own lost : List (List ℕ)) (p : BothEvents) : Type 0 where
  pub variables : at_each (no_variable_row component (own ++ lost)) [] (targets_in p.0) ≡ []
  pub once : at_each (assigned_twice_row component (inherited_targets p.1)) [] (targets_in p.0) ≡ []
  pub kept : lost_in_own component lost p.0 ≡ []
  pub kept_above : lost_in_inherited component lost p ≡ []
  pub start : is_initialisation p.0 ≡ true → AllByRecursion (λ n. is_among (all_assigned p.1.actions) n ≡ true) own

-- targets of the abstraction, each once
abbrev AreAbove : List (List ℕ) → List LabelledAction → Type 0
AreAbove variables actions = AllByRecursion (λ n. is_among variables n ≡ true) (all_assigned actions) × IsDistinct bytes_eq (all_assigned actions)

above_of : (variables : List (List ℕ)) (o : Option CheckedEvent) → IfSome o (AssignsVariables variables) → AreAbove variables (option_map_or (λ a. a.actions) o [])
unfolding IsDistinct
above_of variables None h = (tt, tt)
above_of variables (Some a) h = (h.targets, h.once)

found_is : (P : CheckedEvent → Type 0) (m : List CheckedEvent) → AllByRecursion P m → (name : List ℕ) → IfSome (event_named m name) P
found_is P m h name = if_some_each (λ a. P a × (bytes_eq name a.name ≡ true)) P (event_named m name) (λ a k. k.0) (event_found P m name h)

assigned_append : (xs ys : List LabelledAction) → all_assigned (xs ++ ys) ≡ all_assigned xs ++ all_assigned ys
assigned_append [] ys = refl
assigned_append (x ∷ xs) ys = ap (λ ns. assigned x.1 ++ ns) (assigned_append xs ys) ∙ sym (append_assoc (assigned x.1) (all_assigned xs) (all_assigned ys))

-- A machine with these variables, and lost ones, beside the events of its abstraction.
module _ (component : List ℕ) (m : List CheckedEvent) (above own lost : List (List ℕ)) (above_assigns : AllByRecursion (AssignsVariables above) m)
    (keeps : (n : List ℕ) → is_among above n ≡ true → is_among lost n ≡ false → is_among own n ≡ true) where
  inherits : (e : RawEvent) → AreAbove above (inherited_actions m e)
  inherits e = above_of above (inherited m e) (inherited_usable (AssignsVariables above) m e (refined_each (AssignsVariables above) m e (found_is (AssignsVariables above) m above_assigns)))

  module _ (e : RawEvent) (one : CheckedEvent) (actions : List LabelledAction) (named : one.name ≡ e.name.name) (actions_are : one.actions ≡ inherited_actions m e ++ actions)
      (from : one.own_actions_from ≡ length (inherited_actions m e)) (written : all_assigned actions ≡ names_of (targets_in e)) (well : IsAssigningWell component own lost (e, one)) where
    abbrev old : List (List ℕ)
    old = all_assigned (inherited_actions m e)

    taken : take one.own_actions_from one.actions ≡ inherited_actions m e
    taken = ap₂ take from actions_are ∙ take-append_seam (inherited_actions m e) actions

    all_are : all_assigned one.actions ≡ old ++ names_of (targets_in e)
    all_are = ap all_assigned actions_are ∙ assigned_append (inherited_actions m e) actions ∙ ap (λ ns. old ++ ns) written

    lost_other : AreOther old lost
    lost_other =
        let guards = joined (map (λ g. free_names_of g.formula) (take one.own_guards_from one.guards)) in
        let rights = joined (map (λ a. names_on_right a.1) (take one.own_actions_from one.actions)) in
        subst (λ xs. AreOther (all_assigned xs) lost) taken
        (all_each (λ n. is_among (inherited_names one) n ≡ false) (λ n. is_among (all_assigned (take one.own_actions_from one.actions)) n ≡ false) lost
        (λ n h. none_right guards (all_assigned (take one.own_actions_from one.actions)) n (none_left (guards ++ all_assigned (take one.own_actions_from one.actions)) rights n h))
        (filter_none (is_among (inherited_names one)) lost (map_none _ (filter (is_among (inherited_names one)) lost) well.kept_above)))

    old_kept : AllByRecursion (λ n. is_among own n ≡ true) old
    old_kept = all_two (λ n. is_among above n ≡ true) (λ n. is_among old n ≡ true) (λ n. is_among own n ≡ true) old (λ n h k. keeps n h (others_turned old lost n lost_other k))
        (inherits e).0 (among_self old)

    new_kept : AllByRecursion (λ n. is_among own n ≡ true) (names_of (targets_in e))
    new_kept = all_map (λ n. is_among own n ≡ true) (λ r. r.name) (targets_in e)
        (all_two (λ r. is_among (own ++ lost) r.name ≡ true) (λ r. is_among lost r.name ≡ false) (λ r. is_among own r.name ≡ true) (targets_in e)
        (λ r h k. among_first own lost r.name h k) (variables_at component (own ++ lost) [] (targets_in e) well.variables) (own_not_lost component lost e well.kept))

    once : DeclaredOnce old (names_of (targets_in e))
    once = subst (λ xs. DeclaredOnce (all_assigned xs) (names_of (targets_in e))) taken
        (once_in (λ r. fault_at component kind.AssignedTwice r.place r.name) (inherited_targets one) (targets_in e) well.once)

    pub event_assigns : AssignsVariables own one
    event_assigns = record {
      targets = subst (AllByRecursion (λ n. is_among own n ≡ true)) (sym all_are) (all_append (λ n. is_among own n ≡ true) old (names_of (targets_in e)) old_kept new_kept);
      once = subst (IsDistinct bytes_eq) (sym all_are) (distinct_join old (names_of (targets_in e)) (inherits e).1 once.distinct once.other);
      all = λ is. well.start (name_turned initialisation e.name.name true (ap (bytes_eq initialisation) (sym named) ∙ is));
    }

  pub events_assign : (variables : List (List ℕ)) (last : Entries) (raws : List RawEvent) (typed : List CheckedEvent) (faults : List Fault) → AreTypedEvents component m variables last raws typed faults
      → faults ≡ [] → AllByRecursion (IsAssigningWell component own lost) (zip raws typed) → AllByRecursion (AssignsVariables own) typed
  events_assign variables last [] typed faults t none h = subst (AllByRecursion (AssignsVariables own)) (sym t.0) tt
  events_assign variables last (e ∷ raws) typed faults t none h =
      let both : t.1 ++ t.3 ≡ [] = sym t.7 ∙ none in
      let pairs : AllByRecursion (IsAssigningWell component own lost) ((e, t.0) ∷ zip raws t.2) = subst (λ es. AllByRecursion (IsAssigningWell component own lost) (zip (e ∷ raws) es)) t.6 h in
      let i = t.4 in
      let written = actions_assign component i.2 e.actions i.8 i.9 i.10 (second_none _ i.9 (sym i.12 ∙ first_none t.1 t.3 both)) in
      subst (AllByRecursion (AssignsVariables own)) (sym t.6) (
        event_assigns e t.0 i.8 (ap (λ c. c.name) i.11) (ap (λ c. c.actions) i.11) (ap (λ c. c.own_actions_from) i.11) written pairs.0,
        events_assign variables last raws t.2 t.3 t.5 (second_none t.1 t.3 both) pairs.1,
      )
