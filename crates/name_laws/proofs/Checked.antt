-- The names and labels of a checked component are those that it has as it is written, and those of the components that it references.
use Rattle.std.proofs.Common.{◌≡◌, ◌∙◌, sym, ap, subst, refl, inl, inr, ℕ, suc, Bool, true, false, cond, not, ◌&&◌, ◌==◌, List, [], ◌∷◌, ◌++◌, map, drop, length, Option, Some, None, IfSome, bytes_eq, option_to_list, slice_get}
use Rattle.std.specs.List.{AllByRecursion, IsDistinct, filter, filter_map, cons_option, zip}
use Rattle.std.specs.Option.{option_map, option_map_or}
use Rattle.formula_core.specs.declared.raw.Ref.{Ref}
use Rattle.formula_core.specs.Formulas.{joined}
use Rattle.formula_core.specs.Names.{is_name}
use Rattle.type_formula.proofs.Named.{all_append, all_front, all_back, all_each}
use Rattle.model_core.specs.declared.fault.Fault.{Fault}
use Rattle.model_core.specs.declared.component.RawComponent.TheVariants as raw
use Rattle.model_core.specs.declared.component.RawEvent.{RawEvent}
use Rattle.model_core.specs.declared.component.RawLabelled.{RawLabelled}
use Rattle.model_core.specs.declared.component.RawStep.{RawStep}
use Rattle.model_core.specs.declared.checked.Checked.{Checked}
use Rattle.model_core.specs.declared.checked.Checked.TheVariants.{Context, Machine}
use Rattle.model_core.specs.declared.checked.CheckedContext.{CheckedContext}
use Rattle.model_core.specs.declared.checked.CheckedEvent.{CheckedEvent}
use Rattle.model_core.specs.declared.checked.CheckedMachine.{CheckedMachine}
use Rattle.model_core.specs.declared.checked.Labelled.{Labelled}
use Rattle.model_core.specs.Each.{is_among}
use Rattle.check_rules.specs.Components.{contexts_in, first_machine_in}
use Rattle.check_rules.specs.Contexts.{names_of, labels_of, unless, context_env, checked_context_of, context_declarations, ChecksAxioms, ChecksContext}
use Rattle.check_rules.specs.Declarations.{LabelAt, declared_twice, brings_clash, labelled_twice}
use Rattle.check_rules.specs.Events.{initialisation, is_initialisation, event_named, with_event, refined_at, implied_events, refined, inherited, inherited_params, inherited_guards, inherited_actions, inherited_labels, event_labels, param_clashes, event_declarations, event_env, witness_env, witnesses_of, IsTypedEvent, AreTypedEvents}
use Rattle.check_rules.specs.Machines.{Written, abstract_variables, abstract_events, abstract_view, own_names, new_variables, all_variables, machine_env, checked_machine_of, machine_declarations, machine_assignments, machine_refinements, ChecksFormulas, ChecksMachine}
use Rattle.check_rules.specs.Typed.{Entries, LabelledAction, AreTyped, AreTypedActions, never_typed}
use Rattle.check_rules.specs.Visible.{nothing, all_visible, entries, names, seen_from}
use Rattle.name_laws.specs.Labels.{IsPlain, AreOnce, labels, action_labels, names_of_witnesses, own_axioms, own_invariants, HasPlainNamesInContext, HasPlainNamesInEvent, HasPlainNamesInMachine, HasPlainNames, HasDistinctLabelsInEvent, HasDistinctLabelsInMachine, HasDistinctLabels}
use Rattle.name_laws.specs.Laws.{component_name, CheckedHasDistinctLabels, CheckedHasPlainNames, CheckedKeepsItsName}
use Rattle.name_laws.specs.Written.{written_labels, step_labels, IsPlainlyWrittenEvent}
use Rattle.name_laws.proofs.Lists.{AreOther, all_map, all_unmap, all_two, all_filter, map_append, map_map, once_front, once_back, once_apart, once_append, once_filter, turned}
use Rattle.name_laws.proofs.Declared.{first_none, second_none, ok, passes, same_checked, joined_none, declared_once, labelled_once}

-- Typed formulas have the labels with which they are written.

typed_labels : (component : List ℕ) (env : Entries) (wanted : List (List ℕ)) (written : List RawLabelled) (typed : List Labelled) (faults : List Fault) (last : Entries) →
    AreTyped component env wanted written typed faults last → faults ≡ [] → labels typed ≡ written_labels written
typed_labels component env wanted [] typed faults last t none = ap labels t.0
typed_labels component env wanted (l ∷ written) typed faults last t none = elim t [
  | inl h ↦ ap labels h.5 ∙ ap (λ ns. l.label ∷ ns) (typed_labels component h.1 wanted written h.2 faults last h.4 none)
  | inr h ↦ absurd (filled h.0 h.1 (sym h.4 ∙ none))
]
  where
    filled : (x : Fault) (xs : List Fault) → x ∷ xs ≡ [] → ⊥
    filled x xs e = cc

typed_actions : (component : List ℕ) (env : Entries) (written : List RawStep) (typed : List LabelledAction) (faults : List Fault) →
    AreTypedActions component env written typed faults → faults ≡ [] → action_labels typed ≡ step_labels written
typed_actions component env [] typed faults t none = ap action_labels t.0
typed_actions component env (s ∷ written) typed faults t none = elim t [
  | inl h ↦ ap action_labels h.5 ∙ ap (λ ns. s.label ∷ ns) (typed_actions component env written h.1 faults h.4 none)
  | inr h ↦ absurd (filled h.0 h.1 (sym h.4 ∙ none))
]
  where
    filled : (x : Fault) (xs : List Fault) → x ∷ xs ≡ [] → ⊥
    filled x xs e = cc

-- A checked event beside the abstract events, and as it is written.
record IsEventFrom (m : List CheckedEvent) (e : RawEvent) (c : CheckedEvent) : Type 0 where
  pub name : c.name ≡ e.name.name
  pub guards : labels c.guards ≡ labels (inherited_guards m e) ++ written_labels e.guards
  pub actions : action_labels c.actions ≡ action_labels (inherited_actions m e) ++ step_labels e.actions
  pub witnesses : (ws : List Labelled) × (labels ws ≡ written_labels e.witnesses) × (c.witnesses ≡ witnesses_of ws)

event_from : (component : List ℕ) (m : List CheckedEvent) (variables : List (List ℕ)) (env : Entries) (e : RawEvent) (typed : CheckedEvent) (faults : List Fault) →
    IsTypedEvent component m variables env e typed faults → faults ≡ [] → IsEventFrom m e typed
event_from component m variables env e typed faults t none =
    let never = never_typed component t.2 e.params in
    let all : t.1 ++ never ++ t.5 ++ t.9 ≡ [] = sym t.12 ∙ none in
    let first : t.1 ++ never ++ t.5 ≡ [] = first_none (t.1 ++ never ++ t.5) t.9 all in
    let guards = typed_labels component (event_env m e env) (names_of e.params) e.guards t.0 t.1 t.2 t.3 (first_none t.1 never (first_none (t.1 ++ never) t.5 first)) in
    let witnesses = typed_labels component (witness_env m e variables env t.2) [] e.witnesses t.4 t.5 t.6 t.7 (second_none (t.1 ++ never) t.5 first) in
    let actions = typed_actions component t.2 e.actions t.8 t.9 t.10 (second_none (t.1 ++ never ++ t.5) t.9 all) in
    subst (IsEventFrom m e) (sym t.11) (record {
      name = refl;
      guards = map_append (λ l. l.label) (inherited_guards m e) t.0 ∙ ap (λ ns. labels (inherited_guards m e) ++ ns) guards;
      actions = map_append (λ a. a.0) (inherited_actions m e) t.8 ∙ ap (λ ns. action_labels (inherited_actions m e) ++ ns) actions;
      witnesses = (t.4, witnesses, refl);
    })

-- event by event
abbrev AreEventsFrom : List CheckedEvent → List RawEvent → List CheckedEvent → Type 0
AreEventsFrom m [] typed = typed ≡ []
AreEventsFrom m (e ∷ written) typed = (c : CheckedEvent) × (others : List CheckedEvent) × IsEventFrom m e c × AreEventsFrom m written others × (typed ≡ c ∷ others)

events_from : (component : List ℕ) (m : List CheckedEvent) (variables : List (List ℕ)) (env : Entries) (written : List RawEvent) (typed : List CheckedEvent) (faults : List Fault) →
    AreTypedEvents component m variables env written typed faults → faults ≡ [] → AreEventsFrom m written typed
events_from component m variables env [] typed faults t none = t.0
events_from component m variables env (e ∷ written) typed faults t none =
    let all : t.1 ++ t.3 ≡ [] = sym t.7 ∙ none in
    (t.0, t.2, event_from component m variables env e t.0 t.1 t.4 (first_none t.1 t.3 all), events_from component m variables env written t.2 t.3 t.5 (second_none t.1 t.3 all), t.6)

events_each : (P : RawEvent → Type 0) (Q : CheckedEvent → Type 0) (m : List CheckedEvent) → ((e : RawEvent) (c : CheckedEvent) → P e → IsEventFrom m e c → Q c) →
    (written : List RawEvent) (typed : List CheckedEvent) → AllByRecursion P written → AreEventsFrom m written typed → AllByRecursion Q typed
events_each P Q m f [] typed h t = subst (AllByRecursion Q) (sym t) tt
events_each P Q m f (e ∷ written) typed h t = subst (AllByRecursion Q) (sym t.4) (f e t.0 h.0 t.2, events_each P Q m f written t.1 h.1 t.3)

event_names : (m : List CheckedEvent) (written : List RawEvent) (typed : List CheckedEvent) → AreEventsFrom m written typed → map (λ c. c.name) typed ≡ map (λ e. e.name.name) written
event_names m [] typed t = ap (map (λ c. c.name)) t
event_names m (e ∷ written) typed t =
    let others = event_names m written t.1 t.3 in
    ap (map (λ c. c.name)) t.4 ∙ (λ i. t.2.name i ∷ others i)

-- The event that is inherited.

cons_all : {X : Type 0} → (P : X → Type 0) (o : Option X) (xs : List X) → IfSome o P → AllByRecursion P xs → AllByRecursion P (cons_option o xs)
cons_all P None xs h k = k
cons_all P (Some x) xs h k = (h, k)

event_found : (P : CheckedEvent → Type 0) (m : List CheckedEvent) (name : List ℕ) → AllByRecursion P m → IfSome (event_named m name) P
event_found P [] name h = tt
event_found P (a ∷ m) name h = go (bytes_eq name a.name) (event_found P m name h.1)
  where
    go : (b : Bool) → IfSome (event_named m name) P → IfSome (cond b (Some a) (event_named m name)) P
    go true more = h.0
    go false more = more

with_ref : (P : CheckedEvent → Type 0) (r : Ref) (o : Option CheckedEvent) → IfSome o P → IfSome {T = Ref × CheckedEvent} (option_map (λ a. (r, a)) o) (λ x. P x.1)
with_ref P r None h = tt
with_ref P r (Some a) h = h

refs_each : (P : CheckedEvent → Type 0) (m : List CheckedEvent) (refs : List Ref) → AllByRecursion P m → AllByRecursion (λ x. P x.1) (filter_map (with_event m) refs)
refs_each P m [] h = tt
refs_each P m (r ∷ refs) h = cons_all (λ x. P x.1) (with_event m r) (filter_map (with_event m) refs) (with_ref P r (event_named m r.name) (event_found P m r.name h)) (refs_each P m refs h)

listed : (P : CheckedEvent → Type 0) (b : Bool) (o : Option CheckedEvent) → IfSome o P → AllByRecursion P (cond b (option_to_list o) [])
listed P true None h = tt
listed P true (Some a) h = (h, tt)
listed P false o h = tt

first_of : (P : CheckedEvent → Type 0) (b : Bool) (xs : List CheckedEvent) → AllByRecursion P xs → IfSome (cond b (slice_get xs 0) None) P
first_of P true [] h = tt
first_of P true (x ∷ xs) h = h.0
first_of P false xs h = tt

inherited_is : (P : CheckedEvent → Type 0) (m : List CheckedEvent) (e : RawEvent) → AllByRecursion P m → IfSome (inherited m e) P
inherited_is P m e h =
    first_of P e.extended (refined m e)
    (all_append P (map (λ x. x.1) (refined_at m e)) (implied_events m e) (all_map P (λ x. x.1) (refined_at m e) (refs_each P m e.refines h))
    (listed P (is_initialisation e && length e.refines == 0) (event_named m initialisation) (event_found P m initialisation h)))

-- Plain names.

inherited_plain : (o : Option CheckedEvent) → IfSome o HasPlainNamesInEvent → AllByRecursion IsPlain (labels (option_map_or (λ a. a.guards) o [])) × AllByRecursion IsPlain (action_labels (option_map_or (λ a. a.actions) o []))
inherited_plain None h = (tt, tt)
inherited_plain (Some a) h = (h.guards, h.actions)

witnesses_kept : (P : List ℕ → Type 0) (ws : List Labelled) → AllByRecursion P (labels ws) → AllByRecursion P (names_of_witnesses (witnesses_of ws))
witnesses_kept P ws h =
    subst (AllByRecursion P) (sym (map_map (λ w. w.0) (λ w. (w.label, w.formula)) (filter (λ w. is_name w.label) ws)))
    (all_map P (λ w. w.label) (filter (λ w. is_name w.label) ws) (all_filter (λ w. is_name w.label) (λ w. P w.label) ws (all_unmap P (λ w. w.label) ws h)))

event_plain : (m : List CheckedEvent) → AllByRecursion HasPlainNamesInEvent m → (e : RawEvent) (c : CheckedEvent) → IsPlainlyWrittenEvent e → IsEventFrom m e c → HasPlainNamesInEvent c
event_plain m above e c plain from =
    let old = inherited_plain (inherited m e) (inherited_is HasPlainNamesInEvent m e above) in
    let ws = from.witnesses in
    record {
      name = subst IsPlain (sym from.name) plain.name;
      guards = subst (AllByRecursion IsPlain) (sym from.guards) (all_append IsPlain (labels (inherited_guards m e)) (written_labels e.guards) old.0 plain.guards);
      witnesses = subst (λ xs. AllByRecursion IsPlain (names_of_witnesses xs)) (sym ws.2) (witnesses_kept IsPlain ws.0 (subst (AllByRecursion IsPlain) (sym ws.1) plain.witnesses));
      actions = subst (AllByRecursion IsPlain) (sym from.actions) (all_append IsPlain (action_labels (inherited_actions m e)) (step_labels e.actions) old.1 plain.actions);
    }

-- Distinct labels.

inherited_once : (o : Option CheckedEvent) → IfSome o HasDistinctLabelsInEvent → AreOnce (labels (option_map_or (λ a. a.guards) o []) ++ action_labels (option_map_or (λ a. a.actions) o []))
unfolding IsDistinct
inherited_once None h = tt
inherited_once (Some a) h = h.labels

other_turned : (xs ys : List (List ℕ)) → AreOther xs ys → AreOther ys xs
other_turned xs [] h = tt
other_turned xs (y ∷ ys) h = (
  all_each (λ x. AllByRecursion (λ z. bytes_eq x z ≡ false) (y ∷ ys)) (λ x. bytes_eq y x ≡ false) xs (λ x k. turned x y k.0) h,
  other_turned xs ys (all_each (λ x. AllByRecursion (λ z. bytes_eq x z ≡ false) (y ∷ ys)) (λ x. AllByRecursion (λ z. bytes_eq x z ≡ false) ys) xs (λ x k. k.1) h),
)

other_right : (xs ys vs : List (List ℕ)) → AreOther xs ys → AreOther xs vs → AreOther xs (ys ++ vs)
other_right xs ys vs h k =
    all_two (λ x. AllByRecursion (λ z. bytes_eq x z ≡ false) ys) (λ x. AllByRecursion (λ z. bytes_eq x z ≡ false) vs) (λ x. AllByRecursion (λ z. bytes_eq x z ≡ false) (ys ++ vs)) xs
    (λ x a b. all_append (λ z. bytes_eq x z ≡ false) ys vs a b) h k

other_left_part : (xs ys vs : List (List ℕ)) → AreOther xs (ys ++ vs) → AreOther xs ys
other_left_part xs ys vs h = all_each (λ x. AllByRecursion (λ z. bytes_eq x z ≡ false) (ys ++ vs)) (λ x. AllByRecursion (λ z. bytes_eq x z ≡ false) ys) xs (λ x k. all_front (λ z. bytes_eq x z ≡ false) ys vs k) h

other_right_part : (xs ys vs : List (List ℕ)) → AreOther xs (ys ++ vs) → AreOther xs vs
other_right_part xs ys vs h = all_each (λ x. AllByRecursion (λ z. bytes_eq x z ≡ false) (ys ++ vs)) (λ x. AllByRecursion (λ z. bytes_eq x z ≡ false) vs) xs (λ x k. all_back (λ z. bytes_eq x z ≡ false) ys vs k) h

-- old guards and actions, and own ones
merged_once : (old_guards guards old_actions actions : List (List ℕ)) → AreOnce (old_guards ++ old_actions) → AreOnce guards → AreOnce actions → AreOther guards actions
    → AreOther guards (old_guards ++ old_actions) → AreOther actions (old_guards ++ old_actions) → AreOnce ((old_guards ++ guards) ++ (old_actions ++ actions))
merged_once old_guards guards old_actions actions old d e apart new_guards new_actions =
    let g_g = other_left_part guards old_guards old_actions new_guards in
    let g_a = other_right_part guards old_guards old_actions new_guards in
    let a_g = other_left_part actions old_guards old_actions new_actions in
    let a_a = other_right_part actions old_guards old_actions new_actions in
    once_append (old_guards ++ guards) (old_actions ++ actions)
    (once_append old_guards guards (once_front old_guards old_actions old) d (other_turned guards old_guards g_g))
    (once_append old_actions actions (once_back old_guards old_actions old) e (other_turned actions old_actions a_a))
    (all_append (λ x. AllByRecursion (λ y. bytes_eq x y ≡ false) (old_actions ++ actions)) old_guards guards
    (other_right old_guards old_actions actions (once_apart old_guards old_actions old) (other_turned actions old_guards a_g))
    (other_right guards old_actions actions g_a apart))

abbrev placed : List LabelAt → List (List ℕ)
placed ls = map (λ l. l.0) ls

abbrev steps_of : List RawStep → List LabelAt
steps_of steps = map (λ s. (s.label, s.place)) steps

labels_at : (ls : List RawLabelled) → placed (labels_of ls) ≡ written_labels ls
labels_at [] = refl
labels_at (l ∷ ls) = ap (λ ns. l.label ∷ ns) (labels_at ls)

steps_at : (steps : List RawStep) → placed (steps_of steps) ≡ step_labels steps
steps_at [] = refl
steps_at (s ∷ steps) = ap (λ ns. s.label ∷ ns) (steps_at steps)

placed_append : (xs ys : List LabelAt) → placed (xs ++ ys) ≡ placed xs ++ placed ys
placed_append xs ys = map_append (λ l. l.0) xs ys

labels_in : (e : RawEvent) → placed (event_labels e) ≡ (written_labels e.guards ++ written_labels e.witnesses) ++ step_labels e.actions
labels_in e =
    placed_append (labels_of e.guards ++ labels_of e.witnesses) (steps_of e.actions)
    ∙ ap (λ ns. ns ++ placed (steps_of e.actions)) (placed_append (labels_of e.guards) (labels_of e.witnesses))
    ∙ (λ i. (labels_at e.guards i ++ labels_at e.witnesses i) ++ steps_at e.actions i)

event_once : (component : List ℕ) (known : List (List ℕ)) (m : List CheckedEvent) → AllByRecursion HasDistinctLabelsInEvent m → (e : RawEvent) (c : CheckedEvent) →
    event_declarations component m known e ≡ [] → IsEventFrom m e c → HasDistinctLabelsInEvent c
event_once component known m above e c clear from =
    let guards = written_labels e.guards in
    let witnesses = written_labels e.witnesses in
    let actions = step_labels e.actions in
    let front = guards ++ witnesses in
    let old = inherited_labels m e in
    let own = labelled_once component old (event_labels e) (second_none (param_clashes component known (refined_at m e) ++ declared_twice component (known ++ names (inherited_params m e)) e.params)
    (labelled_twice component old (event_labels e)) clear) in
    let once : AreOnce (front ++ actions) = subst AreOnce (labels_in e) own.1 in
    let new : AreOther (front ++ actions) old = subst (λ ns. AreOther ns old) (labels_in e) own.0 in
    let apart : AreOther guards actions = all_front (λ x. AllByRecursion (λ y. bytes_eq x y ≡ false) actions) guards witnesses (once_apart front actions once) in
    let new_guards : AreOther guards old = all_front (λ x. AllByRecursion (λ y. bytes_eq x y ≡ false) old) guards witnesses (all_front (λ x. AllByRecursion (λ y. bytes_eq x y ≡ false) old) front actions new) in
    let new_actions : AreOther actions old = all_back (λ x. AllByRecursion (λ y. bytes_eq x y ≡ false) old) front actions new in
    let ws = from.witnesses in
    let named : AreOnce (labels ws.0) = subst AreOnce (sym ws.1) (once_back guards witnesses (once_front front actions once)) in
    let kept = filter (λ w. is_name w.label) ws.0 in
    record {
      labels = subst AreOnce (λ i. sym from.guards i ++ sym from.actions i)
          (merged_once (labels (inherited_guards m e)) guards (action_labels (inherited_actions m e)) actions
          (inherited_once (inherited m e) (inherited_is HasDistinctLabelsInEvent m e above))
          (once_front guards witnesses (once_front front actions once)) (once_back front actions once) apart new_guards new_actions);
      witnesses = subst (λ xs. AreOnce (names_of_witnesses xs)) (sym ws.2)
          (subst AreOnce (sym (map_map (λ w. w.0) (λ w. (w.label, w.formula)) kept)) (once_filter (λ w. w.label) (λ w. is_name w.label) ws.0 named));
    }

-- Contexts.

drop_front : {X : Type 0} → (xs ys : List X) (n : ℕ) → n ≡ length xs → drop n (xs ++ ys) ≡ ys
drop_front xs ys n e = ap (λ k. drop k (xs ++ ys)) e ∙ go xs
  where
    go : (zs : List _) → drop (length zs) (zs ++ ys) ≡ ys
    go [] = refl
    go (z ∷ zs) = go zs

map_length : {X Y : Type 0} → (f : X → Y) (xs : List X) → length xs ≡ length (map f xs)
map_length f [] = refl
map_length f (x ∷ xs) = ap suc (map_length f xs)

-- A checked context, as it is written.
record IsContextFrom (name : List ℕ) (axioms : List RawLabelled) (checked : Checked) : Type 0 where
  pub context : CheckedContext
  pub is : Context context ≡ checked
  pub name_is : context.name ≡ name
  pub axioms_are : labels (own_axioms context) ≡ written_labels axioms
  pub once : AreOnce (written_labels axioms)

context_from : (name : List ℕ) (extends sets constants : List Ref) (axioms : List RawLabelled) (parents : List CheckedContext) (checked : Checked) →
    ChecksContext name extends sets constants axioms parents (ok checked) → IsContextFrom name axioms checked
context_from name extends sets constants axioms parents checked h =
    let v = seen_from nothing parents in
    let declared = passes (ChecksAxioms name sets constants axioms v (ok checked)) (context_declarations name extends (sets ++ constants) axioms parents) checked h in
    let clear = second_none (brings_clash name nothing (zip extends parents) ++ declared_twice name (names (entries v.constants)) (sets ++ constants)) (labelled_twice name [] (labels_of axioms)) declared.0 in
    let a = declared.1 in
    let out = passes (ok checked ≡ ok (Context (checked_context_of name (sets ++ constants) v a.0 a.2))) (a.1 ++ never_typed name a.2 constants) checked a.4 in
    let typed = typed_labels name (context_env sets v) (names_of constants) axioms a.0 a.1 a.2 a.3 (first_none a.1 (never_typed name a.2 constants) out.0) in
    record {
      context = checked_context_of name (sets ++ constants) v a.0 a.2;
      is = sym (same_checked checked (Context (checked_context_of name (sets ++ constants) v a.0 a.2)) out.1);
      name_is = refl;
      axioms_are = ap labels (drop_front (map (λ x. x.0) v.axioms) a.0 (length v.axioms) (map_length (λ x. x.0) v.axioms)) ∙ typed;
      once = subst AreOnce (labels_at axioms) (labelled_once name [] (labels_of axioms) clear).1;
    }

-- Machines.

-- A checked machine beside its abstraction, and as it is written.
record IsMachineFrom (m : Option CheckedMachine) (w : Written) (checked : Checked) : Type 0 where
  pub machine : CheckedMachine
  pub is : Machine machine ≡ checked
  pub name_is : machine.name ≡ w.name.name
  pub invariants_are : labels (own_invariants machine) ≡ written_labels w.invariants
  pub variables_are : machine.variables ≡ names_of w.variables
  pub events_are : AreEventsFrom (abstract_events m) w.events machine.events
  pub invariants_once : AreOnce (written_labels w.invariants)
  pub variables_once : AreOnce (names_of w.variables)
  pub names_once : AreOnce (map (λ e. e.name.name) w.events)
  pub known : List (List ℕ)
  pub clear : AllByRecursion (λ e. event_declarations w.name.name (abstract_events m) known e ≡ []) w.events

own_kept : (m : Option CheckedMachine) (invariants : List Labelled) → drop (option_map_or (λ a. length a.invariants) m 0) (option_map_or (λ a. a.invariants) m [] ++ invariants) ≡ invariants
own_kept None invariants = refl
own_kept (Some a) invariants = drop_front a.invariants invariants (length a.invariants) refl

machine_from : (m : Option CheckedMachine) (w : Written) (seen : List CheckedContext) (checked : Checked) → ChecksMachine m w seen (ok checked) → IsMachineFrom m w checked
machine_from m w seen checked h =
    let name = w.name.name in
    let v = seen_from (abstract_view m) seen in
    let declared = passes (ChecksFormulas m w v (ok checked)) (machine_declarations m w seen) checked h in
    let known = filter (λ x. not (is_among (abstract_variables m) x)) (names (entries (all_visible v))) in
    let outside = names (entries (all_visible v)) ++ own_names w in
    let clashes = brings_clash name (abstract_view m) (zip w.sees seen) in
    let twice = declared_twice name known w.variables in
    let labels_twice = labelled_twice name [] (labels_of w.invariants) in
    let names_twice = declared_twice name [] (map (λ e. e.name) w.events) in
    let in_events = joined (map (event_declarations name (abstract_events m) outside) w.events) in
    let none3 = first_none (clashes ++ twice ++ labels_twice ++ names_twice) in_events declared.0 in
    let none2 = first_none (clashes ++ twice ++ labels_twice) names_twice none3 in
    let none1 = first_none (clashes ++ twice) labels_twice none2 in
    let a = declared.1 in
    let p = passes (unless (machine_assignments m w a.0 ++ machine_refinements m w a.0) (Machine a.0) (ok checked)) a.1 checked a.3 in
    let out = passes (ok checked ≡ ok (Machine a.0)) (machine_assignments m w a.0 ++ machine_refinements m w a.0) checked p.1 in
    let t = a.2 in
    let never = never_typed name t.2 w.variables in
    let faults : t.1 ++ never ++ t.5 ++ t.8 ≡ [] = sym t.11 ∙ p.0 in
    let faults1 : t.1 ++ never ++ t.5 ≡ [] = first_none (t.1 ++ never ++ t.5) t.8 faults in
    let no_events = second_none (t.1 ++ never ++ t.5) t.8 faults in
    let typed = typed_labels name (machine_env m v) (new_variables m w) w.invariants t.0 t.1 t.2 t.3 (first_none t.1 never (first_none (t.1 ++ never) t.5 faults1)) in
    let mine = checked_machine_of m w v t.2 t.0 t.4 t.7 in
    record {
      machine = mine;
      is = sym (same_checked checked (Machine a.0) out.1 ∙ ap (λ c. Machine c) t.10);
      name_is = refl;
      invariants_are = ap labels (own_kept m t.0) ∙ typed;
      variables_are = refl;
      events_are = events_from name (abstract_events m) (all_variables m w) t.2 w.events t.7 t.8 t.9 no_events;
      invariants_once = subst AreOnce (labels_at w.invariants) (labelled_once name [] (labels_of w.invariants) (second_none (clashes ++ twice) labels_twice none2)).1;
      variables_once = declared_once name known w.variables (second_none clashes twice none1);
      names_once = subst AreOnce (map_map (λ r. r.name) (λ e. e.name) w.events) (declared_once name [] (map (λ e. e.name) w.events) (second_none (clashes ++ twice ++ labels_twice) names_twice none3));
      known = outside;
      clear = joined_none (event_declarations name (abstract_events m) outside) w.events (second_none (clashes ++ twice ++ labels_twice ++ names_twice) in_events declared.0);
    }

-- the machine among the parts
events_above : (H : Checked → Type 0) (P : CheckedEvent → Type 0) → ((m : CheckedMachine) → H (Machine m) → AllByRecursion P m.events) → (parts : List Checked) → AllByRecursion H parts
    → AllByRecursion P (abstract_events (first_machine_in parts))
events_above H P f [] h = tt
events_above H P f (Context c ∷ parts) h = events_above H P f parts h.1
events_above H P f (Machine m ∷ parts) h = f m h.0

-- The laws.

pub checked_labels : CheckedHasDistinctLabels
checked_labels (raw.Context name extends sets constants axioms) parts checked above h =
    let from = context_from name.name extends sets constants axioms (contexts_in parts) checked h in
    subst HasDistinctLabels from.is (subst AreOnce (sym from.axioms_are) from.once)
checked_labels (raw.Machine name refines sees variables invariants variant events) parts checked above h =
    let m = first_machine_in parts in
    let w : Written = record { name = name; sees = sees; variables = variables; invariants = invariants; variant = variant; events = events } in
    let from = machine_from m w (contexts_in parts) checked h in
    let abstract = events_above HasDistinctLabels HasDistinctLabelsInEvent (λ a k. k.events) parts above in
    let mine : HasDistinctLabelsInMachine from.machine = record {
      invariants = subst AreOnce (sym from.invariants_are) from.invariants_once;
      variables = subst AreOnce (sym from.variables_are) from.variables_once;
      names = subst AreOnce (sym (event_names (abstract_events m) events from.machine.events from.events_are)) from.names_once;
      events = events_each (λ e. event_declarations name.name (abstract_events m) from.known e ≡ []) HasDistinctLabelsInEvent (abstract_events m)
          (event_once name.name from.known (abstract_events m) abstract) events from.machine.events from.clear from.events_are;
    } in
    subst HasDistinctLabels from.is mine

pub checked_names : CheckedHasPlainNames
checked_names (raw.Context name extends sets constants axioms) parts checked plain above h =
    let from = context_from name.name extends sets constants axioms (contexts_in parts) checked h in
    let mine : HasPlainNamesInContext from.context = record { name = subst IsPlain (sym from.name_is) plain.0; axioms = subst (AllByRecursion IsPlain) (sym from.axioms_are) plain.1 } in
    subst HasPlainNames from.is mine
checked_names (raw.Machine name refines sees variables invariants variant events) parts checked plain above h =
    let m = first_machine_in parts in
    let w : Written = record { name = name; sees = sees; variables = variables; invariants = invariants; variant = variant; events = events } in
    let from = machine_from m w (contexts_in parts) checked h in
    let abstract = events_above HasPlainNames HasPlainNamesInEvent (λ a k. k.events) parts above in
    let mine : HasPlainNamesInMachine from.machine = record {
      name = subst IsPlain (sym from.name_is) plain.0;
      invariants = subst (AllByRecursion IsPlain) (sym from.invariants_are) plain.1;
      variables = subst (AllByRecursion IsPlain) (sym from.variables_are) plain.2;
      events = events_each IsPlainlyWrittenEvent HasPlainNamesInEvent (abstract_events m) (event_plain (abstract_events m) abstract) events from.machine.events plain.3 from.events_are;
    } in
    subst HasPlainNames from.is mine

pub name_kept : CheckedKeepsItsName
name_kept (raw.Context name extends sets constants axioms) parts checked h =
    let from = context_from name.name extends sets constants axioms (contexts_in parts) checked h in
    ap component_name (sym from.is) ∙ from.name_is
name_kept (raw.Machine name refines sees variables invariants variant events) parts checked h =
    let w : Written = record { name = name; sees = sees; variables = variables; invariants = invariants; variant = variant; events = events } in
    let from = machine_from (first_machine_in parts) w (contexts_in parts) checked h in
    ap component_name (sym from.is) ∙ from.name_is
