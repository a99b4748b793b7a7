-- A checked event is sound.
use Rattle.std.proofs.Common.{◌≡◌, ◌≢◌, ◌∙◌, inl, inr, sym, ap, subst, ℕ, true, false, List, [], ◌∷◌, ◌++◌, map, Option, Some, None, IfSome, IsTrue, bytes_eq, not}
use Rattle.std.specs.List.{AllByRecursion, IsDistinct, filter, zip}
use Rattle.std.specs.Map.{keys_of}
use Rattle.std.specs.Option.{option_map, option_map_or}
use Rattle.formula_core.specs.declared.ty.Ty.{Ty}
use Rattle.formula_core.specs.declared.ty.Ty.TheVariants as ty
use Rattle.formula_core.specs.Env.{HasDistinctNames, type_in}
use Rattle.formula_core.specs.Formulas.{joined}
use Rattle.formula_core.specs.Identifiers.{carriers}
use Rattle.formula_core.specs.Laws.{IsWithin}
use Rattle.formula_core.specs.Names.{is_identifier, is_name, with_prime}
use Rattle.formula_core.specs.Typed.{Stands, HasCarriers, IsPredicateIn, IsGoodEnv}
use Rattle.formula_core.specs.Types.{is_value_type}
use Rattle.type_formula.proofs.Named.{all_append, all_front, all_back, all_each, sooner, found_has}
use Rattle.type_action.specs.CoreActions.{with_all, primed}
use Rattle.model_core.specs.declared.fault.Fault.{Fault}
use Rattle.model_core.specs.declared.component.RawEvent.{RawEvent}
use Rattle.model_core.specs.declared.checked.CheckedEvent.{CheckedEvent}
use Rattle.model_core.specs.declared.checked.Labelled.{Labelled}
use Rattle.model_core.specs.Each.{is_among, for_each}
use Rattle.check_rules.specs.Assignments.{written_targets}
use Rattle.check_rules.specs.Contexts.{names_of}
use Rattle.check_rules.specs.Declarations.{declared_twice, labelled_twice}
use Rattle.check_rules.specs.Events.{refined_at, refined, inherited, inherited_params, inherited_guards, inherited_actions, abstract_params, inherited_labels, event_labels, param_clashes, event_declarations, event_env, param_names, lost_params, witness_env, witnesses_of, checked_event_of, IsTypedEvent, AreTypedEvents, initialisation, event_named}
use Rattle.check_rules.specs.Refinements.{merged_differ, needed_witnesses, superfluous_witnesses, missing_witnesses}
use Rattle.check_rules.specs.Typed.{Entries, LabelledAction, AreTyped, never_typed, in_order}
use Rattle.check_rules.specs.Visible.{names}
use Rattle.type_action.specs.Laws.{IsActionIn, TypedActionsStand}
use Rattle.checked_laws.proofs.Given.{all_given}
use Rattle.checked_laws.specs.Sound.{HasIdentifiers, HasCarriersAmong, ArePredicatesIn, HasTargets, AreActionsIn, IsNamedIn, IsSoundEvent, StartsPlainly}
use Rattle.checked_laws.proofs.Names.{AllStand, AreNew, none_append, distinct_back, keys_append, distinct_append, new_turned, parts_stand, within_all, here_or, some_or, absent, stand_there, among_self}
use Rattle.checked_laws.proofs.Parts.{all_map, all_unmap, all_two, filter_all, first_none, second_none, filter_back, any_append}
use Rattle.checked_laws.proofs.Typing.{AddsNoSets, over_set, carriers_kept, predicates_within, Stood, typed_stand, last_from, in_order_has, in_order_stand, in_order_keys, among_new}
use Rattle.checked_laws.proofs.Declared.{DeclaredOnce, AreOther, none_left, none_right, not_named, declared_once, all_named}
use Rattle.checked_laws.specs.Refining.{IsSoundRefinement, IsEventIn, chosen_by_first}
use Rattle.checked_laws.proofs.Lost.{found_in_events, left_is, lost_distinct, lost_each, lost_other, refined_again, abstract_together}
use Rattle.checked_laws.proofs.Wanted.{all_wanted, labels_typed, wanted_is, wanted_listed}
use Rattle.checked_laws.proofs.Witnesses.{named_among, HoldsWitnesses, holds_witnesses}
use Rattle.checked_laws.proofs.Actions.{actions_more, actions_typed, with_all_new}
use Rattle.checked_laws.proofs.Growing.{with_all_each, within_with, with_all_or}
use Rattle.checked_laws.proofs.Refined.{IsUsable, refined_usable, IsInherited, inherited_is, cons_all, joined_all, params_into, inherited_usable, if_some_each, event_found}

option_named : (P : List ℕ → Type 0) (n : List ℕ) (o : Option Ty) → P n → IfSome {T = List ℕ × Ty} (option_map (λ t. (n, t)) o) (λ x. P x.0)
option_named P n None p = tt
option_named P n (Some t) p = p

pub in_order_each : (P : List ℕ → Type 0) (last : Entries) (ns : List (List ℕ)) → AllByRecursion P ns → AllByRecursion (λ x. P x.0) (in_order last ns)
in_order_each P last [] h = tt
in_order_each P last (n ∷ ns) h = cons_all {X = List ℕ × Ty} (λ x. P x.0) (option_map (λ t. (n, t)) (type_in last n)) (in_order last ns) (option_named P n (type_in last n) h.0) (in_order_each P last ns h.1)

lacks_within : (env larger : Entries) (n : List ℕ) → IsWithin env larger → type_in larger n ≡ None → type_in env n ≡ None
lacks_within env larger n within none = elim (some_or (type_in env n)) [
  | inl h ↦ absent (type_in larger n) h.0 none (within (n, h.0) h.1)
  | inr h ↦ h
]

params_of : (P : Entries → Type 0) (o : Option CheckedEvent) → P [] → IfSome o (λ a. P a.params) → P (option_map_or (λ a. a.params) o [])
params_of P None e h = e
params_of P (Some a) e h = h

joined_back : {X Y : Type 0} → (P : Y → Type 0) (f : X → List Y) (xs : List X) → AllByRecursion P (joined (map f xs)) → AllByRecursion (λ x. AllByRecursion P (f x)) xs
joined_back P f [] h = tt
joined_back P f (x ∷ xs) h = (all_front P (f x) (joined (map f xs)) h, joined_back P f xs (all_back P (f x) (joined (map f xs)) h))

-- What an event is checked beside: the constants, the environment of its machine, and the one in which its invariants were typed.
pub record IsPlace (constants env last : Entries) (known : List (List ℕ)) : Type 0 where
  pub good : IsGoodEnv env
  pub names_are : HasIdentifiers env
  pub known_names : (ns : List (List ℕ)) → AreOther known ns → AreNew env ns
  pub within : IsWithin last env
  pub constants_last : IsWithin constants last
  pub last_carriers : HasCarriers last
  pub last_types : AllByRecursion (λ x. IsTrue (is_value_type x.1)) last
  pub last_sets : AddsNoSets constants last

-- the abstraction's events, constants and environment
pub record IsAbove (constants env a_constants a_env : Entries) (m : List CheckedEvent) : Type 0 where
  pub within : IsWithin a_env env
  pub larger : IsWithin a_constants constants
  pub events : AllByRecursion (λ a. IsSoundEvent a_constants a_env a × StartsPlainly a) m

module _ (constants env last : Entries) (known : List (List ℕ)) (place : IsPlace constants env last known) (a_constants a_env : Entries) (m : List CheckedEvent)
    (above : IsAbove constants env a_constants a_env m) (component : List ℕ) (e : RawEvent) (identifiers_are : AllByRecursion (λ n. IsTrue (is_identifier n)) (names_of e.params))
    (clear : event_declarations component m known e ≡ []) (guards : List Labelled) (after : Entries)
    (checks : AreTyped component (event_env m e last) (names_of e.params) e.guards guards [] after) (all_typed : never_typed component after e.params ≡ []) where
  abbrev inherits : Entries
  inherits = inherited_params m e

  abbrev declared : List (List ℕ)
  declared = names_of e.params

  abbrev shared : Entries
  shared = in_order (abstract_params m e) declared

  abbrev first : Entries
  first = event_env m e last

  abbrev own : Entries
  own = in_order after declared

  abbrev params : Entries
  params = inherits ++ own

  abbrev target : Entries
  target = env ++ params

  abbrev clashes : List Fault
  clashes = param_clashes component known (refined_at m e)

  abbrev twice : List Fault
  twice = declared_twice component (known ++ names inherits) e.params

  clear_names : clashes ++ twice ≡ []
  clear_names = first_none (clashes ++ twice) (labelled_twice component (inherited_labels m e) (event_labels e)) clear

  usable : AllByRecursion (IsUsable a_constants a_env known) (refined m e)
  usable = refined_usable a_constants a_env component known m e above.events (first_none clashes twice clear_names)

  is_inherited : IsInherited a_constants a_env known inherits (inherited m e)
  is_inherited = inherited_is a_constants a_env known m e usable

  once : DeclaredOnce (known ++ names inherits) declared
  once = declared_once component (known ++ names inherits) e.params (second_none clashes twice clear_names)

  named : AllByRecursion (IsNamedIn after) declared
  named = all_named component after e.params all_typed

  own_keys : keys_of own ≡ declared
  own_keys = in_order_keys after declared named

  own_new : AreNew inherits (keys_of own)
  own_new = subst (AreNew inherits) (sym own_keys)
      (not_named inherits declared (all_each (λ n. is_among (known ++ names inherits) n ≡ false) (λ n. is_among (names inherits) n ≡ false) declared (λ n h. none_right known (names inherits) n h) once.other))

  params_distinct : HasDistinctNames params
  params_distinct = distinct_append inherits own is_inherited.distinct (subst (IsDistinct bytes_eq) (sym own_keys) once.distinct) (new_turned own inherits own_new)

  params_other : AreOther known (keys_of params)
  params_other = subst (AreOther known) (sym (keys_append inherits own))
      (all_append (λ n. is_among known n ≡ false) (names inherits) (keys_of own) is_inherited.other
      (subst (AreOther known) (sym own_keys) (all_each (λ n. is_among (known ++ names inherits) n ≡ false) (λ n. is_among known n ≡ false) declared (λ n h. none_left known (names inherits) n h) once.other)))

  pub params_new : AreNew env (keys_of params)
  params_new = place.known_names (keys_of params) params_other

  target_distinct : HasDistinctNames target
  target_distinct = distinct_append env params place.good.names params_distinct (new_turned params env params_new)

  params_stand : AllStand target params
  params_stand = (parts_stand env params target_distinct).1

  inherits_stand : AllStand target inherits
  inherits_stand = all_front (Stands target) inherits own params_stand

  own_stand : AllStand target own
  own_stand = all_back (Stands target) inherits own params_stand

  pub env_target : IsWithin env target
  env_target x h = sooner env params x.0 x.1 h

  -- what holds of parameters of abstract events
  shared_each : (P : List ℕ × Ty → Type 0) → AllByRecursion (λ a. AllByRecursion P a.params) (refined m e) → AllByRecursion P shared
  shared_each P h = all_each (Stands (abstract_params m e)) P shared (λ x k. found_has P (abstract_params m e) x.0 x.1 (joined_all P (λ a. a.params) (refined m e) h) k)
      (in_order_stand (abstract_params m e) declared)

  first_each : (P : List ℕ × Ty → Type 0) → AllByRecursion P last → AllByRecursion P inherits → AllByRecursion P shared → AllByRecursion P first
  first_each P h k l = with_all_each P (with_all last inherits) shared (with_all_each P last inherits h k) l

  last_first : IsWithin last first
  last_first x h = within_with (with_all last inherits) shared x (within_with last inherits x h)

  over_constants : (xs : Entries) → HasCarriersAmong a_constants xs → HasCarriersAmong constants xs
  over_constants xs h = all_each (λ x. AllStand a_constants (carriers x.1)) (λ x. AllStand constants (carriers x.1)) xs
      (λ x k. all_each (Stands a_constants) (Stands constants) (carriers x.1) above.larger k) h

  inherits_sets : HasCarriersAmong constants inherits
  inherits_sets = over_constants inherits is_inherited.sets

  shared_sets : HasCarriersAmong constants shared
  shared_sets = over_constants shared (shared_each (λ x. AllStand a_constants (carriers x.1))
      (all_each (IsUsable a_constants a_env known) (λ a. HasCarriersAmong a_constants a.params) (refined m e) (λ a h. h.0.sets) usable))

  from_constants : (xs : Entries) → HasCarriersAmong constants xs → AllByRecursion (λ x. AllStand first (carriers x.1)) xs
  from_constants xs h = all_each (λ x. AllStand constants (carriers x.1)) (λ x. AllStand first (carriers x.1)) xs
      (λ x k. all_each (Stands constants) (Stands first) (carriers x.1) (λ y i. last_first y (place.constants_last y i)) k) h

  first_carriers : HasCarriers first
  first_carriers = first_each (λ x. AllStand first (carriers x.1))
      (all_each (λ x. AllStand last (carriers x.1)) (λ x. AllStand first (carriers x.1)) last (λ x k. all_each (Stands last) (Stands first) (carriers x.1) last_first k) place.last_carriers)
      (from_constants inherits inherits_sets) (from_constants shared shared_sets)

  first_types : AllByRecursion (λ x. IsTrue (is_value_type x.1)) first
  first_types = first_each (λ x. IsTrue (is_value_type x.1)) place.last_types is_inherited.types (shared_each (λ x. IsTrue (is_value_type x.1))
      (all_each (IsUsable a_constants a_env known) (λ a. AllByRecursion (λ x. IsTrue (is_value_type x.1)) a.params) (refined m e)
      (λ a h. all_back (λ x. IsTrue (is_value_type x.1)) a_env a.params h.0.good.types) usable))

  stood : Stood first after guards
  stood = typed_stand component first declared e.guards guards [] after first_carriers checks

  pub after_carriers : HasCarriers after
  after_carriers = stood.carriers

  -- a carrier set of the event's environment stands among the constants
  first_sets : AddsNoSets constants first
  first_sets set h =
      let x : List ℕ × Ty = (set, ty.Pow (ty.Given set)) in
      elim (with_all_or (λ y. AllStand constants (carriers y.1)) (with_all last inherits) shared shared_sets x h) [
        | inl k ↦ elim (with_all_or (λ y. AllStand constants (carriers y.1)) last inherits inherits_sets x k) [
          | inl l ↦ place.last_sets set l
          | inr l ↦ over_set constants set l
        ]
        | inr k ↦ over_set constants set k
      ]

  after_sets : AddsNoSets constants after
  after_sets set h = first_sets set (stood.sets set h)

  own_from : (x : List ℕ × Ty) → Stands after x → is_among declared x.0 ≡ true → Stands target x
  own_from x h k = within_all target own own_stand x (in_order_has after declared x.0 x.1 h k)

  -- what stands after the guards stands in the event's environment
  pub after_target : IsWithin after target
  after_target x h = elim (last_from component first declared e.guards guards [] after x.0 x.1 checks h) [
    | inl k ↦ elim (with_all_or (λ y. is_among declared y.0 ≡ true) (with_all last inherits) shared
        (in_order_each (λ n. is_among declared n ≡ true) (abstract_params m e) declared (among_self declared)) x k) [
          | inl l ↦ elim (with_all_or (Stands target) last inherits inherits_stand x l) [
            | inl i ↦ env_target x (place.within x i)
            | inr i ↦ i
          ]
          | inr l ↦ own_from x h l
        ]
    | inr k ↦ own_from x h k
  ]

  own_each : (P : List ℕ × Ty → Type 0) → AllByRecursion P after → AllByRecursion P own
  own_each P h = all_each (Stands after) P own (λ x k. found_has P after x.0 x.1 h k) (in_order_stand after declared)

  own_sets : HasCarriersAmong constants own
  own_sets = all_each (λ x. AllStand after (carriers x.1)) (λ x. AllStand constants (carriers x.1)) own (λ x h. carriers_kept after constants after_sets x.1 h)
      (own_each (λ x. AllStand after (carriers x.1)) stood.carriers)

  params_sets : HasCarriersAmong constants params
  params_sets = all_append (λ x. AllStand constants (carriers x.1)) inherits own inherits_sets own_sets

  constants_target : IsWithin constants target
  constants_target x h = env_target x (place.within x (place.constants_last x h))

  target_good : IsGoodEnv target
  target_good = record {
    names = target_distinct;
    types = all_append (λ x. IsTrue (is_value_type x.1)) env params place.good.types
        (all_append (λ x. IsTrue (is_value_type x.1)) inherits own is_inherited.types (own_each (λ x. IsTrue (is_value_type x.1)) (stood.values first_types)));
    carriers = all_append (λ x. AllStand target (carriers x.1)) env params
        (all_each (λ x. AllStand env (carriers x.1)) (λ x. AllStand target (carriers x.1)) env (λ x h. all_each (Stands env) (Stands target) (carriers x.1) env_target h) place.good.carriers)
        (all_each (λ x. AllStand constants (carriers x.1)) (λ x. AllStand target (carriers x.1)) params
        (λ x h. all_each (Stands constants) (Stands target) (carriers x.1) constants_target h) params_sets);
  }

  params_identifiers : HasIdentifiers params
  params_identifiers = all_append (λ x. IsTrue (is_identifier x.0)) inherits own is_inherited.names_are
      (in_order_each (λ n. IsTrue (is_identifier n)) after declared identifiers_are)

  all_guards : ArePredicatesIn target (inherited_guards m e ++ guards)
  all_guards = all_append (λ g. IsPredicateIn target g.formula) (inherited_guards m e) guards
      (is_inherited.guards target (λ x h. env_target x (above.within x h)) inherits_stand) (predicates_within after target guards after_target stood.typed)

  all_actions : (actions : List LabelledAction) → AreActionsIn after actions → AreActionsIn target (inherited_actions m e ++ actions)
  all_actions actions h =
      let ids : HasIdentifiers target = all_append (λ x. IsTrue (is_identifier x.0)) env params place.names_are params_identifiers in
      all_append (λ a. IsActionIn target a.1 × HasTargets a.1) (inherited_actions m e) actions (is_inherited.actions target (λ x k. env_target x (above.within x k)) inherits_stand ids)
      (actions_more after target after_target ids actions h)

  pub event_sound : (witnesses : List Labelled) (actions : List LabelledAction) → AreActionsIn after actions → IsSoundEvent constants env (checked_event_of m e after guards witnesses actions)
  event_sound witnesses actions h = record { good = target_good; sets = params_sets; names = params_identifiers; guards = all_guards; actions = all_actions actions h }

  -- Its witnesses.

  abbrev left : Entries
  left = lost_params m e

  params_keys : keys_of params ≡ param_names m e
  params_keys = keys_append inherits own ∙ ap (λ ks. names inherits ++ ks) own_keys

  left_each : (P : List ℕ × Ty → Type 0) → ((a : CheckedEvent) → IsUsable a_constants a_env known a → AllByRecursion P a.params) → AllByRecursion P left
  left_each P h = lost_each P m e (all_each (IsUsable a_constants a_env known) (λ a. AllByRecursion P a.params) (refined m e) h usable)

  left_other : AreOther known (keys_of left)
  left_other = all_map (λ n. is_among known n ≡ false) (λ x. x.0) left
      (left_each (λ x. is_among known x.0 ≡ false) (λ a h. all_unmap (λ n. is_among known n ≡ false) (λ x. x.0) a.params h.1))

  left_new : AreNew target (keys_of left)
  left_new = all_two (λ n. type_in env n ≡ None) (λ n. type_in params n ≡ None) (λ n. type_in target n ≡ None) (keys_of left) (λ n h k. none_append env params n h k)
      (place.known_names (keys_of left) left_other) (not_named params (keys_of left) (subst (λ ks. AreOther ks (keys_of left)) (sym params_keys) (lost_other m e)))

  left_distinct : merged_differ component m e ≡ [] → HasDistinctNames left
  left_distinct merged = lost_distinct component m e merged
      (all_each (IsUsable a_constants a_env known) (λ a. HasDistinctNames a.params) (refined m e) (λ a h. distinct_back a_env a.params h.0.good.names) usable)

  left_types : AllByRecursion (λ x. IsTrue (is_value_type x.1)) left
  left_types = left_each (λ x. IsTrue (is_value_type x.1)) (λ a h. all_back (λ x. IsTrue (is_value_type x.1)) a_env a.params h.0.good.types)

  left_sets : HasCarriersAmong constants left
  left_sets = over_constants left (left_each (λ x. AllStand a_constants (carriers x.1)) (λ a h. h.0.sets))

  left_names : HasIdentifiers left
  left_names = left_each (λ x. IsTrue (is_identifier x.0)) (λ a h. h.0.names)

  last_among : HasCarriersAmong constants last
  last_among = all_each (λ x. AllStand last (carriers x.1)) (λ x. AllStand constants (carriers x.1)) last (λ x h. carriers_kept last constants place.last_sets x.1 h) place.last_carriers

  after_among : HasCarriersAmong constants after
  after_among = all_each (λ x. AllStand after (carriers x.1)) (λ x. AllStand constants (carriers x.1)) after (λ x h. carriers_kept after constants after_sets x.1 h) stood.carriers

  target_names : HasIdentifiers target
  target_names = all_append (λ x. IsTrue (is_identifier x.0)) env params place.names_are params_identifiers

  -- The abstract events in the event's environment.

  abbrev base : Entries
  base = target ++ left

  abbrev others : Entries
  others = abstract_params m e

  base_names : HasIdentifiers base
  base_names = all_append (λ x. IsTrue (is_identifier x.0)) target left target_names left_names

  together : merged_differ component m e ≡ [] → AllByRecursion (λ a. AllStand others a.params) (refined m e)
  together merged = abstract_together component m e merged
      (all_each (IsUsable a_constants a_env known) (λ a. HasDistinctNames a.params) (refined m e) (λ a h. distinct_back a_env a.params h.0.good.names) usable)

  declared_other : AreOther known declared
  declared_other = all_each (λ n. is_among (known ++ names inherits) n ≡ false) (λ n. is_among known n ≡ false) declared (λ n h. none_left known (names inherits) n h) once.other

  declared_apart : AreNew inherits declared
  declared_apart = not_named inherits declared
      (all_each (λ n. is_among (known ++ names inherits) n ≡ false) (λ n. is_among (names inherits) n ≡ false) declared (λ n h. none_right known (names inherits) n h) once.other)

  -- a declared name is new before the guards, but for what the abstract events say
  declared_new : (n : List ℕ) → is_among declared n ≡ true → type_in (with_all last inherits) n ≡ None
  declared_new n h =
      let before : type_in last n ≡ None = lacks_within last env n place.within (among_new env declared n (place.known_names declared declared_other) h) in
      with_all_new last inherits n before ∙ among_new inherits declared n declared_apart h

  inherits_named : AllByRecursion (IsNamedIn inherits) (names inherits)
  inherits_named = all_map (IsNamedIn inherits) (λ x. x.0) inherits
      (all_each (Stands inherits) (λ x. IsNamedIn inherits x.0) inherits (λ x h. (x.1, h)) (stand_there inherits is_inherited.distinct))

  -- what the event has of the abstract parameters has their types
  kept_stands : merged_differ component m e ≡ [] → (x : List ℕ × Ty) → Stands others x → is_among (param_names m e) x.0 ≡ true → Stands target x
  kept_stands merged x h among = elim (any_append (bytes_eq x.0) (names inherits) declared among) [
    | inl k ↦
        let inherited_others : AllStand others inherits = params_of (AllStand others) (inherited m e) tt (inherited_usable (λ a. AllStand others a.params) m e (together merged)) in
        let named = named_among inherits (names inherits) x.0 inherits_named k in
        within_all target inherits inherits_stand (x.0, named.0) named.1 ∙ sym (within_all others inherits inherited_others (x.0, named.0) named.1) ∙ h
    | inr k ↦
        let at_first : Stands first x = with_all_new (with_all last inherits) shared x.0 (declared_new x.0 k) ∙ in_order_has others declared x.0 x.1 h k in
        own_from x (stood.within x at_first) k
  ]

  base_distinct : merged_differ component m e ≡ [] → HasDistinctNames base
  base_distinct merged = distinct_append target left target_distinct (left_distinct merged) (new_turned left target left_new)

  others_stand : merged_differ component m e ≡ [] → AllByRecursion (λ a. AllStand base a.params) (refined m e)
  others_stand merged =
      let lacked : AllByRecursion (λ x. not (is_among (param_names m e) x.0) ≡ true → Stands base x) others =
      filter_back (λ x. not (is_among (param_names m e) x.0)) (Stands base) others (parts_stand target left (base_distinct merged)).1 in
      all_two (λ a. AllStand others a.params) (λ a. AllByRecursion (λ x. not (is_among (param_names m e) x.0) ≡ true → Stands base x) a.params) (λ a. AllStand base a.params) (refined m e)
      (λ a h k. all_two (Stands others) (λ x. not (is_among (param_names m e) x.0) ≡ true → Stands base x) (Stands base) a.params
      (λ x i l. elim (here_or (is_among (param_names m e) x.0)) [
        | inl n ↦ sooner target left x.0 x.1 (kept_stands merged x i n)
        | inr n ↦ l (ap not n)
      ])
      h k)
      (together merged) (joined_back (λ x. not (is_among (param_names m e) x.0) ≡ true → Stands base x) (λ a. a.params) (refined m e) lacked)

  abstract_in : merged_differ component m e ≡ [] → AllByRecursion (IsEventIn base) (refined m e)
  abstract_in merged = all_two (IsUsable a_constants a_env known) (λ a. AllStand base a.params) (IsEventIn base) (refined m e)
      (λ a h k. let into = params_into a_env a.params base (λ x i. sooner target left x.0 x.1 (env_target x (above.within x i))) k in
      record {
        params = k;
        guards = predicates_within (a_env ++ a.params) base a.guards into h.0.guards;
        actions = actions_more (a_env ++ a.params) base into base_names a.actions h.0.actions;
      })
      usable (others_stand merged)

  pub event_witnessed : (variables lost : List (List ℕ)) (witnesses : List Labelled) (same : Entries) (actions : List LabelledAction) → AllByRecursion (IsNamedIn env) variables →
      ((n : List ℕ) → is_among lost n ≡ true → is_among variables n ≡ true) → merged_differ component m e ≡ [] →
      missing_witnesses component e.name.place (map (λ w. w.label) e.witnesses) (needed_witnesses m lost e) ≡ [] → superfluous_witnesses component (needed_witnesses m lost e) e.witnesses ≡ [] →
      AreTyped component (witness_env m e variables last after) [] e.witnesses witnesses [] same →
      IsSoundRefinement env variables lost (found_in_events m (map (λ a. a.name) (refined m e))) (checked_event_of m e after guards witnesses actions)
  event_witnessed variables lost witnesses same actions variables_named has_lost merged missing superfluous typed =
      let all = base ++ map with_prime (filter (λ x. is_among variables x.0) env) in
      let holds : HoldsWitnesses env left base all (witness_env m e variables last after) variables =
      holds_witnesses constants env params left last after variables target_good target_names constants_target (left_distinct merged) left_new left_types left_sets left_names place.within last_among
      place.constants_last after_target after_among in
      let left_named : AllByRecursion (IsNamedIn all) (keys_of left) = all_map (IsNamedIn all) (λ x. x.0) left (all_each (Stands all) (λ x. IsNamedIn all x.0) left (λ x h. (x.1, h)) holds.left_stand) in
      let wanted_named : (n : List ℕ) → is_among (needed_witnesses m lost e) n ≡ true → IsNamedIn all n =
      λ n h. elim (wanted_is m lost e n h) [
        | inl k ↦ named_among all (keys_of left) n left_named k
        | inr k ↦ let x : IsNamedIn env k.0 = named_among env variables k.0 variables_named (has_lost k.0 k.2) in
            subst (IsNamedIn all) (sym k.1) (x.0, holds.variable_stands k.0 x.0 (has_lost k.0 k.2) x.1)
      ] in
      let labels : AllByRecursion (λ l. IsNamedIn all l.label) witnesses =
      labels_typed (IsNamedIn all) component (witness_env m e variables last after) [] e.witnesses witnesses same typed
      (all_each (λ l. is_among (needed_witnesses m lost e) l.label ≡ true) (λ l. IsNamedIn all l.label) e.witnesses (λ l h. wanted_named l.label h) (all_wanted component (needed_witnesses m lost e) e.witnesses superfluous)) in
      let listed : AllByRecursion (λ l. is_among (keys_of left ++ map primed (filter (is_among (chosen_by_first (refined m e))) lost)) l.label ≡ true) witnesses =
      labels_typed (λ n. is_among (keys_of left ++ map primed (filter (is_among (chosen_by_first (refined m e))) lost)) n ≡ true) component (witness_env m e variables last after) [] e.witnesses witnesses same typed
      (all_each (λ l. is_among (needed_witnesses m lost e) l.label ≡ true) _ e.witnesses (λ l h. wanted_listed m lost e l.label h) (all_wanted component (needed_witnesses m lost e) e.witnesses superfluous)) in
      let start : IfSome (event_named m initialisation) (λ a. a.params ≡ []) =
      if_some_each (λ a. (IsSoundEvent a_constants a_env a × StartsPlainly a) × (bytes_eq initialisation a.name ≡ true)) (λ a. a.params ≡ []) (event_named m initialisation) (λ a h. (h.0.1 h.1).0)
      (event_found (λ a. IsSoundEvent a_constants a_env a × StartsPlainly a) m initialisation above.events) in
      let lost_names : AllByRecursion (λ n. is_identifier n ≡ true) lost = all_each (λ n. is_among lost n ≡ true) (λ n. is_identifier n ≡ true) lost
      (λ n h. let x = named_among env variables n variables_named (has_lost n h) in found_has (λ y. IsTrue (is_identifier y.0)) env n x.0 place.names_are x.1) (among_self lost) in
      let all_have = all_given component m lost e witnesses (witness_env m e variables last after) same start merged missing typed (all_map (λ n. is_identifier n ≡ true) (λ x. x.0) left left_names)
      (filter_all (is_among (chosen_by_first (refined m e))) (λ n. is_identifier n ≡ true) lost lost_names) in
      let is = sym (left_is m e params params_keys) in
      let lacked = filter (λ x. not (is_among (keys_of params) x.0)) (for_each (λ r. r.params) (found_in_events m (map (λ a. a.name) (refined m e)))) in
      let with_left : Entries → Entries = λ l. env ++ params ++ l ++ map with_prime (filter (λ x. is_among variables x.0) env) in
      record {
        good = subst (λ l. IsGoodEnv (with_left l)) is holds.good;
        some_primed = subst (λ l. (xs : Entries) → HasDistinctNames xs → AllStand env xs → IsGoodEnv (env ++ params ++ l ++ map with_prime xs)) is holds.some;
        witnesses = subst (λ l. AllByRecursion (λ x. IsPredicateIn (with_left l) x.1) (witnesses_of witnesses)) is
            (all_map (λ x. IsPredicateIn all x.1) (λ x. (x.label, x.formula)) (filter (λ x. is_name x.label) witnesses)
            (filter_all (λ x. is_name x.label) (λ x. IsPredicateIn all x.formula) witnesses (holds.typed component e.witnesses witnesses same typed)));
        names = subst (λ l. AllByRecursion (λ x. IsNamedIn (with_left l) x.0) (witnesses_of witnesses)) is
            (all_map (λ x. IsNamedIn all x.0) (λ x. (x.label, x.formula)) (filter (λ x. is_name x.label) witnesses)
            (filter_all (λ x. is_name x.label) (λ x. IsNamedIn all x.label) witnesses labels));
        wanted = all_map (λ x. is_among (keys_of lacked ++ map primed (filter (is_among (chosen_by_first (found_in_events m (map (λ a. a.name) (refined m e))))) lost)) x.0 ≡ true)
            (λ x. (x.label, x.formula)) (filter (λ x. is_name x.label) witnesses)
            (filter_all (λ x. is_name x.label)
            (λ x. is_among (keys_of lacked ++ map primed (filter (is_among (chosen_by_first (found_in_events m (map (λ a. a.name) (refined m e))))) lost)) x.label ≡ true) witnesses
            (subst (λ rs. AllByRecursion (λ x. is_among (keys_of lacked ++ map primed (filter (is_among (chosen_by_first rs)) lost)) x.label ≡ true) witnesses) (sym (refined_again m e))
            (subst (λ l. AllByRecursion (λ x. is_among (keys_of l ++ map primed (filter (is_among (chosen_by_first (refined m e))) lost)) x.label ≡ true) witnesses) is listed)));
        given = subst (λ rs. AllByRecursion (λ n. is_among (keys_of (witnesses_of witnesses)) n ≡ true) (keys_of lacked ++ map primed (filter (is_among (chosen_by_first rs)) lost))) (sym (refined_again m e))
            (subst (λ l. AllByRecursion (λ n. is_among (keys_of (witnesses_of witnesses)) n ≡ true) (keys_of l ++ map primed (filter (is_among (chosen_by_first (refined m e))) lost))) is all_have);
        found = ap (map (λ a. a.name)) (refined_again m e);
        abstract = subst (λ rs. AllByRecursion (IsEventIn (env ++ params ++ lacked)) rs) (sym (refined_again m e))
            (subst (λ l. AllByRecursion (IsEventIn (env ++ params ++ l)) (refined m e)) is (abstract_in merged));
      }

-- All events of a machine.

pub joined_none : {X Y : Type 0} → (f : X → List Y) (xs : List X) → joined (map f xs) ≡ [] → AllByRecursion (λ x. f x ≡ []) xs
joined_none f [] e = tt
joined_none f (x ∷ xs) e = (first_none (f x) (joined (map f xs)) e, joined_none f xs (second_none (f x) (joined (map f xs)) e))

-- what the abstraction asks of witnesses
pub record AsksWitnesses (component : List ℕ) (m : List CheckedEvent) (lost : List (List ℕ)) (e : RawEvent) : Type 0 where
  pub merged : merged_differ component m e ≡ []
  pub missing : missing_witnesses component e.name.place (map (λ w. w.label) e.witnesses) (needed_witnesses m lost e) ≡ []
  pub superfluous : superfluous_witnesses component (needed_witnesses m lost e) e.witnesses ≡ []

-- An event is sound, and so are its witnesses.
abbrev pub IsWhole : Entries → Entries → List CheckedEvent → List (List ℕ) → List (List ℕ) → CheckedEvent → Type 0
IsWhole constants env m variables lost e = IsSoundEvent constants env e × IsSoundRefinement env variables lost (found_in_events m e.refines) e

module _ (constants env last : Entries) (known : List (List ℕ)) (place : IsPlace constants env last known) (a_constants a_env : Entries) (m : List CheckedEvent)
    (above : IsAbove constants env a_constants a_env m) (component : List ℕ) (variables lost : List (List ℕ)) (actions_stand : TypedActionsStand)
    (variables_named : AllByRecursion (IsNamedIn env) variables) (has_lost : (n : List ℕ) → is_among lost n ≡ true → is_among variables n ≡ true) where
  one_sound : (e : RawEvent) (one : CheckedEvent) (here : List Fault) → AllByRecursion (λ r. IsTrue (is_identifier r.name)) e.params → AllByRecursion (λ s. written_targets s.action ≢ []) e.actions
      → event_declarations component m known e ≡ [] → AsksWitnesses component m lost e → IsTypedEvent component m variables last e one here → here ≡ [] → IsWhole constants env m variables lost one
  one_sound e one here ids some clear asks t none =
      let never = never_typed component t.2 e.params in
      let faults : t.1 ++ never ++ t.5 ++ t.9 ≡ [] = sym t.12 ∙ none in
      let witness_faults : t.1 ++ never ++ t.5 ≡ [] = first_none (t.1 ++ never ++ t.5) t.9 faults in
      let own_faults : t.1 ++ never ≡ [] = first_none (t.1 ++ never) t.5 witness_faults in
      let checks : AreTyped component (event_env m e last) (names_of e.params) e.guards t.0 [] t.2 =
      subst (λ fs. AreTyped component (event_env m e last) (names_of e.params) e.guards t.0 fs t.2) (first_none t.1 never own_faults) t.3 in
      let witnesses : AreTyped component (witness_env m e variables last t.2) [] e.witnesses t.4 [] t.6 =
      subst (λ fs. AreTyped component (witness_env m e variables last t.2) [] e.witnesses t.4 fs t.6) (second_none (t.1 ++ never) t.5 witness_faults) t.7 in
      let all_typed = second_none t.1 never own_faults in
      let ids_are = all_map (λ n. IsTrue (is_identifier n)) (λ r. r.name) e.params ids in
      let has = after_carriers constants env last known place a_constants a_env m above component e ids_are clear t.0 t.2 checks all_typed in
      let actions = actions_typed actions_stand component t.2 e.actions t.8 t.9 has some t.10 (second_none (t.1 ++ never ++ t.5) t.9 faults) in
      subst (IsWhole constants env m variables lost) (sym t.11) (
        event_sound constants env last known place a_constants a_env m above component e ids_are clear t.0 t.2 checks all_typed t.4 t.8 actions,
        event_witnessed constants env last known place a_constants a_env m above component e ids_are clear t.0 t.2 checks all_typed variables lost t.4 t.6 t.8 variables_named has_lost
            asks.merged asks.missing asks.superfluous witnesses,
      )

  pub events_sound : (raws : List RawEvent) (typed : List CheckedEvent) (faults : List Fault) → AllByRecursion (λ e. AllByRecursion (λ r. IsTrue (is_identifier r.name)) e.params) raws
      → AllByRecursion (λ e. AllByRecursion (λ s. written_targets s.action ≢ []) e.actions) raws → AllByRecursion (λ e. event_declarations component m known e ≡ []) raws → AllByRecursion (λ p. AsksWitnesses component m lost p.0) (zip raws typed)
      → AreTypedEvents component m variables last raws typed faults → faults ≡ [] → AllByRecursion (IsWhole constants env m variables lost) typed
  events_sound [] typed faults ids some clear asks t none = subst (AllByRecursion (IsWhole constants env m variables lost)) (sym t.0) tt
  events_sound (e ∷ raws) typed faults ids some clear asks t none =
      let both : t.1 ++ t.3 ≡ [] = sym t.7 ∙ none in
      let pairs : AllByRecursion (λ p. AsksWitnesses component m lost p.0) ((e, t.0) ∷ zip raws t.2) =
      subst (λ es. AllByRecursion (λ p. AsksWitnesses component m lost p.0) (zip (e ∷ raws) es)) t.6 asks in
      subst (AllByRecursion (IsWhole constants env m variables lost)) (sym t.6)
      (one_sound e t.0 t.1 ids.0 some.0 clear.0 pairs.0 t.4 (first_none t.1 t.3 both), events_sound raws t.2 t.3 ids.1 some.1 clear.1 pairs.1 t.5 (second_none t.1 t.3 both))
