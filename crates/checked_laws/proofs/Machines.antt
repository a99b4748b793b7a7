-- A checked machine is sound.
use Rattle.std.proofs.Common.{◌≡◌, ◌≢◌, ◌∙◌, ◌⊎◌, inl, inr, sym, ap, ap₂, subst, refl, ℕ, Bool, true, false, not, cond, ◌||◌, List, [], ◌∷◌, ◌++◌, append_assoc, map, take, drop, take-append-drop, length, Option, Some, None, IfSome, IsTrue, bytes_eq, ◌&&◌, is_some}
use Rattle.std.specs.List.{AllByRecursion, IsDistinct, filter, zip, take-map, drop-map}
use Rattle.std.specs.Map.{keys_of}
use Rattle.std.specs.Option.{option_map_or}
use Rattle.std.proofs.Math.Seq.{take-append_seam, drop-append_seam}
use Rattle.formula_core.specs.declared.ty.Ty.{Ty}
use Rattle.formula_core.specs.declared.ty.Ty.TheVariants as ty
use Rattle.formula_core.specs.declared.formula.Formula.{Formula}
use Rattle.formula_core.specs.Env.{HasDistinctNames, type_in}
use Rattle.formula_core.specs.Formulas.{joined}
use Rattle.formula_core.specs.Identifiers.{carriers}
use Rattle.formula_core.specs.Laws.{IsWithin}
use Rattle.formula_core.specs.Names.{is_identifier}
use Rattle.formula_core.specs.Typed.{Stands, HasCarriers, IsPredicateIn, IsGoodEnv}
use Rattle.formula_core.specs.Types.{is_value_type, is_integer, members}
use Rattle.formula_core.specs.Wellness.{type_of}
use Rattle.formula_core.proofs.TypedIn.{typed_more}
use Rattle.type_formula.specs.CoreForms.{core_form}
use Rattle.type_formula.proofs.Named.{all_append, all_front, all_back, all_each, sooner, found_has}
use Rattle.type_formula.proofs.Standing.{formulas_stand}
use Rattle.model_core.specs.declared.component.RawVariant.{RawVariant}
use Rattle.model_core.specs.declared.checked.Checked.TheVariants.{Machine}
use Rattle.model_core.specs.declared.checked.CheckedEvent.{CheckedEvent}
use Rattle.model_core.specs.declared.checked.CheckedMachine.{CheckedMachine}
use Rattle.model_core.specs.declared.checked.Labelled.{Labelled}
use Rattle.model_core.specs.Each.{is_among}
use Rattle.check_rules.specs.Assignments.{written_targets}
use Rattle.check_rules.specs.Refinements.{bad_variant, bad_variant_row}
use Rattle.check_rules.specs.Events.{event_declarations, AreTypedEvents, initialisation}
use Rattle.check_rules.specs.Machines.{Written, abstract_variables, abstract_events, abstract_view, own_names, new_variables, lost_variables, all_variables, machine_env, checked_machine_of}
use Rattle.check_rules.specs.Typed.{Entries, AreTyped, IsTypedVariant, never_typed, in_order}
use Rattle.check_rules.specs.Visible.{Identifiers, Visible, all_visible, entries, origins, names, of_machine}
use Rattle.type_action.specs.Laws.{TypedActionsStand}
use Rattle.checked_laws.specs.Projects.{ProjectNames, AreConstantsOf, AreVariablesOf, DeclaresIn, Has, BelongsTo}
use Rattle.checked_laws.specs.Sound.{HasIdentifiers, HasCarriersAmong, ArePredicatesIn, IsNamedIn, IsVariantIn, IsSoundEvent, StartsPlainly, AssignsVariables, IsSoundMachine}
use Rattle.checked_laws.specs.Refining.{IsSoundRefinement, IsSoundBeside, IsSoundOver}
use Rattle.model_core.specs.Refined.{refined_by}
use Rattle.checked_laws.proofs.Targets.{IsAssigningWell, events_assign, distinct_join}
use Rattle.checked_laws.proofs.Witnesses.{named_among}
use Rattle.checked_laws.proofs.Lost.{found_in_events, nothing_found}
use Rattle.checked_laws.proofs.Names.{AllStand, AreNew, absent, same_name, or_right, neither_first, neither_second, lacks_back, not_among, none_append, distinct_back, stand_there, stand_sooner, within_all, here_or, parts_stand, apart, missed, or_left, name_is, among_later, among_sooner, among_self}
use Rattle.checked_laws.proofs.Parts.{never_empty, first_none, all_map, all_unmap, all_two, map_append, zip_left, zip_firsts, filter_each, filter_all, filter_back, all_true}
use Rattle.checked_laws.proofs.Typing.{over_set, carriers_kept, predicates_within, Stood, typed_stand, last_from, in_order_stand, in_order_keys, reaches}
use Rattle.checked_laws.proofs.Views.{all_entries, IsSoundView}
use Rattle.checked_laws.proofs.Contexts.{nothing_sound, map_length, row_length}
use Rattle.checked_laws.proofs.Events.{IsPlace, IsAbove, AsksWitnesses, IsWhole, events_sound, joined_none}
use Rattle.checked_laws.proofs.Declared.{dropped_none, DeclaredOnce, AreOther, none_left, none_right, not_named, all_named, declared_distinct, zip_row, all_one, declared_of}

-- What the abstraction gives.

pub machine_entries : (m : CheckedMachine) → IsSoundMachine m → all_entries (of_machine m) ≡ m.env
machine_entries m good =
    let k = m.variables_from in
    let pairs = zip m.env m.env_of in
    let firsts : map (λ x. x.0) pairs ≡ m.env = zip_firsts m.env m.env_of good.origins in
    sym (map_append (λ x. x.0) (take k pairs) (drop k pairs)) ∙ ap (map (λ x. x.0)) (take-append-drop k pairs) ∙ firsts

machine_constants : (m : CheckedMachine) → IsSoundMachine m → take m.variables_from m.env ≡ entries (of_machine m).constants
machine_constants m good =
    ap (take m.variables_from) (sym (zip_firsts m.env m.env_of good.origins)) ∙ take-map (λ x. x.0) m.variables_from (zip m.env m.env_of)

pub machine_view : (project : ProjectNames) (m : CheckedMachine) → IsSoundMachine m → AreConstantsOf project (of_machine m).constants → AreVariablesOf project (of_machine m).variables
    → IsSoundView project (of_machine m)
machine_view project m good constants variables =
    let is = machine_entries m good in
    record {
      distinct = subst HasDistinctNames (sym is) good.env.names;
      types = subst (AllByRecursion (λ x. IsTrue (is_value_type x.1))) (sym is) good.env.types;
      carriers = subst (HasCarriersAmong (entries (of_machine m).constants)) (sym is) (subst (λ es. HasCarriersAmong es m.env) (machine_constants m good) good.sets);
      names = subst HasIdentifiers (sym is) good.names;
      constants = constants;
      variables = variables;
      axioms = subst (λ es. AllByRecursion (λ x. IsPredicateIn es x.0.formula) (of_machine m).axioms) (sym is) (zip_left (λ l. IsPredicateIn m.env l.formula) m.axioms m.axioms_of good.axioms);
    }

machine_variables : (m : CheckedMachine) → IsSoundMachine m → drop m.variables_from m.env ≡ entries (of_machine m).variables
machine_variables m good =
    ap (drop m.variables_from) (sym (zip_firsts m.env m.env_of good.origins)) ∙ drop-map (λ x. x.0) m.variables_from (zip m.env m.env_of)

abbrev pub IsGoodAbstraction : ProjectNames → Option CheckedMachine → Type 0
IsGoodAbstraction project m = IfSome m (λ a. IsSoundMachine a × AreConstantsOf project (of_machine a).constants × AreVariablesOf project (of_machine a).variables)

pub abstraction_view : (project : ProjectNames) (m : Option CheckedMachine) → IsGoodAbstraction project m → IsSoundView project (abstract_view m)
abstraction_view project None good = nothing_sound project
abstraction_view project (Some a) good = machine_view project a good.0 good.1 good.2

pub above_of : (project : ProjectNames) (m : Option CheckedMachine) (env constants : Entries) → IsGoodAbstraction project m → IsWithin (all_entries (abstract_view m)) env
    → IsWithin (entries (abstract_view m).constants) constants → (a_constants : Entries) × (a_env : Entries) × IsAbove constants env a_constants a_env (abstract_events m)
above_of project None env constants good olds larger = ([], [], record { within = λ x e. absent (type_in [] x.0) x.1 refl e; larger = λ x e. absent (type_in [] x.0) x.1 refl e; events = tt })
above_of project (Some a) env constants good olds larger = (
  take a.variables_from a.env,
  a.env,
  record {
    within = λ x e. olds x (subst (λ es. Stands es x) (sym (machine_entries a good.0)) e);
    larger = λ x e. larger x (subst (λ es. Stands es x) (machine_constants a good.0) e);
    events = all_two (IsSoundEvent (take a.variables_from a.env) a.env) StartsPlainly (λ x. IsSoundEvent (take a.variables_from a.env) a.env x × StartsPlainly x) a.events (λ x h k. (h, k))
        good.0.events good.0.start;
  },
)

-- the abstraction's variables stand among those of its environment
variable_above : (project : ProjectNames) (m : Option CheckedMachine) → IsGoodAbstraction project m → (n : List ℕ) → is_among (abstract_variables m) n ≡ true →
    IsNamedIn (entries (abstract_view m).variables) n
variable_above project None good n h = let no : ⊥ = cc in absurd no
variable_above project (Some a) good n h =
    named_among (entries (of_machine a).variables) a.variables n
    (subst (λ es. AllByRecursion (IsNamedIn es) a.variables) (machine_variables a good.0) (all_front (IsNamedIn (drop a.variables_from a.env)) a.variables a.lost good.0.behind)) h

assigns_above : (project : ProjectNames) (m : Option CheckedMachine) → IsGoodAbstraction project m → AllByRecursion (AssignsVariables (abstract_variables m)) (abstract_events m)
assigns_above project None good = tt
assigns_above project (Some a) good = good.0.assigns

among_names : (xs : Entries) (n : List ℕ) (t : Ty) → type_in xs n ≡ Some t → is_among (names xs) n ≡ true
among_names [] n t e = let no : ⊥ = cc in absurd no
among_names (x ∷ xs) n t e = elim (here_or (bytes_eq n x.0)) [
  | inl b ↦ or_left (bytes_eq n x.0) (is_among (names xs) n) b
  | inr b ↦ or_right (bytes_eq n x.0) (is_among (names xs) n) (among_names xs n t (sym (missed (bytes_eq n x.0) x.1 (type_in xs n) b) ∙ e))
]

-- Names that pass a test.

distinct_cond : (b : Bool) (n : List ℕ) (ns : List (List ℕ)) → AllByRecursion (λ y. bytes_eq n y ≡ false) ns → IsDistinct bytes_eq ns → IsDistinct bytes_eq (cond b (n ∷ ns) ns)
unfolding IsDistinct
distinct_cond true n ns h d = (h, d)
distinct_cond false n ns h d = d

pub filter_distinct : (p : List ℕ → Bool) (ns : List (List ℕ)) → IsDistinct bytes_eq ns → IsDistinct bytes_eq (filter p ns)
unfolding IsDistinct
filter_distinct p [] d = tt
filter_distinct p (n ∷ ns) d = distinct_cond (p n) n (filter p ns) (filter_all p (λ y. bytes_eq n y ≡ false) ns d.0) (filter_distinct p ns d.1)

both_and : (a b : Bool) → a ≡ true → b ≡ false → (a && not b) ≡ true
both_and true true h k = cc
both_and true false h k = refl
both_and false b h k = cc

kept_other : (p : List ℕ → Bool) (ns : List (List ℕ)) (n : List ℕ) → p n ≡ true → is_among (filter p ns) n ≡ false → is_among ns n ≡ false
kept_other p [] n k e = refl
kept_other p (m ∷ ns) n k e = go (p m) (bytes_eq n m) refl refl (kept_other p ns n k) e
  where
    go : (b c : Bool) → p m ≡ b → bytes_eq n m ≡ c → (is_among (filter p ns) n ≡ false → is_among ns n ≡ false) → is_among (cond b (m ∷ filter p ns) (filter p ns)) n ≡ false
        → (bytes_eq n m || is_among ns n) ≡ false
    go true c pm nm more h =
        ap (λ b. b || is_among ns n) (neither_first (bytes_eq n m) (is_among (filter p ns) n) h) ∙ more (neither_second (bytes_eq n m) (is_among (filter p ns) n) h)
    go false true pm nm more h = let no : true ≡ false = sym k ∙ ap p (same_name n m nm) ∙ pm in cc
    go false false pm nm more h = ap (λ b. b || is_among ns n) nm ∙ more h

second_not : (a b : Bool) → (a && not b) ≡ true → b ≡ false
second_not true true e = cc
second_not true false e = refl
second_not false b e = cc

beside_abstraction : (m : Option CheckedMachine) (env : Entries) (variables lost : List (List ℕ)) (e : CheckedEvent) → IsSoundRefinement env variables lost (found_in_events (abstract_events m) e.refines) e
    → IsSoundRefinement env variables lost (refined_by m e) e
beside_abstraction None env variables lost e h = subst (λ rs. IsSoundRefinement env variables lost rs e) (nothing_found e.refines) h
beside_abstraction (Some a) env variables lost e h = h

-- The machine.

module _ (project : ProjectNames) (m : Option CheckedMachine) (w : Written) (v : Visible) (good : IsGoodAbstraction project m) (sound : IsSoundView project v)
    (variables_are : v.variables ≡ (abstract_view m).variables) (olds : IsWithin (all_entries (abstract_view m)) (all_entries v))
    (once : DeclaredOnce (filter (λ n. not (is_among (abstract_variables m) n)) (names (entries (all_visible v)))) (own_names w))
    (identifiers_are : AllByRecursion (λ n. IsTrue (is_identifier n)) (own_names w))
    (invariants : List Labelled) (last : Entries) (checks : AreTyped w.name.name (machine_env m v) (new_variables m w) w.invariants invariants [] last)
    (all_typed : never_typed w.name.name last w.variables ≡ [])
    (variant : Option Formula) (variant_typed : IsTypedVariant w.name.name last w.variant variant []) (variant_good : bad_variant w.name.name w.variant variant ≡ []) (events : List CheckedEvent) where
  abbrev constants : Entries
  constants = entries v.constants

  abbrev old : Entries
  old = all_entries v

  abbrev kept : Entries
  kept = filter (λ e. is_among (abstract_variables m) e.0) (entries v.variables)

  abbrev first : Entries
  first = machine_env m v

  abbrev is_new : List ℕ → Bool
  is_new n = not (is_among (abstract_variables m) n)

  abbrev declared : List (List ℕ)
  declared = new_variables m w

  abbrev own : Entries
  own = in_order last declared

  abbrev pub checked : CheckedMachine
  checked = checked_machine_of m w v last invariants variant events

  old_names : names (entries (all_visible v)) ≡ keys_of old
  old_names = ap names (map_append (λ x. x.0) v.constants v.variables)

  declared_new : AreNew old declared
  declared_new = not_named old declared (subst (λ ns. AreOther ns declared) old_names
      (filter_each is_new (λ n. is_among (filter is_new (names (entries (all_visible v)))) n ≡ false) (λ n. is_among (names (entries (all_visible v))) n ≡ false) (own_names w)
      (λ n k h. kept_other is_new (names (entries (all_visible v))) n k h) once.other))

  own_named : AllByRecursion (IsNamedIn last) (own_names w)
  own_named = all_named w.name.name last w.variables all_typed

  named : AllByRecursion (IsNamedIn last) declared
  named = filter_all is_new (IsNamedIn last) (own_names w) own_named

  pub distinct : HasDistinctNames checked.env
  distinct = declared_distinct old last declared sound.distinct (filter_distinct is_new (own_names w) once.distinct) declared_new named

  env_row : checked.env ≡ constants ++ (entries v.variables ++ own)
  env_row = append_assoc constants (entries v.variables) own

  first_stands : AllStand old first
  first_stands =
      let stands = stand_there old sound.distinct in
      all_append (Stands old) constants kept (all_front (Stands old) constants (entries v.variables) stands)
      (filter_all (λ e. is_among (abstract_variables m) e.0) (Stands old) (entries v.variables) (all_back (Stands old) constants (entries v.variables) stands))

  first_each : (P : List ℕ × Ty → Type 0) → AllByRecursion P old → AllByRecursion P first
  first_each P h = all_append P constants kept (all_front P constants (entries v.variables) h)
      (filter_all (λ e. is_among (abstract_variables m) e.0) P (entries v.variables) (all_back P constants (entries v.variables) h))

  first_sets : AllByRecursion (λ x. AllStand constants (carriers x.1)) first
  first_sets = first_each (λ x. AllStand constants (carriers x.1)) sound.carriers

  first_carriers : HasCarriers first
  first_carriers = all_each (λ x. AllStand constants (carriers x.1)) (λ x. AllStand first (carriers x.1)) first (λ x h. stand_sooner constants kept (carriers x.1) h) first_sets

  stood : Stood first last invariants
  stood = typed_stand w.name.name first declared w.invariants invariants [] last first_carriers checks

  pub last_carriers : HasCarriers last
  last_carriers = stood.carriers

  pub last_values : AllByRecursion (λ x. IsTrue (is_value_type x.1)) last
  last_values = stood.values (first_each (λ x. IsTrue (is_value_type x.1)) sound.types)

  from : (x : List ℕ × Ty) → Stands last x → Stands old x ⊎ (is_among declared x.0 ≡ true)
  from x e = elim (last_from w.name.name first declared w.invariants invariants [] last x.0 x.1 checks e) [
    | inl h ↦ inl (within_all old first first_stands x h)
    | inr h ↦ inr h
  ]

  pub into : IsWithin last checked.env
  into = reaches old last declared declared_new from

  pub old_into : IsWithin old checked.env
  old_into x e = sooner old own x.0 x.1 e

  -- each carrier set of the last environment stands among the constants
  pub last_sets : (set : List ℕ) → Stands last (set, ty.Pow (ty.Given set)) → Stands constants (set, ty.Pow (ty.Given set))
  last_sets set e = over_set constants set (found_has (λ x. AllStand constants (carriers x.1)) first set (ty.Pow (ty.Given set)) first_sets (stood.sets set e))

  own_each : (P : List ℕ × Ty → Type 0) → AllByRecursion P last → AllByRecursion P own
  own_each P h = all_each (Stands last) P own (λ x e. found_has P last x.0 x.1 h e) (in_order_stand last declared)

  env_each : (P : List ℕ × Ty → Type 0) → AllByRecursion P old → AllByRecursion P own → AllByRecursion P checked.env
  env_each P h k = all_append P old own h k

  env_sets : HasCarriersAmong constants checked.env
  env_sets = env_each (λ x. AllStand constants (carriers x.1)) sound.carriers
      (all_each (λ x. AllStand last (carriers x.1)) (λ x. AllStand constants (carriers x.1)) own (λ x h. carriers_kept last constants last_sets x.1 h)
      (own_each (λ x. AllStand last (carriers x.1)) stood.carriers))

  own_keys : keys_of own ≡ declared
  own_keys = in_order_keys last declared named

  abbrev own_origins : List (List ℕ)
  own_origins = map (λ n. w.name.name) declared

  own_length : length own_origins ≡ length own
  own_length = map_length (λ n. w.name.name) declared ∙ ap length (sym own_keys) ∙ map_length (λ e. e.0) own

  constants_taken : take checked.variables_from checked.env ≡ constants
  constants_taken = ap₂ take (sym (map_length (λ x. x.0) v.constants)) env_row ∙ take-append_seam constants (entries v.variables ++ own)

  entries_are : entries (all_visible v) ≡ old
  entries_are = map_append (λ x. x.0) v.constants v.variables

  origins_are : origins (all_visible v) ≡ origins v.constants ++ origins v.variables
  origins_are = map_append (λ x. x.1) v.constants v.variables

  origins_fit : length checked.env_of ≡ length checked.env
  origins_fit = ap (λ os. length (os ++ own_origins)) (sym origins_are) ∙ row_length (all_visible v) own own_origins own_length ∙ ap (λ es. length (es ++ own)) entries_are

  pub env_good : IsGoodEnv checked.env
  env_good = record {
    names = distinct;
    types = env_each (λ x. IsTrue (is_value_type x.1)) sound.types (own_each (λ x. IsTrue (is_value_type x.1)) last_values);
    carriers = all_each (λ x. AllStand constants (carriers x.1)) (λ x. AllStand checked.env (carriers x.1)) checked.env
        (λ x h. stand_sooner old own (carriers x.1) (stand_sooner constants (entries v.variables) (carriers x.1) h)) env_sets;
  }

  pub names_are : HasIdentifiers checked.env
  names_are = env_each (λ x. IsTrue (is_identifier x.0)) sound.names
      (all_unmap (λ n. IsTrue (is_identifier n)) (λ e. e.0) own
      (subst (AllByRecursion (λ n. IsTrue (is_identifier n))) (sym own_keys) (filter_all is_new (λ n. IsTrue (is_identifier n)) (own_names w) identifiers_are)))

  -- what is typed in the abstraction is typed here
  inherited : (a : CheckedMachine) → IsSoundMachine a → all_entries (abstract_view m) ≡ all_entries (of_machine a) → IsWithin a.env checked.env
  inherited a s is x e = old_into x (olds x (subst (λ es. Stands es x) (sym (machine_entries a s) ∙ sym is) e))

  pub abstract_within : (a : CheckedMachine) → m ≡ Some a → IsSoundMachine a → IsWithin a.env checked.env
  abstract_within a is s = inherited a s (ap (λ o. all_entries (abstract_view o)) is)

  named_in : (env : Entries) (xs : Entries) → AllStand env xs → AllByRecursion (IsNamedIn env) (keys_of xs)
  named_in env xs h = all_map (IsNamedIn env) (λ e. e.0) xs (all_each (Stands env) (λ e. IsNamedIn env e.0) xs (λ x e. (x.1, e)) h)

  lost_named : AllByRecursion (IsNamedIn checked.env) (lost_variables m w)
  lost_named = filter_all _ (IsNamedIn checked.env) (names (entries (abstract_view m).variables))
      (subst (λ xs. AllByRecursion (IsNamedIn checked.env) (names (entries xs))) variables_are
      (named_in checked.env (entries v.variables)
      (all_each (Stands old) (Stands checked.env) (entries v.variables) old_into (all_back (Stands old) constants (entries v.variables) (stand_there old sound.distinct)))))

  variables_named : AllByRecursion (IsNamedIn checked.env) (own_names w ++ lost_variables m w)
  variables_named = all_append (IsNamedIn checked.env) (own_names w) (lost_variables m w)
      (all_each (IsNamedIn last) (IsNamedIn checked.env) (own_names w) (λ n h. (h.0, into (n, h.0) h.1)) own_named) lost_named

  variant_in : (written : Option RawVariant) (typed : Option Formula) → IsTypedVariant w.name.name last written typed [] → bad_variant w.name.name written typed ≡ []
      → IfSome typed (IsVariantIn checked.env)
  variant_in None typed h good = subst (λ o. IfSome o (IsVariantIn checked.env)) (sym h.0) tt
  variant_in (Some r) typed (inl h) good =
      let v = h.0 in
      let row : bad_variant w.name.name (Some r) (Some v) ≡ [] = ap (bad_variant w.name.name (Some r)) (sym h.3) ∙ good in
      subst (λ o. IfSome o (IsVariantIn checked.env)) (sym h.3) (
        typed_more last checked.env into v (formulas_stand last [] (core_form r.formula) None v h.2 stood.carriers tt).typed,
        dropped_none (is_integer (type_of v) || is_some (members (type_of v))) _ (first_none (bad_variant_row w.name.name (r, v)) [] row),
      )
  variant_in (Some r) typed (inr h) good = never_empty h.0 [] h.3

  invariants_in : (o : Option CheckedMachine) → m ≡ o → IsGoodAbstraction project o → ArePredicatesIn checked.env (option_map_or (λ a. a.invariants) o [])
  invariants_in None is g = tt
  invariants_in (Some a) is g = predicates_within a.env checked.env a.invariants (abstract_within a is g.0) g.0.invariants

  -- Variables stand behind the constants.

  abbrev varying : Entries
  varying = entries v.variables ++ own

  varying_is : drop checked.variables_from checked.env ≡ varying
  varying_is = ap₂ drop (sym (map_length (λ x. x.0) v.constants)) env_row ∙ drop-append_seam constants varying

  varying_distinct : HasDistinctNames varying
  varying_distinct = distinct_back constants varying (subst HasDistinctNames env_row distinct)

  new_behind : AllByRecursion (λ n. is_new n ≡ true → IsNamedIn varying n) (own_names w)
  new_behind = filter_back is_new (IsNamedIn varying) (own_names w)
      (subst (AllByRecursion (IsNamedIn varying)) own_keys (named_in varying own (parts_stand (entries v.variables) own varying_distinct).1))

  above_behind : (n : List ℕ) → is_among (abstract_variables m) n ≡ true → IsNamedIn varying n
  above_behind n h =
      let x = variable_above project m good n h in
      (x.0, sooner (entries v.variables) own n x.0 (subst (λ es. Stands (entries es) (n, x.0)) (sym variables_are) x.1))

  own_behind : AllByRecursion (IsNamedIn varying) (own_names w)
  own_behind = all_each (λ n. is_new n ≡ true → IsNamedIn varying n) (IsNamedIn varying) (own_names w)
      (λ n h. elim (here_or (is_among (abstract_variables m) n)) [
        | inl k ↦ above_behind n k
        | inr k ↦ h (ap not k)
      ])
      new_behind

  lost_behind : AllByRecursion (IsNamedIn varying) (lost_variables m w)
  lost_behind = filter_all _ (IsNamedIn varying) (names (entries (abstract_view m).variables))
      (subst (λ xs. AllByRecursion (IsNamedIn varying) (names (entries xs))) variables_are
      (named_in varying (entries v.variables) (parts_stand (entries v.variables) own varying_distinct).0))

  -- a variable of the abstraction that isn't lost is kept
  keeps : (n : List ℕ) → is_among (abstract_variables m) n ≡ true → is_among (lost_variables m w) n ≡ false → is_among (own_names w) n ≡ true
  keeps n h k = elim (here_or (is_among (own_names w) n)) [
    | inl i ↦ i
    | inr i ↦
        let x = variable_above project m good n h in
        let ns = names (entries (abstract_view m).variables) in
        apart (is_among ns n) (among_names (entries (abstract_view m).variables) n x.0 x.1)
        (kept_other (λ l. is_among (abstract_variables m) l && not (is_among (own_names w) l)) ns n (both_and (is_among (abstract_variables m) n) (is_among (own_names w) n) h i) k)
  ]

  pub machine_assigns : AreTypedEvents w.name.name (abstract_events m) (all_variables m w) last w.events events []
      → AllByRecursion (IsAssigningWell w.name.name (own_names w) (lost_variables m w)) (zip w.events events) → AllByRecursion (AssignsVariables (own_names w)) events
  machine_assigns typed well = events_assign w.name.name (abstract_events m) (abstract_variables m) (own_names w) (lost_variables m w) (assigns_above project m good) keeps
      (all_variables m w) last w.events events [] typed refl well

  -- own and lost variables, each once
  variables_once : IsDistinct bytes_eq (own_names w ++ lost_variables m w)
  variables_once =
      let ns = names (entries (abstract_view m).variables) in
      let gone : List ℕ → Bool = λ l. is_among (abstract_variables m) l && not (is_among (own_names w) l) in
      let distinct_above : IsDistinct bytes_eq ns = subst (λ xs. IsDistinct bytes_eq (names (entries xs))) variables_are
      (distinct_back constants (entries v.variables) sound.distinct) in
      distinct_join (own_names w) (lost_variables m w) once.distinct (filter_distinct gone ns distinct_above)
      (filter_each gone (λ n. bytes_eq n n ≡ true) (λ n. is_among (own_names w) n ≡ false) ns
      (λ n k h. second_not (is_among (abstract_variables m) n) (is_among (own_names w) n) k) (all_true (λ n. bytes_eq n n ≡ true) ns (λ n. name_is n)))

  -- a variable of the abstraction is an own one or a lost one
  abstract_stays : (n : List ℕ) → is_among (abstract_variables m) n ≡ true → is_among (own_names w ++ lost_variables m w) n ≡ true
  abstract_stays n h = elim (here_or (is_among (lost_variables m w) n)) [
    | inl k ↦ among_later (own_names w) (lost_variables m w) n k
    | inr k ↦ among_sooner (own_names w) (lost_variables m w) n (keeps n h k)
  ]

  over_abstraction : (o : Option CheckedMachine) → m ≡ o → IsGoodAbstraction project o → IfSome o (λ a. IsSoundOver a checked)
  over_abstraction None is g = tt
  over_abstraction (Some a) is g = record {
    env = abstract_within a is g.0;
    variables = all_each (λ n. is_among a.variables n ≡ true) (λ n. is_among (own_names w ++ lost_variables m w) n ≡ true) a.variables
        (λ n h. abstract_stays n (subst (λ o. is_among (abstract_variables o) n ≡ true) (sym is) h)) (among_self a.variables);
  }

  pub machine_sound : AllByRecursion (IsSoundEvent constants checked.env) events → AllByRecursion StartsPlainly events → AllByRecursion (AssignsVariables (own_names w)) events
      → IsDistinct bytes_eq (map (λ e. e.name) events) → is_among (map (λ e. e.name) events) initialisation ≡ true → IsSoundMachine checked
  machine_sound events_are start assigns event_names has_start = record {
    env = env_good;
    sets = subst (λ es. HasCarriersAmong es checked.env) (sym constants_taken) env_sets;
    names = names_are;
    origins = origins_fit;
    axioms = predicates_within old checked.env (map (λ x. x.0) v.axioms) old_into (all_map (λ l. IsPredicateIn old l.formula) (λ x. x.0) v.axioms sound.axioms);
    invariants = all_append (λ l. IsPredicateIn checked.env l.formula) (option_map_or (λ a. a.invariants) m []) invariants (invariants_in m refl good)
        (predicates_within last checked.env invariants into stood.typed);
    variant = variant_in w.variant variant variant_typed variant_good;
    variables = variables_named;
    events = subst (λ es. AllByRecursion (IsSoundEvent es checked.env) events) (sym constants_taken) events_are;
    behind = subst (λ es. AllByRecursion (IsNamedIn es) (own_names w ++ lost_variables m w)) (sym varying_is)
        (all_append (IsNamedIn varying) (own_names w) (lost_variables m w) own_behind lost_behind);
    once = variables_once;
    event_names = event_names;
    has_start = has_start;
    start = start;
    assigns = assigns;
  }

  abbrev own_identifiers : Identifiers
  own_identifiers = zip own own_origins

  row_is : zip checked.env checked.env_of ≡ v.constants ++ (v.variables ++ own_identifiers)
  row_is =
      ap₂ (λ es os. zip (es ++ own) (os ++ own_origins)) (sym entries_are) (sym origins_are)
      ∙ zip_row (all_visible v) own own_origins
      ∙ append_assoc v.constants v.variables own_identifiers

  constants_are : v.constants ≡ (of_machine checked).constants
  constants_are = sym (ap (take (length v.constants)) row_is ∙ take-append_seam v.constants (v.variables ++ own_identifiers))

  variables_row : (of_machine checked).variables ≡ v.variables ++ own_identifiers
  variables_row = ap (drop (length v.constants)) row_is ∙ drop-append_seam v.constants (v.variables ++ own_identifiers)

  variables_entries : entries (v.variables ++ own_identifiers) ≡ entries v.variables ++ own
  variables_entries = map_append (λ x. x.0) v.variables own_identifiers ∙ ap (λ es. entries v.variables ++ es) (zip_firsts own own_origins own_length)

  variables_have : Has project (Machine checked) → AreVariablesOf project (v.variables ++ own_identifiers)
  variables_have has = (
    declared_of project w.name.name v.variables own_identifiers sound.variables.0 (all_one w.name.name own declared)
        (subst HasDistinctNames (sym variables_entries) (distinct_back constants (entries v.variables ++ own) (subst HasDistinctNames env_row distinct))) (subst (DeclaresIn project w.name.name) variables_row has.1),
    all_append (λ x. project.is_context x.1 ≡ false) v.variables own_identifiers sound.variables.1
        (all_each (λ x. x.1 ≡ w.name.name) (λ x. project.is_context x.1 ≡ false) own_identifiers (λ x e. ap project.is_context e ∙ has.0) (all_one w.name.name own declared)),
  )

  pub machine_has : Has project (Machine checked) → BelongsTo project (Machine checked)
  machine_has has = (subst (AreConstantsOf project) constants_are sound.constants, subst (AreVariablesOf project) (sym variables_row) (variables_have has))

  -- Its events.

  abbrev known : List (List ℕ)
  known = names (entries (all_visible v)) ++ own_names w

  own_lacks : (n : List ℕ) → is_among (own_names w) n ≡ false → type_in own n ≡ None
  own_lacks n h = lacks_back own n (subst (AllByRecursion (λ y. bytes_eq n y ≡ false)) (sym own_keys)
      (filter_all is_new (λ y. bytes_eq n y ≡ false) (own_names w) (not_among (own_names w) n h)))

  known_names : (ns : List (List ℕ)) → AreOther known ns → AreNew checked.env ns
  known_names ns h =
      all_two (λ n. type_in old n ≡ None) (λ n. is_among (own_names w) n ≡ false) (λ n. type_in (old ++ own) n ≡ None) ns (λ n k l. none_append old own n k (own_lacks n l))
      (not_named old ns (subst (λ ks. AreOther ks ns) old_names
      (all_each (λ n. is_among known n ≡ false) (λ n. is_among (names (entries (all_visible v))) n ≡ false) ns (λ n k. none_left (names (entries (all_visible v))) (own_names w) n k) h)))
      (all_each (λ n. is_among known n ≡ false) (λ n. is_among (own_names w) n ≡ false) ns (λ n k. none_right (names (entries (all_visible v))) (own_names w) n k) h)

  place : IsPlace constants checked.env last known
  place = record {
    good = env_good;
    names_are = names_are;
    known_names = known_names;
    within = into;
    constants_last = λ x h. stood.within x (sooner constants kept x.0 x.1 h);
    last_carriers = last_carriers;
    last_types = last_values;
    last_sets = last_sets;
  }

  pub machine_whole : TypedActionsStand → IsWithin (entries (abstract_view m).constants) constants → AllByRecursion (λ e. AllByRecursion (λ r. IsTrue (is_identifier r.name)) e.params) w.events
      → AllByRecursion (λ e. AllByRecursion (λ s. written_targets s.action ≢ []) e.actions) w.events → joined (map (event_declarations w.name.name (abstract_events m) known) w.events) ≡ []
      → AllByRecursion (λ p. AsksWitnesses w.name.name (abstract_events m) (lost_variables m w) p.0) (zip w.events events)
      → AreTypedEvents w.name.name (abstract_events m) (all_variables m w) last w.events events []
      → AllByRecursion StartsPlainly events → AllByRecursion (IsAssigningWell w.name.name (own_names w) (lost_variables m w)) (zip w.events events)
      → IsDistinct bytes_eq (map (λ e. e.name) events) → is_among (map (λ e. e.name) events) initialisation ≡ true
      → IsSoundMachine checked × IsSoundBeside m (Machine checked) × (Has project (Machine checked) → BelongsTo project (Machine checked))
  machine_whole actions_stand larger ids some clear asks typed start well event_names has_start =
      let above = above_of project m checked.env constants good (λ x h. old_into x (olds x h)) larger in
      let whole : AllByRecursion (IsWhole constants checked.env (abstract_events m) (all_variables m w) (lost_variables m w)) events =
      events_sound constants checked.env last known place above.0 above.1 (abstract_events m) above.2 w.name.name (all_variables m w) (lost_variables m w) actions_stand
      variables_named (λ n h. among_later (own_names w) (lost_variables m w) n h) w.events events [] ids some
      (joined_none (event_declarations w.name.name (abstract_events m) known) w.events clear) asks typed refl in (
        machine_sound (all_each (IsWhole constants checked.env (abstract_events m) (all_variables m w) (lost_variables m w)) (IsSoundEvent constants checked.env) events (λ e h. h.0) whole) start (machine_assigns typed well) event_names has_start,
        (
          over_abstraction m refl good,
          all_each (IsWhole constants checked.env (abstract_events m) (all_variables m w) (lost_variables m w)) (λ e. IsSoundRefinement checked.env (all_variables m w) (lost_variables m w) (refined_by m e) e) events
              (λ e h. beside_abstraction m checked.env (all_variables m w) (lost_variables m w) e h.1) whole,
        ),
        machine_has,
      )
