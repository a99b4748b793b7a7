-- A checked context is sound.
use Rattle.std.proofs.Common.{◌≡◌, ◌∙◌, ◌⊎◌, inl, inr, sym, ap, subst, refl, ℕ, suc, Bool, true, false, cond, ◌||◌, List, [], ◌∷◌, ◌++◌, append-nil, map, length, Option, Some, None, IsTrue, bytes_eq, arith}
use Rattle.std.specs.Prelude.{Ok, Err, MatchOption}
use Rattle.std.specs.List.{AllByRecursion, IsDistinct, zip}
use Rattle.std.specs.Map.{keys_of}
use Rattle.formula_core.specs.declared.raw.Ref.{Ref}
use Rattle.formula_core.specs.declared.ty.Ty.{Ty}
use Rattle.formula_core.specs.declared.ty.Ty.TheVariants as ty
use Rattle.formula_core.specs.Env.{HasDistinctNames, type_in}
use Rattle.formula_core.specs.Identifiers.{carriers}
use Rattle.formula_core.specs.Laws.{IsWithin}
use Rattle.formula_core.specs.Names.{is_identifier}
use Rattle.formula_core.specs.Typed.{Stands, HasCarriers, IsPredicateIn}
use Rattle.formula_core.specs.Types.{is_value_type}
use Rattle.formula_core.proofs.WholeSets.{value-Given, value-Pow}
use Rattle.type_formula.proofs.Named.{all_append, all_front, all_each, sooner, found_has}
use Rattle.model_core.specs.declared.fault.Fault.{Fault}
use Rattle.model_core.specs.declared.component.RawLabelled.{RawLabelled}
use Rattle.model_core.specs.declared.checked.Checked.{Checked}
use Rattle.model_core.specs.declared.checked.Checked.TheVariants.{Context}
use Rattle.model_core.specs.declared.checked.CheckedContext.{CheckedContext}
use Rattle.model_core.specs.declared.checked.CheckedMachine.{CheckedMachine}
use Rattle.model_core.specs.declared.checked.Labelled.{Labelled}
use Rattle.model_core.specs.Each.{at_each, is_among}
use Rattle.model_core.specs.Faults.{first_by_place}
use Rattle.check_rules.specs.Contexts.{Outcome, names_of, labels_of, carrier_set, context_env, checked_context_of, context_declarations, ChecksAxioms, ChecksContext}
use Rattle.check_rules.specs.Declarations.{ContextPart, brings_clash_row, brings_clash, declared_twice, labelled_twice}
use Rattle.check_rules.specs.Typed.{Entries, AreTyped, never_typed, in_order}
use Rattle.check_rules.specs.Visible.{Identifiers, Visible, nothing, all_visible, entries, origins, names, of_context, with_context, seen_from, clashing}
use Rattle.checked_laws.specs.Projects.{ProjectNames, AreOf, AreConstantsOf, DeclaresIn, Has, BelongsTo}
use Rattle.checked_laws.specs.Refining.{IsSoundBeside}
use Rattle.checked_laws.specs.Sound.{HasIdentifiers, ArePredicatesIn, IsNamedIn, IsSoundContext, IsSoundComponent}
use Rattle.checked_laws.proofs.Names.{AllStand, AreNew, or_right, found_in, distinct_append, new_turned, parts_stand, stand_sooner}
use Rattle.checked_laws.proofs.Parts.{all_map, all_unmap, all_true, map_append, zip_firsts, map_none, first_none, second_none, no_fault}
use Rattle.checked_laws.proofs.Typing.{set_over, predicates_within, Stood, typed_stand, last_from, in_order_stand, in_order_keys, reaches}
use Rattle.checked_laws.proofs.Views.{all_entries, IsSoundView, olds_within, constants_within, seen_sound}
use Rattle.checked_laws.proofs.Declared.{DeclaredOnce, declared_once, not_named, all_named, declared_distinct, zip_row, all_one, declared_of}

-- Outcomes.

abbrev ok : Checked → Outcome
ok c = Ok c

abbrev failed : Fault → Outcome
failed fault = Err fault

abbrev checked_in : Checked → Outcome → Checked
checked_in d (Ok c) = c
checked_in d (Err fault) = d

pub passes : (P : Type 0) (o : Option Fault) (c : Checked) → MatchOption o P (λ fault. ok c ≡ failed fault) → (o ≡ None) × P
passes P None c h = (refl, h)
passes P (Some fault) c h = let no : ⊥ = cc in absurd no

pub same_checked : (c d : Checked) → ok c ≡ ok d → d ≡ c
same_checked c d e = sym (ap (checked_in d) e)

-- What is seen of several contexts.

seen_push : (v : Visible) (cs : List CheckedContext) (c : CheckedContext) → seen_from v (cs ++ c ∷ []) ≡ with_context (seen_from v cs) c
seen_push v [] c = refl
seen_push v (d ∷ cs) c = seen_push (with_context v d) cs c

pub variables_kept : (v : Visible) (cs : List CheckedContext) → (seen_from v cs).variables ≡ v.variables
variables_kept v [] = refl
variables_kept v (c ∷ cs) = variables_kept (with_context v c) cs

-- a context is sound, and one of the project
abbrev pub IsGoodContext : ProjectNames → CheckedContext → Type 0
IsGoodContext project c = IsSoundContext c × AreConstantsOf project (of_context c)

abbrev contexts_before : List ContextPart → List CheckedContext
contexts_before before = map (λ b. b.1) before

-- the view with more contexts is sound, and what stood in the old one stands there
pub record IsSoundOver (project : ProjectNames) (old new : Visible) : Type 0 where
  pub sound : IsSoundView project new
  pub within : IsWithin (all_entries old) (all_entries new)
  pub constants : IsWithin (entries old.constants) (entries new.constants)

view_at : (project : ProjectNames) (component : List ℕ) (v : Visible) (before : List ContextPart) (refs : List Ref) (cs : List CheckedContext) →
    IsSoundOver project v (seen_from v (contexts_before before)) → at_each (brings_clash_row component v) before (zip refs cs) ≡ [] → length cs ≡ length refs →
    AllByRecursion (IsGoodContext project) cs → IsSoundOver project v (seen_from (seen_from v (contexts_before before)) cs)
view_at project component v before refs [] over clear n good = over
view_at project component v before [] (c ∷ cs) over clear n good = let no : ⊥ = omega arith in absurd no
view_at project component v before (r ∷ refs) (c ∷ cs) over clear n good =
    let u = seen_from v (contexts_before before) in
    let here = map_none _ (clashing (all_visible u) (of_context c)) (first_none (brings_clash_row component v before (r, c)) _ clear) in
    let next : IsSoundOver project v (with_context u c) = record {
      sound = seen_sound project u c over.sound good.0.0 good.0.1 here;
      within = λ x e. olds_within project u c over.sound good.0.0 good.0.1 here x (over.within x e);
      constants = λ x e. constants_within project u c over.sound good.0.0 good.0.1 here x (over.constants x e);
    } in
    let is : seen_from v (contexts_before (before ++ (r, c) ∷ [])) ≡ with_context u c = ap (seen_from v) (map_append (λ b. b.1) before ((r, c) ∷ [])) ∙ seen_push v (contexts_before before) c in
    let shorter : length cs ≡ length refs = omega arith in
    subst (λ w. IsSoundOver project v (seen_from w cs)) is
    (view_at project component v (before ++ (r, c) ∷ []) refs cs (subst (IsSoundOver project v) (sym is) next) (second_none (brings_clash_row component v before (r, c)) _ clear) shorter good.1)

-- a view is sound with contexts that bring no clash
pub view_sound : (project : ProjectNames) (component : List ℕ) (v : Visible) (refs : List Ref) (cs : List CheckedContext) →
    IsSoundView project v → brings_clash component v (zip refs cs) ≡ [] → length cs ≡ length refs → AllByRecursion (IsGoodContext project) cs → IsSoundOver project v (seen_from v cs)
view_sound project component v refs cs sound clear n good = view_at project component v [] refs cs (record { sound = sound; within = λ x e. e; constants = λ x e. e }) clear n good

none_of : (project : ProjectNames) → AreOf project []
none_of project = record { types = tt; whole = λ component name t among is. let no : ⊥ = cc in absurd no }

pub nothing_sound : (project : ProjectNames) → IsSoundView project nothing
unfolding IsDistinct
nothing_sound project = record { distinct = tt; types = tt; carriers = tt; names = tt; constants = (none_of project, tt); variables = (none_of project, tt); axioms = tt }

-- Names of lists.

pub list_front : (xs ys : List (List ℕ)) → IsDistinct bytes_eq (xs ++ ys) → IsDistinct bytes_eq xs
unfolding IsDistinct
list_front [] ys d = tt
list_front (x ∷ xs) ys d = (all_front (λ y. bytes_eq x y ≡ false) xs ys d.0, list_front xs ys d.1)

pub among_left : (xs ys : List (List ℕ)) (n : List ℕ) → is_among xs n ≡ true → is_among (xs ++ ys) n ≡ true
among_left [] ys n e = cc
among_left (x ∷ xs) ys n e = go (bytes_eq n x) (among_left xs ys n) e
  where
    go : (b : Bool) → (is_among xs n ≡ true → is_among (xs ++ ys) n ≡ true) → (b || is_among xs n) ≡ true → (b || is_among (xs ++ ys) n) ≡ true
    go true more h = refl
    go false more h = more h

pub among_right : (xs ys : List (List ℕ)) (n : List ℕ) → is_among ys n ≡ true → is_among (xs ++ ys) n ≡ true
among_right [] ys n e = e
among_right (x ∷ xs) ys n e = or_right (bytes_eq n x) (is_among (xs ++ ys) n) (among_right xs ys n e)

pub among_keys : (xs : Entries) (n : List ℕ) (t : Ty) → type_in xs n ≡ Some t → is_among (keys_of xs) n ≡ true
among_keys [] n t e = cc
among_keys (x ∷ xs) n t e = go (bytes_eq n x.0) (among_keys xs n t) e
  where
    go : (b : Bool) → (type_in xs n ≡ Some t → is_among (keys_of xs) n ≡ true) → cond b (Some x.1) (type_in xs n) ≡ Some t → (b || is_among (keys_of xs) n) ≡ true
    go true more h = refl
    go false more h = more h

pub map_length : {X Y : Type 0} → (f : X → Y) (xs : List X) → length (map f xs) ≡ length xs
map_length f [] = refl
map_length f (x ∷ xs) = ap suc (map_length f xs)

pub row_length : (xs : Identifiers) (ys : Entries) (os : List (List ℕ)) → length os ≡ length ys → length (origins xs ++ os) ≡ length (entries xs ++ ys)
row_length [] ys os e = e
row_length (x ∷ xs) ys os e = ap suc (row_length xs ys os e)

set_keys : (sets : List Ref) → keys_of (map carrier_set sets) ≡ names_of sets
set_keys [] = refl
set_keys (s ∷ sets) = ap (λ ks. s.name ∷ ks) (set_keys sets)

-- The context.

module _ (project : ProjectNames) (name : List ℕ) (sets constants : List Ref) (axioms : List RawLabelled) (v : Visible) (sound : IsSoundView project v) (no_variables : v.variables ≡ [])
    (once : DeclaredOnce (names (entries v.constants)) (names_of (sets ++ constants)))
    (identifiers_are : AllByRecursion (λ n. IsTrue (is_identifier n)) (names_of (sets ++ constants)))
    (typed : List Labelled) (last : Entries) (checks : AreTyped name (context_env sets v) (names_of constants) axioms typed [] last) (all_typed : never_typed name last constants ≡ []) where
  abbrev old : Entries
  old = entries v.constants

  abbrev own_sets : Entries
  own_sets = map carrier_set sets

  abbrev first : Entries
  first = context_env sets v

  abbrev declared : List (List ℕ)
  declared = names_of (sets ++ constants)

  abbrev own : Entries
  own = in_order last declared

  abbrev c : CheckedContext
  c = checked_context_of name (sets ++ constants) v typed last

  old_is : all_entries v ≡ old
  old_is = ap (λ vs. old ++ entries vs) no_variables ∙ append-nil old

  declared_is : declared ≡ names_of sets ++ names_of constants
  declared_is = map_append (λ r. r.name) sets constants

  old_distinct : HasDistinctNames old
  old_distinct = subst HasDistinctNames old_is sound.distinct

  declared_new : AreNew old declared
  declared_new = not_named old declared once.other

  sets_new : AreNew old (names_of sets)
  sets_new = all_front (λ n. type_in old n ≡ None) (names_of sets) (names_of constants) (subst (AreNew old) declared_is declared_new)

  first_distinct : HasDistinctNames first
  first_distinct =
      distinct_append old own_sets old_distinct
      (subst (IsDistinct bytes_eq) (sym (set_keys sets)) (list_front (names_of sets) (names_of constants) (subst (IsDistinct bytes_eq) declared_is once.distinct)))
      (new_turned own_sets old (subst (AreNew old) (sym (set_keys sets)) sets_new))

  sets_stand : AllByRecursion (λ s. Stands first (carrier_set s)) sets
  sets_stand = all_unmap (Stands first) carrier_set sets (parts_stand old own_sets first_distinct).1

  first_carriers : HasCarriers first
  first_carriers = all_append (λ x. AllStand first (carriers x.1)) old own_sets
      (all_each (λ x. AllStand old (carriers x.1)) (λ x. AllStand first (carriers x.1)) old (λ x h. stand_sooner old own_sets (carriers x.1) h)
      (subst (λ es. AllByRecursion (λ x. AllStand old (carriers x.1)) es) old_is sound.carriers))
      (all_map (λ x. AllStand first (carriers x.1)) carrier_set sets
      (all_each (λ s. Stands first (carrier_set s)) (λ s. AllStand first (carriers (carrier_set s).1)) sets (λ s h. set_over first s.name h) sets_stand))

  old_values : AllByRecursion (λ x. IsTrue (is_value_type x.1)) old
  old_values = subst (AllByRecursion (λ x. IsTrue (is_value_type x.1))) old_is sound.types

  first_values : AllByRecursion (λ x. IsTrue (is_value_type x.1)) first
  first_values = all_append (λ x. IsTrue (is_value_type x.1)) old own_sets old_values
      (all_map (λ x. IsTrue (is_value_type x.1)) carrier_set sets (all_true (λ s. IsTrue (is_value_type (carrier_set s).1)) sets (λ s. value-Pow (ty.Given s.name) ∙ value-Given s.name)))

  stood : Stood first last typed
  stood = typed_stand name first (names_of constants) axioms typed [] last first_carriers checks

  named : AllByRecursion (IsNamedIn last) declared
  named = subst (AllByRecursion (IsNamedIn last)) (sym declared_is)
      (all_append (IsNamedIn last) (names_of sets) (names_of constants)
      (all_map (IsNamedIn last) (λ r. r.name) sets
      (all_each (λ s. Stands first (carrier_set s)) (λ s. IsNamedIn last s.name) sets (λ s h. (ty.Pow (ty.Given s.name), stood.within (carrier_set s) h)) sets_stand))
      (all_named name last constants all_typed))

  from : (x : List ℕ × Ty) → Stands last x → Stands old x ⊎ (is_among declared x.0 ≡ true)
  from x e = elim (last_from name first (names_of constants) axioms typed [] last x.0 x.1 checks e) [
    | inl h ↦ elim (found_in old own_sets x.0 x.1 h) [
      | inl k ↦ inl k
      | inr k ↦ inr (subst (λ ns. is_among ns x.0 ≡ true) (sym declared_is)
          (among_left (names_of sets) (names_of constants) x.0 (subst (λ ns. is_among ns x.0 ≡ true) (set_keys sets) (among_keys own_sets x.0 x.1 k))))
    ]
    | inr h ↦ inr (subst (λ ns. is_among ns x.0 ≡ true) (sym declared_is) (among_right (names_of sets) (names_of constants) x.0 h))
  ]

  into : IsWithin last c.env
  into = reaches old last declared declared_new from

  distinct : HasDistinctNames c.env
  distinct = declared_distinct old last declared old_distinct once.distinct declared_new named

  own_each : (P : List ℕ × Ty → Type 0) → AllByRecursion P last → AllByRecursion P own
  own_each P h = all_each (Stands last) P own (λ x e. found_has P last x.0 x.1 h e) (in_order_stand last declared)

  own_keys : keys_of own ≡ declared
  own_keys = in_order_keys last declared named

  own_length : length (map (λ r. name) (sets ++ constants)) ≡ length own
  own_length = map_length (λ r. name) (sets ++ constants) ∙ sym (map_length (λ r. r.name) (sets ++ constants)) ∙ ap length (sym own_keys) ∙ map_length (λ e. e.0) own

  abbrev own_identifiers : Identifiers
  own_identifiers = zip own (map (λ r. name) (sets ++ constants))

  row_is : of_context c ≡ v.constants ++ own_identifiers
  row_is = zip_row v.constants own (map (λ r. name) (sets ++ constants))

  row_entries : entries (v.constants ++ own_identifiers) ≡ c.env
  row_entries = map_append (λ x. x.0) v.constants own_identifiers ∙ ap (λ es. old ++ es) (zip_firsts own (map (λ r. name) (sets ++ constants)) own_length)

  old_axioms : ArePredicatesIn c.env (map (λ x. x.0) v.axioms)
  old_axioms = predicates_within old c.env (map (λ x. x.0) v.axioms) (λ x e. sooner old own x.0 x.1 e)
      (all_map (λ l. IsPredicateIn old l.formula) (λ x. x.0) v.axioms (subst (λ es. AllByRecursion (λ x. IsPredicateIn es x.0.formula) v.axioms) old_is sound.axioms))

  pub context_sound : IsSoundContext c
  context_sound = record {
    env = record {
      names = distinct;
      types = all_append (λ x. IsTrue (is_value_type x.1)) old own old_values (own_each (λ x. IsTrue (is_value_type x.1)) (stood.values first_values));
      carriers = all_append (λ x. AllStand c.env (carriers x.1)) old own
          (all_each (λ x. AllStand old (carriers x.1)) (λ x. AllStand c.env (carriers x.1)) old (λ x h. stand_sooner old own (carriers x.1) h)
          (subst (λ es. AllByRecursion (λ x. AllStand old (carriers x.1)) es) old_is sound.carriers))
          (all_each (λ x. AllStand last (carriers x.1)) (λ x. AllStand c.env (carriers x.1)) own (λ x h. all_each (Stands last) (Stands c.env) (carriers x.1) into h)
          (own_each (λ x. AllStand last (carriers x.1)) stood.carriers));
    };
    names = all_append (λ x. IsTrue (is_identifier x.0)) old own (subst HasIdentifiers old_is sound.names)
        (all_unmap (λ n. IsTrue (is_identifier n)) (λ e. e.0) own (subst (AllByRecursion (λ n. IsTrue (is_identifier n))) (sym own_keys) identifiers_are));
    origins = row_length v.constants own (map (λ r. name) (sets ++ constants)) own_length;
    axioms = all_append (λ l. IsPredicateIn c.env l.formula) (map (λ x. x.0) v.axioms) typed old_axioms (predicates_within last c.env typed into stood.typed);
  }

  pub context_has : Has project (Context c) → AreConstantsOf project (of_context c)
  context_has has = subst (AreConstantsOf project) (sym row_is) (
    declared_of project name v.constants own_identifiers sound.constants.0 (all_one name own (sets ++ constants))
        (subst HasDistinctNames (sym row_entries) distinct) (subst (DeclaresIn project name) row_is has.1),
    all_append (λ x. project.is_context x.1 ≡ true) v.constants own_identifiers sound.constants.1
        (all_each (λ x. x.1 ≡ name) (λ x. project.is_context x.1 ≡ true) own_identifiers (λ x e. ap project.is_context e ∙ has.0) (all_one name own (sets ++ constants))),
  )

pub context_checked : (project : ProjectNames) (name : List ℕ) (extends sets constants : List Ref) (axioms : List RawLabelled) (parents : List CheckedContext) (abstraction : Option CheckedMachine) (checked : Checked) →
    AllByRecursion (λ r. IsTrue (is_identifier r.name)) (sets ++ constants) → length parents ≡ length extends → AllByRecursion (IsGoodContext project) parents → Has project checked →
    ChecksContext name extends sets constants axioms parents (Ok checked) → IsSoundComponent checked × IsSoundBeside abstraction checked × BelongsTo project checked
context_checked project name extends sets constants axioms parents abstraction checked ids n good has h =
    let v = seen_from nothing parents in
    let declared = passes (ChecksAxioms name sets constants axioms (seen_from nothing parents) (ok checked)) (first_by_place (context_declarations name extends (sets ++ constants) axioms parents)) checked h in
    let none = no_fault (context_declarations name extends (sets ++ constants) axioms parents) declared.0 in
    let clashes = brings_clash name nothing (zip extends parents) in
    let twice = declared_twice name (names (entries v.constants)) (sets ++ constants) in
    let rest = first_none (clashes ++ twice) (labelled_twice name [] (labels_of axioms)) none in
    let sound : IsSoundView project v = (view_sound project name nothing extends parents (nothing_sound project) (first_none clashes twice rest) n good).sound in
    let once = declared_once name (names (entries v.constants)) (sets ++ constants) (second_none clashes twice rest) in
    let a = declared.1 in
    let typed = a.0 in
    let faults = a.1 in
    let last = a.2 in
    let out = passes (ok checked ≡ ok (Context (checked_context_of name (sets ++ constants) v typed last))) (first_by_place (faults ++ never_typed name last constants)) checked a.4 in
    let no_faults = no_fault (faults ++ never_typed name last constants) out.0 in
    let checks : AreTyped name (context_env sets v) (names_of constants) axioms typed [] last =
    subst (λ fs. AreTyped name (context_env sets v) (names_of constants) axioms typed fs last) (first_none faults (never_typed name last constants) no_faults) a.3 in
    let all_typed = second_none faults (never_typed name last constants) no_faults in
    let names_are = all_map (λ n. IsTrue (is_identifier n)) (λ r. r.name) (sets ++ constants) ids in
    let none_varies = variables_kept nothing parents in
    subst (λ k. Has project k → IsSoundComponent k × IsSoundBeside abstraction k × BelongsTo project k) (same_checked checked (Context (checked_context_of name (sets ++ constants) v typed last)) out.1)
    (λ own. (
      context_sound project name sets constants axioms v sound none_varies once names_are typed last checks all_typed,
      tt,
      context_has project name sets constants axioms v sound none_varies once names_are typed last checks all_typed own,
    ))
    has
