-- What a component sees of others is sound where they are.
use Rattle.std.proofs.Common.{◌≡◌, ◌∙◌, inl, inr, sym, ap, subst, refl, ℕ, Bool, true, false, not, cond, ◌&&◌, ◌||◌, List, [], ◌∷◌, ◌++◌, Some, None, IsTrue, bytes_eq}
use Rattle.std.specs.List.{AllByRecursion, IsDistinct, filter, list_any, zip}
use Rattle.std.specs.Map.{keys_of}
use Rattle.formula_core.specs.declared.ty.Ty.{Ty}
use Rattle.formula_core.specs.Env.{HasDistinctNames, type_in}
use Rattle.formula_core.specs.Identifiers.{carriers}
use Rattle.formula_core.specs.Laws.{IsWithin}
use Rattle.formula_core.specs.Names.{is_identifier}
use Rattle.formula_core.specs.Typed.{Stands, IsPredicateIn}
use Rattle.formula_core.specs.Types.{is_value_type}
use Rattle.formula_core.proofs.TypedIn.{predicate_more}
use Rattle.model_core.specs.declared.checked.CheckedContext.{CheckedContext}
use Rattle.model_core.specs.Each.{is_among}
use Rattle.check_rules.specs.Typed.{Entries}
use Rattle.check_rules.specs.Visible.{WithOrigin, Identifiers, Visible, all_visible, entries, origins, of_context, with_context, clashing}
use Rattle.type_formula.proofs.Named.{all_append, all_front, all_back, all_each}
use Rattle.checked_laws.specs.Projects.{ProjectNames, AreConstantsOf, AreVariablesOf}
use Rattle.checked_laws.specs.Sound.{HasIdentifiers, HasCarriersAmong, IsSoundContext}
use Rattle.checked_laws.proofs.Names.{AllStand, AreNew, here_or, apart, missed, or_left, or_right, or_cases, same_name, neither_first, neither_second, distinct_front, distinct_between, stand_there, stand_sooner, within_all}
use Rattle.checked_laws.proofs.Parts.{all_map, all_unmap, all_two, map_append, zip_left, zip_firsts, filter_each, filter_all, filter_back, filter_none, any_append}

abbrev pub all_entries : Visible → Entries
all_entries v = entries v.constants ++ entries v.variables

pub record IsSoundView (project : ProjectNames) (v : Visible) : Type 0 where
  pub distinct : HasDistinctNames (all_entries v)
  pub types : AllByRecursion (λ x. IsTrue (is_value_type x.1)) (all_entries v)
  pub carriers : HasCarriersAmong (entries v.constants) (all_entries v)
  pub names : HasIdentifiers (all_entries v)
  pub constants : AreConstantsOf project v.constants
  pub variables : AreVariablesOf project v.variables
  pub axioms : AllByRecursion (λ x. IsPredicateIn (all_entries v) x.0.formula) v.axioms

-- the names of identifiers that pass a test are distinct, too
pub filter_keys : (p : WithOrigin (List ℕ × Ty) → Bool) (P : List ℕ → Type 0) (xs : Identifiers) → AllByRecursion P (keys_of (entries xs)) → AllByRecursion P (keys_of (entries (filter p xs)))
filter_keys p P [] h = tt
filter_keys p P (x ∷ xs) h = go (p x) (filter_keys p P xs h.1)
  where
    go : (b : Bool) → AllByRecursion P (keys_of (entries (filter p xs))) → AllByRecursion P (keys_of (entries (cond b (x ∷ filter p xs) (filter p xs))))
    go true k = (h.0, k)
    go false k = k

distinct_cond : (b : Bool) (x : WithOrigin (List ℕ × Ty)) (xs : Identifiers) → AllByRecursion (λ y. bytes_eq x.0.0 y ≡ false) (keys_of (entries xs)) → HasDistinctNames (entries xs)
    → HasDistinctNames (entries (cond b (x ∷ xs) xs))
unfolding IsDistinct
distinct_cond true x xs h d = (h, d)
distinct_cond false x xs h d = d

pub distinct_filter : (p : WithOrigin (List ℕ × Ty) → Bool) (xs : Identifiers) → HasDistinctNames (entries xs) → HasDistinctNames (entries (filter p xs))
unfolding IsDistinct
distinct_filter p [] d = tt
distinct_filter p (x ∷ xs) d = distinct_cond (p x) x (filter p xs) (filter_keys p (λ y. bytes_eq x.0.0 y ≡ false) xs d.0) (distinct_filter p xs d.1)

pub among_filter : {X : Type 0} → (p : WithOrigin X → Bool) (xs : List (WithOrigin X)) (o : List ℕ) → is_among (origins (filter p xs)) o ≡ true → is_among (origins xs) o ≡ true
among_filter p [] o e = e
among_filter p (x ∷ xs) o e = go (p x) (among_filter p xs o) e
  where
    go : (b : Bool) → (is_among (origins (filter p xs)) o ≡ true → is_among (origins xs) o ≡ true)
        → is_among (origins (cond b (x ∷ filter p xs) (filter p xs))) o ≡ true → (bytes_eq o x.1 || is_among (origins xs) o) ≡ true
    go true more h = elim (or_cases (bytes_eq o x.1) (is_among (origins (filter p xs)) o) h) [
      | inl k ↦ or_left (bytes_eq o x.1) (is_among (origins xs) o) k
      | inr k ↦ or_right (bytes_eq o x.1) (is_among (origins xs) o) (more k)
    ]
    go false more h = or_right (bytes_eq o x.1) (is_among (origins xs) o) (more h)

-- No clash.

and_not : (a b : Bool) → b ≡ false → (a && not b) ≡ false → a ≡ false
and_not a true e h = cc
and_not true false e h = h
and_not false b e h = refl

no_name : (ids : Identifiers) (x : WithOrigin (List ℕ × Ty)) → AllByRecursion (λ y. bytes_eq x.1 y.1 ≡ false) ids
    → list_any (λ y. bytes_eq x.0.0 y.0.0 && not (bytes_eq x.1 y.1)) ids ≡ false → type_in (entries ids) x.0.0 ≡ None
no_name [] x h e = refl
no_name (y ∷ ys) x h e =
    let here = and_not (bytes_eq x.0.0 y.0.0) (bytes_eq x.1 y.1) h.0 (neither_first (bytes_eq x.0.0 y.0.0 && not (bytes_eq x.1 y.1)) _ e) in
    missed (bytes_eq x.0.0 y.0.0) y.0.1 (type_in (entries ys) x.0.0) here
    ∙ no_name ys x h.1 (neither_second (bytes_eq x.0.0 y.0.0 && not (bytes_eq x.1 y.1)) _ e)

origins_differ : {X : Type 0} → (xs : List (WithOrigin X)) (o : List ℕ) → is_among (origins xs) o ≡ false → AllByRecursion (λ y. bytes_eq o y.1 ≡ false) xs
origins_differ [] o e = tt
origins_differ (x ∷ xs) o e = (neither_first (bytes_eq o x.1) (is_among (origins xs) o) e, origins_differ xs o (neither_second (bytes_eq o x.1) (is_among (origins xs) o) e))

kinds_differ : (project : ProjectNames) (o : List ℕ) → project.is_context o ≡ true → (y : WithOrigin (List ℕ × Ty)) → project.is_context y.1 ≡ false → bytes_eq o y.1 ≡ false
kinds_differ project o k y h = elim (here_or (bytes_eq o y.1)) [
  | inl b ↦ apart (project.is_context y.1) (ap project.is_context (sym (same_name o y.1 b)) ∙ k) h
  | inr b ↦ b
]

not_true : (b : Bool) → not b ≡ true → b ≡ false
not_true true e = sym e
not_true false e = refl

true_not : (b : Bool) → b ≡ false → not b ≡ true
true_not true e = sym e
true_not false e = refl

-- One context more.

module _ (project : ProjectNames) (v : Visible) (c : CheckedContext) (sound : IsSoundView project v) (good : IsSoundContext c) (own : AreConstantsOf project (of_context c))
    (clear : clashing (all_visible v) (of_context c) ≡ []) where
  abbrev is_new : WithOrigin (List ℕ × Ty) → Bool
  is_new x = not (is_among (origins v.constants) x.1)

  abbrev added : Identifiers
  added = filter is_new (of_context c)

  abbrev seen : Visible
  seen = with_context v c

  abbrev olds : Entries
  olds = all_entries v

  own_entries : entries (of_context c) ≡ c.env
  own_entries = zip_firsts c.env c.env_of good.origins

  constants_are : entries v.constants ++ entries added ≡ entries seen.constants
  constants_are = sym (map_append (λ x. x.0) v.constants added)

  seen_are : entries v.constants ++ entries added ++ entries v.variables ≡ all_entries seen
  seen_are = ap (λ es. es ++ entries v.variables) constants_are

  added_new : AreNew olds (keys_of (entries added))
  added_new = all_map (λ n. type_in olds n ≡ None) (λ e. e.0) (entries added) (all_map (λ e. type_in olds e.0 ≡ None) (λ x. x.0) added
      (filter_each is_new
      (λ x. (list_any (λ y. bytes_eq x.0.0 y.0.0 && not (bytes_eq x.1 y.1)) (all_visible v) ≡ false) × (project.is_context x.1 ≡ true))
      (λ x. type_in olds x.0.0 ≡ None)
      (of_context c)
      (λ x new k. ap (λ es. type_in es x.0.0) (sym (map_append (λ y. y.0) v.constants v.variables))
      ∙ no_name (all_visible v) x
      (all_append (λ y. bytes_eq x.1 y.1 ≡ false) v.constants v.variables
      (origins_differ v.constants x.1 (not_true (is_among (origins v.constants) x.1) new))
      (all_each (λ y. project.is_context y.1 ≡ false) (λ y. bytes_eq x.1 y.1 ≡ false) v.variables (λ y h. kinds_differ project x.1 k.1 y h) sound.variables.1))
      k.0)
      (all_two (λ x. list_any (λ y. bytes_eq x.0.0 y.0.0 && not (bytes_eq x.1 y.1)) (all_visible v) ≡ false) (λ x. project.is_context x.1 ≡ true) (λ x. (list_any (λ y. bytes_eq x.0.0 y.0.0 && not (bytes_eq x.1 y.1)) (all_visible v) ≡ false) × (project.is_context x.1 ≡ true))
      (of_context c) (λ x h k. (h, k))
      (filter_none (λ x. list_any (λ y. bytes_eq x.0.0 y.0.0 && not (bytes_eq x.1 y.1)) (all_visible v)) (of_context c) clear) own.1)))

  distinct_row : HasDistinctNames (entries v.constants ++ entries added ++ entries v.variables)
  distinct_row = distinct_between (entries v.constants) (entries added) (entries v.variables) sound.distinct
      (distinct_filter is_new (of_context c) (subst HasDistinctNames (sym own_entries) good.env.names)) added_new

  distinct_seen : HasDistinctNames (all_entries seen)
  distinct_seen = subst HasDistinctNames seen_are distinct_row

  distinct_constants : HasDistinctNames (entries seen.constants)
  distinct_constants = distinct_front (entries seen.constants) (entries v.variables) distinct_seen

  -- what holds of the old entries and of the new ones
  over_added : (P : List ℕ × Ty → Type 0) → AllByRecursion P c.env → AllByRecursion P (entries added)
  over_added P h = all_map P (λ x. x.0) added (filter_all is_new (λ x. P x.0) (of_context c) (all_unmap P (λ x. x.0) (of_context c) (subst (AllByRecursion P) (sym own_entries) h)))

  over_seen : (P : List ℕ × Ty → Type 0) → AllByRecursion P olds → AllByRecursion P c.env → AllByRecursion P (all_entries seen)
  over_seen P h k = subst (AllByRecursion P) seen_are
      (all_append P (entries v.constants ++ entries added) (entries v.variables)
      (all_append P (entries v.constants) (entries added) (all_front P (entries v.constants) (entries v.variables) h) (over_added P k))
      (all_back P (entries v.constants) (entries v.variables) h))

  row_stands : AllStand (all_entries seen) (entries v.constants ++ entries added ++ entries v.variables)
  row_stands = subst (AllStand (all_entries seen)) (sym seen_are) (stand_there (all_entries seen) distinct_seen)

  olds_stand : AllStand (all_entries seen) olds
  olds_stand = all_append (Stands (all_entries seen)) (entries v.constants) (entries v.variables)
      (all_front (Stands (all_entries seen)) (entries v.constants) (entries added)
      (all_front (Stands (all_entries seen)) (entries v.constants ++ entries added) (entries v.variables) row_stands))
      (all_back (Stands (all_entries seen)) (entries v.constants ++ entries added) (entries v.variables) row_stands)

  pub olds_within : IsWithin olds (all_entries seen)
  olds_within = within_all (all_entries seen) olds olds_stand

  constants_row : AllStand (entries seen.constants) (entries v.constants ++ entries added)
  constants_row = subst (AllStand (entries seen.constants)) (sym constants_are) (stand_there (entries seen.constants) distinct_constants)

  pub constants_within : IsWithin (entries v.constants) (entries seen.constants)
  constants_within = within_all (entries seen.constants) (entries v.constants) (all_front (Stands (entries seen.constants)) (entries v.constants) (entries added) constants_row)

  here_stands : (x : WithOrigin (List ℕ × Ty)) → project.declared x.1 x.0.0 ≡ Some x.0.1 → (is_new x ≡ true → Stands (entries seen.constants) x.0) → Stands (entries seen.constants) x.0
  here_stands x types new = elim (here_or (is_among (origins v.constants) x.1)) [
    | inl b ↦ constants_within x.0 (sound.constants.0.whole x.1 x.0.0 x.0.1 b types)
    | inr b ↦ new (true_not (is_among (origins v.constants) x.1) b)
  ]

  -- all of the context stands there
  context_stands : AllStand (entries seen.constants) c.env
  context_stands = subst (AllStand (entries seen.constants)) own_entries
      (all_map (Stands (entries seen.constants)) (λ x. x.0) (of_context c)
      (all_two (λ x. project.declared x.1 x.0.0 ≡ Some x.0.1) (λ x. is_new x ≡ true → Stands (entries seen.constants) x.0) (λ x. Stands (entries seen.constants) x.0) (of_context c)
      here_stands own.0.types
      (filter_back is_new (λ x. Stands (entries seen.constants) x.0) (of_context c)
      (all_unmap (Stands (entries seen.constants)) (λ x. x.0) added (all_back (Stands (entries seen.constants)) (entries v.constants) (entries added) constants_row)))))

  context_within : IsWithin c.env (entries seen.constants)
  context_within = within_all (entries seen.constants) c.env context_stands

  context_within_all : IsWithin c.env (all_entries seen)
  context_within_all = within_all (all_entries seen) c.env (stand_sooner (entries seen.constants) (entries v.variables) c.env context_stands)

  more_stand : (env larger : Entries) → IsWithin env larger → (xs : Entries) → AllStand env xs → AllStand larger xs
  more_stand env larger w xs h = all_each (Stands env) (Stands larger) xs w h

  whole_seen : (component name : List ℕ) (t : Ty) → is_among (origins seen.constants) component ≡ true → project.declared component name ≡ Some t → Stands (entries seen.constants) (name, t)
  whole_seen component name t among is =
      elim (any_append (bytes_eq component) (origins v.constants) (origins added) (subst (λ os. is_among os component ≡ true) (map_append (λ x. x.1) v.constants added) among)) [
        | inl h ↦ constants_within (name, t) (sound.constants.0.whole component name t h is)
        | inr h ↦ context_within (name, t) (subst (λ es. Stands es (name, t)) own_entries (own.0.whole component name t (among_filter is_new (of_context c) component h) is))
      ]

  pub seen_sound : IsSoundView project seen
  seen_sound = record {
    distinct = distinct_seen;
    types = over_seen (λ x. IsTrue (is_value_type x.1)) sound.types good.env.types;
    carriers = over_seen (λ x. AllStand (entries seen.constants) (carriers x.1))
        (all_each (λ x. AllStand (entries v.constants) (carriers x.1)) (λ x. AllStand (entries seen.constants) (carriers x.1)) olds
        (λ x h. more_stand (entries v.constants) (entries seen.constants) constants_within (carriers x.1) h) sound.carriers)
        (all_each (λ x. AllStand c.env (carriers x.1)) (λ x. AllStand (entries seen.constants) (carriers x.1)) c.env
        (λ x h. more_stand c.env (entries seen.constants) context_within (carriers x.1) h) good.env.carriers);
    names = over_seen (λ x. IsTrue (is_identifier x.0)) sound.names good.names;
    constants = (
      record {
        types = all_append (λ x. project.declared x.1 x.0.0 ≡ Some x.0.1) v.constants added sound.constants.0.types
            (filter_all is_new (λ x. project.declared x.1 x.0.0 ≡ Some x.0.1) (of_context c) own.0.types);
        whole = whole_seen;
      },
      all_append (λ x. project.is_context x.1 ≡ true) v.constants added sound.constants.1 (filter_all is_new (λ x. project.is_context x.1 ≡ true) (of_context c) own.1),
    );
    variables = sound.variables;
    axioms = all_append (λ x. IsPredicateIn (all_entries seen) x.0.formula) v.axioms _
        (all_each (λ x. IsPredicateIn olds x.0.formula) (λ x. IsPredicateIn (all_entries seen) x.0.formula) v.axioms
        (λ x h. predicate_more olds (all_entries seen) olds_within x.0.formula h) sound.axioms)
        (filter_all (λ x. not (is_among (origins v.axioms) x.1)) (λ x. IsPredicateIn (all_entries seen) x.0.formula) (zip c.axioms c.axioms_of)
        (zip_left (λ l. IsPredicateIn (all_entries seen) l.formula) c.axioms c.axioms_of
        (all_each (λ l. IsPredicateIn c.env l.formula) (λ l. IsPredicateIn (all_entries seen) l.formula) c.axioms
        (λ l h. predicate_more c.env (all_entries seen) context_within_all l.formula h) good.axioms)));
  }
