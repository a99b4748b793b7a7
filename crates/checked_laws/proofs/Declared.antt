-- Names that a component declares: once, new, and as the project has them.
use Rattle.std.proofs.Common.{◌≡◌, ◌∙◌, inl, inr, sym, ap, subst, refl, ℕ, Bool, true, false, cond, ◌||◌, List, [], ◌∷◌, ◌++◌, map, Option, Some, None, bytes_eq, is_some}
use Rattle.std.specs.List.{AllByRecursion, IsDistinct, filter, zip}
use Rattle.std.specs.Map.{keys_of}
use Rattle.formula_core.specs.declared.raw.Ref.{Ref}
use Rattle.formula_core.specs.declared.ty.Ty.{Ty}
use Rattle.formula_core.specs.Env.{HasDistinctNames, type_in}
use Rattle.formula_core.specs.Laws.{IsWithin}
use Rattle.formula_core.specs.Typed.{Stands}
use Rattle.type_formula.proofs.Named.{all_append, all_back, all_each, sooner}
use Rattle.model_core.specs.declared.fault.Fault.{Fault}
use Rattle.model_core.specs.declared.fault.FaultKind.TheVariants as kind
use Rattle.model_core.specs.Faults.{fault_at}
use Rattle.model_core.specs.Each.{at_each, is_among}
use Rattle.check_rules.specs.Contexts.{names_of}
use Rattle.check_rules.specs.Declarations.{declared_twice}
use Rattle.check_rules.specs.Typed.{Entries, never_typed_row, never_typed, in_order}
use Rattle.check_rules.specs.Visible.{WithOrigin, Identifiers, entries, origins}
use Rattle.checked_laws.specs.Projects.{ProjectNames, AreOf, DeclaresIn}
use Rattle.checked_laws.specs.Sound.{IsNamedIn}
use Rattle.checked_laws.proofs.Names.{AreNew, same_name, name_turned, name_is, neither_first, neither_second, lacks_back, not_among, distinct_append, new_turned, stand_there, within_all}
use Rattle.checked_laws.proofs.Parts.{all_map, all_unmap, all_two, map_append, filter_all, filter_back, first_none, second_none, any_append}
use Rattle.checked_laws.proofs.Typing.{in_order_keys}
use Rattle.checked_laws.proofs.Views.{distinct_filter}

pub kept_none : {X : Type 0} → (b : Bool) (x : X) → cond b (x ∷ []) [] ≡ [] → b ≡ false
kept_none true x e = let no : ⊥ = cc in absurd no
kept_none false x e = refl

pub dropped_none : {X : Type 0} → (b : Bool) (x : X) → cond b [] (x ∷ []) ≡ [] → b ≡ true
dropped_none true x e = refl
dropped_none false x e = let no : ⊥ = cc in absurd no

pub none_left : (ns ms : List (List ℕ)) (n : List ℕ) → is_among (ns ++ ms) n ≡ false → is_among ns n ≡ false
none_left [] ms n e = refl
none_left (m ∷ ns) ms n e = go (bytes_eq n m) (none_left ns ms n) e
  where
    go : (b : Bool) → (is_among (ns ++ ms) n ≡ false → is_among ns n ≡ false) → (b || is_among (ns ++ ms) n) ≡ false → (b || is_among ns n) ≡ false
    go true more h = h
    go false more h = more h

pub none_right : (ns ms : List (List ℕ)) (n : List ℕ) → is_among (ns ++ ms) n ≡ false → is_among ms n ≡ false
none_right [] ms n e = e
none_right (m ∷ ns) ms n e = none_right ns ms n (neither_second (bytes_eq n m) (is_among (ns ++ ms) n) e)

-- none of these names is among those
abbrev pub AreOther : List (List ℕ) → List (List ℕ) → Type 0
AreOther known names = AllByRecursion (λ n. is_among known n ≡ false) names

abbrev names_before : List Ref → List (List ℕ)
names_before before = map (λ b. b.name) before

pub record DeclaredOnce (known : List (List ℕ)) (names : List (List ℕ)) : Type 0 where
  pub other : AreOther known names
  pub distinct : IsDistinct bytes_eq names

-- where a name has a fault that is known, or stands before it
abbrev pub twice_row : (Ref → Fault) → List (List ℕ) → List Ref → Ref → List Fault
twice_row fault known before r = cond (is_among known r.name || is_among (names_before before) r.name) (fault r ∷ []) []

once_at : (fault : Ref → Fault) (known : List (List ℕ)) (before refs : List Ref) → at_each (twice_row fault known) before refs ≡ []
    → AreOther known (names_of refs) × AreOther (names_before before) (names_of refs) × IsDistinct bytes_eq (names_of refs)
unfolding IsDistinct
once_at fault known before [] e = (tt, tt, tt)
once_at fault known before (r ∷ refs) e =
    let here = kept_none (is_among known r.name || is_among (names_before before) r.name) _ (first_none (twice_row fault known before r) _ e) in
    let more = once_at fault known (before ++ r ∷ []) refs (second_none (twice_row fault known before r) _ e) in
    let others : AreOther (names_before before ++ r.name ∷ []) (names_of refs) = subst (λ ns. AreOther ns (names_of refs)) (map_append (λ b. b.name) before (r ∷ [])) more.1 in (
      (neither_first (is_among known r.name) (is_among (names_before before) r.name) here, more.0),
      (
        neither_second (is_among known r.name) (is_among (names_before before) r.name) here,
        all_each (λ n. is_among (names_before before ++ r.name ∷ []) n ≡ false) (λ n. is_among (names_before before) n ≡ false) (names_of refs)
            (λ n h. none_left (names_before before) (r.name ∷ []) n h) others,
      ),
      (
        all_each (λ n. is_among (names_before before ++ r.name ∷ []) n ≡ false) (λ n. bytes_eq r.name n ≡ false) (names_of refs)
            (λ n h. name_turned n r.name false (neither_first (bytes_eq n r.name) false (none_right (names_before before) (r.name ∷ []) n h))) others,
        more.2,
      ),
    )

pub once_in : (fault : Ref → Fault) (known : List (List ℕ)) (refs : List Ref) → at_each (twice_row fault known) [] refs ≡ [] → DeclaredOnce known (names_of refs)
once_in fault known refs e = let h = once_at fault known [] refs e in record { other = h.0; distinct = h.2 }

pub declared_once : (component : List ℕ) (known : List (List ℕ)) (refs : List Ref) → declared_twice component known refs ≡ [] → DeclaredOnce known (names_of refs)
declared_once component known refs e = once_in (λ r. fault_at component kind.DeclaredTwice r.place r.name) known refs e

-- names that are not among those of an environment are new there
pub not_named : (env : Entries) (ns : List (List ℕ)) → AreOther (keys_of env) ns → AreNew env ns
not_named env ns h = all_each (λ n. is_among (keys_of env) n ≡ false) (λ n. type_in env n ≡ None) ns (λ n e. lacks_back env n (not_among (keys_of env) n e)) h

named_by : (last : Entries) (n : List ℕ) (o : Option Ty) → type_in last n ≡ o → is_some o ≡ true → IsNamedIn last n
named_by last n None e h = cc
named_by last n (Some t) e h = (t, e)

named_at : (component : List ℕ) (last : Entries) (before refs : List Ref) → at_each (never_typed_row component last) before refs ≡ [] → AllByRecursion (IsNamedIn last) (names_of refs)
named_at component last before [] e = tt
named_at component last before (r ∷ refs) e = (
  named_by last r.name (type_in last r.name) refl (dropped_none (is_some (type_in last r.name)) _ (first_none (never_typed_row component last before r) _ e)),
  named_at component last (before ++ r ∷ []) refs (second_none (never_typed_row component last before r) _ e),
)

-- each declared name is typed
pub all_named : (component : List ℕ) (last : Entries) (refs : List Ref) → never_typed component last refs ≡ [] → AllByRecursion (IsNamedIn last) (names_of refs)
all_named component last refs e = named_at component last [] refs e

-- old names and declared ones
pub declared_distinct : (old last : Entries) (declared : List (List ℕ)) → HasDistinctNames old → IsDistinct bytes_eq declared → AreNew old declared → AllByRecursion (IsNamedIn last) declared
    → HasDistinctNames (old ++ in_order last declared)
declared_distinct old last declared d e n named =
    let keys = in_order_keys last declared named in
    let own = in_order last declared in
    distinct_append old own d (subst (IsDistinct bytes_eq) (sym keys) e) (new_turned own old (subst (AreNew old) (sym keys) n))

-- Identifiers with their components.

pub zip_row : (xs : Identifiers) (ys : Entries) (os : List (List ℕ)) → zip (entries xs ++ ys) (origins xs ++ os) ≡ xs ++ zip ys os
zip_row [] ys os = refl
zip_row (x ∷ xs) ys os = ap (λ zs. x ∷ zs) (zip_row xs ys os)

pub all_one : {X : Type 0} → (component : List ℕ) (ys : Entries) (xs : List X) → AllByRecursion (λ z. z.1 ≡ component) (zip ys (map (λ x. component) xs))
all_one component [] xs = tt
all_one component (y ∷ ys) [] = tt
all_one component (y ∷ ys) (x ∷ xs) = (refl, all_one component ys xs)

one_origin : (component o : List ℕ) (xs : Identifiers) → AllByRecursion (λ x. x.1 ≡ component) xs → is_among (origins xs) o ≡ true → o ≡ component
one_origin component o [] h e = cc
one_origin component o (x ∷ xs) h e = go (bytes_eq o x.1) refl (one_origin component o xs h.1) e
  where
    go : (b : Bool) → bytes_eq o x.1 ≡ b → (is_among (origins xs) o ≡ true → o ≡ component) → (b || is_among (origins xs) o) ≡ true → o ≡ component
    go true is more k = same_name o x.1 is ∙ h.0
    go false is more k = more k

module _ (project : ProjectNames) (component : List ℕ) (old own : Identifiers) (of : AreOf project old) (here : AllByRecursion (λ x. x.1 ≡ component) own)
    (distinct : HasDistinctNames (entries (old ++ own))) (declares : DeclaresIn project component (old ++ own)) where
  abbrev all : Identifiers
  all = old ++ own

  abbrev is_here : WithOrigin (List ℕ × Ty) → Bool
  is_here x = bytes_eq component x.1

  abbrev mine : Entries
  mine = entries (filter is_here all)

  mine_stand : AllByRecursion (λ x. is_here x ≡ true → Stands mine x.0) all
  mine_stand = filter_back is_here (λ x. Stands mine x.0) all
      (all_unmap (Stands mine) (λ x. x.0) (filter is_here all) (stand_there mine (distinct_filter is_here all distinct)))

  own_declared : (x : WithOrigin (List ℕ × Ty)) → x.1 ≡ component → (is_here x ≡ true → Stands mine x.0) → project.declared x.1 x.0.0 ≡ Some x.0.1
  own_declared x is stands = ap (λ o. project.declared o x.0.0) is ∙ declares x.0.0 ∙ stands (ap (bytes_eq component) is ∙ name_is component)

  all_within : IsWithin mine (entries all)
  all_within = within_all (entries all) mine
      (all_map (Stands (entries all)) (λ x. x.0) (filter is_here all)
      (filter_all is_here (λ x. Stands (entries all) x.0) all (all_unmap (Stands (entries all)) (λ x. x.0) all (stand_there (entries all) distinct))))

  whole_all : (o name : List ℕ) (t : Ty) → is_among (origins all) o ≡ true → project.declared o name ≡ Some t → Stands (entries all) (name, t)
  whole_all o name t among is =
      elim (any_append (bytes_eq o) (origins old) (origins own) (subst (λ os. is_among os o ≡ true) (map_append (λ x. x.1) old own) among)) [
        | inl h ↦ subst (λ es. Stands es (name, t)) (sym (map_append (λ x. x.0) old own)) (sooner (entries old) (entries own) name t (of.whole o name t h is))
        | inr h ↦ all_within (name, t) (sym (declares name) ∙ ap (λ c. project.declared c name) (sym (one_origin component o own here h)) ∙ is)
      ]

  pub declared_of : AreOf project all
  declared_of = record {
    types = all_append (λ x. project.declared x.1 x.0.0 ≡ Some x.0.1) old own of.types
        (all_two (λ x. x.1 ≡ component) (λ x. is_here x ≡ true → Stands mine x.0) (λ x. project.declared x.1 x.0.0 ≡ Some x.0.1) own own_declared here
        (all_back (λ x. is_here x ≡ true → Stands mine x.0) old own mine_stand));
    whole = whole_all;
  }
