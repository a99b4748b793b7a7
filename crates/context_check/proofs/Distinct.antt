-- Where nothing is declared twice, no two names are equal.
use Rattle.std.proofs.Common.{◌≡◌, ◌∙◌, sym, ap, subst, refl, ℕ, Bool, true, false, not, cond, ◌&&◌, ◌||◌, List, [], ◌∷◌, ◌++◌, map, filter, append_assoc, bytes_eq, is_some}
use Rattle.std.specs.Prelude.{Option, Some, None, if◌then◌else◌}
use Rattle.std.specs.List.{AllByRecursion, IsDistinct, list_any, cons_option, zip}
use Rattle.std.specs.Option.{option_map}
use Rattle.std.proofs.lemmas.Cmp.{nat_list_eq_equiv}
use Rattle.std.proofs.lemmas.List.{map-append}
use Rattle.std.proofs.lemmas.Map.Keys.{IsDistinct-push}
use Rattle.formula_core.specs.declared.raw.Ref.{Ref}
use Rattle.formula_core.specs.declared.ty.Ty.{Ty}
use Rattle.formula_core.specs.Env.{HasDistinctNames, type_in}
use Rattle.model_core.specs.declared.fault.Fault.{Fault}
use Rattle.model_core.specs.declared.checked.CheckedContext.{CheckedContext}
use Rattle.model_core.specs.Each.{at_each, is_among}
use Rattle.model_core.specs.Faults.{comes_before, earlier, first_by_place}
use Rattle.model_core.proofs.Lists.{any_append}
use Rattle.check_rules.specs.Contexts.{carrier_set, names_of}
use Rattle.check_rules.specs.Declarations.{declared_twice, declared_twice_row}
use Rattle.check_rules.specs.Typed.{Entries, in_order}
use Rattle.check_rules.specs.Visible.{Identifiers, Visible, clashing, entries, all_visible, names, nothing, of_context, origins, with_context}
use Rattle.context_check.specs.Private.{AreDeclaredOnce}
use Rattle.context_check.proofs.Clashes.{told}
use Rattle.context_check.proofs.Copied.{map_map}
use Rattle.context_check.proofs.Views.{append_none}

-- no text of the second list stands in the first
abbrev Apart : List (List ℕ) → List (List ℕ) → Type 0
Apart xs ys = AllByRecursion (λ y. is_among xs y ≡ false) ys

none_of_three : (a b : Bool) → a ≡ false → b ≡ false → (a || (b || false)) ≡ false
none_of_three true b e f = e
none_of_three false true e f = f
none_of_three false false e f = refl

apart_more : (xs : List (List ℕ)) (y : List ℕ) (ys : List (List ℕ)) → Apart xs ys → AllByRecursion (λ z. bytes_eq y z ≡ false) ys → Apart (xs ++ y ∷ []) ys
apart_more xs y [] a e = tt
apart_more xs y (z ∷ ys) a e = (
  any_append (bytes_eq z) xs (y ∷ []) ∙ none_of_three (is_among xs z) (bytes_eq z y) a.0 (nat_list_eq_equiv.symm z y ∙ e.0),
  apart_more xs y ys a.1 e.1,
)

both_distinct : (xs ys : List (List ℕ)) → IsDistinct bytes_eq xs → IsDistinct bytes_eq ys → Apart xs ys → IsDistinct bytes_eq (xs ++ ys)
unfolding IsDistinct
both_distinct xs [] d e a = subst (IsDistinct bytes_eq) (append_none xs) d
both_distinct xs (y ∷ ys) d e a =
    subst (IsDistinct bytes_eq) (append_assoc xs (y ∷ []) ys)
    (both_distinct (xs ++ y ∷ []) ys (IsDistinct-push nat_list_eq_equiv xs y d a.0) e.1 (apart_more xs y ys a.1 e.0))

all_first : (P : List ℕ → Type 0) (xs ys : List (List ℕ)) → AllByRecursion P (xs ++ ys) → AllByRecursion P xs
all_first P [] ys a = tt
all_first P (x ∷ xs) ys a = (a.0, all_first P xs ys a.1)

first_distinct : (xs ys : List (List ℕ)) → IsDistinct bytes_eq (xs ++ ys) → IsDistinct bytes_eq xs
unfolding IsDistinct
first_distinct [] ys d = tt
first_distinct (x ∷ xs) ys d = (all_first (λ y. bytes_eq x y ≡ false) xs ys d.0, first_distinct xs ys d.1)

-- a filter keeps texts apart
module _ {X : Type 0} (f : X → List ℕ) (p : X → Bool) where
  all_kept : (P : List ℕ → Type 0) (ys : List X) → AllByRecursion P (map f ys) → AllByRecursion P (map f (filter p ys))
  all_kept P [] a = tt
  all_kept P (y ∷ ys) a = by (p y) (all_kept P ys a.1)
    where
      by : (b : Bool) → AllByRecursion P (map f (filter p ys)) → AllByRecursion P (map f (cond b (y ∷ filter p ys) (filter p ys)))
      by true rest = (a.0, rest)
      by false rest = rest

  all_kept_behind : (P : List ℕ → Type 0) (xs : List (List ℕ)) (ys : List X) → AllByRecursion P (xs ++ map f ys) → AllByRecursion P (xs ++ map f (filter p ys))
  all_kept_behind P [] ys a = all_kept P ys a
  all_kept_behind P (x ∷ xs) ys a = (a.0, all_kept_behind P xs ys a.1)

  distinct_cond : (b : Bool) (y : X) (ys : List X) → AllByRecursion (λ z. bytes_eq (f y) z ≡ false) (map f ys) → IsDistinct bytes_eq (map f ys) → IsDistinct bytes_eq (map f (cond b (y ∷ ys) ys))
  unfolding IsDistinct
  distinct_cond true y ys a d = (a, d)
  distinct_cond false y ys a d = d

  kept_distinct : (ys : List X) → IsDistinct bytes_eq (map f ys) → IsDistinct bytes_eq (map f (filter p ys))
  unfolding IsDistinct
  kept_distinct [] d = tt
  kept_distinct (y ∷ ys) d = distinct_cond (p y) y (filter p ys) (all_kept (λ z. bytes_eq (f y) z ≡ false) ys d.0) (kept_distinct ys d.1)

  kept_behind : (xs : List (List ℕ)) (ys : List X) → IsDistinct bytes_eq (xs ++ map f ys) → IsDistinct bytes_eq (xs ++ map f (filter p ys))
  unfolding IsDistinct
  kept_behind [] ys d = kept_distinct ys d
  kept_behind (x ∷ xs) ys d = (all_kept_behind (λ y. bytes_eq x y ≡ false) xs ys d.0, kept_behind xs ys d.1)

-- of entries beside components
all_zipped : (P : List ℕ → Type 0) (es : Entries) (os : List (List ℕ)) → AllByRecursion P (names es) → AllByRecursion P (map (λ x. x.0.0) (zip es os))
all_zipped P [] os a = tt
all_zipped P (e ∷ es) [] a = tt
all_zipped P (e ∷ es) (o ∷ os) a = (a.0, all_zipped P es os a.1)

zipped_distinct : (es : Entries) (os : List (List ℕ)) → IsDistinct bytes_eq (names es) → IsDistinct bytes_eq (map (λ x. x.0.0) (zip es os))
unfolding IsDistinct
zipped_distinct [] os d = tt
zipped_distinct (e ∷ es) [] d = tt
zipped_distinct (e ∷ es) (o ∷ os) d = (all_zipped (λ y. bytes_eq e.0 y ≡ false) es os d.0, zipped_distinct es os d.1)

-- the name stands in another component
abbrev elsewhere : (List ℕ × Ty) × List ℕ → (List ℕ × Ty) × List ℕ → Bool
elsewhere x y = bytes_eq x.0.0 y.0.0 && not (bytes_eq x.1 y.1)

true_false : {A : Type 0} → true ≡ false → A
true_false e = absurd (unequal e)
  where
    unequal : true ≡ false → ⊥
    unequal h = cc

one_apart : (old : Identifiers) (x : (List ℕ × Ty) × List ℕ) → list_any (elsewhere x) old ≡ false → is_among (origins old) x.1 ≡ false → is_among (map (λ y. y.0.0) old) x.0.0 ≡ false
one_apart [] x e f = refl
one_apart (y ∷ old) x e f =
    at (bytes_eq x.0.0 y.0.0) (bytes_eq x.1 y.1) (list_any (elsewhere x) old) (is_among (origins old) x.1) (is_among (map (λ z. z.0.0) old) x.0.0) (one_apart old x) e f
  where
    at : (a b r s t : Bool) → (r ≡ false → s ≡ false → t ≡ false) → ((a && not b) || r) ≡ false → (b || s) ≡ false → (a || t) ≡ false
    at a true r s t h e f = true_false f
    at true false r s t h e f = true_false e
    at false false r s t h e f = h e f

or_first : (a b : Bool) → (a || b) ≡ false → a ≡ false
or_first true b e = e
or_first false b e = refl

none_passes : {X : Type 0} (p : X → Bool) (xs : List X) → filter p xs ≡ [] → AllByRecursion (λ x. p x ≡ false) xs
none_passes p [] e = tt
none_passes p (x ∷ xs) e = by (none_passes p xs) (p x) refl e
  where
    by : (filter p xs ≡ [] → AllByRecursion (λ y. p y ≡ false) xs) → (b : Bool) → p x ≡ b → cond b (x ∷ filter p xs) (filter p xs) ≡ [] →
        (p x ≡ false) × AllByRecursion (λ y. p y ≡ false) xs
    by rest true is f = absurd (not_empty f)
      where
        not_empty : x ∷ filter p xs ≡ [] → ⊥
        not_empty g = cc
    by rest false is f = (is, rest f)

fresh_apart : (old variables more : Identifiers) → AllByRecursion (λ x. list_any (elsewhere x) (old ++ variables) ≡ false) more →
    Apart (map (λ y. y.0.0) old) (map (λ y. y.0.0) (filter (λ x. not (is_among (origins old) x.1)) more))
fresh_apart old variables [] a = tt
fresh_apart old variables (x ∷ more) a = by (is_among (origins old) x.1) refl (fresh_apart old variables more a.1)
  where
    fresh : Identifiers
    fresh = filter (λ z. not (is_among (origins old) z.1)) more

    by : (b : Bool) → is_among (origins old) x.1 ≡ b → Apart (map (λ y. y.0.0) old) (map (λ y. y.0.0) fresh) →
        Apart (map (λ y. y.0.0) old) (map (λ y. y.0.0) (cond (not b) (x ∷ fresh) fresh))
    by true is rest = rest
    by false is rest =
        (one_apart old x (or_first (list_any (elsewhere x) old) (list_any (elsewhere x) variables) (sym (any_append (elsewhere x) old variables) ∙ a.0)) is, rest)

with_context_distinct : (v : Visible) (c : CheckedContext) → HasDistinctNames c.env → HasDistinctNames (entries v.constants) →
    clashing (all_visible v) (of_context c) ≡ [] → HasDistinctNames (entries (with_context v c).constants)
with_context_distinct v c d old none =
    subst (IsDistinct bytes_eq) (sym (map-append (λ x. x.0.0) v.constants fresh) ∙ map_map (λ e. e.0) (λ x. x.0) (v.constants ++ fresh))
    (both_distinct (map (λ x. x.0.0) v.constants) (map (λ x. x.0.0) fresh)
    (subst (IsDistinct bytes_eq) (sym (map_map (λ e. e.0) (λ x. x.0) v.constants)) old)
    (kept_distinct (λ x. x.0.0) (λ x. not (is_among (origins v.constants) x.1)) (of_context c) (zipped_distinct c.env c.env_of d))
    (fresh_apart v.constants v.variables (of_context c) (none_passes (λ x. list_any (elsewhere x) (all_visible v)) (of_context c) none)))
  where
    fresh : Identifiers
    fresh = filter (λ x. not (is_among (origins v.constants) x.1)) (of_context c)

-- where none is the first, there is none
some_earlier : (f : Fault) (o : Option Fault) → earlier (Some f) o ≡ None → ⊥
some_earlier f None e = cc
some_earlier f (Some g) e = at (comes_before g f) e
  where
    at : (b : Bool) → cond b (Some g) (Some f) ≡ None → ⊥
    at true h = cc
    at false h = cc

no_first : (faults : List Fault) → first_by_place faults ≡ None → faults ≡ []
no_first [] e = refl
no_first (f ∷ faults) e = absurd (some_earlier f (first_by_place faults) e)

none_of_two : (first second : Option Fault) → earlier first second ≡ None → (first ≡ None) × (second ≡ None)
none_of_two None second e = (refl, e)
none_of_two (Some f) second e = absurd (some_earlier f second e)

none_mapped : {X Y : Type 0} (f : X → Y) (xs : List X) → map f xs ≡ [] → xs ≡ []
none_mapped f [] e = refl
none_mapped f (x ∷ xs) e = absurd (not_empty e)
  where
    not_empty : f x ∷ map f xs ≡ [] → ⊥
    not_empty g = cc

pub distinct_more : (component : List ℕ) (place : ℕ) (v n : Visible) (c : CheckedContext) (first here : Option Fault) →
    here ≡ first_by_place (map (λ x. told component place x.0.0) (clashing (all_visible v) (of_context c))) → n ≡ with_context v c → HasDistinctNames c.env →
    (first ≡ None → HasDistinctNames (entries v.constants)) → earlier first here ≡ None → HasDistinctNames (entries n.constants)
distinct_more component place v n c first here h e d so none =
    let both = none_of_two first here none in
    subst (λ u. HasDistinctNames (entries u.constants)) (sym e)
    (with_context_distinct v c d (so both.0)
    (none_mapped (λ x. told component place x.0.0) (clashing (all_visible v) (of_context c)) (no_first (map (λ x. told component place x.0.0) (clashing (all_visible v) (of_context c))) (sym h ∙ both.1))))

none_there : (xs ys : List Fault) → xs ++ ys ≡ [] → (xs ≡ []) × (ys ≡ [])
none_there [] ys e = (refl, e)
none_there (x ∷ xs) ys e = absurd (not_empty e)
  where
    not_empty : x ∷ (xs ++ ys) ≡ [] → ⊥
    not_empty g = cc

not_told : (b : Bool) (f : Fault) → (if b then f ∷ [] else []) ≡ [] → b ≡ false
not_told true f e = absurd (not_empty e)
  where
    not_empty : f ∷ [] ≡ [] → ⊥
    not_empty g = cc
not_told false f e = refl

module _ (component : List ℕ) (known : List (List ℕ)) where
  declared_distinct : (before refs : List Ref) → IsDistinct bytes_eq (known ++ names_of before) → at_each (declared_twice_row component known) before refs ≡ [] →
      IsDistinct bytes_eq (known ++ names_of (before ++ refs))
  declared_distinct before [] d e = subst (λ rs. IsDistinct bytes_eq (known ++ names_of rs)) (append_none before) d
  declared_distinct before (r ∷ refs) d e =
      let none = none_there (declared_twice_row component known before r) (at_each (declared_twice_row component known) (before ++ r ∷ []) refs) e in
      let absent = any_append (bytes_eq r.name) known (names_of before) ∙ not_told (is_among known r.name || is_among (names_of before) r.name) _ none.0 in
      subst (λ rs. IsDistinct bytes_eq (known ++ names_of rs)) (append_assoc before (r ∷ []) refs)
      (declared_distinct (before ++ r ∷ []) refs
      (subst (IsDistinct bytes_eq) (append_assoc known (names_of before) (r.name ∷ []) ∙ ap (λ ns. known ++ ns) (sym (map-append (λ q. q.name) before (r ∷ []))))
      (IsDistinct-push nat_list_eq_equiv (known ++ names_of before) r.name d absent))
      none.1)

pub nothing_distinct : (v : Visible) → v ≡ nothing → HasDistinctNames (entries v.constants)
unfolding IsDistinct
nothing_distinct v e = subst (λ u. HasDistinctNames (entries u.constants)) (sym e) tt

pub all_distinct : (component : List ℕ) (v : Visible) (declared : List Ref) (clash twice label : Option Fault) → (clash ≡ None → HasDistinctNames (entries v.constants)) →
    twice ≡ first_by_place (declared_twice component (names (entries v.constants)) declared) → earlier (earlier clash twice) label ≡ None → AreDeclaredOnce v declared
all_distinct component v declared clash twice label seen t none =
    let known = names (entries v.constants) in
    let both = none_of_two clash twice (none_of_two (earlier clash twice) label none).0 in
    declared_distinct component known [] declared (subst (IsDistinct bytes_eq) (append_none known) (seen both.0)) (no_first (declared_twice component known declared) (sym t ∙ both.1))

pub sets_distinct : (known : List (List ℕ)) (sets constants : List Ref) → IsDistinct bytes_eq (known ++ names_of (sets ++ constants)) → IsDistinct bytes_eq (known ++ names_of sets)
sets_distinct known sets constants d =
    first_distinct (known ++ names_of sets) (names_of constants)
    (subst (IsDistinct bytes_eq) (ap (λ ns. known ++ ns) (map-append (λ r. r.name) sets constants) ∙ sym (append_assoc known (names_of sets) (names_of constants))) d)

pub with_sets : (es : Entries) (sets : List Ref) → IsDistinct bytes_eq (names es ++ names_of sets) → HasDistinctNames (es ++ map carrier_set sets)
with_sets es sets d =
    subst (IsDistinct bytes_eq) (ap (λ ns. names es ++ ns) (map_map (λ e. e.0) carrier_set sets) ∙ sym (map-append (λ e. e.0) es (map carrier_set sets))) d

names_in_order : (env : Entries) (refs : List Ref) → names (in_order env (names_of refs)) ≡ names_of (filter (λ r. is_some (type_in env r.name)) refs)
names_in_order env [] = refl
names_in_order env (r ∷ refs) = at (type_in env r.name) (names_in_order env refs)
  where
    kept : List Ref
    kept = filter (λ q. is_some (type_in env q.name)) refs

    at : (o : Option Ty) → names (in_order env (names_of refs)) ≡ names_of kept →
        names (cons_option (option_map (λ t. (r.name, t)) o) (in_order env (names_of refs))) ≡ names_of (cond (is_some o) (r ∷ kept) kept)
    at None h = h
    at (Some t) h = ap (λ ns. r.name ∷ ns) h

pub with_declared : (env es : Entries) (declared : List Ref) → IsDistinct bytes_eq (names es ++ names_of declared) → HasDistinctNames (es ++ in_order env (names_of declared))
with_declared env es declared d =
    subst (IsDistinct bytes_eq) (ap (λ ns. names es ++ ns) (sym (names_in_order env declared)) ∙ sym (map-append (λ e. e.0) es (in_order env (names_of declared))))
    (kept_behind (λ r. r.name) (λ r. is_some (type_in env r.name)) (names es) declared d)
