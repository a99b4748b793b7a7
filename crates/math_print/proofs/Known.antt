-- What is typed has no unknown name.
use Rattle.std.proofs.Common.{◌≡◌, ◌∙◌, sym, ap, subst, refl, ℕ, Bool, true, false, cond, ◌||◌, List, [], ◌∷◌, ◌++◌, append_assoc, Option, Some, None}
use Rattle.std.specs.Prelude.{bytes_eq, is_some}
use Rattle.std.specs.List.{list_any}
use Rattle.std.specs.Option.{option_map_or}
use Rattle.std.proofs.lemmas.Cmp.{nat_list_eq_equiv}
use Rattle.formula_core.specs.declared.ty.Ty.{Ty}
use Rattle.formula_core.specs.declared.ty.Ty.TheVariants as ty
use Rattle.formula_core.specs.Types.{same_type}
use Rattle.formula_core.specs.declared.op.Op.{Op}
use Rattle.formula_core.specs.declared.op.Op.TheVariants as op
use Rattle.formula_core.specs.declared.formula.Formula.{Formula}
use Rattle.formula_core.specs.declared.raw.Raw.{Raw}
use Rattle.formula_core.specs.Env.{type_in}
use Rattle.type_formula.specs.Bare.{Bare, Bares, BareBounds, Number, Identifier, Form, Partition, Binding, Ascribed, Broken, nothing, more, unbound, plain, typed}
use Rattle.type_formula.specs.CoreForms.{core_form}
use Rattle.type_formula.specs.Scopes.{Scope, position_of, with_names, has_name, IsName}
use Rattle.type_formula.specs.TypeExpressions.{is_carrier, power_of, pair_of, denoted, denoted_form, all_denoted}
use Rattle.type_formula.specs.Typings.{AreBound, Types, AllTyped}
use Rattle.type_formula.specs.Answers.{paired, IsTypedAs}
use Rattle.type_formula.specs.Unknowns.{bound_names_in, is_known, unknowns, all_unknowns, type_unknowns, first_name_by_place, unknown_in}
use Rattle.type_formula.proofs.Entries.{is_there, has_place}

abbrev Env : Type 0
Env = List (List ℕ × Ty)

same_bytes : (x y : List ℕ) → bytes_eq x y ≡ bytes_eq y x
same_bytes x y = nat_list_eq_equiv.symm x y

first_or : (a b : Bool) → a ≡ true → (a || b) ≡ true
first_or a b h = ap (λ c. c || b) h

second_or : (a b : Bool) → b ≡ true → (a || b) ≡ true
second_or true b h = refl
second_or false b h = h

here_or_later : (a b c d : Bool) → a ≡ c → (b ≡ true → d ≡ true) → cond a true b ≡ true → (c || d) ≡ true
here_or_later true b c d same later h = first_or c d (sym same)
here_or_later false b c d same later h = second_or c d (later h)

any_left : (q : List ℕ → Bool) (xs ys : List (List ℕ)) → list_any q xs ≡ true → list_any q (xs ++ ys) ≡ true
any_left q [] ys h = cc
any_left q (x ∷ xs) ys h = either (q x) (list_any q xs) (list_any q (xs ++ ys)) (any_left q xs ys) h
  where
    either : (a b c : Bool) → (b ≡ true → c ≡ true) → (a || b) ≡ true → (a || c) ≡ true
    either true b c further h = refl
    either false b c further h = further h

any_right : (q : List ℕ → Bool) (xs ys : List (List ℕ)) → list_any q ys ≡ true → list_any q (xs ++ ys) ≡ true
any_right q [] ys h = h
any_right q (x ∷ xs) ys h = second_or (q x) (list_any q (xs ++ ys)) (any_right q xs ys h)

-- Names in scopes.

-- each name of the scope is one of these
abbrev AreAmong : List (List ℕ) → Scope Ty → Type 0
AreAmong names scope = (x : List ℕ) → has_name x scope ≡ true → list_any (bytes_eq x) names ≡ true

among_none : AreAmong [] []
among_none x h = h

among_one_more : (names : List (List ℕ)) (scope : Scope Ty) (y : List ℕ) (t : Ty) → AreAmong names scope → AreAmong (names ++ y ∷ []) ((y, t) ∷ scope)
among_one_more names scope y t among x h = go (bytes_eq y x) refl h
  where
    go : (b : Bool) → bytes_eq y x ≡ b → cond b true (has_name x scope) ≡ true → list_any (bytes_eq x) (names ++ y ∷ []) ≡ true
    go true e h = any_right (bytes_eq x) names (y ∷ []) (first_or (bytes_eq x y) false (same_bytes x y ∙ e))
    go false e h = any_left (bytes_eq x) names (y ∷ []) (among x h)

among_all : (names : BareBounds) (ts : List Ty) (others : List (List ℕ)) (scope : Scope Ty) → AreAmong others scope → AreAmong (others ++ bound_names_in names) (with_names names ts scope)
among_all unbound ts others scope among = λ x h. any_left (bytes_eq x) others [] (among x h)
among_all (plain y names) [] others scope among = λ x h. any_left (bytes_eq x) others (y ∷ bound_names_in names) (among x h)
among_all (typed y u names) [] others scope among = λ x h. any_left (bytes_eq x) others (y ∷ bound_names_in names) (among x h)
among_all (plain y names) (t ∷ ts) others scope among =
    let P : List (List ℕ) → Type 0 = λ all. AreAmong all (with_names names ts ((y, t) ∷ scope)) in
    subst P (append_assoc others (y ∷ []) (bound_names_in names)) (among_all names ts (others ++ y ∷ []) ((y, t) ∷ scope) (among_one_more others scope y t among))
among_all (typed y u names) (t ∷ ts) others scope among =
    let P : List (List ℕ) → Type 0 = λ all. AreAmong all (with_names names ts ((y, t) ∷ scope)) in
    subst P (append_assoc others (y ∷ []) (bound_names_in names)) (among_all names ts (others ++ y ∷ []) ((y, t) ∷ scope) (among_one_more others scope y t among))

among_wanted : (wanted : List (List ℕ)) (ts : List Ty) → AreAmong wanted (paired wanted ts)
among_wanted [] ts x h = h
among_wanted (y ∷ wanted) [] x h = cc
among_wanted (y ∷ wanted) (t ∷ ts) x h = here_or_later (bytes_eq y x) (has_name x (paired wanted ts)) (bytes_eq x y) (list_any (bytes_eq x) wanted) (same_bytes y x) (among_wanted wanted ts x) h

known_at : (a b later wanted : Bool) (t : Ty) (o : Option Ty) → a ≡ b → (later ≡ true → (is_some o || wanted) ≡ true) → cond a true later ≡ true → (is_some (cond b (Some t) o) || wanted) ≡ true
known_at true true later wanted t o same further h = refl
known_at true false later wanted t o same further h = cc
known_at false true later wanted t o same further h = refl
known_at false false later wanted t o same further h = further h

known_free : (env : Env) (wanted : List (List ℕ)) (ts : List Ty) (x : List ℕ) → has_name x (env ++ paired wanted ts) ≡ true → (is_some (type_in env x) || list_any (bytes_eq x) wanted) ≡ true
known_free [] wanted ts x h = among_wanted wanted ts x h
known_free (e ∷ env) wanted ts x h =
    known_at (bytes_eq e.0 x) (bytes_eq x e.0) (has_name x (env ++ paired wanted ts)) (list_any (bytes_eq x) wanted) e.1 (type_in env x) (same_bytes e.0 x) (known_free env wanted ts x) h

-- Type expressions.

abbrev IsThere : Option Ty → Type 0
IsThere None = ⊥
IsThere (Some t) = Unit {0}

abbrev AreThere : List (Option Ty) → Type 0
AreThere [] = Unit {0}
AreThere (o ∷ os) = IsThere o × AreThere os

there : (o : Option Ty) (t : Ty) → o ≡ Some t → IsThere o
there None t e = cc
there (Some u) t e = tt

power_there : (o : Option Ty) → IsThere (power_of o) → IsThere o
power_there None h = h
power_there (Some t) h = tt

pair_there : (o p : Option Ty) → IsThere (pair_of o p) → AreThere (o ∷ p ∷ [])
pair_there None None h = absurd h
pair_there None (Some u) h = absurd h
pair_there (Some t) None h = absurd h
pair_there (Some t) (Some u) h = (tt, (tt, tt))

form_there : (o : Op) (ts : List (Option Ty)) → IsThere (denoted_form o ts) → AreThere ts
form_there op.Integers [] h = tt
form_there op.Booleans [] h = tt
form_there op.PowerSet (t ∷ []) h = (power_there t h, tt)
form_there op.Product (t ∷ u ∷ []) h = pair_there t u h
form_there op.Relations (t ∷ u ∷ []) h = pair_there t u (power_there (pair_of t u) h)
form_there _ _ h = absurd h

module _ (env : Env) (wanted : List (List ℕ)) where
  abbrev not_known : Bool → List ℕ → ℕ → List (List ℕ × ℕ)
  not_known known x place = cond known [] ((x, place) ∷ [])

  carrier_there : (x : List ℕ) (o : Option Ty) → option_map_or (same_type (ty.Pow (ty.Given x))) o false ≡ true → is_some o ≡ true
  carrier_there x None h = cc
  carrier_there x (Some t) h = refl

  only_carrier : (hidden carrier : Bool) (t : Ty) → IsThere (cond hidden None (cond carrier (Some t) None)) → carrier ≡ true
  only_carrier true carrier t h = absurd h
  only_carrier false true t h = refl
  only_carrier false false t h = absurd h

  carrier_known : (x : List ℕ) (names : List (List ℕ)) → is_carrier env x ≡ true → is_known env wanted names x ≡ true
  carrier_known x names h = second_or (list_any (bytes_eq x) names) _ (first_or (is_some (type_in env x)) (list_any (bytes_eq x) wanted) (carrier_there x (type_in env x) h))

  mutual
    denoted_known : (names : List (List ℕ)) (scope : Scope Ty) (b : Bare) → IsThere (denoted env scope b) → unknowns env wanted names b ≡ []
    denoted_known names scope (Identifier x place) h =
        ap (λ known. not_known known x place) (carrier_known x names (only_carrier (has_name x scope) (is_carrier env x) (ty.Given x) h))
    denoted_known names scope (Form o parts) h = all_denoted_known names scope parts (form_there o (all_denoted env scope parts) h)
    denoted_known names scope (Number n) h = absurd h
    denoted_known names scope (Partition parts) h = absurd h
    denoted_known names scope (Binding b bound parts) h = absurd h
    denoted_known names scope (Ascribed e t) h = absurd h
    denoted_known names scope (Broken parts) h = absurd h

    all_denoted_known : (names : List (List ℕ)) (scope : Scope Ty) (bs : Bares) → AreThere (all_denoted env scope bs) → all_unknowns env wanted names bs ≡ []
    all_denoted_known names scope nothing h = refl
    all_denoted_known names scope (more b bs) h = λ i. denoted_known names scope b h.0 i ++ all_denoted_known names scope bs h.1 i

  bound_known : (names : List (List ℕ)) (scope : Scope Ty) (bound : BareBounds) (ts : List Ty) → AreBound env scope bound ts → type_unknowns env wanted names bound ≡ []
  bound_known names scope unbound ts h = refl
  bound_known names scope (plain x bound) ts h = bound_known names scope bound h.1 h.3
  bound_known names scope (typed x u bound) ts h = λ i. denoted_known names scope u (there (denoted env scope u) h.0 h.2) i ++ bound_known names scope bound h.1 h.3 i

  module _ (types : List Ty) where
    abbrev free : Scope Ty
    free = env ++ paired wanted types

    name_known : (names : List (List ℕ)) (scope : Scope Ty) (x : List ℕ) (f : Formula) (t : Ty) → AreAmong names scope → IsName x (position_of x scope) (position_of x free) f t → is_known env wanted names x ≡ true
    name_known names scope x f t among h = go (position_of x scope) refl (position_of x free) refl h
      where
        go : (p : Option (ℕ × Ty)) → position_of x scope ≡ p → (q : Option (ℕ × Ty)) → position_of x free ≡ q → IsName x p q f t → is_known env wanted names x ≡ true
        go (Some p) e q d h = first_or (list_any (bytes_eq x) names) _ (among x (sym (has_place x scope) ∙ ap is_there e))
        go None e (Some q) d h = second_or (list_any (bytes_eq x) names) _ (known_free env wanted types x (sym (has_place x free) ∙ ap is_there d))
        go None e None d h = absurd h

    mutual
      typed_known : (names : List (List ℕ)) (scope : Scope Ty) → AreAmong names scope → (b : Bare) (f : Formula) (t : Ty) → Types env scope free b f t → unknowns env wanted names b ≡ []
      typed_known names scope among (Number n) f t h = refl
      typed_known names scope among (Identifier x place) f t h = ap (λ known. not_known known x place) (name_known names scope x f t among h.1)
      typed_known names scope among (Form o parts) f t h = all_typed_known names scope among parts h.0 h.1 h.2
      typed_known names scope among (Partition parts) f t h = all_typed_known names scope among parts h.0 h.1 h.2
      typed_known names scope among (Binding b bound parts) f t h =
          let outer : type_unknowns env wanted names bound ≡ [] = bound_known names scope bound h.0 h.1 in
          let inner : all_unknowns env wanted (names ++ bound_names_in bound) parts ≡ [] =
          all_typed_known (names ++ bound_names_in bound) (with_names bound h.0 scope) (among_all bound h.0 names scope among) parts h.3 h.4 h.5 in
          λ i. outer i ++ inner i
      typed_known names scope among (Ascribed e u) f t h =
          λ i. typed_known names scope among e f t h.1 i ++ denoted_known names scope u (there (denoted env scope u) t h.0) i
      typed_known names scope among (Broken parts) f t h = absurd h

      all_typed_known : (names : List (List ℕ)) (scope : Scope Ty) → AreAmong names scope → (bs : Bares) (fs : List Formula) (ts : List Ty) → AllTyped env scope free bs fs ts → all_unknowns env wanted names bs ≡ []
      all_typed_known names scope among nothing fs ts h = refl
      all_typed_known names scope among (more b bs) fs ts h = λ i. typed_known names scope among b h.0 h.2 h.4 i ++ all_typed_known names scope among bs h.1 h.3 h.5 i

pub nothing_unknown : (env : Env) (wanted : List (List ℕ)) (raw : Raw) (expected : Option Ty) (f : Formula) → IsTypedAs env wanted (core_form raw) expected f → unknown_in env wanted raw ≡ None
nothing_unknown env wanted raw expected f h = ap first_name_by_place (typed_known env wanted h.0 [] [] among_none (core_form raw) f h.3 h.5)
