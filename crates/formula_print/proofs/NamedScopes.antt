-- The scope of bound identifiers with names of their own, and type expressions in it.
use Rattle.std.proofs.Common.{◌≡◌, ◌∙◌, sym, ap, subst, refl, ℕ, zero, suc, ◌+◌, ◌-◌, ◌<◌, ◌≤◌, Bool, true, false, ◌&&◌, cond, List, [], ◌∷◌, ◌++◌, length, map, reverse, arith, add-one, append_assoc, Some, None}
use Rattle.std.specs.Prelude.{bytes_eq}
use Rattle.std.specs.List.{slice_get, AllByRecursion, IsDistinct}
use Rattle.std.specs.Option.{option_map, option_map_or}
use Rattle.std.specs.Map.{lookup}
use Rattle.std.proofs.lemmas.Cmp.{nat_list_eq_equiv}
use Rattle.std.proofs.lemmas.List.{reverse-append}
use Rattle.formula_core.specs.declared.ty.Ty.{Ty}
use Rattle.formula_core.specs.declared.ty.Ty.TheOpen.{Int as IntF, Bool as BoolF, Given as GivenF, Pow as PowF, Pair as PairF, Truth as TruthF}
use Rattle.formula_core.specs.declared.ty.Ty.TheVariants as ty
use Rattle.formula_core.specs.declared.ty.Ty.TheViews.{rolls-Int, rolls-Bool, rolls-Given, rolls-Pow, rolls-Pair, rolls-Truth}
use Rattle.formula_core.specs.declared.op.Op.TheVariants as op
use Rattle.formula_core.specs.declared.raw.RawOp.{RawOp}
use Rattle.formula_core.specs.declared.raw.RawOp.TheVariants as rawop
use Rattle.formula_core.specs.declared.raw.Raw.{Raw}
use Rattle.formula_core.specs.declared.raw.Raw.TheVariants as raw
use Rattle.formula_core.specs.Types.{same_type, is_value_step, is_value_type}
use Rattle.formula_core.specs.Env.{type_in}
use Rattle.formula_core.specs.Identifiers.{carriers}
use Rattle.formula_core.proofs.Equations.{type_fold, carriers-Given, carriers-Pow, carriers-Pair}
use Rattle.formula_core.proofs.Types.{type_induction}
use Rattle.formula_core.proofs.WholeSets.{same_type_refl, value-Pow, value-Pair}
use Rattle.type_formula.specs.Bare.{BareBounds, unbound, typed}
use Rattle.type_formula.specs.Scopes.{Scope, one_further, position_of, with_names, has_name}
use Rattle.type_formula.specs.TypeExpressions.{is_carrier, denoted, power_of, pair_of}
use Rattle.type_formula.specs.CoreForms.{core_form, core_of_form, bounds}
use Rattle.type_formula.specs.PrivateViews.{bound_part, in_a_row}
use Rattle.type_formula.specs.Typings.{AreBound}
use Rattle.type_formula.proofs.CoreEquations.{core_form-Name, read_node}
use Rattle.formula_print.specs.Printing.{name_at}
use Rattle.formula_print.specs.Written.{type_raw_step, type_raw, declared_with_types}

pub all_left : {X : Type 0} (P : X → Type 0) (xs ys : List X) → AllByRecursion P (xs ++ ys) → AllByRecursion P xs
all_left P [] ys all = tt
all_left P (x ∷ xs) ys all = (all.0, all_left P xs ys all.1)

pub all_right : {X : Type 0} (P : X → Type 0) (xs ys : List X) → AllByRecursion P (xs ++ ys) → AllByRecursion P ys
all_right P [] ys all = all
all_right P (x ∷ xs) ys all = all_right P xs ys all.1

pub core_node : (o : RawOp) (parts : List Raw) → core_form (raw.Node o parts 0) ≡ core_of_form o (in_a_row (map core_form parts))
core_node o parts = sym (read_node (raw.Node o parts 0) o parts 0 (in_a_row (map core_form parts)) refl refl)

-- the environment has these carrier sets, and no bound name hides them
abbrev pub IsKnown : {A : Type 0} → List (List ℕ × Ty) → Scope A → List ℕ × Ty → Type 0
IsKnown env scope x = (type_in env x.0 ≡ Some x.1) × (has_name x.0 scope ≡ false)

abbrev pub AreKnown : {A : Type 0} → List (List ℕ × Ty) → Scope A → List (List ℕ × Ty) → Type 0
AreKnown env scope xs = AllByRecursion (IsKnown env scope) xs

module _ {A : Type 0} (env : List (List ℕ × Ty)) (scope : Scope A) where
  abbrev Denotes : Ty → Type 0
  Denotes t = is_value_type t ≡ true → AreKnown env scope (carriers t) → denoted env scope (core_form (type_raw t)) ≡ Some t

  at_int : Denotes ty.Int
  at_int v known = ap (λ r. denoted env scope (core_form r)) (type_fold type_raw_step IntF ty.Int rolls-Int) ∙ ap (denoted env scope) (core_node (rawop.Plain op.Integers) [])

  at_bool : Denotes ty.Bool
  at_bool v known = ap (λ r. denoted env scope (core_form r)) (type_fold type_raw_step BoolF ty.Bool rolls-Bool) ∙ ap (denoted env scope) (core_node (rawop.Plain op.Booleans) [])

  at_given : (x : List ℕ) → Denotes (ty.Given x)
  at_given x v known =
      let one : AreKnown env scope ((x, ty.Pow (ty.Given x)) ∷ []) = subst (AreKnown env scope) (carriers-Given x) known in
      let carrier : is_carrier env x ≡ true = ap (λ o. option_map_or (same_type (ty.Pow (ty.Given x))) o false) one.0.0 ∙ same_type_refl (ty.Pow (ty.Given x)) in
      ap (λ r. denoted env scope (core_form r)) (type_fold type_raw_step (GivenF x) (ty.Given x) (rolls-Given x)) ∙ ap (denoted env scope) (core_form-Name x 0)
      ∙ (λ i. cond (one.0.1 i) None (cond (carrier i) (Some (ty.Given x)) None))

  at_pow : (t : Ty) → Denotes t → Denotes (ty.Pow t)
  at_pow t h v known =
      ap (λ r. denoted env scope (core_form r)) (type_fold type_raw_step (PowF t) (ty.Pow t) (rolls-Pow t))
      ∙ ap (denoted env scope) (core_node (rawop.Plain op.PowerSet) (type_raw t ∷ []))
      ∙ ap power_of (h (sym (value-Pow t) ∙ v) (subst (AreKnown env scope) (carriers-Pow t) known))

  first_true : (a b : Bool) → (a && b) ≡ true → a ≡ true
  first_true true b h = refl
  first_true false b h = cc

  second_true : (a b : Bool) → (a && b) ≡ true → b ≡ true
  second_true true b h = h
  second_true false b h = cc

  at_pair : (t u : Ty) → Denotes t → Denotes u → Denotes (ty.Pair t u)
  at_pair t u h k v known =
      let both : (is_value_type t && is_value_type u) ≡ true = sym (value-Pair t u) ∙ v in
      let parts : AreKnown env scope (carriers t ++ carriers u) = subst (AreKnown env scope) (carriers-Pair t u) known in
      let left : denoted env scope (core_form (type_raw t)) ≡ Some t = h (first_true _ _ both) (all_left (IsKnown env scope) (carriers t) (carriers u) parts) in
      let right : denoted env scope (core_form (type_raw u)) ≡ Some u = k (second_true (is_value_type t) _ both) (all_right (IsKnown env scope) (carriers t) (carriers u) parts) in
      ap (λ r. denoted env scope (core_form r)) (type_fold type_raw_step (PairF t u) (ty.Pair t u) (rolls-Pair t u))
      ∙ ap (denoted env scope) (core_node (rawop.Plain op.Product) (type_raw t ∷ type_raw u ∷ []))
      ∙ (λ i. pair_of (left i) (right i))

  value_truth : is_value_type ty.Truth ≡ false
  value_truth = type_fold is_value_step TruthF ty.Truth rolls-Truth

  -- the expression of a type denotes it
  pub denotes : (t : Ty) → Denotes t
  denotes = type_induction Denotes at_int at_bool at_given at_pow at_pair (λ v known. let never : true ≡ false = sym v ∙ value_truth in cc)

abbrev pub Scoped : List (List ℕ) → List Ty → Scope Ty
Scoped names [] = []
Scoped names (t ∷ bound) = (name_at names (length bound), t) ∷ Scoped names bound

-- no two of the names are the same
abbrev pub Differ : List (List ℕ) → Type 0
Differ names = (i j : ℕ) → i < j → j < length names → bytes_eq (name_at names i) (name_at names j) ≡ false

-- the name is none of these
abbrev pub IsOutside : List (List ℕ) → List ℕ → Type 0
IsOutside names x = (i : ℕ) → i < length names → bytes_eq (name_at names i) x ≡ false

pub all_at : (P : List ℕ → Type 0) (names : List (List ℕ)) (i : ℕ) → i < length names → AllByRecursion P names → P (name_at names i)
all_at P [] i short all = absurd (omega arith)
all_at P (x ∷ names) zero short all = all.0
all_at P (x ∷ names) (suc i) short all = all_at P names i (omega arith) all.1

pub differ_from : (names : List (List ℕ)) → IsDistinct bytes_eq names → Differ names
unfolding IsDistinct
differ_from [] all i j less short = absurd (omega arith)
differ_from (x ∷ names) all i zero less short = absurd (omega arith)
differ_from (x ∷ names) all zero (suc j) less short = all_at (λ y. bytes_eq x y ≡ false) names j (omega arith) all.0
differ_from (x ∷ names) all (suc i) (suc j) less short = differ_from names all.1 i j (omega arith) (omega arith)

head : (x : List ℕ) (u : Ty) (es : Scope Ty) → position_of x ((x, u) ∷ es) ≡ Some (0, u)
head x u es = rw (nat_list_eq_equiv.refl x) refl

tail : (x y : List ℕ) (u : Ty) (es : Scope Ty) → bytes_eq y x ≡ false → position_of x ((y, u) ∷ es) ≡ one_further (position_of x es)
tail x y u es h = rw h refl

within : (bound : List Ty) (i : ℕ) (t : Ty) → slice_get bound i ≡ Some t → i < length bound
within [] i t is = cc
within (u ∷ bound) zero t is = omega arith
within (u ∷ bound) (suc i) t is = omega (arith, within bound i t is)

-- a bound identifier is found at its index
pub position : (names : List (List ℕ)) → Differ names → (bound : List Ty) (i : ℕ) (t : Ty) → length bound ≤ length names → slice_get bound i ≡ Some t
    → position_of (name_at names (length bound - 1 - i)) (Scoped names bound) ≡ Some (i, t)
position names differ [] i t few is = cc
position names differ (u ∷ bound) zero t few is =
    let at : length (u ∷ bound) - 1 - 0 ≡ length bound = omega arith in
    ap (λ n. position_of (name_at names n) (Scoped names (u ∷ bound))) at ∙ head (name_at names (length bound)) u (Scoped names bound)
    ∙ ap (option_map (λ (v : Ty). let p : ℕ × Ty = (0, v) in p)) is
position names differ (u ∷ bound) (suc i) t few is =
    let at : length (u ∷ bound) - 1 - suc i ≡ length bound - 1 - i = omega arith in
    let small : i < length bound = within bound i t is in
    let other : bytes_eq (name_at names (length bound)) (name_at names (length bound - 1 - i)) ≡ false
    = nat_list_eq_equiv.symm (name_at names (length bound)) (name_at names (length bound - 1 - i)) ∙ differ (length bound - 1 - i) (length bound) (omega arith) (omega arith) in
    ap (λ n. position_of (name_at names n) (Scoped names (u ∷ bound))) at
    ∙ tail (name_at names (length bound - 1 - i)) (name_at names (length bound)) u (Scoped names bound) other
    ∙ ap one_further (position names differ bound i t (omega arith) is)

-- a name that is none of them is not bound
pub not_bound : (names : List (List ℕ)) (x : List ℕ) → IsOutside names x → (bound : List Ty) → length bound ≤ length names
    → (position_of x (Scoped names bound) ≡ None) × (has_name x (Scoped names bound) ≡ false)
not_bound names x out [] few = (refl, refl)
not_bound names x out (u ∷ bound) few =
    let other : bytes_eq (name_at names (length bound)) x ≡ false = out (length bound) (omega arith) in
    let rest : (position_of x (Scoped names bound) ≡ None) × (has_name x (Scoped names bound) ≡ false) = not_bound names x out bound (omega arith) in
    (tail x (name_at names (length bound)) u (Scoped names bound) other ∙ ap one_further rest.0, rw other rest.1)

-- an identifier of an environment is found there
pub found : (env : List (List ℕ × Ty)) (x : List ℕ) (t : Ty) → type_in env x ≡ Some t → (k : ℕ) × (position_of x env ≡ Some (k, t))
found [] x t is = cc
found (e ∷ env) x t is = go (bytes_eq x e.0) refl is (found env x t)
  where
    go : (b : Bool) → bytes_eq x e.0 ≡ b → cond b (Some e.1) (lookup (bytes_eq x) env) ≡ Some t → (lookup (bytes_eq x) env ≡ Some t → (k : ℕ) × (position_of x env ≡ Some (k, t)))
        → (k : ℕ) × (position_of x (e ∷ env) ≡ Some (k, t))
    go true same is later = (0, rw (nat_list_eq_equiv.symm e.0 x ∙ same) (ap (option_map (λ (v : Ty). let p : ℕ × Ty = (0, v) in p)) is))
    go false same is later = let l : (k : ℕ) × (position_of x env ≡ Some (k, t)) = later is in (suc l.0, tail x e.0 e.1 env (nat_list_eq_equiv.symm e.0 x ∙ same) ∙ ap one_further l.1)

-- the bound identifiers of a binder, in core form
abbrev pub core_bounds : List (List ℕ) → List Ty → ℕ → BareBounds
core_bounds names [] depth = unbound
core_bounds names (t ∷ types) depth = typed (name_at names depth) (core_form (type_raw t)) (core_bounds names types (depth + 1))

pub bounds-declared : (names : List (List ℕ)) (types : List Ty) (depth : ℕ) → bounds (map bound_part (declared_with_types names types depth)) ≡ core_bounds names types depth
bounds-declared names [] depth = refl
bounds-declared names (t ∷ types) depth = ap (typed (name_at names depth) (core_form (type_raw t))) (bounds-declared names types (depth + 1))

pub scoped_further : (names : List (List ℕ)) (types bound : List Ty) → with_names (core_bounds names types (length bound)) types (Scoped names bound) ≡ Scoped names (reverse types ++ bound)
scoped_further names [] bound = refl
scoped_further names (t ∷ types) bound =
    ap (λ n. with_names (core_bounds names types n) types (Scoped names (t ∷ bound))) (add-one (length bound))
    ∙ scoped_further names types (t ∷ bound)
    ∙ ap (Scoped names) (sym (append_assoc (reverse types) (t ∷ []) bound) ∙ ap (λ ts. ts ++ bound) (sym (reverse-append (t ∷ []) types)))

module _ (env : List (List ℕ × Ty)) (names : List (List ℕ)) (scope : Scope Ty) where
  abbrev pub AllDenoted : List Ty → Type 0
  AllDenoted types = AllByRecursion (λ t. denoted env scope (core_form (type_raw t)) ≡ Some t) types

  -- the types of declared identifiers are those that are written
  pub declared_types : (types : List Ty) (depth : ℕ) → AllDenoted types → AreBound env scope (core_bounds names types depth) types
  declared_types [] depth all = refl
  declared_types (t ∷ types) depth all = (t, types, all.0, declared_types types (depth + 1) all.1, refl)

  pub only_types : (types : List Ty) (depth : ℕ) → AllDenoted types → (ts : List Ty) → AreBound env scope (core_bounds names types depth) ts → ts ≡ types
  only_types [] depth all ts h = h
  only_types (t ∷ types) depth all ts h =
      let same : h.0 ≡ t = let e : Some h.0 ≡ Some t = sym h.2 ∙ all.0 in cc in
      let rest : h.1 ≡ types = only_types types (depth + 1) all.1 h.1 h.3 in
      h.4 ∙ (λ i. same i ∷ rest i)
