-- What is typed is well, and has its type.
use Rattle.std.proofs.Common.{◌≡◌, ◌∙◌, sym, ap, subst, refl, ℕ, zero, suc, ◌-◌, Bool, true, false, cond, List, [], ◌∷◌, ◌++◌, append_assoc, length, map, replicate, reverse, slice_get, Option, Some, None, bytes_eq, IsTrue}
use Rattle.std.specs.List.{AllByRecursion, list_all}
use Rattle.std.specs.Option.{option_map_or}
use Rattle.std.proofs.lemmas.Grind.{reverse_onto}
use Rattle.formula_core.specs.declared.ty.Ty.{Ty}
use Rattle.formula_core.specs.declared.ty.Ty.TheVariants as ty
use Rattle.formula_core.specs.declared.op.Op.{Op}
use Rattle.formula_core.specs.declared.op.Op.TheVariants as op
use Rattle.formula_core.specs.declared.formula.Formula.{Formula}
use Rattle.formula_core.specs.declared.formula.Formula.TheVariants as formula
use Rattle.formula_core.specs.declared.formula.Formula.TheViews.{outs-Int, outs-Free, outs-Bound, outs-Node, outs-Bind}
use Rattle.formula_core.specs.Types.{same_type, is_value_type}
use Rattle.formula_core.specs.Rows.{row_of}
use Rattle.formula_core.specs.TypeTable.{row_fits, binder_fits}
use Rattle.formula_core.specs.Schemes.{alpha, power, Letters, AreValues, type_of_scheme, operand_schemes, result_scheme, IsSchemeInstance}
use Rattle.formula_core.specs.Wellness.{type_of_step, type_of, may_be_bound, is_well_in, is_well}
use Rattle.formula_core.specs.Env.{type_in}
use Rattle.formula_core.specs.Formulas.{joined, occurrences}
use Rattle.formula_core.proofs.Equations.{occurrences-Free, occurrences-Node, occurrences-Bind}
use Rattle.formula_core.proofs.Schemes.{fits_exactly, binder_fits_exactly}
use Rattle.formula_core.proofs.Weakening.{both_true}
use Rattle.formula_core.proofs.Wellness.{well-Int, well-Free, well-Bound, well-Node, well-Bind}
use Rattle.formula_core.proofs.WholeSets.{same_type_refl, value-Pow}
use Rattle.type_formula.specs.Bare.{Bare, Bares, BareBounds, Number, Identifier, Form, Partition, Binding, Ascribed, Broken, nothing, more, unbound, plain, typed, part_count, has_names}
use Rattle.type_formula.specs.Scopes.{Scope, one_further, position_of, with_names, IsName}
use Rattle.type_formula.specs.Partition.{partition_schemes, left_nested, union_of, set_equality, disjoint, all_disjoint, partition_of}
use Rattle.type_formula.specs.Typings.{AreBound, Types, AllTyped}
use Rattle.type_formula.specs.Answers.{paired, IsExpected, IsTypedAs}
use Rattle.type_formula.proofs.Denoted.{denoted_values}
use Rattle.type_formula.proofs.Named.{all_append, occurrences-Int, occurrences-Bound, placed_type}

-- the types of the names of a scope, the nearest first
abbrev pub types_of : Scope Ty → List Ty
types_of [] = []
types_of (e ∷ es) = e.1 ∷ types_of es

-- an identifier has a type of values, which is that of the first of its name
abbrev pub IsNamed : Scope Ty → List ℕ × Ty → Type 0
IsNamed free x = (type_in free x.0 ≡ Some x.1) × IsTrue (is_value_type x.1)

-- the formula is well below names of these types, has its type, and has free identifiers as they are named
pub record IsWellOf (free : Scope Ty) (scope : List Ty) (f : Formula) (t : Ty) : Type 0 where
  pub well : is_well_in f scope ≡ true
  pub is : type_of f ≡ t
  pub names : AllByRecursion (IsNamed free) (occurrences f)

-- each formula has the type that stands at its place
abbrev pub AreWellOf : Scope Ty → List Ty → List Formula → List Ty → Type 0
AreWellOf free scope [] [] = Unit {0}
AreWellOf free scope (f ∷ fs) (t ∷ ts) = IsWellOf free scope f t × AreWellOf free scope fs ts
AreWellOf free scope _ _ = ⊥

all_well : (free : Scope Ty) (scope : List Ty) (fs : List Formula) (ts : List Ty) → AreWellOf free scope fs ts → list_all (λ f. is_well_in f scope) fs ≡ true
all_well free scope [] [] h = refl
all_well free scope [] (t ∷ ts) h = absurd h
all_well free scope (f ∷ fs) [] h = absurd h
all_well free scope (f ∷ fs) (t ∷ ts) h = both_true (is_well_in f scope) _ h.0.well (all_well free scope fs ts h.1)

all_types : (free : Scope Ty) (scope : List Ty) (fs : List Formula) (ts : List Ty) → AreWellOf free scope fs ts → map type_of fs ≡ ts
all_types free scope [] [] h = refl
all_types free scope [] (t ∷ ts) h = absurd h
all_types free scope (f ∷ fs) [] h = absurd h
all_types free scope (f ∷ fs) (t ∷ ts) h = λ i. h.0.is i ∷ all_types free scope fs ts h.1 i

all_names : (free : Scope Ty) (scope : List Ty) (fs : List Formula) (ts : List Ty) → AreWellOf free scope fs ts → AllByRecursion (IsNamed free) (joined (map occurrences fs))
all_names free scope [] [] h = tt
all_names free scope [] (t ∷ ts) h = absurd h
all_names free scope (f ∷ fs) [] h = absurd h
all_names free scope (f ∷ fs) (t ∷ ts) h = all_append (IsNamed free) (occurrences f) (joined (map occurrences fs)) h.0.names (all_names free scope fs ts h.1)

-- an operator whose operands have the types of an instance of its row
node_well : (free : Scope Ty) (scope : List Ty) (o : Op) (fs : List Formula) (ts : List Ty) (t : Ty) → AreWellOf free scope fs ts → IsSchemeInstance (operand_schemes (row_of o) (length ts)) (result_scheme (row_of o)) ts t → IsWellOf free scope (formula.Node o fs t) t
node_well free scope o fs ts t h i = record {
  well = well-Node o fs t scope ∙ both_true _ _ (all_well free scope fs ts h) (ap (λ us. row_fits (row_of o) us t) (all_types free scope fs ts h) ∙ (fits_exactly (row_of o) ts t).1 i);
  is = ap type_of_step (outs-Node o fs t);
  names = subst (AllByRecursion (IsNamed free)) (sym (occurrences-Node o fs t)) (all_names free scope fs ts h);
}

-- Names.

further : (t : Ty) (ts : List Ty) (o : Option (ℕ × Ty)) (p : ℕ × Ty) → ((q : ℕ × Ty) → o ≡ Some q → slice_get ts q.0 ≡ Some q.1) → one_further o ≡ Some p → slice_get (t ∷ ts) p.0 ≡ Some p.1
further t ts None p h e = cc
further t ts (Some q) p h e = let i : ◌≡◌ {A = ℕ × Ty} (suc q.0, q.1) p = cc in subst (λ (r : ℕ × Ty). slice_get (t ∷ ts) r.0 ≡ Some r.1) i (h q refl)

here_or_further : (b : Bool) (t : Ty) (ts : List Ty) (o : Option (ℕ × Ty)) (p : ℕ × Ty) → ((q : ℕ × Ty) → o ≡ Some q → slice_get ts q.0 ≡ Some q.1) → cond b (Some (0, t)) (one_further o) ≡ Some p → slice_get (t ∷ ts) p.0 ≡ Some p.1
here_or_further true t ts o p h e = let i : ◌≡◌ {A = ℕ × Ty} (0, t) p = cc in subst (λ (r : ℕ × Ty). slice_get (t ∷ ts) r.0 ≡ Some r.1) i refl
here_or_further false t ts o p h e = further t ts o p h e

-- a name's type stands at its place
type_at_place : (x : List ℕ) (scope : Scope Ty) (p : ℕ × Ty) → position_of x scope ≡ Some p → slice_get (types_of scope) p.0 ≡ Some p.1
type_at_place x [] p e = cc
type_at_place x (y ∷ ys) p e = here_or_further (bytes_eq y.0 x) y.1 (types_of ys) (position_of x ys) p (type_at_place x ys) e

name_well : (x : List ℕ) (free scope : Scope Ty) (place found : Option (ℕ × Ty)) (f : Formula) (t : Ty) → position_of x scope ≡ place → position_of x free ≡ found → is_value_type t ≡ true → IsName x place found f t → IsWellOf free (types_of scope) f t
name_well x free scope (Some p) found f t e o v h = record {
  well = ap (λ g. is_well_in g (types_of scope)) h.0 ∙ well-Bound p.0 t (types_of scope) ∙ ap (λ o. option_map_or (λ u. same_type u t) o false) (type_at_place x scope p e)
      ∙ ap (λ u. same_type u t) (sym h.1) ∙ same_type_refl t;
  is = ap type_of h.0 ∙ ap type_of_step (outs-Bound p.0 t);
  names = subst (AllByRecursion (IsNamed free)) (sym (ap occurrences h.0 ∙ occurrences-Bound p.0 t)) tt;
}
name_well x free scope None (Some p) f t e o v h = record {
  well = ap (λ g. is_well_in g (types_of scope)) h.0 ∙ well-Free x t (types_of scope) ∙ v;
  is = ap type_of h.0 ∙ ap type_of_step (outs-Free x t);
  names = subst (AllByRecursion (IsNamed free)) (sym (ap occurrences h.0 ∙ occurrences-Free x t)) ((placed_type x free p o ∙ ap Some (sym h.1), v), tt);
}
name_well x free scope None None f t e o v h = absurd h

-- Bound names.

reversed_onto : (t : Ty) (ts us : List Ty) → reverse (t ∷ ts) ++ us ≡ reverse ts ++ (t ∷ us)
reversed_onto t ts us = ap (λ l. l ++ us) (reverse_onto ts t []) ∙ append_assoc (reverse ts) (t ∷ []) us

bound_types : (env : List (List ℕ × Ty)) (outer : Scope Ty) (names : BareBounds) (ts : List Ty) (scope : Scope Ty) → AreBound env outer names ts → types_of (with_names names ts scope) ≡ reverse ts ++ types_of scope
bound_types env outer unbound ts scope h = ap (λ l. reverse l ++ types_of scope) (sym h)
bound_types env outer (plain x names) ts scope h =
    let t = h.0 in
    let rest = h.1 in
    let inner = bound_types env outer names rest ((x, t) ∷ scope) h.3 in
    subst (λ l. types_of (with_names (plain x names) l scope) ≡ reverse l ++ types_of scope) (sym h.4) (inner ∙ sym (reversed_onto t rest (types_of scope)))
bound_types env outer (typed x written names) ts scope h =
    let t = h.0 in
    let rest = h.1 in
    let inner = bound_types env outer names rest ((x, t) ∷ scope) h.3 in
    subst (λ l. types_of (with_names (typed x written names) l scope) ≡ reverse l ++ types_of scope) (sym h.4) (inner ∙ sym (reversed_onto t rest (types_of scope)))

bound_values : (env : List (List ℕ × Ty)) (outer : Scope Ty) (names : BareBounds) (ts : List Ty) → AreBound env outer names ts → list_all is_value_type ts ≡ true
bound_values env outer unbound ts h = ap (list_all is_value_type) h
bound_values env outer (plain x names) ts h = ap (list_all is_value_type) h.4 ∙ both_true (is_value_type h.0) _ h.2 (bound_values env outer names h.1 h.3)
bound_values env outer (typed x written names) ts h =
    ap (list_all is_value_type) h.4 ∙ both_true (is_value_type h.0) _ (denoted_values env outer written h.0 h.2) (bound_values env outer names h.1 h.3)

bindable : (env : List (List ℕ × Ty)) (outer : Scope Ty) (names : BareBounds) (ts : List Ty) → AreBound env outer names ts → has_names names ≡ true → may_be_bound ts ≡ true
bindable env outer unbound ts h e = cc
bindable env outer (plain x names) ts h e = ap may_be_bound h.4 ∙ ap (list_all is_value_type) (sym h.4) ∙ bound_values env outer (plain x names) ts h
bindable env outer (typed x written names) ts h e = ap may_be_bound h.4 ∙ ap (list_all is_value_type) (sym h.4) ∙ bound_values env outer (typed x written names) ts h

-- The core form of a partition of sets of members of type `a`.

module _ (free : Scope Ty) (scope : List Ty) (l : Letters) (values : AreValues l) where
  abbrev set : Ty
  set = ty.Pow l.alpha

  abbrev IsSet : Formula → Type 0
  IsSet f = IsWellOf free scope f set

  abbrev IsPredicate : Formula → Type 0
  IsPredicate f = IsWellOf free scope f ty.Truth

  -- the letters with another type for the first
  abbrev of_sets : Letters
  of_sets = record { alpha = set; beta = l.beta; gamma = l.gamma; delta = l.delta }

  conjunction_well : (a b : Formula) → IsPredicate a → IsPredicate b → IsPredicate (formula.Node op.And (a ∷ b ∷ []) ty.Truth)
  conjunction_well a b h k = node_well free scope op.And (a ∷ b ∷ []) (ty.Truth ∷ ty.Truth ∷ []) ty.Truth (h, (k, tt)) (record { letters = l; values = values; operands_are = refl; whole_is = refl })

  union_well : (a b : Formula) → IsSet a → IsSet b → IsSet (formula.Node op.Union (a ∷ b ∷ []) set)
  union_well a b h k = node_well free scope op.Union (a ∷ b ∷ []) (set ∷ set ∷ []) set (h, (k, tt)) (record { letters = l; values = values; operands_are = refl; whole_is = refl })

  intersection_well : (a b : Formula) → IsSet a → IsSet b → IsSet (formula.Node op.Intersection (a ∷ b ∷ []) set)
  intersection_well a b h k = node_well free scope op.Intersection (a ∷ b ∷ []) (set ∷ set ∷ []) set (h, (k, tt)) (record { letters = l; values = values; operands_are = refl; whole_is = refl })

  empty_well : IsSet (formula.Node op.EmptySet [] set)
  empty_well = node_well free scope op.EmptySet [] [] set tt (record { letters = l; values = values; operands_are = refl; whole_is = refl })

  equal_well : (a b : Formula) → IsSet a → IsSet b → IsPredicate (set_equality a b)
  equal_well a b h k =
      let all : AreValues of_sets = record { alpha = value-Pow l.alpha ∙ values.alpha; beta = values.beta; gamma = values.gamma; delta = values.delta } in
      node_well free scope op.Equal (a ∷ b ∷ []) (set ∷ set ∷ []) ty.Truth (h, (k, tt)) (record { letters = of_sets; values = all; operands_are = refl; whole_is = refl })

  chain_well : (o : Op) (t : Ty) → ((a b : Formula) → IsWellOf free scope a t → IsWellOf free scope b t → IsWellOf free scope (formula.Node o (a ∷ b ∷ []) t) t)
      → (f : Formula) (fs : List Formula) → IsWellOf free scope f t → AllByRecursion (λ g. IsWellOf free scope g t) fs → IsWellOf free scope (left_nested o t f fs) t
  chain_well o t both f [] h k = h
  chain_well o t both f (a ∷ fs) h k = chain_well o t both (formula.Node o (f ∷ a ∷ []) t) fs (both f a h k.0) k.1

  all_union_well : (fs : List Formula) → AllByRecursion IsSet fs → IsSet (union_of set fs)
  all_union_well [] h = empty_well
  all_union_well (a ∷ fs) h = chain_well op.Union set union_well a fs h.0 h.1

  disjoint_well : (a : Formula) (fs rest : List Formula) → IsSet a → AllByRecursion IsSet fs → AllByRecursion IsPredicate rest → AllByRecursion IsPredicate (map (disjoint set a) fs ++ rest)
  disjoint_well a [] rest h k m = m
  disjoint_well a (b ∷ fs) rest h k m = (equal_well (formula.Node op.Intersection (a ∷ b ∷ []) set) (formula.Node op.EmptySet [] set) (intersection_well a b h k.0) empty_well, disjoint_well a fs rest h k.1 m)

  all_disjoint_well : (fs : List Formula) → AllByRecursion IsSet fs → AllByRecursion IsPredicate (all_disjoint set fs)
  all_disjoint_well [] h = tt
  all_disjoint_well (a ∷ fs) h = disjoint_well a fs (all_disjoint set fs) h.0 h.1 (all_disjoint_well fs h.1)

  partition_into_well : (s : Formula) (parts : List Formula) → IsSet s → AllByRecursion IsSet parts → IsPredicate (partition_of (s ∷ parts))
  partition_into_well s parts h k =
      let whole = chain_well op.And ty.Truth conjunction_well (set_equality s (union_of set parts)) (all_disjoint set parts) (equal_well s (union_of set parts) h (all_union_well parts k)) (all_disjoint_well parts k) in
      subst (λ u. IsPredicate (left_nested op.And ty.Truth (set_equality s (union_of u parts)) (all_disjoint u parts))) (sym h.is) whole

  are_sets : (n : ℕ) (fs : List Formula) → AreWellOf free scope fs (map (type_of_scheme l) (replicate n (power alpha))) → AllByRecursion IsSet fs
  are_sets n [] h = tt
  are_sets zero (f ∷ fs) h = absurd h
  are_sets (suc n) (f ∷ fs) h = (h.0, are_sets n fs h.1)

  partition_well : (k : ℕ) (fs : List Formula) → AreWellOf free scope fs (map (type_of_scheme l) (partition_schemes k)) → IsPredicate (partition_of fs)
  partition_well k [] h = absurd h
  partition_well k (s ∷ parts) h = partition_into_well s parts h.0 (are_sets (k - 1) parts h.1)

mutual
  -- the formula of a typing
  pub typed_well : (env : List (List ℕ × Ty)) (bound free : Scope Ty) (b : Bare) (f : Formula) (t : Ty) → Types env bound free b f t → IsWellOf free (types_of bound) f t
  typed_well env bound free (Number n) f t h = record {
    well = ap (λ g. is_well_in g (types_of bound)) h.1 ∙ well-Int n (types_of bound) ∙ h.0;
    is = ap type_of h.1 ∙ ap type_of_step (outs-Int n) ∙ sym h.2;
    names = subst (AllByRecursion (IsNamed free)) (sym (ap occurrences h.1 ∙ occurrences-Int n)) tt;
  }
  typed_well env bound free (Identifier x place) f t h = name_well x free bound (position_of x bound) (position_of x free) f t refl refl h.0 h.1
  typed_well env bound free (Form o parts) f t h =
      let fs = h.0 in
      let ts = h.1 in
      let inst = subst (λ k. IsSchemeInstance (operand_schemes (row_of o) k) (result_scheme (row_of o)) ts t) (sym (as_many env bound free parts fs ts h.2)) h.3 in
      subst (λ g. IsWellOf free (types_of bound) g t) (sym h.4) (node_well free (types_of bound) o fs ts t (all_typed_well env bound free parts fs ts h.2) inst)
  typed_well env bound free (Partition parts) f t h =
      let fs = h.0 in
      let ts = h.1 in
      let inst = h.3 in
      let each = subst (AreWellOf free (types_of bound) fs) inst.operands_are (all_typed_well env bound free parts fs ts h.2) in
      let whole = partition_well free (types_of bound) inst.letters inst.values (part_count parts) fs each in
      subst (IsWellOf free (types_of bound) f) (sym inst.whole_is) (subst (λ g. IsWellOf free (types_of bound) g ty.Truth) (sym h.4) whole)
  typed_well env bound free (Binding binder names parts) f t h =
      let us = h.0 in
      let fs = h.3 in
      let ts = h.4 in
      let each = all_typed_well env (with_names names us bound) free parts fs ts h.5 in
      let scoped = subst (λ s. AreWellOf free s fs ts) (bound_types env bound names us bound h.1) each in
      let fitting = ap (λ ws. binder_fits binder ws t) (all_types free (reverse us ++ types_of bound) fs ts scoped) ∙ (binder_fits_exactly binder ts t).1 h.6 in
      record {
        well = ap (λ g. is_well_in g (types_of bound)) h.7 ∙ well-Bind binder us fs t (types_of bound)
            ∙ both_true _ _ (both_true _ _ (bindable env bound names us h.1 h.2) fitting) (all_well free (reverse us ++ types_of bound) fs ts scoped);
        is = ap type_of h.7 ∙ ap type_of_step (outs-Bind binder us fs t);
        names = subst (AllByRecursion (IsNamed free)) (sym (ap occurrences h.7 ∙ occurrences-Bind binder us fs t)) (all_names free (reverse us ++ types_of bound) fs ts scoped);
      }
  typed_well env bound free (Ascribed e written) f t h = typed_well env bound free e f t h.1
  typed_well env bound free (Broken parts) f t h = absurd h

  pub all_typed_well : (env : List (List ℕ × Ty)) (bound free : Scope Ty) (bs : Bares) (fs : List Formula) (ts : List Ty) → AllTyped env bound free bs fs ts → AreWellOf free (types_of bound) fs ts
  all_typed_well env bound free nothing fs ts h = subst (AreWellOf free (types_of bound) fs) (sym h.1) (subst (λ l. AreWellOf free (types_of bound) l []) (sym h.0) tt)
  all_typed_well env bound free (more b bs) fs ts h =
      let f = h.0 in
      let rest = h.1 in
      let t = h.2 in
      let others = h.3 in
      let both : AreWellOf free (types_of bound) (f ∷ rest) (t ∷ others) = (typed_well env bound free b f t h.4, all_typed_well env bound free bs rest others h.5) in
      subst (AreWellOf free (types_of bound) fs) (sym h.7) (subst (λ l. AreWellOf free (types_of bound) l (t ∷ others)) (sym h.6) both)

  as_many : (env : List (List ℕ × Ty)) (bound free : Scope Ty) (bs : Bares) (fs : List Formula) (ts : List Ty) → AllTyped env bound free bs fs ts → length ts ≡ part_count bs
  as_many env bound free nothing fs ts h = ap length h.1
  as_many env bound free (more b bs) fs ts h = ap length h.7 ∙ ap suc (as_many env bound free bs h.1 h.3 h.5)

-- the formula of a bare formula
pub formula_well : (env : List (List ℕ × Ty)) (wanted : List (List ℕ)) (b : Bare) (o : Option Ty) (f : Formula) → IsTypedAs env wanted b o f → IsTrue (is_well f) × IsExpected o (type_of f)
formula_well env wanted b o f h =
    let w = typed_well env [] (env ++ paired wanted h.0) b f h.3 h.5 in
    (w.well, subst (IsExpected o) (sym w.is) h.4)
