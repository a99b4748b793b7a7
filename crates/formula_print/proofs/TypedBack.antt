-- What is written of a formula is typed as the formula, and not otherwise.
use Rattle.std.proofs.Common.{◌≡◌, ◌∙◌, sym, ap, subst, refl, ℕ, ℤ, zero, suc, ◌+◌, ◌-◌, ◌<◌, ◌≤◌, Bool, true, false, ◌&&◌, ◌||◌, List, [], ◌∷◌, ◌++◌, length, map, reverse, arith, Option, Some, None}
use Rattle.std.specs.Prelude.{bytes_eq}
use Rattle.std.specs.List.{slice_get, list_any, list_all, AllByRecursion}
use Rattle.std.specs.Option.{option_map_or}
use Rattle.std.specs.Map.{keys_of}
use Rattle.std.proofs.lemmas.List.{append-nil, reverse-append, length-reverse, length-append}
use Rattle.formula_core.specs.declared.ty.Ty.{Ty}
use Rattle.formula_core.specs.declared.ty.Ty.TheOpen.{Int as IntT, Bool as BoolT}
use Rattle.formula_core.specs.declared.ty.Ty.TheVariants as ty
use Rattle.formula_core.specs.declared.ty.Ty.TheViews as of_type
use Rattle.formula_core.specs.declared.op.Op.{Op}
use Rattle.formula_core.specs.declared.op.Op.TheVariants as op
use Rattle.formula_core.specs.declared.op.Binder.{Binder}
use Rattle.formula_core.specs.declared.formula.Formula.{Formula}
use Rattle.formula_core.specs.declared.formula.Formula.TheOpen.{Formula-F, Int as IntF, Free as FreeF, Bound as BoundF, Node as NodeF, Bind as BindF}
use Rattle.formula_core.specs.declared.formula.Formula.TheVariants.{Int, Free, Bound, Node, Bind}
use Rattle.formula_core.specs.declared.formula.Formula.TheViews.{roll-Formula, rolls-Int, rolls-Free, rolls-Bound, rolls-Node, rolls-Bind, outs-Int, outs-Free, outs-Bound, outs-Node, outs-Bind}
use Rattle.formula_core.specs.declared.formula.Formula.TheFolds.{map-Formula}
use Rattle.formula_core.specs.declared.raw.RawOp.TheVariants as rawop
use Rattle.formula_core.specs.declared.raw.RawBinder.TheVariants as rawbinder
use Rattle.formula_core.specs.declared.raw.RawBound.{RawBound}
use Rattle.formula_core.specs.declared.raw.Raw.{Raw}
use Rattle.formula_core.specs.declared.raw.Raw.TheVariants as raw
use Rattle.formula_core.specs.declared.raw.Raw.TheOpen.{Raw-F, Node as RawNode}
use Rattle.formula_core.specs.declared.raw.Raw.TheViews.{out-Raw, roll-Raw, roll-out-Raw, rolls-Node as raws-Node}
use Rattle.formula_core.specs.Formulas.{joined}
use Rattle.formula_core.specs.Types.{same_type, is_value_step, is_value_type}
use Rattle.formula_core.specs.TypeTable.{row_fits, binder_fits}
use Rattle.formula_core.specs.Rows.{row_of}
use Rattle.formula_core.specs.Schemes.{Scheme, alpha, beta, gamma, delta, integer, boolean, truth, power, pair, Letters, AreValues, type_of_scheme, operand_schemes, result_scheme, part_schemes, binder_scheme, IsSchemeInstance}
use Rattle.formula_core.specs.Env.{type_in}
use Rattle.formula_core.specs.Identifiers.{carriers, identifiers}
use Rattle.formula_core.specs.Sizes.{greatest}
use Rattle.formula_core.specs.Wellness.{type_of_step, type_of, may_be_bound, is_well_in, is_well}
use Rattle.formula_core.proofs.Equations.{formula_fold, type_fold, identifiers-Free, identifiers-Node, identifiers-Bind}
use Rattle.formula_core.proofs.Induction.{formula_induction}
use Rattle.formula_core.proofs.Schemes.{fits_exactly, binder_fits_exactly}
use Rattle.formula_core.proofs.Types.{same_type_exact}
use Rattle.formula_core.proofs.WholeSets.{value-Pow, value-Pair}
use Rattle.formula_core.proofs.Wellness.{well-Int, well-Free, well-Bound, well-Node, well-Bind}
use Rattle.type_formula.specs.Bare.{Bare, Number, Identifier, Form, Binding, Ascribed, nothing, more, part_count, has_names}
use Rattle.type_formula.specs.CoreForms.{core_form, bounds}
use Rattle.type_formula.specs.PrivateViews.{bound_part, in_a_row}
use Rattle.type_formula.specs.Scopes.{Scope, position_of, with_names, IsName}
use Rattle.type_formula.specs.TypeExpressions.{denoted}
use Rattle.type_formula.specs.Typings.{Types, AllTyped}
use Rattle.type_formula.proofs.CoreEquations.{core_form-Int, core_form-Name, read_node, read_plain}
use Rattle.formula_print.specs.Depths.{deepest}
use Rattle.formula_print.specs.Names.{bound_names}
use Rattle.formula_print.proofs.FreshNames.{AreFresh}
use Rattle.formula_print.specs.Printing.{name_at}
use Rattle.formula_print.specs.Written.{constant, type_raw, denied_at, denied, typed_raw, operator_raw, declared_with_types, written_step, written, raw_of, IsTypedBack}
use Rattle.formula_print.proofs.Equations.{deepest-Node, deepest-Bind}
use Rattle.formula_print.proofs.Letters.{is_typed, operator_type, binder_type}
use Rattle.formula_print.proofs.NamedScopes.{all_left, all_right, core_node, AreKnown, denotes, Scoped, Differ, IsOutside, all_at, differ_from, position, not_bound, found, core_bounds, bounds-declared, scoped_further, AllDenoted, declared_types, only_types}

first_true : (a b : Bool) → (a && b) ≡ true → a ≡ true
first_true true b h = refl
first_true false b h = cc

second_true : (a b : Bool) → (a && b) ≡ true → b ≡ true
second_true true b h = h
second_true false b h = cc

both_true : (a b : Bool) → a ≡ true → b ≡ true → (a && b) ≡ true
both_true true b h k = k
both_true false b h k = cc

-- a denied form in core form
denied_core : (r : Raw) → core_form (denied r) ≡ Form op.Not (more (core_form r) nothing)
denied_core r = go (out-Raw r) (roll-out-Raw r)
  where
    relation : (o : Op) (parts : List Raw) (place : ℕ) → roll-Raw (RawNode (rawop.Plain o) parts place) ≡ r → Form op.Not (more (Form o (in_a_row (map core_form parts))) nothing) ≡ Form op.Not (more (core_form r) nothing)
    relation o parts place e =
        ap (λ b. Form op.Not (more b nothing)) (read_node r (rawop.Plain o) parts place (in_a_row (map core_form parts)) (sym e ∙ raws-Node (rawop.Plain o) parts place) refl)

    go : (x : Raw-F Raw RawBound) → roll-Raw x ≡ r → core_form (denied_at r x) ≡ Form op.Not (more (core_form r) nothing)
    go (RawNode (rawop.Plain op.Equal) parts place) e = core_node rawop.NotEqual parts ∙ relation op.Equal parts place e
    go (RawNode (rawop.Plain op.Member) parts place) e = core_node rawop.NotMember parts ∙ relation op.Member parts place e
    go (RawNode (rawop.Plain op.ProperSubset) parts place) e = core_node rawop.NotProperSubset parts ∙ relation op.ProperSubset parts place e
    go (RawNode (rawop.Plain op.Subset) parts place) e = core_node rawop.NotSubset parts ∙ relation op.Subset parts place e
    go _ e = core_node (rawop.Plain op.Not) (r ∷ [])

-- an operator on parts in core form
core_operator : (o : Op) (rs : List Raw) (t : Ty) → is_typed o ≡ false → core_form (operator_raw o rs t) ≡ Form o (in_a_row (map core_form rs))
core_operator op.Not [] t h = core_node (rawop.Plain op.Not) []
core_operator op.Not (r ∷ []) t h = denied_core r
core_operator op.Not (r ∷ s ∷ rs) t h = core_node (rawop.Plain op.Not) (r ∷ s ∷ rs)
core_operator op.EmptySet rs t h = cc
core_operator op.Identity rs t h = cc
core_operator op.FirstProjection rs t h = cc
core_operator op.SecondProjection rs t h = cc
core_operator o rs t h = core_node (rawop.Plain o) rs

-- a constant with its type in core form
typed_operator : (o : Op) (t : Ty) → is_typed o ≡ true → operator_raw o [] t ≡ typed_raw o t
typed_operator op.EmptySet t h = refl
typed_operator op.Identity t h = refl
typed_operator op.FirstProjection t h = refl
typed_operator op.SecondProjection t h = refl
typed_operator _ t h = cc

core_typed : (o : Op) (t : Ty) → core_form (typed_raw o t) ≡ Ascribed (Form o nothing) (core_form (type_raw t))
core_typed o t = core_node rawop.OfType (constant o ∷ type_raw t ∷ []) ∙ ap (λ b. Ascribed b (core_form (type_raw t))) (core_node (rawop.Plain o) [])

no_operands : (o : Op) (parts : List Formula) (t : Ty) → is_typed o ≡ true → row_fits (row_of o) (map type_of parts) t ≡ true → parts ≡ []
no_operands o [] t h k = refl
no_operands op.EmptySet (p ∷ parts) t h k = cc
no_operands op.Identity (p ∷ parts) t h k = cc
no_operands op.FirstProjection (p ∷ parts) t h k = cc
no_operands op.SecondProjection (p ∷ parts) t h k = cc
no_operands _ (p ∷ parts) t h k = cc

-- a scheme without the sort of predicates is a type of values
abbrev is_of_values : Scheme → Bool
is_of_values truth = false
is_of_values (power s) = is_of_values s
is_of_values (pair s u) = is_of_values s && is_of_values u
is_of_values _ = true

values_at : (l : Letters) → AreValues l → (s : Scheme) → is_of_values s ≡ true → is_value_type (type_of_scheme l s) ≡ true
values_at l v alpha h = v.alpha
values_at l v beta h = v.beta
values_at l v gamma h = v.gamma
values_at l v delta h = v.delta
values_at l v integer h = type_fold is_value_step IntT ty.Int of_type.rolls-Int
values_at l v boolean h = type_fold is_value_step BoolT ty.Bool of_type.rolls-Bool
values_at l v truth h = cc
values_at l v (power s) h = value-Pow (type_of_scheme l s) ∙ values_at l v s h
values_at l v (pair s u) h =
    value-Pair (type_of_scheme l s) (type_of_scheme l u)
    ∙ both_true _ _ (values_at l v s (first_true (is_of_values s) (is_of_values u) h)) (values_at l v u (second_true (is_of_values s) (is_of_values u) h))

typed_value : (o : Op) → is_typed o ≡ true → is_of_values (result_scheme (row_of o)) ≡ true
typed_value op.EmptySet h = refl
typed_value op.Identity h = refl
typed_value op.FirstProjection h = refl
typed_value op.SecondProjection h = refl
typed_value _ h = cc

counted : (g : Formula → Bare) (fs : List Formula) → part_count (in_a_row (map g fs)) ≡ length (map type_of fs)
counted g [] = refl
counted g (f ∷ fs) = ap suc (counted g fs)

at_depth : (g : Formula → ℕ → Raw) (fs : List Formula) (depth : ℕ) → map core_form (map (λ (p : ℕ → Raw). p depth) (map g fs)) ≡ map (λ f. core_form (g f depth)) fs
at_depth g [] depth = refl
at_depth g (f ∷ fs) depth = ap (λ bs. core_form (g f depth) ∷ bs) (at_depth g fs depth)

bound_type : (o : Option Ty) (t : Ty) → option_map_or (λ u. same_type u t) o false ≡ true → o ≡ Some t
bound_type None t h = cc
bound_type (Some u) t h = ap Some (same_type_exact u t h)

to_name : (x : List ℕ) (a b c d : Option (ℕ × Ty)) → a ≡ c → b ≡ d → (g : Formula) (u : Ty) → IsName x c d g u → IsName x a b g u
to_name x a b c d e f g u h =
    let P : Option (ℕ × Ty) → Type 0 = λ o. IsName x o b g u in
    let Q : Option (ℕ × Ty) → Type 0 = λ o. IsName x c o g u in
    subst P (sym e) (subst Q (sym f) h)

abbrev AreAllValues : List Ty → Type 0
AreAllValues bound = AllByRecursion (λ t. is_value_type t ≡ true) bound

value_of : (bound : List Ty) (i : ℕ) (t : Ty) → AreAllValues bound → slice_get bound i ≡ Some t → is_value_type t ≡ true
value_of [] i t all is = cc
value_of (u ∷ bound) zero t all is = let same : u ≡ t = cc in ap is_value_type (sym same) ∙ all.0
value_of (u ∷ bound) (suc i) t all is = value_of bound i t all.1 is

all_append : (xs ys : List Ty) → AreAllValues xs → AreAllValues ys → AreAllValues (xs ++ ys)
all_append [] ys all others = others
all_append (x ∷ xs) ys all others = (all.0, all_append xs ys all.1 others)

all_reverse : (xs : List Ty) → AreAllValues xs → AreAllValues (reverse xs)
all_reverse [] all = tt
all_reverse (x ∷ xs) all = subst AreAllValues (sym (reverse-append (x ∷ []) xs)) (all_append (reverse xs) (x ∷ []) (all_reverse xs all.1) (all.0, tt))

all_of : (xs : List Ty) → list_all is_value_type xs ≡ true → AreAllValues xs
all_of [] h = tt
all_of (x ∷ xs) h = (first_true (is_value_type x) (list_all is_value_type xs) h, all_of xs (second_true (is_value_type x) (list_all is_value_type xs) h))

may_be : (types : List Ty) → may_be_bound types ≡ true → list_all is_value_type types ≡ true
may_be [] h = cc
may_be (t ∷ types) h = h

named : (names : List (List ℕ)) (types : List Ty) (depth : ℕ) → may_be_bound types ≡ true → has_names (core_bounds names types depth) ≡ true
named names [] depth h = cc
named names (t ∷ types) depth h = refl

module _ (env : List (List ℕ × Ty)) (names : List (List ℕ)) (differ : Differ names) where
  -- each of these identifiers has its type in the environment, and none of the names
  abbrev IsReached : List ℕ × Ty → Type 0
  IsReached x = (type_in env x.0 ≡ Some x.1) × IsOutside names x.0

  abbrev Reached : List (List ℕ × Ty) → Type 0
  Reached xs = AllByRecursion IsReached xs

  known : (bound : List Ty) → length bound ≤ length names → (xs : List (List ℕ × Ty)) → Reached xs → AreKnown env (Scoped names bound) xs
  known bound few [] all = tt
  known bound few (x ∷ xs) all = ((all.0.0, (not_bound names x.0 all.0.1 bound few).1), known bound few xs all.1)

  -- the bare formula is typed so, and not otherwise
  abbrev IsOnly : List Ty → Bare → Formula → Ty → Type 0
  IsOnly bound b f t = Types env (Scoped names bound) env b f t × ((g : Formula) (u : Ty) → Types env (Scoped names bound) env b g u → (g ≡ f) × (u ≡ t))

  moved : (bound : List Ty) (b c : Bare) (f : Formula) (t u : Ty) → c ≡ b → u ≡ t → IsOnly bound b f t → IsOnly bound c f u
  moved bound b c f t u e h only =
      let P : Bare → Type 0 = λ x. IsOnly bound x f u in
      let Q : Ty → Type 0 = λ x. IsOnly bound b f x in
      subst P (sym e) (subst Q (sym h) only)

  abbrev IsBack : Formula → Type 0
  IsBack f =
      (bound : List Ty) → AreAllValues bound → length bound + deepest f ≤ length names → is_well_in f bound ≡ true → Reached (identifiers f)
      → IsOnly bound (core_form (written names f (length bound))) f (type_of f)

  written-at : (x : Formula-F Formula) (f : Formula) → roll-Formula x ≡ f → (depth : ℕ) → written names f depth ≡ written_step names (map-Formula Formula (ℕ → Raw) (written names) x) depth
  written-at x f e depth = ap (λ (w : ℕ → Raw). w depth) (formula_fold (written_step names) x f e)

  at_int : (n : ℤ) → IsBack (Int n)
  at_int n bound values few well reached =
      moved bound (Number n) _ (Int n) ty.Int _ (ap core_form (written-at (IntF n) (Int n) (rolls-Int n) (length bound)) ∙ core_form-Int n 0) (ap type_of_step (outs-Int n))
      ((sym (well-Int n bound) ∙ well, refl, refl), (λ g u h. (h.1, h.2)))

  at_free : (x : List ℕ) (t : Ty) → IsBack (Free x t)
  at_free x t bound values few well reached =
      let all : Reached ((x, t) ∷ carriers t) = subst Reached (identifiers-Free x t) reached in
      let absent : position_of x (Scoped names bound) ≡ None = (not_bound names x all.0.1 bound (omega arith)).0 in
      let there : (k : ℕ) × (position_of x env ≡ Some (k, t)) = found env x t all.0.0 in
      moved bound (Identifier x 0) _ (Free x t) t _ (ap core_form (written-at (FreeF x t) (Free x t) (rolls-Free x t) (length bound)) ∙ core_form-Name x 0) (ap type_of_step (outs-Free x t)) (
        (sym (well-Free x t bound) ∙ well, to_name x _ _ None (Some (there.0, t)) absent there.1 (Free x t) t (refl, refl)),
        (λ g u h. let n : (g ≡ Free x u) × (u ≡ t) = to_name x None (Some (there.0, t)) _ _ (sym absent) (sym there.1) g u h.1 in (n.0 ∙ ap (Free x) n.1, n.1)),
      )

  at_bound : (i : ℕ) (t : Ty) → IsBack (Bound i t)
  at_bound i t bound values few well reached =
      let is : slice_get bound i ≡ Some t = bound_type (slice_get bound i) t (sym (well-Bound i t bound) ∙ well) in
      let x : List ℕ = name_at names (length bound - 1 - i) in
      let there : position_of x (Scoped names bound) ≡ Some (i, t) = position names differ bound i t (omega arith) is in
      moved bound (Identifier x 0) _ (Bound i t) t _ (ap core_form (written-at (BoundF i t) (Bound i t) (rolls-Bound i t) (length bound)) ∙ core_form-Name x 0) (ap type_of_step (outs-Bound i t)) (
        (value_of bound i t values is, to_name x _ _ (Some (i, t)) (position_of x env) there refl (Bound i t) t (refl, refl)),
        (λ g u h. let n : (g ≡ Bound i u) × (u ≡ t) = to_name x (Some (i, t)) (position_of x env) _ _ (sym there) refl g u h.1 in (n.0 ∙ ap (Bound i) n.1, n.1)),
      )

  -- parts in a row
  all_only : (bound : List Ty) (b : Formula → Bare) (fs : List Formula) → AllByRecursion (λ f. IsOnly bound (b f) f (type_of f)) fs
      → AllTyped env (Scoped names bound) env (in_a_row (map b fs)) fs (map type_of fs)
      × ((gs : List Formula) (ts : List Ty) → AllTyped env (Scoped names bound) env (in_a_row (map b fs)) gs ts → (gs ≡ fs) × (ts ≡ map type_of fs))
  all_only bound b [] all = ((refl, refl), (λ gs ts h. h))
  all_only bound b (f ∷ fs) all =
      let later : AllTyped env (Scoped names bound) env (in_a_row (map b fs)) fs (map type_of fs)
      × ((gs : List Formula) (ts : List Ty) → AllTyped env (Scoped names bound) env (in_a_row (map b fs)) gs ts → (gs ≡ fs) × (ts ≡ map type_of fs)) = all_only bound b fs all.1 in (
        (f, fs, type_of f, map type_of fs, all.0.0, later.0, refl, refl),
        (λ gs ts h.
            let one : (h.0 ≡ f) × (h.2 ≡ type_of f) = all.0.1 h.0 h.2 h.4 in
            let rest : (h.1 ≡ fs) × (h.3 ≡ map type_of fs) = later.1 h.1 h.3 h.5 in
            (h.6 ∙ (λ i. one.0 i ∷ rest.0 i), h.7 ∙ (λ i. one.1 i ∷ rest.1 i))),
      )

  each : (bound : List Ty) → AreAllValues bound → (fs : List Formula) → AllByRecursion IsBack fs → length bound + greatest (map deepest fs) ≤ length names
      → list_all (λ f. is_well_in f bound) fs ≡ true → Reached (joined (map identifiers fs)) → AllByRecursion (λ f. IsOnly bound (core_form (written names f (length bound))) f (type_of f)) fs
  each bound values [] all few well reached = tt
  each bound values (f ∷ fs) all few well reached = (
    all.0 bound values (omega arith) (first_true (is_well_in f bound) (list_all (λ f. is_well_in f bound) fs) well) (all_left IsReached (identifiers f) (joined (map identifiers fs)) reached),
    each bound values fs all.1 (omega arith) (second_true (is_well_in f bound) (list_all (λ f. is_well_in f bound) fs) well) (all_right IsReached (identifiers f) (joined (map identifiers fs)) reached),
  )

  module _ (o : Op) (parts : List Formula) (t : Ty) (all : AllByRecursion IsBack parts) (bound : List Ty) (values : AreAllValues bound)
      (few : length bound + deepest (Node o parts t) ≤ length names) (well : is_well_in (Node o parts t) bound ≡ true) (reached : Reached (identifiers (Node o parts t))) where
    tests : (list_all (λ f. is_well_in f bound) parts && row_fits (row_of o) (map type_of parts) t) ≡ true
    tests = sym (well-Node o parts t bound) ∙ well

    fitting : row_fits (row_of o) (map type_of parts) t ≡ true
    fitting = second_true (list_all (λ f. is_well_in f bound) parts) _ tests

    split : Reached (joined (map identifiers parts) ++ carriers t)
    split = subst Reached (identifiers-Node o parts t) reached

    core : core_form (written names (Node o parts t) (length bound)) ≡ core_form (operator_raw o (map (λ (p : ℕ → Raw). p (length bound)) (map (written names) parts)) t)
    core = ap core_form (written-at (NodeF o parts t) (Node o parts t) (rolls-Node o parts t) (length bound))

    abbrev bare : Formula → Bare
    bare f = core_form (written names f (length bound))

    untyped_node : is_typed o ≡ false → IsOnly bound (core_form (written names (Node o parts t) (length bound))) (Node o parts t) (type_of (Node o parts t))
    untyped_node h =
        let k : ℕ = part_count (in_a_row (map bare parts)) in
        let inner : AllByRecursion (λ f. IsOnly bound (bare f) f (type_of f)) parts
        = each bound values parts all (omega (arith, deepest-Node o parts t, few)) (first_true _ (row_fits (row_of o) (map type_of parts) t) tests) (all_left IsReached (joined (map identifiers parts)) (carriers t) split) in
        let row : AllTyped env (Scoped names bound) env (in_a_row (map bare parts)) parts (map type_of parts)
        × ((gs : List Formula) (ts : List Ty) → AllTyped env (Scoped names bound) env (in_a_row (map bare parts)) gs ts → (gs ≡ parts) × (ts ≡ map type_of parts)) = all_only bound bare parts inner in
        let I : ℕ → Type 0 = λ n. IsSchemeInstance (operand_schemes (row_of o) n) (result_scheme (row_of o)) (map type_of parts) t in
        let instance : I k = subst I (sym (counted bare parts)) ((fits_exactly (row_of o) (map type_of parts) t).0 fitting) in
        moved bound (Form o (in_a_row (map bare parts))) _ (Node o parts t) t _
        (core ∙ core_operator o _ t h ∙ ap (λ bs. Form o (in_a_row bs)) (at_depth (written names) parts (length bound))) (ap type_of_step (outs-Node o parts t)) (
          (parts, map type_of parts, row.0, instance, refl),
          (λ g u h'.
              let same : (h'.0 ≡ parts) × (h'.1 ≡ map type_of parts) = row.1 h'.0 h'.1 h'.2 in
              let J : List Ty → Type 0 = λ ts. IsSchemeInstance (operand_schemes (row_of o) k) (result_scheme (row_of o)) ts u in
              let one : u ≡ t = operator_type o k (map type_of parts) u t h (subst J same.1 h'.3) instance in
              (h'.4 ∙ (λ i. Node o (same.0 i) (one i)), one)),
        )

    typed_node : is_typed o ≡ true → IsOnly bound (core_form (written names (Node o parts t) (length bound))) (Node o parts t) (type_of (Node o parts t))
    typed_node h =
        let none : parts ≡ [] = no_operands o parts t h fitting in
        let alone : core_form (operator_raw o (map (λ (p : ℕ → Raw). p (length bound)) (map (written names) parts)) t) ≡ Ascribed (Form o nothing) (core_form (type_raw t))
        = ap (λ ps. core_form (operator_raw o (map (λ (p : ℕ → Raw). p (length bound)) (map (written names) ps)) t)) none ∙ ap core_form (typed_operator o t h) ∙ core_typed o t in
        let F : List Formula → Type 0 = λ ps. row_fits (row_of o) (map type_of ps) t ≡ true in
        let instance : IsSchemeInstance (operand_schemes (row_of o) 0) (result_scheme (row_of o)) [] t = (fits_exactly (row_of o) [] t).0 (subst F none fitting) in
        let value : is_value_type t ≡ true = ap is_value_type instance.whole_is ∙ values_at instance.letters instance.values (result_scheme (row_of o)) (typed_value o h) in
        let written_type : denoted env (Scoped names bound) (core_form (type_raw t)) ≡ Some t
        = denotes env (Scoped names bound) t value (known bound (omega (arith, few)) (carriers t) (all_right IsReached (joined (map identifiers parts)) (carriers t) split)) in
        moved bound (Ascribed (Form o nothing) (core_form (type_raw t))) _ (Node o parts t) t _ (core ∙ alone) (ap type_of_step (outs-Node o parts t)) (
          (written_type, ([], [], (refl, refl), instance, ap (λ ps. Node o ps t) none)),
          (λ g u h'.
              let one : u ≡ t = let e : Some u ≡ Some t = sym h'.0 ∙ written_type in cc in
              (h'.1.4 ∙ (λ i. Node o (h'.1.2.0 i) (one i)) ∙ ap (λ ps. Node o ps t) (sym none), one)),
        )

    node_back : (b : Bool) → is_typed o ≡ b → IsOnly bound (core_form (written names (Node o parts t) (length bound))) (Node o parts t) (type_of (Node o parts t))
    node_back true h = typed_node h
    node_back false h = untyped_node h

  at_node : (o : Op) (parts : List Formula) (t : Ty) → AllByRecursion IsBack parts → IsBack (Node o parts t)
  at_node o parts t all bound values few well reached = node_back o parts t all bound values few well reached (is_typed o) refl

  module _ (b : Binder) (types : List Ty) (parts : List Formula) (t : Ty) (all : AllByRecursion IsBack parts) (bound : List Ty) (values : AreAllValues bound)
      (few : length bound + deepest (Bind b types parts t) ≤ length names) (well : is_well_in (Bind b types parts t) bound ≡ true) (reached : Reached (identifiers (Bind b types parts t))) where
    abbrev deeper : List Ty
    deeper = reverse types ++ bound

    bind_back : IsOnly bound (core_form (written names (Bind b types parts t) (length bound))) (Bind b types parts t) (type_of (Bind b types parts t))
    bind_back =
        let tests : (may_be_bound types && binder_fits b (map type_of parts) t && list_all (λ f. is_well_in f deeper) parts) ≡ true = sym (well-Bind b types parts t bound) ∙ well in
        let head : (may_be_bound types && binder_fits b (map type_of parts) t) ≡ true = first_true _ (list_all (λ f. is_well_in f deeper) parts) tests in
        let may : may_be_bound types ≡ true = first_true (may_be_bound types) _ head in
        let typed_values : AreAllValues types = all_of types (may_be types may) in
        let deep : length deeper ≡ length bound + length types = length-append (reverse types) bound ∙ omega (arith, length-reverse types) in
        let split : Reached (joined (map carriers types) ++ joined (map identifiers parts) ++ carriers t) = subst Reached (identifiers-Bind b types parts t) reached in
        let front : Reached (joined (map carriers types) ++ joined (map identifiers parts)) = all_left IsReached (joined (map carriers types) ++ joined (map identifiers parts)) (carriers t) split in
        let bare : Formula → Bare = λ f. core_form (written names f (length deeper)) in
        let inner : AllByRecursion (λ f. IsOnly deeper (bare f) f (type_of f)) parts
        = each deeper (all_append (reverse types) bound (all_reverse types typed_values) values) parts all (omega (arith, deepest-Bind b types parts t, few, deep))
        (second_true (may_be_bound types && binder_fits b (map type_of parts) t) _ tests) (all_right IsReached (joined (map carriers types)) (joined (map identifiers parts)) front) in
        let row : AllTyped env (Scoped names deeper) env (in_a_row (map bare parts)) parts (map type_of parts)
        × ((gs : List Formula) (ts : List Ty) → AllTyped env (Scoped names deeper) env (in_a_row (map bare parts)) gs ts → (gs ≡ parts) × (ts ≡ map type_of parts)) = all_only deeper bare parts inner in
        let instance : IsSchemeInstance (part_schemes b) (binder_scheme b) (map type_of parts) t = (binder_fits_exactly b (map type_of parts) t).0 (second_true (may_be_bound types) _ head) in
        let denoted_all : AllDenoted env names (Scoped names bound) types = all_denoted types typed_values (all_left IsReached (joined (map carriers types)) (joined (map identifiers parts)) front) in
        let S : Scope Ty → Type 0 = λ s. AllTyped env s env (in_a_row (map bare parts)) parts (map type_of parts) in
        moved bound (Binding b (core_bounds names types (length bound)) (in_a_row (map bare parts))) _ (Bind b types parts t) t _ (core deep) (ap type_of_step (outs-Bind b types parts t)) (
          (
            types,
            declared_types env names (Scoped names bound) types (length bound) denoted_all,
            named names types (length bound) may,
            parts,
            map type_of parts,
            subst S (sym (scoped_further names types bound)) row.0,
            instance,
            refl,
          ),
          (λ g u h.
              let same_types : h.0 ≡ types = only_types env names (Scoped names bound) types (length bound) denoted_all h.0 h.1 in
              let R : Scope Ty → Type 0 = λ s. AllTyped env s env (in_a_row (map bare parts)) h.3 h.4 in
              let same : (h.3 ≡ parts) × (h.4 ≡ map type_of parts)
              = row.1 h.3 h.4 (subst R (ap (λ ts. with_names (core_bounds names types (length bound)) ts (Scoped names bound)) same_types ∙ scoped_further names types bound) h.5) in
              let J : List Ty → Type 0 = λ ts. IsSchemeInstance (part_schemes b) (binder_scheme b) ts u in
              let one : u ≡ t = binder_type b (map type_of parts) u t (subst J same.1 h.6) instance in
              (h.7 ∙ (λ i. Bind b (same_types i) (same.0 i) (one i)), one)),
        )
      where
        all_denoted : (ts : List Ty) → AreAllValues ts → Reached (joined (map carriers ts)) → AllDenoted env names (Scoped names bound) ts
        all_denoted [] vs rs = tt
        all_denoted (u ∷ ts) vs rs = (
          denotes env (Scoped names bound) u vs.0 (known bound (omega (arith, few)) (carriers u) (all_left IsReached (carriers u) (joined (map carriers ts)) rs)),
          all_denoted ts vs.1 (all_right IsReached (carriers u) (joined (map carriers ts)) rs),
        )

        core : length deeper ≡ length bound + length types → core_form (written names (Bind b types parts t) (length bound))
            ≡ Binding b (core_bounds names types (length bound)) (in_a_row (map (λ f. core_form (written names f (length deeper))) parts))
        core deep =
            ap core_form (written-at (BindF b types parts t) (Bind b types parts t) (rolls-Bind b types parts t) (length bound))
            ∙ sym (read_plain (raw.Bind (rawbinder.Plain b) (declared_with_types names types (length bound)) (map (λ (p : ℕ → Raw). p (length bound + length types)) (map (written names) parts)) 0)
            (rawbinder.Plain b) (declared_with_types names types (length bound)) (map (λ (p : ℕ → Raw). p (length bound + length types)) (map (written names) parts)) 0 refl
            (bounds (map bound_part (declared_with_types names types (length bound)))) refl b
            (in_a_row (map core_form (map (λ (p : ℕ → Raw). p (length bound + length types)) (map (written names) parts)))) refl refl)
            ∙ (λ i. Binding b (bounds-declared names types (length bound) i) (in_a_row (at_depth (written names) parts (sym deep i) i)))

  back : (f : Formula) → IsBack f
  back = formula_induction IsBack at_int at_free at_bound at_node (λ b types parts t all bound values few well reached. bind_back b types parts t all bound values few well reached)

either_false : (a b : Bool) → (a || b) ≡ false → (a ≡ false) × (b ≡ false)
either_false true b h = cc
either_false false b h = (refl, h)

reach : (env : List (List ℕ × Ty)) (names : List (List ℕ)) (xs : List (List ℕ × Ty)) → AllByRecursion (λ x. type_in env x.0 ≡ Some x.1) xs
    → ((i : ℕ) → i < length names → list_any (bytes_eq (name_at names i)) (keys_of xs) ≡ false) → AllByRecursion (λ x. (type_in env x.0 ≡ Some x.1) × IsOutside names x.0) xs
reach env names [] all out = tt
reach env names (x ∷ xs) all out = (
  (all.0, (λ i short. (either_false (bytes_eq (name_at names i) x.0) (list_any (bytes_eq (name_at names i)) (keys_of xs)) (out i short)).0)),
  reach env names xs all.1 (λ i short. (either_false (bytes_eq (name_at names i) x.0) (list_any (bytes_eq (name_at names i)) (keys_of xs)) (out i short)).1),
)

-- the law
pub typed_back : (f : Formula) → is_well f ≡ true → AreFresh (keys_of (identifiers f)) (deepest f) (bound_names f) → IsTypedBack f
typed_back f well fresh env all expected fits_it =
    let reached : AllByRecursion (λ x. (type_in env x.0 ≡ Some x.1) × IsOutside (bound_names f) x.0) (identifiers f)
    = reach env (bound_names f) (identifiers f) all (λ i short. all_at (λ name. list_any (bytes_eq name) (keys_of (identifiers f)) ≡ false) (bound_names f) i short fresh.untaken) in
    let only : Types env [] env (core_form (raw_of f)) f (type_of f) × ((g : Formula) (u : Ty) → Types env [] env (core_form (raw_of f)) g u → (g ≡ f) × (u ≡ type_of f))
    = back env (bound_names f) (differ_from (bound_names f) fresh.distinct) f [] tt (omega (arith, fresh.enough)) well reached in
    let P : Scope Ty → Type 0 = λ s. Types env [] s (core_form (raw_of f)) f (type_of f) in
    record {
      typed = ([], tt, refl, type_of f, fits_it, subst P (sym (append-nil env)) only.0);
      only = λ other h. let Q : Scope Ty → Type 0 = λ s. Types env [] s (core_form (raw_of f)) other h.3 in (only.1 other h.3 (subst Q (append-nil env) h.5)).0;
    }
