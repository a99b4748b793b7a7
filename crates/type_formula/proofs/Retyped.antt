-- A typing with the integers in the place of each carrier set that is not one of the environment is a typing again.
use Rattle.std.proofs.Common.{◌≡◌, ◌∙◌, sym, ap, subst, refl, ℕ, suc, ℤ, List, [], ◌∷◌, ◌++◌, length, map, Option, Some, None}
use Rattle.std.specs.List.{AllByRecursion}
use Rattle.formula_core.specs.declared.op.Op.{Op}
use Rattle.formula_core.specs.declared.op.Op.TheVariants as op
use Rattle.formula_core.specs.declared.op.Binder.{Binder}
use Rattle.formula_core.specs.declared.ty.Ty.{Ty}
use Rattle.formula_core.specs.declared.ty.Ty.TheVariants as ty
use Rattle.formula_core.specs.declared.formula.Formula.{Formula}
use Rattle.formula_core.specs.declared.formula.Formula.TheOpen.{Formula-F, Int as IntF, Free as FreeF, Bound as BoundF, Node as NodeF, Bind as BindF}
use Rattle.formula_core.specs.declared.formula.Formula.TheVariants as formula
use Rattle.formula_core.specs.declared.formula.Formula.TheViews.{rolls-Int, rolls-Free, rolls-Bound, rolls-Node, rolls-Bind, outs-Int, outs-Free, outs-Bound, outs-Node, outs-Bind}
use Rattle.formula_core.specs.declared.formula.Formula.TheFolds.{fold-Formula}
use Rattle.formula_core.specs.Formulas.{joined, occurrences}
use Rattle.formula_core.specs.Identifiers.{carriers, identifiers_step, identifiers}
use Rattle.formula_core.specs.Rows.{row_of}
use Rattle.formula_core.specs.Schemes.{truth, operand_schemes, result_scheme, part_schemes, binder_scheme}
use Rattle.formula_core.specs.Typed.{Stands, HasCarriers}
use Rattle.formula_core.specs.Wellness.{type_of_step, type_of}
use Rattle.formula_core.proofs.Equations.{formula_fold, occurrences-Free, occurrences-Node, occurrences-Bind, identifiers-Free, identifiers-Bound, identifiers-Node, identifiers-Bind}
use Rattle.formula_core.proofs.Induction.{formula_induction}
use Rattle.type_formula.specs.Answers.{paired, AreValueTypes, IsExpected, IsTypedAs}
use Rattle.type_formula.specs.Bare.{Bare, Bares, BareBounds, Number, Identifier, Form, Partition, Binding, Ascribed, Broken, nothing, more, unbound, plain, typed, part_count}
use Rattle.type_formula.specs.Laws.{IsExpectedOver}
use Rattle.type_formula.specs.Partition.{partition_schemes, left_nested, union_of, set_equality, disjoint, all_disjoint, partition_of}
use Rattle.type_formula.specs.Scopes.{Scope, position_of, with_names, IsName}
use Rattle.type_formula.specs.TypeExpressions.{denoted}
use Rattle.type_formula.specs.Typings.{AreBound, Types, AllTyped}
use Rattle.type_formula.proofs.Named.{Entries, all_append, all_front, all_back, occurrences-Int, occurrences-Bound}
use Rattle.type_formula.proofs.Places.{over, place_over, position-over, denoted-over}
use Rattle.type_formula.proofs.Settled.{IsOver, denoted_over, settled, settled-Int, settled-Truth, settled_over, settled_kept, settled_value, settled_instance}

module _ (env : Entries) where
  abbrev retyped_step : Formula-F Formula → Formula
  retyped_step (IntF n) = formula.Int n
  retyped_step (FreeF x t) = formula.Free x (settled env t)
  retyped_step (BoundF i t) = formula.Bound i (settled env t)
  retyped_step (NodeF o parts t) = formula.Node o parts (settled env t)
  retyped_step (BindF binder types parts t) = formula.Bind binder (map (settled env) types) parts (settled env t)

  abbrev pub retyped : Formula → Formula
  retyped = fold-Formula Formula retyped_step

  retyped-Int : (n : ℤ) → retyped (formula.Int n) ≡ formula.Int n
  retyped-Int n = formula_fold retyped_step (IntF n) _ (rolls-Int n)

  retyped-Free : (x : List ℕ) (t : Ty) → retyped (formula.Free x t) ≡ formula.Free x (settled env t)
  retyped-Free x t = formula_fold retyped_step (FreeF x t) _ (rolls-Free x t)

  retyped-Bound : (i : ℕ) (t : Ty) → retyped (formula.Bound i t) ≡ formula.Bound i (settled env t)
  retyped-Bound i t = formula_fold retyped_step (BoundF i t) _ (rolls-Bound i t)

  retyped-Node : (o : Op) (parts : List Formula) (t : Ty) → retyped (formula.Node o parts t) ≡ formula.Node o (map retyped parts) (settled env t)
  retyped-Node o parts t = formula_fold retyped_step (NodeF o parts t) _ (rolls-Node o parts t)

  retyped-Bind : (binder : Binder) (types : List Ty) (parts : List Formula) (t : Ty)
      → retyped (formula.Bind binder types parts t) ≡ formula.Bind binder (map (settled env) types) (map retyped parts) (settled env t)
  retyped-Bind binder types parts t = formula_fold retyped_step (BindF binder types parts t) _ (rolls-Bind binder types parts t)

  retyped_type : (f : Formula) → type_of (retyped f) ≡ settled env (type_of f)
  retyped_type = formula_induction (λ f. type_of (retyped f) ≡ settled env (type_of f))
      (λ n. ap type_of (retyped-Int n) ∙ ap type_of_step (outs-Int n) ∙ sym (settled-Int env) ∙ sym (ap (λ y. settled env (type_of_step y)) (outs-Int n)))
      (λ x t. ap type_of (retyped-Free x t) ∙ ap type_of_step (outs-Free x (settled env t)) ∙ sym (ap (λ y. settled env (type_of_step y)) (outs-Free x t)))
      (λ i t. ap type_of (retyped-Bound i t) ∙ ap type_of_step (outs-Bound i (settled env t)) ∙ sym (ap (λ y. settled env (type_of_step y)) (outs-Bound i t)))
      (λ o parts t each. ap type_of (retyped-Node o parts t) ∙ ap type_of_step (outs-Node o (map retyped parts) (settled env t))
      ∙ sym (ap (λ y. settled env (type_of_step y)) (outs-Node o parts t)))
      (λ binder types parts t each. ap type_of (retyped-Bind binder types parts t)
      ∙ ap type_of_step (outs-Bind binder (map (settled env) types) (map retyped parts) (settled env t))
      ∙ sym (ap (λ y. settled env (type_of_step y)) (outs-Bind binder types parts t)))

  -- The core form of a partition.

  retyped-chain : (o : Op) (t : Ty) (f : Formula) (fs : List Formula) → retyped (left_nested o t f fs) ≡ left_nested o (settled env t) (retyped f) (map retyped fs)
  retyped-chain o t f [] = refl
  retyped-chain o t f (a ∷ fs) =
      retyped-chain o t (formula.Node o (f ∷ a ∷ []) t) fs ∙ ap (λ g. left_nested o (settled env t) g (map retyped fs)) (retyped-Node o (f ∷ a ∷ []) t)

  retyped-equal : (a b : Formula) → retyped (set_equality a b) ≡ set_equality (retyped a) (retyped b)
  retyped-equal a b = retyped-Node op.Equal (a ∷ b ∷ []) ty.Truth ∙ ap (formula.Node op.Equal (retyped a ∷ retyped b ∷ [])) (settled-Truth env)

  retyped-union : (t : Ty) (fs : List Formula) → retyped (union_of t fs) ≡ union_of (settled env t) (map retyped fs)
  retyped-union t [] = retyped-Node op.EmptySet [] t
  retyped-union t (a ∷ fs) = retyped-chain op.Union t a fs

  retyped-disjoint : (t : Ty) (a b : Formula) → retyped (disjoint t a b) ≡ disjoint (settled env t) (retyped a) (retyped b)
  retyped-disjoint t a b =
      retyped-equal (formula.Node op.Intersection (a ∷ b ∷ []) t) (formula.Node op.EmptySet [] t)
      ∙ (λ i. set_equality (retyped-Node op.Intersection (a ∷ b ∷ []) t i) (retyped-Node op.EmptySet [] t i))

  retyped-from : (t : Ty) (a : Formula) (fs rest : List Formula)
      → map retyped (map (disjoint t a) fs ++ rest) ≡ map (disjoint (settled env t) (retyped a)) (map retyped fs) ++ map retyped rest
  retyped-from t a [] rest = refl
  retyped-from t a (b ∷ fs) rest = λ i. retyped-disjoint t a b i ∷ retyped-from t a fs rest i

  retyped-all_disjoint : (t : Ty) (fs : List Formula) → map retyped (all_disjoint t fs) ≡ all_disjoint (settled env t) (map retyped fs)
  retyped-all_disjoint t [] = refl
  retyped-all_disjoint t (a ∷ fs) =
      retyped-from t a fs (all_disjoint t fs) ∙ ap (λ rest. map (disjoint (settled env t) (retyped a)) (map retyped fs) ++ rest) (retyped-all_disjoint t fs)

  retyped-partition : (fs : List Formula) → retyped (partition_of fs) ≡ partition_of (map retyped fs)
  retyped-partition [] = retyped-Node op.Top [] ty.Truth ∙ ap (formula.Node op.Top []) (settled-Truth env)
  retyped-partition (s ∷ parts) =
      let first : retyped (set_equality s (union_of (type_of s) parts)) ≡ set_equality (retyped s) (union_of (settled env (type_of s)) (map retyped parts)) =
      retyped-equal s (union_of (type_of s) parts) ∙ ap (set_equality (retyped s)) (retyped-union (type_of s) parts) in
      let rest : map retyped (all_disjoint (type_of s) parts) ≡ all_disjoint (settled env (type_of s)) (map retyped parts) = retyped-all_disjoint (type_of s) parts in
      retyped-chain op.And ty.Truth (set_equality s (union_of (type_of s) parts)) (all_disjoint (type_of s) parts)
      ∙ (λ i. left_nested op.And (settled-Truth env i) (first i) (rest i))
      ∙ ap (λ t. left_nested op.And ty.Truth (set_equality (retyped s) (union_of t (map retyped parts))) (all_disjoint t (map retyped parts))) (sym (retyped_type s))

  -- Typings.

  retyped_name : (x : List ℕ) (p q : Option (ℕ × Ty)) (f : Formula) (t : Ty) → IsName x p q f t → IsName x (place_over (settled env) p) (place_over (settled env) q) (retyped f) (settled env t)
  retyped_name x (Some p) q f t h = (ap retyped h.0 ∙ retyped-Bound p.0 t, ap (settled env) h.1)
  retyped_name x None (Some q) f t h = (ap retyped h.0 ∙ retyped-Free x t, ap (settled env) h.1)
  retyped_name x None None f t h = absurd h

  pub with_names-over : (names : BareBounds) (ts : List Ty) (s : Scope Ty) → with_names names (map (settled env) ts) (over (settled env) s) ≡ over (settled env) (with_names names ts s)
  with_names-over unbound ts s = refl
  with_names-over (plain x names) [] s = refl
  with_names-over (plain x names) (t ∷ ts) s = with_names-over names ts ((x, t) ∷ s)
  with_names-over (typed x written names) [] s = refl
  with_names-over (typed x written names) (t ∷ ts) s = with_names-over names ts ((x, t) ∷ s)

  denoted_retyped : (bound : Scope Ty) (b : Bare) (t : Ty) → denoted env bound b ≡ Some t → denoted env (over (settled env) bound) b ≡ Some (settled env t)
  denoted_retyped bound b t e = denoted-over (settled env) env bound b ∙ e ∙ ap Some (sym (settled_kept env t (denoted_over env bound b t e)))

  bound_retyped : (outer : Scope Ty) (names : BareBounds) (ts : List Ty) → AreBound env outer names ts → AreBound env (over (settled env) outer) names (map (settled env) ts)
  bound_retyped outer unbound ts h = ap (map (settled env)) h
  bound_retyped outer (plain x names) ts h =
      (settled env h.0, map (settled env) h.1, settled_value env h.0 ∙ h.2, bound_retyped outer names h.1 h.3, ap (map (settled env)) h.4)
  bound_retyped outer (typed x written names) ts h =
      (settled env h.0, map (settled env) h.1, denoted_retyped outer written h.0 h.2, bound_retyped outer names h.1 h.3, ap (map (settled env)) h.4)

  mutual
    types_retyped : (bound free : Scope Ty) (b : Bare) (f : Formula) (t : Ty) → Types env bound free b f t → Types env (over (settled env) bound) (over (settled env) free) b (retyped f) (settled env t)
    types_retyped bound free (Number n) f t h = (h.0, ap retyped h.1 ∙ retyped-Int n, ap (settled env) h.2 ∙ settled-Int env)
    types_retyped bound free (Identifier x place) f t h =
        let named = retyped_name x (position_of x bound) (position_of x free) f t h.1 in
        let one = subst (λ o. IsName x o (place_over (settled env) (position_of x free)) (retyped f) (settled env t)) (sym (position-over (settled env) x bound)) named in (
          settled_value env t ∙ h.0,
          subst (λ o. IsName x (position_of x (over (settled env) bound)) o (retyped f) (settled env t)) (sym (position-over (settled env) x free)) one,
        )
    types_retyped bound free (Form o parts) f t h = (
      map retyped h.0,
      map (settled env) h.1,
      all_retyped bound free parts h.0 h.1 h.2,
      settled_instance env (operand_schemes (row_of o) (part_count parts)) (result_scheme (row_of o)) h.1 t h.3,
      ap retyped h.4 ∙ retyped-Node o h.0 t,
    )
    types_retyped bound free (Partition parts) f t h = (
      map retyped h.0,
      map (settled env) h.1,
      all_retyped bound free parts h.0 h.1 h.2,
      settled_instance env (partition_schemes (part_count parts)) truth h.1 t h.3,
      ap retyped h.4 ∙ retyped-partition h.0,
    )
    types_retyped bound free (Binding binder names parts) f t h =
        let inner = all_retyped (with_names names h.0 bound) free parts h.3 h.4 h.5 in (
          map (settled env) h.0,
          bound_retyped bound names h.0 h.1,
          h.2,
          map retyped h.3,
          map (settled env) h.4,
          subst (λ sc. AllTyped env sc (over (settled env) free) parts (map retyped h.3) (map (settled env) h.4)) (sym (with_names-over names h.0 bound)) inner,
          settled_instance env (part_schemes binder) (binder_scheme binder) h.4 t h.6,
          ap retyped h.7 ∙ retyped-Bind binder h.0 h.3 t,
        )
    types_retyped bound free (Ascribed e written) f t h = (denoted_retyped bound written t h.0, types_retyped bound free e f t h.1)
    types_retyped bound free (Broken parts) f t h = absurd h

    all_retyped : (bound free : Scope Ty) (bs : Bares) (fs : List Formula) (ts : List Ty) → AllTyped env bound free bs fs ts
        → AllTyped env (over (settled env) bound) (over (settled env) free) bs (map retyped fs) (map (settled env) ts)
    all_retyped bound free nothing fs ts h = (ap (map retyped) h.0, ap (map (settled env)) h.1)
    all_retyped bound free (more b bs) fs ts h = (
      retyped h.0,
      map retyped h.1,
      settled env h.2,
      map (settled env) h.3,
      types_retyped bound free b h.0 h.2 h.4,
      all_retyped bound free bs h.1 h.3 h.5,
      ap (map retyped) h.6,
      ap (map (settled env)) h.7,
    )

  paired_over : (wanted : List (List ℕ)) (ts : List Ty) → over (settled env) (paired wanted ts) ≡ paired wanted (map (settled env) ts)
  paired_over [] ts = refl
  paired_over (x ∷ wanted) [] = refl
  paired_over (x ∷ wanted) (t ∷ ts) = ap (λ s. (x, settled env t) ∷ s) (paired_over wanted ts)

  free_over : (es : Entries) (wanted : List (List ℕ)) (ts : List Ty) → AllByRecursion (λ x. IsOver env x.1) es → over (settled env) (es ++ paired wanted ts) ≡ es ++ paired wanted (map (settled env) ts)
  free_over [] wanted ts h = paired_over wanted ts
  free_over (e ∷ es) wanted ts h = λ i. (e.0, settled_kept env e.1 h.0 i) ∷ free_over es wanted ts h.1 i

  values_retyped : (ts : List Ty) → AreValueTypes ts → AreValueTypes (map (settled env) ts)
  values_retyped [] h = tt
  values_retyped (t ∷ ts) h = (settled_value env t ∙ h.0, values_retyped ts h.1)

  length_retyped : (ts : List Ty) → length (map (settled env) ts) ≡ length ts
  length_retyped [] = refl
  length_retyped (t ∷ ts) = ap suc (length_retyped ts)

  expected_retyped : (o : Option Ty) (t : Ty) → IsExpectedOver env o → IsExpected o t → IsExpected o (settled env t)
  expected_retyped None t k h = settled_value env t ∙ h
  expected_retyped (Some u) t k h = ap (settled env) h ∙ settled_kept env u k

  pub typing_retyped : (wanted : List (List ℕ)) (b : Bare) (o : Option Ty) (f : Formula) → HasCarriers env → IsExpectedOver env o → IsTypedAs env wanted b o f → IsTypedAs env wanted b o (retyped f)
  typing_retyped wanted b o f c k h = (
    map (settled env) h.0,
    values_retyped h.0 h.1,
    length_retyped h.0 ∙ h.2,
    settled env h.3,
    expected_retyped o h.3 k h.4,
    subst (λ s. Types env [] s b (retyped f) (settled env h.3)) (free_over env wanted h.0 c) (types_retyped [] (env ++ paired wanted h.0) b f h.3 h.5),
  )

  -- Its identifiers.

  abbrev HasOver : List ℕ × Ty → Type 0
  HasOver x = IsOver env x.1

  parts_over : (fs : List Formula) → AllByRecursion (λ f. AllByRecursion HasOver (occurrences (retyped f))) fs → AllByRecursion HasOver (joined (map occurrences (map retyped fs)))
  parts_over [] each = tt
  parts_over (f ∷ fs) each = all_append HasOver (occurrences (retyped f)) (joined (map occurrences (map retyped fs))) each.0 (parts_over fs each.1)

  -- the types of the free ones
  pub occurrences_over : (f : Formula) → AllByRecursion HasOver (occurrences (retyped f))
  occurrences_over = formula_induction (λ f. AllByRecursion HasOver (occurrences (retyped f)))
      (λ n. subst (AllByRecursion HasOver) (sym (ap occurrences (retyped-Int n) ∙ occurrences-Int n)) tt)
      (λ x t. subst (AllByRecursion HasOver) (sym (ap occurrences (retyped-Free x t) ∙ occurrences-Free x (settled env t))) (settled_over env t, tt))
      (λ i t. subst (AllByRecursion HasOver) (sym (ap occurrences (retyped-Bound i t) ∙ occurrences-Bound i (settled env t))) tt)
      (λ o parts t each. subst (AllByRecursion HasOver) (sym (ap occurrences (retyped-Node o parts t) ∙ occurrences-Node o (map retyped parts) (settled env t))) (parts_over parts each))
      (λ binder types parts t each. subst (AllByRecursion HasOver)
      (sym (ap occurrences (retyped-Bind binder types parts t) ∙ occurrences-Bind binder (map (settled env) types) (map retyped parts) (settled env t))) (parts_over parts each))

  module _ (P : List ℕ × Ty → Type 0) (carrier : (xs : Entries) → AllByRecursion (Stands env) xs → AllByRecursion P xs) where
    abbrev HasAll : Formula → Type 0
    HasAll f = AllByRecursion P (occurrences (retyped f)) → AllByRecursion P (identifiers (retyped f))

    in_type : (t : Ty) → AllByRecursion P (carriers (settled env t))
    in_type t = carrier (carriers (settled env t)) (settled_over env t)

    in_types : (ts : List Ty) → AllByRecursion P (joined (map carriers (map (settled env) ts)))
    in_types [] = tt
    in_types (t ∷ ts) = all_append P (carriers (settled env t)) (joined (map carriers (map (settled env) ts))) (in_type t) (in_types ts)

    in_parts : (fs : List Formula) → AllByRecursion HasAll fs → AllByRecursion P (joined (map occurrences (map retyped fs))) → AllByRecursion P (joined (map identifiers (map retyped fs)))
    in_parts [] each h = tt
    in_parts (f ∷ fs) each h =
        let front = all_front P (occurrences (retyped f)) (joined (map occurrences (map retyped fs))) h in
        let back = all_back P (occurrences (retyped f)) (joined (map occurrences (map retyped fs))) h in
        all_append P (identifiers (retyped f)) (joined (map identifiers (map retyped fs))) (each.0 front) (in_parts fs each.1 back)

    -- all of them, from the free ones
    pub identifiers_from : (f : Formula) → HasAll f
    identifiers_from = formula_induction HasAll
        (λ n h. subst (AllByRecursion P) (sym (ap identifiers (retyped-Int n) ∙ formula_fold identifiers_step (IntF n) _ (rolls-Int n))) tt)
        (λ x t h.
        let one : AllByRecursion P ((x, settled env t) ∷ []) = subst (AllByRecursion P) (ap occurrences (retyped-Free x t) ∙ occurrences-Free x (settled env t)) h in
        subst (AllByRecursion P) (sym (ap identifiers (retyped-Free x t) ∙ identifiers-Free x (settled env t))) (one.0, in_type t))
        (λ i t h. subst (AllByRecursion P) (sym (ap identifiers (retyped-Bound i t) ∙ identifiers-Bound i (settled env t))) (in_type t))
        (λ o parts t each h.
        let inner = subst (AllByRecursion P) (ap occurrences (retyped-Node o parts t) ∙ occurrences-Node o (map retyped parts) (settled env t)) h in
        subst (AllByRecursion P) (sym (ap identifiers (retyped-Node o parts t) ∙ identifiers-Node o (map retyped parts) (settled env t)))
        (all_append P (joined (map identifiers (map retyped parts))) (carriers (settled env t)) (in_parts parts each inner) (in_type t)))
        (λ binder types parts t each h.
        let inner = subst (AllByRecursion P) (ap occurrences (retyped-Bind binder types parts t) ∙ occurrences-Bind binder (map (settled env) types) (map retyped parts) (settled env t)) h in
        let front = all_append P (joined (map carriers (map (settled env) types))) (joined (map identifiers (map retyped parts))) (in_types types) (in_parts parts each inner) in
        subst (AllByRecursion P) (sym (ap identifiers (retyped-Bind binder types parts t) ∙ identifiers-Bind binder (map (settled env) types) (map retyped parts) (settled env t)))
        (all_append P (joined (map carriers (map (settled env) types)) ++ joined (map identifiers (map retyped parts))) (carriers (settled env t)) front (in_type t)))
