-- What each form of formula denotes, and its sort. A formula denotes the same with parts that do.
use Rattle.std.proofs.Common.{List, [], ap, map, refl, slice_get, sym, ℕ, ℤ, ◌∙◌, ◌∷◌, ◌≡◌}
use Rattle.formula_core.proofs.Equations.{formula_fold, type_fold}
use Rattle.formula_core.proofs.Induction.{formula_induction}
use Rattle.formula_core.specs.Wellness.{type_of, type_of_step}
use Rattle.formula_core.specs.declared.Binder.{Binder}
use Rattle.formula_core.specs.declared.Formula.{Formula}
use Rattle.formula_core.specs.declared.Formula.TheOpen.{Bind as BindF, Bound as BoundF, Free as FreeF, Int as IntF, Node as NodeF}
use Rattle.formula_core.specs.declared.Formula.TheVariants.{Bind, Bound, Free, Int, Node}
use Rattle.formula_core.specs.declared.Op.{Op}
use Rattle.formula_core.specs.declared.Ty.{Ty}
use Rattle.formula_core.specs.declared.Ty.TheOpen.{Bool as BoolT, Given as GivenT, Int as IntT, Pair as PairT, Pow as PowT, Truth as TruthT}
use Rattle.formula_core.specs.declared.Ty.TheVariants as ty
use Rattle.formula_core.specs.declared.formula.Formula.TheViews.{outs-Bind, outs-Bound, outs-Free, outs-Int, outs-Node, rolls-Bind, rolls-Bound, rolls-Free, rolls-Int, rolls-Node}
use Rattle.formula_core.specs.declared.ty.Ty.TheViews as of_type
use Rattle.meanings.specs.Denotations.{Assignment, bound_value, denotation, denotation_step, of_binder}
use Rattle.meanings.specs.Operations.{of_list}
use Rattle.meanings.specs.Universes.{Valuation, Universe}
use Rattle.meanings.specs.Values.{Denotation, boolean_sort, carrier_sort, integer_sort, pair_sort, power_sort, sort, sort_step}

pub sort-Int : sort ty.Int ≡ integer_sort
sort-Int = type_fold sort_step IntT _ of_type.rolls-Int

pub sort-Bool : sort ty.Bool ≡ boolean_sort
sort-Bool = type_fold sort_step BoolT _ of_type.rolls-Bool

pub sort-Truth : sort ty.Truth ≡ boolean_sort
sort-Truth = type_fold sort_step TruthT _ of_type.rolls-Truth

pub sort-Given : (name : List ℕ) → sort (ty.Given name) ≡ carrier_sort name
sort-Given name = type_fold sort_step (GivenT name) _ (of_type.rolls-Given name)

pub sort-Pow : (t : Ty) → sort (ty.Pow t) ≡ power_sort (sort t)
sort-Pow t = type_fold sort_step (PowT t) _ (of_type.rolls-Pow t)

pub sort-Pair : (t u : Ty) → sort (ty.Pair t u) ≡ pair_sort (sort t) (sort u)
sort-Pair t u = type_fold sort_step (PairT t u) _ (of_type.rolls-Pair t u)

pub ruleset sorts = (sort-Int, sort-Bool, sort-Truth, sort-Given, sort-Pow, sort-Pair)

module _ {carrier : List ℕ → Type 0} (U : Universe carrier) (names : Valuation carrier) where
  each_at : (scope : Assignment U) (fs : List Formula) → map (λ p. p scope) (map (denotation U names) fs) ≡ map (λ f. denotation U names f scope) fs
  each_at scope [] = refl
  each_at scope (f ∷ fs) = λ i. denotation U names f scope ∷ each_at scope fs i

  pub denotation-Int : (n : ℤ) (scope : Assignment U) → denotation U names (Int n) scope ≡ (integer_sort, n)
  denotation-Int n scope = λ i. formula_fold (denotation_step U names) (IntF n) _ (rolls-Int n) i scope

  pub denotation-Free : (name : List ℕ) (t : Ty) (scope : Assignment U) → denotation U names (Free name t) scope ≡ (sort t, names name (sort t))
  denotation-Free name t scope = λ i. formula_fold (denotation_step U names) (FreeF name t) _ (rolls-Free name t) i scope

  pub denotation-Bound : (k : ℕ) (t : Ty) (scope : Assignment U) → denotation U names (Bound k t) scope ≡ (sort t, bound_value U (sort t) (slice_get scope k))
  denotation-Bound k t scope = λ i. formula_fold (denotation_step U names) (BoundF k t) _ (rolls-Bound k t) i scope

  pub denotation-Node : (op : Op) (parts : List Formula) (t : Ty) (scope : Assignment U)
      → denotation U names (Node op parts t) scope ≡ (sort t, of_list U op (sort t) (map (λ f. denotation U names f scope) parts))
  denotation-Node op parts t scope =
      (λ i. formula_fold (denotation_step U names) (NodeF op parts t) _ (rolls-Node op parts t) i scope)
      ∙ (λ i. (sort t, of_list U op (sort t) (each_at scope parts i)))

  pub denotation-Bind : (b : Binder) (types : List Ty) (parts : List Formula) (t : Ty) (scope : Assignment U)
      → denotation U names (Bind b types parts t) scope ≡ (sort t, of_binder U b (map sort types) (sort t) (map (denotation U names) parts) scope)
  denotation-Bind b types parts t scope = λ i. formula_fold (denotation_step U names) (BindF b types parts t) _ (rolls-Bind b types parts t) i scope

  pub ruleset forms = (denotation-Int, denotation-Free, denotation-Bound, denotation-Node, denotation-Bind)

  -- the sort of a meaning is that of the formula's type
  pub sort_of : (f : Formula) (scope : Assignment U) → (denotation U names f scope).0 ≡ sort (type_of f)
  sort_of = formula_induction (λ f. (scope : Assignment U) → (denotation U names f scope).0 ≡ sort (type_of f))
      (λ n scope. ap (λ x. x.0) (denotation-Int n scope) ∙ sym (ap sort (ap type_of_step (outs-Int n)) ∙ sort-Int))
      (λ name t scope. ap (λ x. x.0) (denotation-Free name t scope) ∙ sym (ap sort (ap type_of_step (outs-Free name t))))
      (λ k t scope. ap (λ x. x.0) (denotation-Bound k t scope) ∙ sym (ap sort (ap type_of_step (outs-Bound k t))))
      (λ op parts t each scope. ap (λ x. x.0) (denotation-Node op parts t scope) ∙ sym (ap sort (ap type_of_step (outs-Node op parts t))))
      (λ b types parts t each scope. ap (λ x. x.0) (denotation-Bind b types parts t scope) ∙ sym (ap sort (ap type_of_step (outs-Bind b types parts t))))

  abbrev pub Means : Formula → Assignment U → Denotation carrier
  Means = denotation U names

  pub same-Node : (op : Op) (ps qs : List Formula) (t : Ty) → map Means ps ≡ map Means qs → Means (Node op ps t) ≡ Means (Node op qs t)
  same-Node op ps qs t e =
      formula_fold (denotation_step U names) (NodeF op ps t) _ (rolls-Node op ps t)
      ∙ ap (λ l. denotation_step U names (NodeF op l t)) e
      ∙ sym (formula_fold (denotation_step U names) (NodeF op qs t) _ (rolls-Node op qs t))

  pub same-Bind : (b : Binder) (own : List Ty) (ps qs : List Formula) (t : Ty) → map Means ps ≡ map Means qs → Means (Bind b own ps t) ≡ Means (Bind b own qs t)
  same-Bind b own ps qs t e =
      formula_fold (denotation_step U names) (BindF b own ps t) _ (rolls-Bind b own ps t)
      ∙ ap (λ l. denotation_step U names (BindF b own l t)) e
      ∙ sym (formula_fold (denotation_step U names) (BindF b own qs t) _ (rolls-Bind b own qs t))
