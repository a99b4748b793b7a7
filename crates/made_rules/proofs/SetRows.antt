-- What an instance of a row of sets or arithmetic leaves is typed, where its main formulas are.
use Rattle.std.proofs.Common.{◌≡◌, ◌∙◌, inl, inr, sym, ap, subst, refl, ℕ, Bool, true, false, List, [], ◌∷◌, Some, None, IfSome, if◌then◌else◌}
use Rattle.formula_core.specs.declared.Op.{Op}
use Rattle.formula_core.specs.declared.Op.TheVariants as op
use Rattle.formula_core.specs.declared.Ty.{Ty}
use Rattle.formula_core.specs.declared.Ty.TheVariants as ty
use Rattle.formula_core.specs.declared.Ty.TheOpen.{Pow as PowF, Truth as TruthF}
use Rattle.formula_core.specs.declared.Ty.TheViews.{out-Ty, outs-Pow, outs-Truth}
use Rattle.formula_core.specs.declared.Formula.{Formula}
use Rattle.formula_core.specs.declared.Formula.TheOpen.{Formula-F, Int as IntF, Free as FreeF, Bound as BoundF, Node as NodeF, Bind as BindF}
use Rattle.formula_core.specs.declared.Formula.TheVariants as formula
use Rattle.formula_core.specs.declared.Formula.TheViews.{out-Formula, roll-Formula, roll-out-Formula, rolls-Node}
use Rattle.formula_core.specs.declared.row.Row.TheVariants.{Binary}
use Rattle.formula_core.specs.declared.row.UnaryRow.TheVariants as unary
use Rattle.formula_core.specs.declared.row.BinaryRow.TheVariants as binary
use Rattle.formula_core.specs.Rows.{row_of}
use Rattle.formula_core.specs.Typed.{IsTypedIn}
use Rattle.formula_core.specs.Types.{is_value_type, same_type}
use Rattle.formula_core.specs.Wellness.{type_of}
use Rattle.formula_core.proofs.Types.{same_type_exact}
use Rattle.formula_core.proofs.WholeSets.{value-Pow}
use Rattle.well_defined.specs.Conditions.{wd_of}
use Rattle.well_defined.specs.Predicates.{at_most, domain, finite, member, zero}
use Rattle.rule_table.specs.declared.rule.Body.{Body}
use Rattle.rule_table.specs.Rewriting.{law_of, rewritten}
use Rattle.rule_table.specs.Rows.{is_function_arrow, arrow_at, function_in, eq_refl, eq_goal, eq_hyp, rw_goal, rw_hyp, card_nat, fun_in, fun_eq, over_other}
use Rattle.rule_table.specs.Shapes.{two_of, two_operands, equal, applied, cardinality}
use Rattle.made_rules.proofs.Typed.{Env, Is}
use Rattle.made_rules.proofs.AllLaws.{keeps_types}
use Rattle.made_rules.proofs.AtPlaces.{rewritten_is, put_in}
use Rattle.made_rules.proofs.Fitting.{IsLeftIn}
use Rattle.made_rules.proofs.Instances.{plain_left, goal_is, hyp_is, typed_is, condition_is, after_is, at_some}
use Rattle.made_rules.proofs.Makers.{finite_is, at_most_is, integer_is, cardinality_is}
use Rattle.made_rules.proofs.Operands.{then_if, map_if, test_if, of_set_some, of_relation_if, power_exact, two_is, two_found, two_opened, head_is}
use Rattle.made_rules.proofs.Replacing.{replaced_is, replaced_over_is}
use Rattle.made_rules.proofs.SetMakers.{re, eq, mem, dom, value_at, parts_of, one, two, in_set}
use Rattle.made_rules.proofs.ValueTypes.{sort_of}

-- the arrows of functions are relation sets
arrow_row : (o : Op) → is_function_arrow o ≡ true → row_of o ≡ Binary binary.RelationSet
arrow_row op.PartialFunctions h = refl
arrow_row op.TotalFunctions h = refl
arrow_row op.PartialInjections h = refl
arrow_row op.TotalInjections h = refl
arrow_row op.PartialSurjections h = refl
arrow_row op.TotalSurjections h = refl
arrow_row op.Bijections h = refl
arrow_row _ h = absurd (cc)

-- a function between two types, and the set to which it goes
record OfFunction (env : Env) (f u : Formula) : Type 0 where
  from : Ty
  to : Ty
  from_is : is_value_type from ≡ true
  to_is : is_value_type to ≡ true
  function : Is env [] (ty.Pow (ty.Pair from to)) f
  target : Is env [] (ty.Pow to) u

module _ (env : Env) where
  abbrev Holds : Formula → Type 0
  Holds = Is env [] ty.Truth

  abbrev Left : Body → Type 0
  Left = IsLeftIn env

  function_of : (f set : Formula) (a : Ty) → is_value_type a ≡ true → Is env [] a f → Is env [] (ty.Pow a) set → (x : Formula × Formula) → arrow_at (out-Formula set) ≡ Some x → OfFunction env f x.1
  function_of f set a v h k x e = go (out-Formula set) refl e
    where
      chosen : (o : Op) (parts : List Formula) (u : Ty) (c : Bool) → is_function_arrow o ≡ c → out-Formula set ≡ NodeF o parts u → (if c then two_of parts else None) ≡ Some x → OfFunction env f x.1
      chosen o parts u true c l m =
          let is : set ≡ formula.Node o parts u = sym (roll-out-Formula set) ∙ ap roll-Formula l ∙ rolls-Node o parts u in
          let w = two_opened env [] o binary.RelationSet (arrow_row o c) x.0 x.1 (ty.Pow a) u
          (subst (Is env [] (ty.Pow a)) (is ∙ ap (λ ps. formula.Node o ps u) (two_is parts x.0 x.1 m)) k) in
          record {
            from = w.letters.alpha;
            to = w.letters.beta;
            from_is = w.values.alpha;
            to_is = w.values.beta;
            function = re (power_exact a (ty.Pow (ty.Pair w.letters.alpha w.letters.beta)) w.whole) h;
            target = w.right;
          }
      chosen o parts u false c l m = absurd (cc)

      go : (y : Formula-F Formula) → out-Formula set ≡ y → arrow_at y ≡ Some x → OfFunction env f x.1
      go (IntF n) l m = absurd (cc)
      go (FreeF n u) l m = absurd (cc)
      go (BoundF n u) l m = absurd (cc)
      go (NodeF o parts u) l m = chosen o parts u (is_function_arrow o) refl l m
      go (BindF b ts parts u) l m = absurd (cc)

  function_is : (h : Formula) → Holds h → IfSome (function_in h) (λ x. OfFunction env x.0 x.1)
  function_is h is = in_set (λ x. OfFunction env x.0 x.1) is _ (λ f set v.
      map_if (λ x. OfFunction env x.0 x.1) (arrow_at (out-Formula set)) (λ x. (f, x.1)) (λ x e. function_of f set v.letters.alpha v.values.alpha v.left v.right x e))

  -- rows of equality
  module _ (g h : Formula) (is : Holds g) (k : Holds h) where
    pub eq_goal_is : IfSome (eq_goal g h) Left
    eq_goal_is = two Left op.Equal binary.Equality refl k _ (λ e f v.
        plain_left env _ (goal_is env ty.Truth _ (replaced_is env e f v.letters.alpha v.left v.right g [] ty.Truth is), tt))

    pub over_other_is : IfSome (over_other g h) Left
    over_other_is = one Left op.Not unary.Negation refl k _ (λ q w. two Left op.Equal binary.Equality refl w.part _ (λ z x v.
        plain_left env _ (goal_is env ty.Truth _ (replaced_over_is env z x g [] ty.Truth is), tt)))

    -- g is the equation here
    pub eq_hyp_is : IfSome (eq_hyp g h) Left
    eq_hyp_is = two Left op.Equal binary.Equality refl is _ (λ e f v.
        plain_left env _ (hyp_is env ty.Truth _ (replaced_is env e f v.letters.alpha v.left v.right h [] ty.Truth k), tt))

  pub eq_refl_is : (g : Formula) → Holds g → IfSome (eq_refl g) Left
  eq_refl_is g h = two Left op.Equal binary.Equality refl h _ (λ e f v. plain_left env _ tt)

  -- laws
  pub rw_goal_is : (law : ℕ) (place : List ℕ) (g : Formula) → Holds g → IfSome (rw_goal law place g) Left
  rw_goal_is law place g h = then_if Left (law_of law) _ (λ l e.
      put_in Holds Left _ (λ p k. plain_left env _ (goal_is env ty.Truth p k, tt)) (rewritten l place g) (rewritten_is env l (keeps_types env l) place [] ty.Truth g h))

  pub rw_hyp_is : (law : ℕ) (place : List ℕ) (f : Formula) → Holds f → IfSome (rw_hyp law place f) Left
  rw_hyp_is law place f h = then_if Left (law_of law) _ (λ l e.
      put_in Holds Left _ (λ p k. plain_left env _ (hyp_is env ty.Truth p k, tt)) (rewritten l place f) (rewritten_is env l (keeps_types env l) place [] ty.Truth f h))

  -- rows of sets
  value_of_set : (s : Formula) (α : Ty) → Is env [] (type_of s) s → type_of s ≡ ty.Pow α → is_value_type α ≡ true
  value_of_set s α h e = elim (sort_of env s (type_of s) h) [
    | inl v ↦ sym (value-Pow α) ∙ ap is_value_type (sym e) ∙ v
    | inr t ↦ let never : PowF α ≡ TruthF = sym (outs-Pow α) ∙ ap out-Ty (sym e ∙ t) ∙ outs-Truth in absurd (cc)
  ]

  pub card_nat_is : (s : Formula) → IsTypedIn env s → IfSome (card_nat s) Left
  card_nat_is s h = of_set_some Left s _ (λ α e.
      let is = typed_is env s h in
      let value = value_of_set s α is e in
      let set : Is env [] (ty.Pow α) s = re e is in
      plain_left env _ (after_is env (wd_of s) _ (condition_is env s h) (
        goal_is env ty.Truth (finite s) (finite_is env [] α value s set),
        (hyp_is env ty.Truth (at_most zero (cardinality s)) (at_most_is env [] zero (cardinality s) (integer_is env [] 0) (cardinality_is env [] α value s set)), tt),
      )))

  pub fun_in_is : (h e : Formula) → Holds h → IsTypedIn env e → IfSome (fun_in h e) Left
  fun_in_is h e is typed = then_if Left (function_in h) _ (λ x found.
      let k = at_some (λ x. OfFunction env x.0 x.1) (function_in h) x (function_is h is) found in
      of_relation_if Left x.0 k.from k.to _ k.function.type (test_if Left (same_type (type_of e) k.from) _ (λ same.
      let arg = re (same_type_exact (type_of e) k.from same) (typed_is env e typed) in
      plain_left env _ (after_is env (wd_of e) _ (condition_is env e typed) (
        goal_is env ty.Truth (member e (domain x.0 k.from)) (mem k.from_is arg (dom k.from k.to k.from_is k.to_is k.function)),
        (hyp_is env ty.Truth (member (applied x.0 e k.to) x.1) (mem k.to_is (value_at k.from k.to k.from_is k.to_is k.function arg) k.target), tt),
      )))))

  -- what is needed has the pair in the function itself
  abbrev NeedsFirst : Formula → Body → Type 0
  NeedsFirst h b = (rest : List Formula) → b.hyps ≡ h ∷ rest → Left b

  value_is : (g u p : Formula) (f : OfFunction env g u) → Holds (member p g) → (z : Formula × Formula) → two_operands op.Maplet p ≡ Some z → Holds (equal (applied g z.0 f.to) z.1)
  value_is g u p f m z e =
      let v = two_opened env [] op.Member binary.Membership refl p g ty.Truth ty.Truth m in
      let whole : v.letters.alpha ≡ ty.Pair f.from f.to = power_exact v.letters.alpha (ty.Pair f.from f.to) (sym v.right.type ∙ f.function.type) in
      let w = two_found env [] (ty.Pair f.from f.to) p (re whole v.left) op.Maplet binary.Maplet refl z e in
      let y = parts_of f.from f.to w refl in
      eq f.to_is (value_at f.from f.to f.from_is f.to_is f.function y.0) y.1

  pub fun_eq_is : (h k : Formula) → Holds h → Holds k → IfSome (fun_eq h k) (NeedsFirst h)
  fun_eq_is h k is that = then_if (NeedsFirst h) (function_in k) _ (λ x found.
      let f = at_some (λ x. OfFunction env x.0 x.1) (function_in k) x (function_is k that) found in
      of_relation_if (NeedsFirst h) x.0 f.from f.to _ f.function.type
      (then_if (NeedsFirst h) (two_operands op.Member h) _ (λ y at. then_if (NeedsFirst h) (two_operands op.Maplet y.0) _ (λ z here rest e.
      plain_left env _ (hyp_is env ty.Truth _ (value_is x.0 x.1 y.0 f (subst Holds (sym (head_is _ _ _ _ e)) is) z here), tt)))))
