-- The laws of arithmetic keep types.
use Rattle.std.proofs.Common.{◌≡◌, ◌∙◌, sym, ap, subst, refl, suc, ℤ, pos, negsuc, List, Option, Some, None, IfSome, if◌then◌else◌}
use Rattle.std.specs.Option.{option_and_then, option_map}
use Rattle.formula_core.specs.declared.Op.{Op}
use Rattle.formula_core.specs.declared.Op.TheVariants as op
use Rattle.formula_core.specs.declared.Ty.{Ty}
use Rattle.formula_core.specs.declared.Ty.TheVariants as ty
use Rattle.formula_core.specs.declared.Formula.{Formula}
use Rattle.formula_core.specs.declared.Formula.TheOpen.{Formula-F, Int as IntF, Free as FreeF, Bound as BoundF, Node as NodeF, Bind as BindF}
use Rattle.formula_core.specs.declared.Formula.TheVariants as formula
use Rattle.formula_core.specs.declared.Formula.TheViews.{out-Formula, roll-Formula, roll-out-Formula, rolls-Node}
use Rattle.formula_core.specs.declared.row.Row.TheVariants.{Binary}
use Rattle.formula_core.specs.declared.row.NullaryRow.TheVariants as nullary
use Rattle.formula_core.specs.declared.row.UnaryRow.TheVariants as unary
use Rattle.formula_core.specs.declared.row.BinaryRow.TheVariants as binary
use Rattle.formula_core.specs.Rows.{row_of}
use Rattle.formula_core.specs.Types.{is_integer}
use Rattle.formula_core.specs.Wellness.{type_of}
use Rattle.formula_core.proofs.Schemes.{value-Int}
use Rattle.well_defined.specs.Predicates.{zero}
use Rattle.well_defined.proofs.Types.{integer_exact}
use Rattle.rule_table.specs.ArithmeticLaws.{member_of_naturals, member_of_positive_naturals, member_of_interval, member_of_successor, member_of_predecessor, negated_less, negated_at_most, equal_integers, less_is_at_most, computed, computed_value, is_numeral_value, numerals_at}
use Rattle.rule_table.specs.Shapes.{one, plus_one, minus_one, two_of, numeral, as_numeral}
use Rattle.made_rules.proofs.Typed.{Env, Is}
use Rattle.made_rules.proofs.Forms.{retyped}
use Rattle.made_rules.proofs.Makers.{and_is, equal_is, at_most_is, less_is, integer_is, calculated_is, negative_is}
use Rattle.made_rules.proofs.Operands.{on_none_if, on_one_if, on_two_if, then_if, test_if, power_exact, pair_left, pair_right, two_is, two_opened}

-- what has a value is an operation on integers
arithmetic_row : (o : Op) (m n v : ℤ) → computed_value o m n ≡ Some v → row_of o ≡ Binary binary.Arithmetic
arithmetic_row op.Plus m n v e = refl
arithmetic_row op.Minus m n v e = refl
arithmetic_row op.Times m n v e = refl
arithmetic_row op.Divide m n v e = refl
arithmetic_row op.Modulo m n v e = refl
arithmetic_row op.Power m n v e = refl
arithmetic_row _ m n v e = absurd (cc)

module _ (env : Env) (bound : List Ty) where
  plus_one_is : (e : Formula) → Is env bound ty.Int e → Is env bound ty.Int (plus_one e)
  plus_one_is e h = calculated_is env bound op.Plus refl e one h (integer_is env bound 1)

  minus_one_is : (e : Formula) → Is env bound ty.Int e → Is env bound ty.Int (minus_one e)
  minus_one_is e h = calculated_is env bound op.Minus refl e one h (integer_is env bound 1)

  as_numeral_is : (z : ℤ) → Is env bound ty.Int (as_numeral z)
  as_numeral_is (pos n) = integer_is env bound n
  as_numeral_is (negsuc n) = negative_is env bound (formula.Int (pos (suc n))) (integer_is env bound (suc n))

  module _ (t : Ty) (f : Formula) (h : Is env bound t f) where
    abbrev Kept : Option Formula → Type 0
    Kept o = IfSome o (Is env bound t)

    truth_is : (g : Formula) → t ≡ ty.Truth → Is env bound ty.Truth g → Is env bound t g
    truth_is g e k = retyped env bound ty.Truth t g (sym e) k

    pub member_of_naturals_is : Kept (member_of_naturals f)
    member_of_naturals_is =
        on_two_if env bound (Is env bound t) t f h op.Member binary.Membership refl _ (λ e s v.
        on_none_if env bound (Is env bound t) _ s v.right op.Naturals nullary.IntegerSet refl _ (λ n.
        truth_is _ v.whole (at_most_is env bound zero e (integer_is env bound 0) (retyped env bound _ ty.Int e (power_exact v.letters.alpha ty.Int n.whole) v.left))))

    pub member_of_positive_naturals_is : Kept (member_of_positive_naturals f)
    member_of_positive_naturals_is =
        on_two_if env bound (Is env bound t) t f h op.Member binary.Membership refl _ (λ e s v.
        on_none_if env bound (Is env bound t) _ s v.right op.PositiveNaturals nullary.IntegerSet refl _ (λ n.
        truth_is _ v.whole (at_most_is env bound one e (integer_is env bound 1) (retyped env bound _ ty.Int e (power_exact v.letters.alpha ty.Int n.whole) v.left))))

    pub member_of_interval_is : Kept (member_of_interval f)
    member_of_interval_is =
        on_two_if env bound (Is env bound t) t f h op.Member binary.Membership refl _ (λ e s v.
        on_two_if env bound (Is env bound t) _ s v.right op.Interval binary.Interval refl _ (λ a b w.
        let number : Is env bound ty.Int e = retyped env bound _ ty.Int e (power_exact v.letters.alpha ty.Int w.whole) v.left in
        truth_is _ v.whole (and_is env bound _ _ (at_most_is env bound a e w.left number) (at_most_is env bound e b number w.right))))

    pub member_of_successor_is : Kept (member_of_successor f)
    member_of_successor_is =
        on_two_if env bound (Is env bound t) t f h op.Member binary.Membership refl _ (λ p s v.
        on_none_if env bound (Is env bound t) _ s v.right op.Successor nullary.IntegerMap refl _ (λ n.
        on_two_if env bound (Is env bound t) _ p v.left op.Maplet binary.Maplet refl _ (λ a b w.
        let pair : ty.Pair w.letters.alpha w.letters.beta ≡ ty.Pair ty.Int ty.Int = sym w.whole ∙ power_exact v.letters.alpha (ty.Pair ty.Int ty.Int) n.whole in
        truth_is _ v.whole (equal_is env bound ty.Int value-Int b (plus_one a) (retyped env bound _ ty.Int b (pair_right w.letters.alpha w.letters.beta ty.Int ty.Int pair) w.right)
        (plus_one_is a (retyped env bound _ ty.Int a (pair_left w.letters.alpha w.letters.beta ty.Int ty.Int pair) w.left))))))

    pub member_of_predecessor_is : Kept (member_of_predecessor f)
    member_of_predecessor_is =
        on_two_if env bound (Is env bound t) t f h op.Member binary.Membership refl _ (λ p s v.
        on_none_if env bound (Is env bound t) _ s v.right op.Predecessor nullary.IntegerMap refl _ (λ n.
        on_two_if env bound (Is env bound t) _ p v.left op.Maplet binary.Maplet refl _ (λ a b w.
        let pair : ty.Pair w.letters.alpha w.letters.beta ≡ ty.Pair ty.Int ty.Int = sym w.whole ∙ power_exact v.letters.alpha (ty.Pair ty.Int ty.Int) n.whole in
        truth_is _ v.whole (equal_is env bound ty.Int value-Int b (minus_one a) (retyped env bound _ ty.Int b (pair_right w.letters.alpha w.letters.beta ty.Int ty.Int pair) w.right)
        (minus_one_is a (retyped env bound _ ty.Int a (pair_left w.letters.alpha w.letters.beta ty.Int ty.Int pair) w.left))))))

    pub negated_less_is : Kept (negated_less f)
    negated_less_is =
        on_one_if env bound (Is env bound t) t f h op.Not unary.Negation refl _ (λ g v.
        on_two_if env bound (Is env bound t) ty.Truth g v.part op.Less binary.Comparison refl _ (λ a b w.
        truth_is _ v.whole (at_most_is env bound b a w.right w.left)))

    pub negated_at_most_is : Kept (negated_at_most f)
    negated_at_most_is =
        on_one_if env bound (Is env bound t) t f h op.Not unary.Negation refl _ (λ g v.
        on_two_if env bound (Is env bound t) ty.Truth g v.part op.LessOrEqual binary.Comparison refl _ (λ a b w.
        truth_is _ v.whole (less_is env bound b a w.right w.left)))

    pub equal_integers_is : Kept (equal_integers f)
    equal_integers_is =
        on_two_if env bound (Is env bound t) t f h op.Equal binary.Equality refl _ (λ a b v.
        test_if (Is env bound t) (is_integer (type_of a)) _ (λ i.
        let int : v.letters.alpha ≡ ty.Int = sym v.left.type ∙ integer_exact (type_of a) i in
        let x : Is env bound ty.Int a = retyped env bound _ ty.Int a int v.left in
        let y : Is env bound ty.Int b = retyped env bound _ ty.Int b int v.right in
        truth_is _ v.whole (and_is env bound _ _ (at_most_is env bound a b x y) (at_most_is env bound b a y x))))

    pub less_is_at_most_is : Kept (less_is_at_most f)
    less_is_at_most_is =
        on_two_if env bound (Is env bound t) t f h op.Less binary.Comparison refl _ (λ a b v.
        truth_is _ v.whole (at_most_is env bound (plus_one a) b (plus_one_is a v.left) v.right))

    -- an operation that has a value is an integer
    operation : (o : Op) (parts : List Formula) (u : Ty) (p q : Formula) (m n v : ℤ) → f ≡ formula.Node o parts u → two_of parts ≡ Some (p, q)
        → computed_value o m n ≡ Some v → t ≡ ty.Int
    operation o parts u p q m n v e k is =
        (two_opened env bound o binary.Arithmetic (arithmetic_row o m n v is) p q t u
        (subst (Is env bound t) (e ∙ ap (λ ps. formula.Node o ps u) (two_is parts p q k)) h)).whole

    value_is : (z : ℤ) → t ≡ ty.Int → Is env bound t (as_numeral z)
    value_is z e = retyped env bound ty.Int t (as_numeral z) (sym e) (as_numeral_is z)

    abbrev made : Op × ℤ × ℤ → Option Formula
    made x = option_and_then (λ v. if is_numeral_value v then Some (as_numeral v) else None) (computed_value x.0 x.1 x.2)

    abbrev triple : Op → ℤ → ℤ → Op × ℤ × ℤ
    triple o m n = (o, m, n)

    with_values : (o : Op) (parts : List Formula) (u : Ty) (p q : Formula) → f ≡ formula.Node o parts u → two_of parts ≡ Some (p, q) → (a b : Option ℤ)
        → Kept (option_and_then made (option_and_then (λ m. option_map (triple o m) b) a))
    with_values o parts u p q e k None b = tt
    with_values o parts u p q e k (Some m) None = tt
    with_values o parts u p q e k (Some m) (Some n) =
        then_if (Is env bound t) (computed_value o m n) _ (λ v is.
        test_if (Is env bound t) (is_numeral_value v) (as_numeral v) (λ i. value_is v (operation o parts u p q m n v e k is)))

    abbrev read : Op → Formula × Formula → Option (Op × ℤ × ℤ)
    read o x = option_and_then (λ m. option_map (triple o m) (numeral x.1)) (numeral x.0)

    with_parts : (o : Op) (parts : List Formula) (u : Ty) → f ≡ formula.Node o parts u → (x : Option (Formula × Formula)) → two_of parts ≡ x
        → Kept (option_and_then made (option_and_then (read o) x))
    with_parts o parts u e None k = tt
    with_parts o parts u e (Some x) k = with_values o parts u x.0 x.1 e k (numeral x.0) (numeral x.1)

    at_form : (x : Formula-F Formula) → out-Formula f ≡ x → Kept (option_and_then made (numerals_at x))
    at_form (IntF n) e = tt
    at_form (FreeF n u) e = tt
    at_form (BoundF n u) e = tt
    at_form (NodeF o parts u) e = with_parts o parts u (sym (roll-out-Formula f) ∙ ap roll-Formula e ∙ rolls-Node o parts u) (two_of parts) refl
    at_form (BindF b ts parts u) e = tt

    pub computed_is : Kept (computed f)
    computed_is = at_form (out-Formula f) refl
