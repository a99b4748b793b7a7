-- Connectives and quantifiers.
use Rattle.std.proofs.Common.{◌≡◌, ◌∙◌, refl, ℤ, pos, [], ◌∷◌, true, false, int_lt, ◌+ℤ◌, arith}
use Rattle.std.proofs.lemmas.Int.{ints}
use Rattle.formula_core.specs.declared.Binder.TheVariants as b
use Rattle.formula_core.specs.declared.Op.TheVariants as op
use Rattle.meanings.specs.Universes.{some}
use Rattle.meanings.specs.Values.{integer_sort, boolean_sort, power_sort}
use Rattle.meanings.proofs.Quantifiers.{some_holds, every_holds}
use Rattle.meaning_rows.proofs.Short.{Short, top, bottom, claim, claim_of, quantified, bound, none, one, n, equal, member, formula, IsTrueEverywhere, IsFalseEverywhere}
use Rattle.meaning_rows.proofs.Values.{is, says, so, every_fails, some_fails}

abbrev less : Short
less = claim op.Less (n 1) (n 2)

abbrev more : Short
more = claim op.Less (n 2) (n 1)

-- ⊤
pub top_is_true : IsTrueEverywhere (formula top)
top_is_true el U names = says U names top

-- 2 < 1 ⇒ 2 < 1, and not 1 < 2 ⇒ 2 < 1
pub implies : IsTrueEverywhere (formula (claim op.Implies more more))
implies el U names = says U names (claim op.Implies more more)

pub not_implies : IsFalseEverywhere (formula (claim op.Implies less more))
not_implies el U names = says U names (claim op.Implies less more)

-- 1 < 2 ∨ 2 < 1, not 1 < 2 ∧ 2 < 1, ¬ 2 < 1
pub or : IsTrueEverywhere (formula (claim op.Or less more))
or el U names = says U names (claim op.Or less more)

pub not_and : IsFalseEverywhere (formula (claim op.And less more))
not_and el U names = says U names (claim op.And less more)

pub negation : IsTrueEverywhere (formula (claim_of op.Not more))
negation el U names = says U names (claim_of op.Not more)

-- 2 < 1 ⇔ 2 < 1, not 1 < 2 ⇔ 2 < 1, not 2 < 1 ⇔ 1 < 2
pub equivalent : IsTrueEverywhere (formula (claim op.Equivalent more more))
equivalent el U names = says U names (claim op.Equivalent more more)

pub not_equivalent_back : IsFalseEverywhere (formula (claim op.Equivalent more less))
not_equivalent_back el U names = says U names (claim op.Equivalent more less)

pub not_equivalent : IsFalseEverywhere (formula (claim op.Equivalent less more))
not_equivalent el U names = says U names (claim op.Equivalent less more)

-- bool(1 < 2) = TRUE
pub bool_of : IsTrueEverywhere (equal (one op.BoolOf boolean_sort less) (none op.TrueValue boolean_sort))
bool_of el U names = is U names (one op.BoolOf boolean_sort less) (none op.TrueValue boolean_sort) boolean_sort true refl refl

-- ∀x·∃y·x < y, where x has the index 1 and y 0
pub greater_ones : IsTrueEverywhere (formula (quantified b.ForAll (integer_sort ∷ []) (quantified b.Exists (integer_sort ∷ []) (claim op.Less (bound 1 integer_sort) (bound 0 integer_sort)))))
greater_ones el U names =
    says U names (quantified b.ForAll (integer_sort ∷ []) (quantified b.Exists (integer_sort ∷ []) (claim op.Less (bound 1 integer_sort) (bound 0 integer_sort))))
    ∙ every_holds U integer_sort (λ x. some U integer_sort (λ y. int_lt x y)) (λ x. some_holds U integer_sort (λ y. int_lt x y) (x +ℤ pos 1) (above x))
  where
    above : (x : ℤ) → int_lt x (x +ℤ pos 1) ≡ true
    above x = grind (arith, ints)

-- not ⊥, bool(⊥) = FALSE, TRUE ∈ BOOL, FALSE ∈ BOOL
pub not_bottom : IsFalseEverywhere (formula bottom)
not_bottom el U names = says U names bottom

pub false_value : IsTrueEverywhere (equal (one op.BoolOf boolean_sort bottom) (none op.FalseValue boolean_sort))
false_value el U names = is U names (one op.BoolOf boolean_sort bottom) (none op.FalseValue boolean_sort) boolean_sort false refl refl

pub true_is_boolean : IsTrueEverywhere (member (none op.TrueValue boolean_sort) (none op.Booleans (power_sort boolean_sort)))
true_is_boolean el U names = so U names op.Member (none op.TrueValue boolean_sort) (none op.Booleans (power_sort boolean_sort)) refl

pub false_is_boolean : IsTrueEverywhere (member (none op.FalseValue boolean_sort) (none op.Booleans (power_sort boolean_sort)))
false_is_boolean el U names = so U names op.Member (none op.FalseValue boolean_sort) (none op.Booleans (power_sort boolean_sort)) refl

-- not ∀x·x < 1, not ∃x·x < x
pub not_all : IsFalseEverywhere (formula (quantified b.ForAll (integer_sort ∷ []) (claim op.Less (bound 0 integer_sort) (n 1))))
not_all el U names =
    says U names (quantified b.ForAll (integer_sort ∷ []) (claim op.Less (bound 0 integer_sort) (n 1))) ∙ every_fails U integer_sort (λ x. int_lt x (pos 1)) (pos 1) refl

pub not_some : IsFalseEverywhere (formula (quantified b.Exists (integer_sort ∷ []) (claim op.Less (bound 0 integer_sort) (bound 0 integer_sort))))
not_some el U names =
    says U names (quantified b.Exists (integer_sort ∷ []) (claim op.Less (bound 0 integer_sort) (bound 0 integer_sort))) ∙ some_fails U integer_sort (λ x. int_lt x x) below
  where
    below : (x : ℤ) → int_lt x x ≡ false
    below x = grind (arith, ints)
