-- Rewriting: a law at a place, and one formula in the place of another.
use Rattle.std.specs.Prelude.{unwrap_or, ℕ, ℤ, ◌-◌, ◌==◌, List, [], ◌∷◌, map, Option, Some, None, slice_get, slice_set, if◌then◌else◌}
use Rattle.std.specs.Option.{option_map, option_and_then}
use Rattle.formula_core.specs.declared.Formula.{Formula, out-Formula}
use Rattle.formula_core.specs.declared.Formula.TheOpen.{Formula-F, Int, Free, Bound, Node, Bind}
use Rattle.formula_core.specs.declared.Formula.TheVariants as formula
use Rattle.formula_core.specs.declared.Formula.TheFolds.{para-Formula}
use Rattle.formula_core.specs.declared.Op.TheVariants as op
use Rattle.formula_core.specs.Wellness.{type_of}
use Rattle.rule_table.specs.declared.law.Law.{Law}
use Rattle.rule_table.specs.declared.law.Law.TheVariants as law
use Rattle.rule_table.specs.declared.law.TheConstants.{LAWS}
use Rattle.formula_core.specs.Same.{same_formula}
use Rattle.rule_table.specs.Shapes.{on_one, on_two, applied}
use Rattle.rule_table.specs.SetLaws.{on_pair}
use Rattle.rule_table.specs.LogicLaws.{double_negation, negated_and, negated_or, negated_implies, negated_equivalent, negated_for_all, negated_exists, bool_is_true, bool_is_false, equal_turned}
use Rattle.rule_table.specs.SetLaws.{member_of_product, member_of_union, member_of_intersection, member_of_difference, member_of_extension, member_of_empty, inclusion, proper_inclusion, equal_sets, equal_to_empty, member_of_power_set, member_of_non_empty_power_set, member_of_domain, member_of_range, member_of_converse, member_of_domain_restriction, member_of_domain_subtraction, member_of_range_restriction, member_of_range_subtraction, member_of_overriding, member_of_image, member_of_composition, member_of_direct_product, member_of_parallel_product, member_of_relations, member_of_total_relations, member_of_surjective_relations, member_of_total_surjective_relations, member_of_partial_functions, member_of_total_functions, member_of_partial_injections, member_of_total_injections, member_of_partial_surjections, member_of_total_surjections, member_of_bijections, member_of_comprehension, member_of_general_union, member_of_general_intersection, member_of_quantified_union, member_of_quantified_intersection, member_of_identity, member_of_first_projection, member_of_second_projection, equal_pairs, member_of_whole, finite_empty, finite_extension, finite_union, finite_interval, overridden_at}
use Rattle.rule_table.specs.ArithmeticLaws.{member_of_naturals, member_of_positive_naturals, member_of_interval, member_of_successor, member_of_predecessor, negated_less, negated_at_most, equal_integers, less_is_at_most, computed, too_wide}

-- the law with a number, from 1 to 70
abbrev pub law_of : ℕ → Option Law
law_of number = if number == 0 then None else slice_get LAWS (number - 1)

-- the right side of a law for a left side
abbrev pub right_side : Law → Formula → Option Formula
right_side law.DoubleNegation f = double_negation f
right_side law.NegatedAnd f = negated_and f
right_side law.NegatedOr f = negated_or f
right_side law.NegatedImplies f = negated_implies f
right_side law.NegatedEquivalent f = negated_equivalent f
right_side law.NegatedForAll f = negated_for_all f
right_side law.NegatedExists f = negated_exists f
right_side law.BoolIsTrue f = bool_is_true f
right_side law.BoolIsFalse f = bool_is_false f
right_side law.EqualTurned f = equal_turned f
right_side law.MemberOfProduct f = member_of_product f
right_side law.MemberOfUnion f = member_of_union f
right_side law.MemberOfIntersection f = member_of_intersection f
right_side law.MemberOfDifference f = member_of_difference f
right_side law.MemberOfExtension f = member_of_extension f
right_side law.MemberOfEmpty f = member_of_empty f
right_side law.Inclusion f = inclusion f
right_side law.ProperInclusion f = proper_inclusion f
right_side law.EqualSets f = equal_sets f
right_side law.EqualToEmpty f = equal_to_empty f
right_side law.MemberOfPowerSet f = member_of_power_set f
right_side law.MemberOfNonEmptyPowerSet f = member_of_non_empty_power_set f
right_side law.MemberOfDomain f = member_of_domain f
right_side law.MemberOfRange f = member_of_range f
right_side law.MemberOfConverse f = member_of_converse f
right_side law.MemberOfDomainRestriction f = member_of_domain_restriction f
right_side law.MemberOfDomainSubtraction f = member_of_domain_subtraction f
right_side law.MemberOfRangeRestriction f = member_of_range_restriction f
right_side law.MemberOfRangeSubtraction f = member_of_range_subtraction f
right_side law.MemberOfOverriding f = member_of_overriding f
right_side law.MemberOfImage f = member_of_image f
right_side law.MemberOfComposition f = member_of_composition f
right_side law.MemberOfDirectProduct f = member_of_direct_product f
right_side law.MemberOfParallelProduct f = member_of_parallel_product f
right_side law.MemberOfRelations f = member_of_relations f
right_side law.MemberOfTotalRelations f = member_of_total_relations f
right_side law.MemberOfSurjectiveRelations f = member_of_surjective_relations f
right_side law.MemberOfTotalSurjectiveRelations f = member_of_total_surjective_relations f
right_side law.MemberOfPartialFunctions f = member_of_partial_functions f
right_side law.MemberOfTotalFunctions f = member_of_total_functions f
right_side law.MemberOfPartialInjections f = member_of_partial_injections f
right_side law.MemberOfTotalInjections f = member_of_total_injections f
right_side law.MemberOfPartialSurjections f = member_of_partial_surjections f
right_side law.MemberOfTotalSurjections f = member_of_total_surjections f
right_side law.MemberOfBijections f = member_of_bijections f
right_side law.MemberOfComprehension f = member_of_comprehension f
right_side law.MemberOfGeneralUnion f = member_of_general_union f
right_side law.MemberOfGeneralIntersection f = member_of_general_intersection f
right_side law.MemberOfQuantifiedUnion f = member_of_quantified_union f
right_side law.MemberOfQuantifiedIntersection f = member_of_quantified_intersection f
right_side law.MemberOfIdentity f = member_of_identity f
right_side law.MemberOfFirstProjection f = member_of_first_projection f
right_side law.MemberOfSecondProjection f = member_of_second_projection f
right_side law.EqualPairs f = equal_pairs f
right_side law.MemberOfWhole f = member_of_whole f
right_side law.FiniteEmpty f = finite_empty f
right_side law.FiniteExtension f = finite_extension f
right_side law.FiniteUnion f = finite_union f
right_side law.FiniteInterval f = finite_interval f
right_side law.OverriddenAt f = overridden_at f
right_side law.MemberOfNaturals f = member_of_naturals f
right_side law.MemberOfPositiveNaturals f = member_of_positive_naturals f
right_side law.MemberOfInterval f = member_of_interval f
right_side law.MemberOfSuccessor f = member_of_successor f
right_side law.MemberOfPredecessor f = member_of_predecessor f
right_side law.NegatedLess f = negated_less f
right_side law.NegatedAtMost f = negated_at_most f
right_side law.EqualIntegers f = equal_integers f
right_side law.LessIsAtMost f = less_is_at_most f
right_side law.Computed f = computed f

-- the operands whose value is too wide, which only the law that computes can meet
abbrev pub width_of : Law → Formula → Option (ℤ × ℤ)
width_of law.Computed f = too_wide f
width_of _ f = None

-- the part at a position
abbrev pub part_at : Formula-F Formula → ℕ → Option Formula
part_at (Int n) i = None
part_at (Free name t) i = None
part_at (Bound at t) i = None
part_at (Node op parts t) i = slice_get parts i
part_at (Bind binder types parts t) i = slice_get parts i

abbrev pub part : Formula → ℕ → Option Formula
part f i = part_at (out-Formula f) i

-- a formula with another part at a position
abbrev pub with_part_at : Formula-F Formula → ℕ → Formula → Formula
with_part_at (Int n) i p = formula.Int n
with_part_at (Free name t) i p = formula.Free name t
with_part_at (Bound at t) i p = formula.Bound at t
with_part_at (Node op parts t) i p = formula.Node op (slice_set parts i p) t
with_part_at (Bind binder types parts t) i p = formula.Bind binder types (slice_set parts i p) t

abbrev pub with_part : Formula → ℕ → Formula → Formula
with_part f i p = with_part_at (out-Formula f) i p

-- the part at a place
abbrev pub at_place : List ℕ → Formula → Option Formula
at_place [] f = Some f
at_place (i ∷ place) f = option_and_then (at_place place) (part f i)

-- a formula rewritten by a law at a place. What stands there stays below the same binders, so it isn't shifted.
abbrev pub rewritten : Law → List ℕ → Formula → Option Formula
rewritten law [] f = right_side law f
rewritten law (i ∷ place) f = option_and_then (λ p. option_map (with_part f i) (rewritten law place p)) (part f i)

abbrev pub replaced_step : Formula → Formula → Formula-F (Formula × Formula) → Formula
replaced_step old new (Int n) = if same_formula (formula.Int n) old then new else formula.Int n
replaced_step old new (Free name t) = if same_formula (formula.Free name t) old then new else formula.Free name t
replaced_step old new (Bound at t) = if same_formula (formula.Bound at t) old then new else formula.Bound at t
replaced_step old new (Node op parts t) =
    if same_formula (formula.Node op (map (λ p. p.0) parts) t) old then new else formula.Node op (map
    (λ p. p.1) parts) t
replaced_step old new (Bind binder types parts t) =
    if same_formula (formula.Bind binder types (map (λ p. p.0) parts) t) old then new
    else formula.Bind binder types (map (λ p. p.1) parts) t

-- A formula with `new` in the place of each outermost occurrence of `old`. Both are well, so they have no index that
-- a binder could catch.
abbrev pub replaced : Formula → Formula → Formula → Formula
replaced old new = para-Formula Formula (replaced_step old new)

-- `f(z)`, where a formula is `(f <+ {x ↦ y})(z)`
abbrev pub without_override : Formula → Formula → Formula → Option Formula
without_override z x h =
    on_two op.Apply h (λ g e. if same_formula e z then on_two op.Overriding g (λ f s. on_one op.SetExtension s
    (λ p. on_pair p (λ d y.
    if same_formula d x then Some (applied f z (type_of h)) else None))) else None)

abbrev pub replaced_over_step : Formula → Formula → Formula-F (Formula × Formula) → Formula
replaced_over_step z x (Int n) = formula.Int n
replaced_over_step z x (Free name t) = formula.Free name t
replaced_over_step z x (Bound at t) = formula.Bound at t
replaced_over_step z x (Node op parts t) =
    unwrap_or (without_override z x (formula.Node op (map (λ p. p.0) parts) t)) (formula.Node op (map
    (λ p. p.1) parts) t)
replaced_over_step z x (Bind binder types parts t) = formula.Bind binder types (map (λ p. p.1) parts) t

-- a formula with `f(z)` in the place of each outermost `(f <+ {x ↦ y})(z)`
abbrev pub replaced_over : Formula → Formula → Formula → Formula
replaced_over z x = para-Formula Formula (replaced_over_step z x)
