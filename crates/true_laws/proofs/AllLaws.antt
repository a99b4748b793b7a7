-- Each law of the table keeps what formulas denote.
use Rattle.std.proofs.Common.{List, ℕ}
use Rattle.formula_core.specs.Typed.{Stands}
use Rattle.rule_table.specs.declared.law.Law.{Law}
use Rattle.rule_table.specs.declared.law.Law.TheVariants as law
use Rattle.meanings.specs.Universes.{Universe}
use Rattle.true_laws.proofs.ArithmeticLaw as arithmetic
use Rattle.true_laws.proofs.ArrowLaws as arrows
use Rattle.true_laws.proofs.BinderLaws as binders
use Rattle.true_laws.proofs.EquationLaws as equations
use Rattle.true_laws.proofs.FiniteLaws as finite
use Rattle.true_laws.proofs.LogicLaws as logic
use Rattle.true_laws.proofs.MembershipLaws as sets
use Rattle.true_laws.proofs.OverriddenLaw as overridden
use Rattle.true_laws.proofs.WholeLaw.{whole_law}
use Rattle.true_laws.proofs.Places.{LawHolds}
use Rattle.true_laws.specs.Laws.{KeepsDenotations}

pub each_law_holds : {carrier : List ℕ → Type 0} → (U : Universe carrier) (law : Law) → LawHolds U law
each_law_holds U law.DoubleNegation = λ env names _. logic.double_negation_law U names (Stands env)
each_law_holds U law.NegatedAnd = λ env names _. logic.negated_and_law U names (Stands env)
each_law_holds U law.NegatedOr = λ env names _. logic.negated_or_law U names (Stands env)
each_law_holds U law.NegatedImplies = λ env names _. logic.negated_implies_law U names (Stands env)
each_law_holds U law.NegatedEquivalent = λ env names _. logic.negated_equivalent_law U names (Stands env)
each_law_holds U law.NegatedForAll = λ env names _. logic.negated_for_all_law U names (Stands env)
each_law_holds U law.NegatedExists = λ env names _. logic.negated_exists_law U names (Stands env)
each_law_holds U law.BoolIsTrue = λ env names _. equations.bool_is_true_law U names (Stands env)
each_law_holds U law.BoolIsFalse = λ env names _. equations.bool_is_false_law U names (Stands env)
each_law_holds U law.EqualTurned = λ env names _. equations.equal_turned_law U names (Stands env)
each_law_holds U law.MemberOfProduct = λ env names _. sets.product_law U names (Stands env)
each_law_holds U law.MemberOfUnion = λ env names _. sets.union_law U names (Stands env)
each_law_holds U law.MemberOfIntersection = λ env names _. sets.intersection_law U names (Stands env)
each_law_holds U law.MemberOfDifference = λ env names _. sets.difference_law U names (Stands env)
each_law_holds U law.MemberOfExtension = λ env names _. sets.extension_law U names (Stands env)
each_law_holds U law.MemberOfEmpty = λ env names _. sets.empty_law U names (Stands env)
each_law_holds U law.Inclusion = λ env names _. equations.inclusion_law U names (Stands env)
each_law_holds U law.ProperInclusion = λ env names _. equations.proper_inclusion_law U names (Stands env)
each_law_holds U law.EqualSets = λ env names _. equations.equal_sets_law U names (Stands env)
each_law_holds U law.EqualToEmpty = λ env names _. equations.equal_to_empty_law U names (Stands env)
each_law_holds U law.MemberOfPowerSet = λ env names _. sets.power_set_law U names (Stands env)
each_law_holds U law.MemberOfNonEmptyPowerSet = λ env names _. sets.non_empty_power_set_law U names (Stands env)
each_law_holds U law.MemberOfDomain = λ env names _. sets.domain_law U names (Stands env)
each_law_holds U law.MemberOfRange = λ env names _. sets.range_law U names (Stands env)
each_law_holds U law.MemberOfConverse = λ env names _. sets.converse_law U names (Stands env)
each_law_holds U law.MemberOfDomainRestriction = λ env names _. sets.domain_restriction_law U names (Stands env)
each_law_holds U law.MemberOfDomainSubtraction = λ env names _. sets.domain_subtraction_law U names (Stands env)
each_law_holds U law.MemberOfRangeRestriction = λ env names _. sets.range_restriction_law U names (Stands env)
each_law_holds U law.MemberOfRangeSubtraction = λ env names _. sets.range_subtraction_law U names (Stands env)
each_law_holds U law.MemberOfOverriding = λ env names _. sets.overriding_law U names (Stands env)
each_law_holds U law.MemberOfImage = λ env names _. sets.image_law U names (Stands env)
each_law_holds U law.MemberOfComposition = λ env names _. sets.composition_law U names (Stands env)
each_law_holds U law.MemberOfDirectProduct = λ env names _. sets.direct_product_law U names (Stands env)
each_law_holds U law.MemberOfParallelProduct = λ env names _. sets.parallel_product_law U names (Stands env)
each_law_holds U law.MemberOfRelations = λ env names _. arrows.relations_law U names (Stands env)
each_law_holds U law.MemberOfTotalRelations = λ env names _. arrows.total_relations_law U names (Stands env)
each_law_holds U law.MemberOfSurjectiveRelations = λ env names _. arrows.surjective_relations_law U names (Stands env)
each_law_holds U law.MemberOfTotalSurjectiveRelations = λ env names _.
    arrows.total_surjective_relations_law U names (Stands env)
each_law_holds U law.MemberOfPartialFunctions = λ env names _. arrows.partial_functions_law U names (Stands env)
each_law_holds U law.MemberOfTotalFunctions = λ env names _. arrows.total_functions_law U names (Stands env)
each_law_holds U law.MemberOfPartialInjections = λ env names _. arrows.partial_injections_law U names (Stands env)
each_law_holds U law.MemberOfTotalInjections = λ env names _. arrows.total_injections_law U names (Stands env)
each_law_holds U law.MemberOfPartialSurjections = λ env names _. arrows.partial_surjections_law U names (Stands env)
each_law_holds U law.MemberOfTotalSurjections = λ env names _. arrows.total_surjections_law U names (Stands env)
each_law_holds U law.MemberOfBijections = λ env names _. arrows.bijections_law U names (Stands env)
each_law_holds U law.MemberOfComprehension = λ env names _. binders.comprehension_law U names (Stands env)
each_law_holds U law.MemberOfGeneralUnion = λ env names _. binders.general_union_law U names (Stands env)
each_law_holds U law.MemberOfGeneralIntersection = λ env names _. binders.general_intersection_law U names (Stands env)
each_law_holds U law.MemberOfQuantifiedUnion = λ env names _. binders.quantified_union_law U names (Stands env)
each_law_holds U law.MemberOfQuantifiedIntersection = λ env names _.
    binders.quantified_intersection_law U names (Stands env)
each_law_holds U law.MemberOfIdentity = λ env names _. sets.identity_law U names (Stands env)
each_law_holds U law.MemberOfFirstProjection = λ env names _. sets.first_projection_law U names (Stands env)
each_law_holds U law.MemberOfSecondProjection = λ env names _. sets.second_projection_law U names (Stands env)
each_law_holds U law.EqualPairs = λ env names _. equations.equal_pairs_law U names (Stands env)
each_law_holds U law.MemberOfWhole = whole_law U
each_law_holds U law.FiniteEmpty = λ env names _. finite.finite_empty_law U names (Stands env)
each_law_holds U law.FiniteExtension = λ env names _. finite.finite_extension_law U names (Stands env)
each_law_holds U law.FiniteUnion = λ env names _. finite.finite_union_law U names (Stands env)
each_law_holds U law.FiniteInterval = λ env names _. finite.finite_interval_law U names (Stands env)
each_law_holds U law.OverriddenAt = λ env names _. overridden.overridden_at_law U names (Stands env)
each_law_holds U law.MemberOfNaturals = λ env names _. sets.naturals_law U names (Stands env)
each_law_holds U law.MemberOfPositiveNaturals = λ env names _. sets.positive_naturals_law U names (Stands env)
each_law_holds U law.MemberOfInterval = λ env names _. sets.interval_law U names (Stands env)
each_law_holds U law.MemberOfSuccessor = λ env names _. sets.successor_law U names (Stands env)
each_law_holds U law.MemberOfPredecessor = λ env names _. sets.predecessor_law U names (Stands env)
each_law_holds U law.NegatedLess = λ env names _. logic.negated_less_law U names (Stands env)
each_law_holds U law.NegatedAtMost = λ env names _. logic.negated_at_most_law U names (Stands env)
each_law_holds U law.EqualIntegers = λ env names _. equations.equal_integers_law U names (Stands env)
each_law_holds U law.LessIsAtMost = λ env names _. equations.less_is_at_most_law U names (Stands env)
each_law_holds U law.Computed = λ env names _. arithmetic.computed_law U names (Stands env)

pub keeps_denotations : (law : Law) → KeepsDenotations law
keeps_denotations law shape test U env names sets f g types well named is =
    each_law_holds U law env names sets f g types (well, named) is
