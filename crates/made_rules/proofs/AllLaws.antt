-- Each law keeps types.
use Rattle.rule_table.specs.declared.law.Law.{Law}
use Rattle.rule_table.specs.declared.law.Law.TheVariants as law
use Rattle.made_rules.proofs.Typed.{Env}
use Rattle.made_rules.proofs.AtPlaces.{KeepsTypes}
use Rattle.made_rules.proofs.OfLogic.{double_negation_is, negated_and_is, negated_or_is, negated_implies_is, negated_equivalent_is, negated_for_all_is, negated_exists_is, bool_is_true_is, bool_is_false_is, equal_turned_is}
use Rattle.made_rules.proofs.OfArithmetic.{member_of_naturals_is, member_of_positive_naturals_is, member_of_interval_is, member_of_successor_is, member_of_predecessor_is, negated_less_is, negated_at_most_is, equal_integers_is, less_is_at_most_is, computed_is}
use Rattle.made_rules.proofs.OfSets.{product_is, union_is, intersection_is, difference_is, empty_is, inclusion_is, proper_inclusion_is, equal_sets_is, equal_to_empty_is, power_set_is, non_empty_power_set_is, general_union_is, general_intersection_is, equal_pairs_is, whole_is, finite_empty_is, finite_union_is, finite_interval_is}
use Rattle.made_rules.proofs.OfRelations.{domain_is, range_is, converse_is, domain_restriction_is, domain_subtraction_is, range_restriction_is, range_subtraction_is, overriding_is, image_is, composition_is, direct_product_is, parallel_product_is, identity_is, first_projection_is, second_projection_is}
use Rattle.made_rules.proofs.OfArrows.{relations_is, total_relations_is, surjective_relations_is, total_surjective_relations_is, partial_functions_is, total_functions_is, partial_injections_is, total_injections_is, partial_surjections_is, total_surjections_is, bijections_is}
use Rattle.made_rules.proofs.OfBinders.{extension_is, comprehension_is, quantified_union_is, quantified_intersection_is, finite_extension_is, overridden_at_is}

module _ (env : Env) where
  pub keeps_types : (law : Law) → KeepsTypes env law
  keeps_types law.DoubleNegation bound t f h = double_negation_is env bound t f h
  keeps_types law.NegatedAnd bound t f h = negated_and_is env bound t f h
  keeps_types law.NegatedOr bound t f h = negated_or_is env bound t f h
  keeps_types law.NegatedImplies bound t f h = negated_implies_is env bound t f h
  keeps_types law.NegatedEquivalent bound t f h = negated_equivalent_is env bound t f h
  keeps_types law.NegatedForAll bound t f h = negated_for_all_is env bound t f h
  keeps_types law.NegatedExists bound t f h = negated_exists_is env bound t f h
  keeps_types law.BoolIsTrue bound t f h = bool_is_true_is env bound t f h
  keeps_types law.BoolIsFalse bound t f h = bool_is_false_is env bound t f h
  keeps_types law.EqualTurned bound t f h = equal_turned_is env bound t f h
  keeps_types law.MemberOfProduct bound t f h = product_is env bound t f h
  keeps_types law.MemberOfUnion bound t f h = union_is env bound t f h
  keeps_types law.MemberOfIntersection bound t f h = intersection_is env bound t f h
  keeps_types law.MemberOfDifference bound t f h = difference_is env bound t f h
  keeps_types law.MemberOfExtension bound t f h = extension_is env bound t f h
  keeps_types law.MemberOfEmpty bound t f h = empty_is env bound t f h
  keeps_types law.Inclusion bound t f h = inclusion_is env bound t f h
  keeps_types law.ProperInclusion bound t f h = proper_inclusion_is env bound t f h
  keeps_types law.EqualSets bound t f h = equal_sets_is env bound t f h
  keeps_types law.EqualToEmpty bound t f h = equal_to_empty_is env bound t f h
  keeps_types law.MemberOfPowerSet bound t f h = power_set_is env bound t f h
  keeps_types law.MemberOfNonEmptyPowerSet bound t f h = non_empty_power_set_is env bound t f h
  keeps_types law.MemberOfDomain bound t f h = domain_is env bound t f h
  keeps_types law.MemberOfRange bound t f h = range_is env bound t f h
  keeps_types law.MemberOfConverse bound t f h = converse_is env bound t f h
  keeps_types law.MemberOfDomainRestriction bound t f h = domain_restriction_is env bound t f h
  keeps_types law.MemberOfDomainSubtraction bound t f h = domain_subtraction_is env bound t f h
  keeps_types law.MemberOfRangeRestriction bound t f h = range_restriction_is env bound t f h
  keeps_types law.MemberOfRangeSubtraction bound t f h = range_subtraction_is env bound t f h
  keeps_types law.MemberOfOverriding bound t f h = overriding_is env bound t f h
  keeps_types law.MemberOfImage bound t f h = image_is env bound t f h
  keeps_types law.MemberOfComposition bound t f h = composition_is env bound t f h
  keeps_types law.MemberOfDirectProduct bound t f h = direct_product_is env bound t f h
  keeps_types law.MemberOfParallelProduct bound t f h = parallel_product_is env bound t f h
  keeps_types law.MemberOfRelations bound t f h = relations_is env bound t f h
  keeps_types law.MemberOfTotalRelations bound t f h = total_relations_is env bound t f h
  keeps_types law.MemberOfSurjectiveRelations bound t f h = surjective_relations_is env bound t f h
  keeps_types law.MemberOfTotalSurjectiveRelations bound t f h = total_surjective_relations_is env bound t f h
  keeps_types law.MemberOfPartialFunctions bound t f h = partial_functions_is env bound t f h
  keeps_types law.MemberOfTotalFunctions bound t f h = total_functions_is env bound t f h
  keeps_types law.MemberOfPartialInjections bound t f h = partial_injections_is env bound t f h
  keeps_types law.MemberOfTotalInjections bound t f h = total_injections_is env bound t f h
  keeps_types law.MemberOfPartialSurjections bound t f h = partial_surjections_is env bound t f h
  keeps_types law.MemberOfTotalSurjections bound t f h = total_surjections_is env bound t f h
  keeps_types law.MemberOfBijections bound t f h = bijections_is env bound t f h
  keeps_types law.MemberOfComprehension bound t f h = comprehension_is env bound t f h
  keeps_types law.MemberOfGeneralUnion bound t f h = general_union_is env bound t f h
  keeps_types law.MemberOfGeneralIntersection bound t f h = general_intersection_is env bound t f h
  keeps_types law.MemberOfQuantifiedUnion bound t f h = quantified_union_is env bound t f h
  keeps_types law.MemberOfQuantifiedIntersection bound t f h = quantified_intersection_is env bound t f h
  keeps_types law.MemberOfIdentity bound t f h = identity_is env bound t f h
  keeps_types law.MemberOfFirstProjection bound t f h = first_projection_is env bound t f h
  keeps_types law.MemberOfSecondProjection bound t f h = second_projection_is env bound t f h
  keeps_types law.EqualPairs bound t f h = equal_pairs_is env bound t f h
  keeps_types law.MemberOfWhole bound t f h = whole_is env bound t f h
  keeps_types law.FiniteEmpty bound t f h = finite_empty_is env bound t f h
  keeps_types law.FiniteExtension bound t f h = finite_extension_is env bound t f h
  keeps_types law.FiniteUnion bound t f h = finite_union_is env bound t f h
  keeps_types law.FiniteInterval bound t f h = finite_interval_is env bound t f h
  keeps_types law.OverriddenAt bound t f h = overridden_at_is env bound t f h
  keeps_types law.MemberOfNaturals bound t f h = member_of_naturals_is env bound t f h
  keeps_types law.MemberOfPositiveNaturals bound t f h = member_of_positive_naturals_is env bound t f h
  keeps_types law.MemberOfInterval bound t f h = member_of_interval_is env bound t f h
  keeps_types law.MemberOfSuccessor bound t f h = member_of_successor_is env bound t f h
  keeps_types law.MemberOfPredecessor bound t f h = member_of_predecessor_is env bound t f h
  keeps_types law.NegatedLess bound t f h = negated_less_is env bound t f h
  keeps_types law.NegatedAtMost bound t f h = negated_at_most_is env bound t f h
  keeps_types law.EqualIntegers bound t f h = equal_integers_is env bound t f h
  keeps_types law.LessIsAtMost bound t f h = less_is_at_most_is env bound t f h
  keeps_types law.Computed bound t f h = computed_is env bound t f h
