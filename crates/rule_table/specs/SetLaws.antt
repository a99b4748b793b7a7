-- The laws of sets, from the left side to the right side. What stands below a new bound identifier is shifted.
use Rattle.std.specs.Prelude.{[], ◌∷◌, List, Option, Some, None, length, fold, if◌then◌else◌}
use Rattle.formula_core.specs.declared.Op.{Op}
use Rattle.std.specs.Option.{option_map, option_and_then}
use Rattle.formula_core.specs.declared.Op.TheVariants as op
use Rattle.formula_core.specs.declared.Binder.TheVariants.{ForAll, Exists, Comprehension, QuantifiedUnion, QuantifiedIntersection}
use Rattle.formula_core.specs.declared.Ty.{Ty}
use Rattle.formula_core.specs.declared.Formula.{Formula}
use Rattle.formula_core.specs.declared.Formula.TheVariants as formula
use Rattle.formula_core.specs.Shifting.{shifted}
use Rattle.formula_core.specs.Wellness.{type_of}
use Rattle.formula_core.specs.WholeSets.{whole_set}
use Rattle.well_defined.specs.Predicates.{top, conjunction, disjunction, implication, member, finite, domain, quantified}
use Rattle.formula_core.specs.Same.{same_formula}
use Rattle.rule_table.specs.Shapes.{operands, on_one, on_two, on_none, under_two, of_set, of_relation, negation, equal, subset, bottom, maplet, empty, range, converse, product, relations}

-- `f` is `E ∈ S` where S is this operator on two operands, on one, or on none
abbrev pub in_two : Op → Formula → (Formula → Formula → Formula → Option Formula) → Option Formula
in_two o f make = on_two op.Member f (λ e set. on_two o set (make e))

abbrev pub in_one : Op → Formula → (Formula → Formula → Option Formula) → Option Formula
in_one o f make = on_two op.Member f (λ e set. on_one o set (make e))

abbrev pub in_none : Op → Formula → (Formula → Option Formula) → Option Formula
in_none o f make = on_two op.Member f (λ e set. on_none o set (make e))

-- where `f` is `E ↦ F`
abbrev pub on_pair : Formula → (Formula → Formula → Option Formula) → Option Formula
on_pair f make = on_two op.Maplet f make

-- a formula below one more bound identifier, below so many, and that identifier
abbrev pub below : Formula → Formula
below f = shifted 1 0 f

abbrev pub below_all : List Ty → Formula → Formula
below_all types f = shifted (length types) 0 f

abbrev pub new : Ty → Formula
new t = formula.Bound 0 t

abbrev pub for_all : Ty → Formula → Formula
for_all t p = quantified ForAll (t ∷ []) p

abbrev pub there_is : Ty → Formula → Formula
there_is t p = quantified Exists (t ∷ []) p

-- E ↦ F ∈ S × T: E ∈ S ∧ F ∈ T
abbrev pub member_of_product : Formula → Option Formula
member_of_product h = in_two op.Product h (λ p s t. on_pair p (λ e f. Some (conjunction (member e s) (member f t))))

-- E ∈ S ∪ T: E ∈ S ∨ E ∈ T
abbrev pub member_of_union : Formula → Option Formula
member_of_union h = in_two op.Union h (λ e s t. Some (disjunction (member e s) (member e t)))

-- E ∈ S ∩ T: E ∈ S ∧ E ∈ T
abbrev pub member_of_intersection : Formula → Option Formula
member_of_intersection h = in_two op.Intersection h (λ e s t. Some (conjunction (member e s) (member e t)))

-- E ∈ S ∖ T: E ∈ S ∧ ¬ E ∈ T
abbrev pub member_of_difference : Formula → Option Formula
member_of_difference h = in_two op.Difference h (λ e s t. Some (conjunction (member e s) (negation (member e t))))

-- P ∨ E = F for each further F
abbrev pub or_equal : Formula → Formula → Formula → Formula
or_equal e p f = disjunction p (equal e f)

abbrev pub equal_to_one_of : Formula → List Formula → Option Formula
equal_to_one_of e [] = None
equal_to_one_of e (f ∷ fs) = Some (fold (or_equal e) (equal e f) fs)

-- E ∈ {F1, .., Fn}: E = F1 ∨ .. ∨ E = Fn
abbrev pub member_of_extension : Formula → Option Formula
member_of_extension h = on_two op.Member h (λ e set. option_and_then (equal_to_one_of e) (operands op.SetExtension set))

-- E ∈ ∅: ⊥
abbrev pub member_of_empty : Formula → Option Formula
member_of_empty h = in_none op.EmptySet h (λ e. Some bottom)

-- S ⊆ T: ∀x·x ∈ S ⇒ x ∈ T
abbrev pub inclusion : Formula → Option Formula
inclusion h =
    on_two op.Subset h (λ s t. of_set s (λ α. Some (for_all α
    (implication (member (new α) (below s)) (member (new α) (below t))))))

-- S ⊂ T: S ⊆ T ∧ ¬ S = T
abbrev pub proper_inclusion : Formula → Option Formula
proper_inclusion h = on_two op.ProperSubset h (λ s t. Some (conjunction (subset s t) (negation (equal s t))))

-- S = T of sets: S ⊆ T ∧ T ⊆ S
abbrev pub equal_sets : Formula → Option Formula
equal_sets h = on_two op.Equal h (λ s t. of_set s (λ α. Some (conjunction (subset s t) (subset t s))))

-- S = ∅: ∀x·¬ x ∈ S
abbrev pub equal_to_empty : Formula → Option Formula
equal_to_empty h =
    on_two op.Equal h (λ s t. on_none op.EmptySet t (of_set s
    (λ α. Some (for_all α (negation (member (new α) (below s)))))))

-- E ∈ ℙ(S): E ⊆ S
abbrev pub member_of_power_set : Formula → Option Formula
member_of_power_set h = in_one op.PowerSet h (λ e s. Some (subset e s))

-- E ∈ ℙ1(S): E ⊆ S ∧ ¬ E = ∅
abbrev pub member_of_non_empty_power_set : Formula → Option Formula
member_of_non_empty_power_set h =
    in_one op.NonEmptyPowerSet h (λ e s. Some (conjunction (subset e s) (negation (equal e (empty (type_of e))))))

-- E ∈ dom(r): ∃y·E ↦ y ∈ r
abbrev pub member_of_domain : Formula → Option Formula
member_of_domain h =
    in_one op.Domain h (λ e r. of_relation r (λ α β. Some (there_is β (member (maplet (below e) (new β)) (below r)))))

-- E ∈ ran(r): ∃x·x ↦ E ∈ r
abbrev pub member_of_range : Formula → Option Formula
member_of_range h =
    in_one op.Range h (λ e r. of_relation r (λ α β. Some (there_is α (member (maplet (new α) (below e)) (below r)))))

-- E ↦ F ∈ r∼: F ↦ E ∈ r
abbrev pub member_of_converse : Formula → Option Formula
member_of_converse h = in_one op.Converse h (λ p r. on_pair p (λ e f. Some (member (maplet f e) r)))

-- E ↦ F ∈ S ◁ r: E ∈ S ∧ E ↦ F ∈ r
abbrev pub member_of_domain_restriction : Formula → Option Formula
member_of_domain_restriction h =
    in_two op.DomainRestriction h (λ p s r. on_pair p (λ e f. Some (conjunction (member e s) (member p r))))

-- E ↦ F ∈ S ⩤ r: ¬ E ∈ S ∧ E ↦ F ∈ r
abbrev pub member_of_domain_subtraction : Formula → Option Formula
member_of_domain_subtraction h =
    in_two op.DomainSubtraction h (λ p s r. on_pair p (λ e f. Some (conjunction (negation (member e s)) (member p r))))

-- E ↦ F ∈ r ▷ S: E ↦ F ∈ r ∧ F ∈ S
abbrev pub member_of_range_restriction : Formula → Option Formula
member_of_range_restriction h =
    in_two op.RangeRestriction h (λ p r s. on_pair p (λ e f. Some (conjunction (member p r) (member f s))))

-- E ↦ F ∈ r ⩥ S: E ↦ F ∈ r ∧ ¬ F ∈ S
abbrev pub member_of_range_subtraction : Formula → Option Formula
member_of_range_subtraction h =
    in_two op.RangeSubtraction h (λ p r s. on_pair p (λ e f. Some (conjunction (member p r) (negation (member f s)))))

-- E ↦ F ∈ r <+ s: E ↦ F ∈ s ∨ (E ↦ F ∈ r ∧ ¬ E ∈ dom(s))
abbrev pub member_of_overriding : Formula → Option Formula
member_of_overriding h =
    in_two op.Overriding h (λ p r s. on_pair p (λ e f. Some (disjunction (member p s)
    (conjunction (member p r) (negation (member e (domain s (type_of e))))))))

-- F ∈ r[S]: ∃x·x ∈ S ∧ x ↦ F ∈ r
abbrev pub member_of_image : Formula → Option Formula
member_of_image h =
    in_two op.Image h (λ f r s. of_relation r (λ α β. Some (there_is α
    (conjunction (member (new α) (below s)) (member (maplet (new α) (below f)) (below r))))))

-- E ↦ F ∈ p ; q: ∃z·E ↦ z ∈ p ∧ z ↦ F ∈ q
abbrev pub member_of_composition : Formula → Option Formula
member_of_composition h = in_two op.Composition h (λ m p q. on_pair m (λ e f. of_relation p (λ α β.
    Some (there_is β (conjunction (member (maplet (below e) (new β)) (below p)) (member (maplet (new β) (below f)) (below q)))))))

-- E ↦ (F ↦ G) ∈ p ⊗ q: E ↦ F ∈ p ∧ E ↦ G ∈ q
abbrev pub member_of_direct_product : Formula → Option Formula
member_of_direct_product h =
    in_two op.DirectProduct h (λ m p q. on_pair m (λ e n. on_pair n (λ f g. Some
    (conjunction (member (maplet e f) p) (member (maplet e g) q)))))

-- (E ↦ F) ↦ (G ↦ H) ∈ p ∥ q: E ↦ G ∈ p ∧ F ↦ H ∈ q
abbrev pub member_of_parallel_product : Formula → Option Formula
member_of_parallel_product k =
    in_two op.ParallelProduct k (λ m p q. on_pair m (λ a b. on_pair a (λ e f. on_pair b (λ g h. Some
    (conjunction (member (maplet e g) p) (member (maplet f h) q))))))

-- `r ∈ S a T` for an arrow a, where S and T are sets of α and β
abbrev pub in_arrow : Op → Formula → (Formula → Formula → Formula → Ty → Ty → Formula) → Option Formula
in_arrow arrow h make = in_two arrow h (λ r s t. of_relation r (λ α β. Some (make r s t α β)))

-- r ∈ S a T, dom(r) = S, ran(r) = T and r∼ ∈ T ⇸ S
abbrev pub is_in : Op → Formula → Formula → Formula → Ty → Ty → Formula
is_in arrow r s t α β = member r (relations arrow s t α β)

abbrev pub totality : Formula → Formula → Ty → Formula
totality r s α = equal (domain r α) s

abbrev pub is_onto : Formula → Formula → Ty → Formula
is_onto r t β = equal (range r β) t

abbrev pub goes_back : Formula → Formula → Formula → Ty → Ty → Formula
goes_back r s t α β = member (converse r α β) (relations op.PartialFunctions t s β α)

-- ∀x,y,z·x ↦ y ∈ r ∧ x ↦ z ∈ r ⇒ y = z
abbrev pub is_functional : Formula → Ty → Ty → Formula
is_functional r α β =
    let x = formula.Bound 2 α in let y = formula.Bound 1 β in let z = formula.Bound 0 β in let inner = shifted 3 0 r in
    quantified ForAll (α ∷ β ∷ β ∷ []) (implication (conjunction (member (maplet x y) inner) (member (maplet x z) inner)) (equal y z))

-- r ∈ S ↔ T: r ⊆ S × T
abbrev pub member_of_relations : Formula → Option Formula
member_of_relations h = in_arrow op.Relations h (λ r s t α β. subset r (product s t α β))

-- r in the total relations: r ∈ S ↔ T ∧ dom(r) = S
abbrev pub member_of_total_relations : Formula → Option Formula
member_of_total_relations h =
    in_arrow op.TotalRelations h (λ r s t α β. conjunction (is_in op.Relations r s t α β) (totality r s α))

-- r in the surjective relations: r ∈ S ↔ T ∧ ran(r) = T
abbrev pub member_of_surjective_relations : Formula → Option Formula
member_of_surjective_relations h =
    in_arrow op.SurjectiveRelations h (λ r s t α β. conjunction (is_in op.Relations r s t α β) (is_onto r t β))

-- r in the total surjective relations: r ∈ S ↔ T ∧ dom(r) = S ∧ ran(r) = T
abbrev pub member_of_total_surjective_relations : Formula → Option Formula
member_of_total_surjective_relations h =
    in_arrow op.TotalSurjectiveRelations h
    (λ r s t α β. conjunction (conjunction (is_in op.Relations r s t α β) (totality r s α)) (is_onto r t β))

-- r ∈ S ⇸ T: r ∈ S ↔ T ∧ (∀x,y,z·x ↦ y ∈ r ∧ x ↦ z ∈ r ⇒ y = z)
abbrev pub member_of_partial_functions : Formula → Option Formula
member_of_partial_functions h =
    in_arrow op.PartialFunctions h (λ r s t α β. conjunction (is_in op.Relations r s t α β) (is_functional r α β))

-- r ∈ S → T: r ∈ S ⇸ T ∧ dom(r) = S
abbrev pub member_of_total_functions : Formula → Option Formula
member_of_total_functions h =
    in_arrow op.TotalFunctions h (λ r s t α β. conjunction (is_in op.PartialFunctions r s t α β) (totality r s α))

-- r ∈ S ⤔ T: r ∈ S ⇸ T ∧ r∼ ∈ T ⇸ S
abbrev pub member_of_partial_injections : Formula → Option Formula
member_of_partial_injections h =
    in_arrow op.PartialInjections h
    (λ r s t α β. conjunction (is_in op.PartialFunctions r s t α β) (goes_back r s t α β))

-- r ∈ S ↣ T: r ∈ S → T ∧ r∼ ∈ T ⇸ S
abbrev pub member_of_total_injections : Formula → Option Formula
member_of_total_injections h =
    in_arrow op.TotalInjections h (λ r s t α β. conjunction (is_in op.TotalFunctions r s t α β) (goes_back r s t α β))

-- r ∈ S ⤀ T: r ∈ S ⇸ T ∧ ran(r) = T
abbrev pub member_of_partial_surjections : Formula → Option Formula
member_of_partial_surjections h =
    in_arrow op.PartialSurjections h (λ r s t α β. conjunction (is_in op.PartialFunctions r s t α β) (is_onto r t β))

-- r ∈ S ↠ T: r ∈ S → T ∧ ran(r) = T
abbrev pub member_of_total_surjections : Formula → Option Formula
member_of_total_surjections h =
    in_arrow op.TotalSurjections h (λ r s t α β. conjunction (is_in op.TotalFunctions r s t α β) (is_onto r t β))

-- r ∈ S ⤖ T: r ∈ S ↣ T ∧ ran(r) = T
abbrev pub member_of_bijections : Formula → Option Formula
member_of_bijections h =
    in_arrow op.Bijections h (λ r s t α β. conjunction (is_in op.TotalInjections r s t α β) (is_onto r t β))

-- E ∈ {x·P ∣ F}: ∃x·P ∧ E = F
abbrev pub member_of_comprehension : Formula → Option Formula
member_of_comprehension h =
    on_two op.Member h (λ e set. under_two Comprehension set (λ types p f. Some (quantified Exists types
    (conjunction p (equal (below_all types e) f)))))

-- E ∈ union(U): ∃s·s ∈ U ∧ E ∈ s
abbrev pub member_of_general_union : Formula → Option Formula
member_of_general_union h =
    in_one op.GeneralUnion h (λ e u. of_set u (λ σ. Some (there_is σ
    (conjunction (member (new σ) (below u)) (member (below e) (new σ))))))

-- E ∈ inter(U): ∀s·s ∈ U ⇒ E ∈ s
abbrev pub member_of_general_intersection : Formula → Option Formula
member_of_general_intersection h =
    in_one op.GeneralIntersection h (λ e u. of_set u (λ σ. Some (for_all σ
    (implication (member (new σ) (below u)) (member (below e) (new σ))))))

-- E ∈ ⋃x·P ∣ F: ∃x·P ∧ E ∈ F
abbrev pub member_of_quantified_union : Formula → Option Formula
member_of_quantified_union h =
    on_two op.Member h (λ e set. under_two QuantifiedUnion set (λ types p f. Some (quantified Exists types
    (conjunction p (member (below_all types e) f)))))

-- E ∈ ⋂x·P ∣ F: ∀x·P ⇒ E ∈ F
abbrev pub member_of_quantified_intersection : Formula → Option Formula
member_of_quantified_intersection h =
    on_two op.Member h (λ e set. under_two QuantifiedIntersection set (λ types p f. Some (quantified ForAll types
    (implication p (member (below_all types e) f)))))

-- E ↦ F ∈ id: E = F
abbrev pub member_of_identity : Formula → Option Formula
member_of_identity h = in_none op.Identity h (λ p. on_pair p (λ e f. Some (equal e f)))

-- (E ↦ F) ↦ G ∈ prj1: G = E
abbrev pub member_of_first_projection : Formula → Option Formula
member_of_first_projection h =
    in_none op.FirstProjection h (λ p. on_pair p (λ q g. on_pair q (λ e f. Some (equal g e))))

-- (E ↦ F) ↦ G ∈ prj2: G = F
abbrev pub member_of_second_projection : Formula → Option Formula
member_of_second_projection h =
    in_none op.SecondProjection h (λ p. on_pair p (λ q g. on_pair q (λ e f. Some (equal g f))))

-- E ↦ F = G ↦ H: E = G ∧ F = H
abbrev pub equal_pairs : Formula → Option Formula
equal_pairs k =
    on_two op.Equal k (λ a b. on_pair a (λ e f. on_pair b (λ g h. Some (conjunction (equal e g) (equal f h)))))

-- E ∈ T, T the whole set of E's type: ⊤
abbrev pub member_of_whole : Formula → Option Formula
member_of_whole h = on_two op.Member h (λ e t. if same_formula t (whole_set (type_of e)) then Some top else None)

-- finite(∅): ⊤
abbrev pub finite_empty : Formula → Option Formula
finite_empty h = on_one op.Finite h (λ s. on_none op.EmptySet s (Some top))

-- finite({F1, .., Fn}): ⊤
abbrev pub finite_extension : Formula → Option Formula
finite_extension h = on_one op.Finite h (λ s. option_map (λ parts. top) (operands op.SetExtension s))

-- finite(S ∪ T): finite(S) ∧ finite(T)
abbrev pub finite_union : Formula → Option Formula
finite_union h = on_one op.Finite h (λ u. on_two op.Union u (λ s t. Some (conjunction (finite s) (finite t))))

-- finite(a ‥ b): ⊤
abbrev pub finite_interval : Formula → Option Formula
finite_interval h = on_one op.Finite h (λ s. on_two op.Interval s (λ a b. Some top))

-- (f <+ {E ↦ F})(E): F
abbrev pub overridden_at : Formula → Option Formula
overridden_at h =
    on_two op.Apply h (λ g z. on_two op.Overriding g (λ f s. on_one op.SetExtension s (λ p. on_pair p
    (λ e v. if same_formula e z then Some v else None))))
