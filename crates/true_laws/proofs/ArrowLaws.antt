-- Laws of membership in sets of relations and functions.
use Rattle.std.proofs.Common.{Bool, List, Some, [], ap, false, refl, sym, true, ℕ, ◌&&◌, ◌∙◌, ◌∷◌, ◌≡◌}
use Rattle.formula_core.proofs.Weakening.{first_true}
use Rattle.formula_core.specs.Shifting.{shifted}
use Rattle.formula_core.specs.declared.Binder.TheVariants as binder
use Rattle.formula_core.specs.declared.Formula.{Formula}
use Rattle.formula_core.specs.declared.Formula.TheVariants.{Bound}
use Rattle.formula_core.specs.declared.Op.{Op}
use Rattle.formula_core.specs.declared.Op.TheVariants as op
use Rattle.formula_core.specs.declared.Ty.{Ty}
use Rattle.formula_core.specs.declared.Ty.TheVariants as ty
use Rattle.well_defined.specs.Predicates.{conjunction, domain, implication, member}
use Rattle.rule_table.specs.SetLaws.{goes_back, in_arrow, is_functional, is_in, is_onto, totality}
use Rattle.rule_table.specs.Shapes.{converse, equal, maplet, of_relation, product, range, subset}
use Rattle.rule_table.specs.declared.law.Law.TheVariants as law
use Rattle.meanings.specs.Denotations.{Assignment, denotation}
use Rattle.meanings.specs.Operations.{contains, equivalent, has_whole_domain, has_whole_range, implies, is_between, is_injective, is_single_valued, of_list, truth_value}
use Rattle.meanings.specs.Universes.{Valuation, Universe, every, some}
use Rattle.meanings.specs.Values.{Sort, Denotation, Value, pair_sort, power_sort, sort}
use Rattle.meanings.proofs.Bools.{both_ways}
use Rattle.meanings.proofs.Casts.{cast_own}
use Rattle.meanings.proofs.Denotations.{sort-Pair, sort-Pow}
use Rattle.meanings.proofs.Quantifiers.{every_holds, every_tells}
use Rattle.true_laws.proofs.Words.{and_value, equal_value, in_made, of_membership, of_quantifier, of_set, own_from, own_to, part_value, same_values, truth, with_value, words}
use Rattle.true_laws.proofs.LeftSides.{in_two_of}
use Rattle.true_laws.proofs.Forms.{is_of_relation}
use Rattle.true_laws.proofs.Places.{Keeps, LawKeeps}
use Rattle.true_laws.proofs.Sameness.{same_sets}

module _ {carrier : List ℕ → Type 0} (U : Universe carrier) (names : Valuation carrier) (P : List ℕ × Ty → Type 0) where
  abbrev M : Formula → Assignment U → Denotation carrier
  M = denotation U names

  abbrev Relation : Sort → Sort → Type 0
  Relation a b = Value carrier (pair_sort a b) → Bool

  -- a condition on a relation between two sets, as a predicate and as a test of their values
  abbrev Condition : Type 0
  Condition = (r s t : Formula) (α β : Ty) → Formula

  abbrev Test : Type 0
  Test = (a b : Sort) (s t : Denotation carrier) → Relation a b → Bool

  pub record Says (condition : Condition) (test : Test) : Type 0 where
    pub says : (r s t : Formula) (α β : Ty) (σ : Assignment U) (f : Relation (sort α) (sort β))
        → M r σ ≡ (power_sort (pair_sort (sort α) (sort β)), f)
        → M (condition r s t α β) σ ≡ truth U (test (sort α) (sort β) (M s σ) (M t σ) f)

  abbrev in_made_by : Op → Test
  in_made_by o a b s t f = of_list U o (power_sort (power_sort (pair_sort a b))) (s ∷ t ∷ []) f

  in_arrow_is : (o : Op) (r s t : Formula) (α β : Ty) (σ : Assignment U) (f : Relation (sort α) (sort β))
      → M r σ ≡ (power_sort (pair_sort (sort α) (sort β)), f)
      → M (is_in o r s t α β) σ ≡ truth U (in_made_by o (sort α) (sort β) (M s σ) (M t σ) f)
  in_arrow_is o r s t α β σ f is = simp (is, words, own_to U names (sort α), own_to U names (sort β))

  arrows : (o : Op) → Says (is_in o) (in_made_by o)
  arrows o = record { says = in_arrow_is o }

  -- equations of a set with a domain and with a range
  equal_to : (e s : Formula) (σ : Assignment U) (a : Sort) (A : Value carrier a → Bool) → M e σ ≡ (power_sort a, A)
      → M (equal e s) σ ≡ truth U (every U a (λ v. equivalent (A v) (contains U (M s σ) a v)))
  equal_to e s σ a A is =
      equal_value U names e s σ (power_sort a) A is ∙ ap (truth U) (same_sets U a A (contains U (M s σ) a))

  total : Says (λ r s t α β. totality r s α) (λ a b s t f. has_whole_domain U a b s f)
  total = record {
    says = λ r s t α β σ f is. let a = sort α in let b = sort β in
        equal_to (domain r α) s σ a (λ v. some U b (λ w. f (v, w))) (of_set U names op.Domain (r ∷ []) α σ
        ∙ (λ i. (power_sort a, of_list U op.Domain (power_sort a) (is i ∷ [])))
        ∙ (λ i. (power_sort a, λ v. some U b (λ w. cast_own U (power_sort (pair_sort a b)) f i (v, w)))));
  }

  onto : Says (λ r s t α β. is_onto r t β) (λ a b s t f. has_whole_range U a b t f)
  onto = record {
    says = λ r s t α β σ f is. let a = sort α in let b = sort β in
        equal_to (range r β) t σ b (λ w. some U a (λ v. f (v, w))) (of_set U names op.Range (r ∷ []) β σ
        ∙ (λ i. (power_sort b, of_list U op.Range (power_sort b) (is i ∷ [])))
        ∙ (λ i. (power_sort b, λ w. some U a (λ v. cast_own U (power_sort (pair_sort a b)) f i (v, w)))));
  }

  backwards : Says goes_back (λ a b s t f. is_between U b a t s (λ v. f (v.1, v.0)) && is_injective U a b f)
  backwards = record {
    says = λ r s t α β σ f is. let a = sort α in let b = sort β in
        in_arrow_is op.PartialFunctions (converse r α β) t s β α σ (λ v. f (v.1, v.0))
        (of_set U names op.Converse (r ∷ []) (ty.Pair β α) σ
        ∙ (λ i. (power_sort (sort-Pair β α i), of_list U op.Converse (power_sort (sort-Pair β α i)) (is i ∷ [])))
        ∙ (λ i. (power_sort (pair_sort b a), λ v. cast_own U (power_sort (pair_sort a b)) f i (v.1, v.0))));
  }

  functional_at : (r : Formula) (α β : Ty) (σ : Assignment U) (f : Relation (sort α) (sort β))
      → M r σ ≡ (power_sort (pair_sort (sort α) (sort β)), f)
      → (x : Value carrier (sort α)) (y z : Value carrier (sort β))
      → M (implication (conjunction (member (maplet (Bound 2 α) (Bound 1 β)) (shifted 3 0 r))
      (member (maplet (Bound 2 α) (Bound 0 β)) (shifted 3 0 r)))
      (equal (Bound 1 β) (Bound 0 β))) ((sort β, z) ∷ (sort β, y) ∷ (sort α, x) ∷ σ)
      ≡ truth U (implies (f (x, y) && f (x, z)) (U.same (sort β) y z))
  functional_at r α β σ f is x y z = simp (is, words, own_from U names (sort α), own_from U names (sort β))

  functional : Says (λ r s t α β. is_functional r α β) (λ a b s t f. is_single_valued U a b f)
  functional = record {
    says = λ r s t α β σ f is.
        of_quantifier U names binder.ForAll (α ∷ β ∷ β ∷ []) _ σ
        ∙ (λ i. truth U (every U (sort α) (λ x. every U (sort β) (λ y. every U (sort β) (λ z.
        truth_value U (functional_at r α β σ f is x y z i))))));
  }

  both : {p q : Condition} {x y : Test} → Says p x → Says q y
      → Says (λ r s t α β. conjunction (p r s t α β) (q r s t α β)) (λ a b s t f. x a b s t f && y a b s t f)
  both one two = record {
    says = λ r s t α β σ f is.
        and_value U names _ _ σ (one.says r s t α β σ f is) (two.says r s t α β σ f is);
  }

  arrow : {condition : Condition} {test : Test} → (o : Op) → Says condition test
      → ((a b : Sort) (s t : Denotation carrier) (f : Relation a b) → test a b s t f ≡ in_made_by o a b s t f)
      → Keeps U names P (λ h. in_arrow o h condition)
  arrow {condition} o says same h g types ready k =
      let (r, s, t, n, there) =
      in_two_of types o h ready.0 (λ r s t. of_relation r (λ α β. Some (condition r s t α β))) g k in
      let (α, β, r_type, made) = is_of_relation r (λ α β. Some (condition r s t α β)) g there in
      let sorts = ap sort r_type ∙ sort-Pow (ty.Pair α β) ∙ ap power_sort (sort-Pair α β) in
      same_values U names n.is made
      (λ σ. with_value U names r (power_sort (pair_sort (sort α) (sort β))) sorts σ (λ f is.
      says.says r s t α β σ f is ∙ ap (truth U) (same (sort α) (sort β) (M s σ) (M t σ) f)
      ∙ ap (in_made U names o (M s σ ∷ M t σ ∷ [])) (sym is) ∙ sym (of_membership U names r o (s ∷ t ∷ []) σ)))

  pub total_relations_law : LawKeeps U names P law.MemberOfTotalRelations
  total_relations_law = arrow op.TotalRelations (both (arrows op.Relations) total) (λ a b s t f. refl)

  pub surjective_relations_law : LawKeeps U names P law.MemberOfSurjectiveRelations
  surjective_relations_law = arrow op.SurjectiveRelations (both (arrows op.Relations) onto) (λ a b s t f. refl)

  pub total_surjective_relations_law : LawKeeps U names P law.MemberOfTotalSurjectiveRelations
  total_surjective_relations_law =
      arrow op.TotalSurjectiveRelations (both (both (arrows op.Relations) total) onto) (λ a b s t f. refl)

  pub partial_functions_law : LawKeeps U names P law.MemberOfPartialFunctions
  partial_functions_law = arrow op.PartialFunctions (both (arrows op.Relations) functional) (λ a b s t f. refl)

  pub total_functions_law : LawKeeps U names P law.MemberOfTotalFunctions
  total_functions_law = arrow op.TotalFunctions (both (arrows op.PartialFunctions) total) (λ a b s t f. refl)

  pub partial_surjections_law : LawKeeps U names P law.MemberOfPartialSurjections
  partial_surjections_law = arrow op.PartialSurjections (both (arrows op.PartialFunctions) onto) (λ a b s t f. refl)

  pub total_surjections_law : LawKeeps U names P law.MemberOfTotalSurjections
  total_surjections_law = arrow op.TotalSurjections (both (arrows op.TotalFunctions) onto) (λ a b s t f. refl)

  pub bijections_law : LawKeeps U names P law.MemberOfBijections
  bijections_law = arrow op.Bijections (both (arrows op.TotalInjections) onto) (λ a b s t f. refl)

  -- a relation between two sets goes back between them
  between_back : (a b : Sort) (s t : Denotation carrier) (f : Relation a b) → is_between U a b s t f ≡ true
      → is_between U b a t s (λ v. f (v.1, v.0)) ≡ true
  between_back a b s t f h =
      every_holds U b (λ y. every U a (λ x. implies (f (x, y)) (contains U t b y && contains U s a x))) (λ y.
      every_holds U a (λ x. implies (f (x, y)) (contains U t b y && contains U s a x)) (λ x.
      turned (f (x, y)) (contains U s a x) (contains U t b y)
      (every_tells U b (λ y. implies (f (x, y)) (contains U s a x && contains U t b y))
      (every_tells U a (λ x. every U b (λ y. implies (f (x, y)) (contains U s a x && contains U t b y))) h x) y)))
    where
      turned : (p q w : Bool) → implies p (q && w) ≡ true → implies p (w && q) ≡ true
      turned true true true k = refl
      turned true true false k = k
      turned true false w k = absurd cc
      turned false q w k = refl

  -- a condition that another one gives is left out
  left_out : (p w i : Bool) → (p ≡ true → w ≡ true) → (p && (w && i)) ≡ (p && i)
  left_out true w i h = λ j. h refl j && i
  left_out false w i h = refl

  pub partial_injections_law : LawKeeps U names P law.MemberOfPartialInjections
  partial_injections_law = arrow op.PartialInjections (both (arrows op.PartialFunctions) backwards) (λ a b s t f.
      left_out (is_between U a b s t f && is_single_valued U a b f) _ _
      (λ h. between_back a b s t f (first_true _ _ h)))

  pub total_injections_law : LawKeeps U names P law.MemberOfTotalInjections
  total_injections_law = arrow op.TotalInjections (both (arrows op.TotalFunctions) backwards) (λ a b s t f.
      let single = is_between U a b s t f && is_single_valued U a b f in
      left_out (single && has_whole_domain U a b s f) _ _
      (λ h. between_back a b s t f (first_true _ _ (first_true single _ h))))

  -- every pair, side by side
  every_pair : (a b : Sort) (p : Relation a b) → every U (pair_sort a b) p ≡ every U a (λ x. every U b (λ y. p (x, y)))
  every_pair a b p =
      both_ways (every U (pair_sort a b) p) (every U a (λ x. every U b (λ y. p (x, y))))
      (λ h. every_holds U a (λ x. every U b (λ y. p (x, y))) (λ x.
      every_holds U b (λ y. p (x, y)) (λ y. every_tells U (pair_sort a b) p h (x, y))))
      (λ h. every_holds U (pair_sort a b) p (λ v.
      every_tells U b (λ y. p (v.0, y)) (every_tells U a (λ x. every U b (λ y. p (x, y))) h v.0) v.1))

  included : Says (λ r s t α β. subset r (product s t α β)) (λ a b s t f. is_between U a b s t f)
  included = record {
    says = λ r s t α β σ f is.
        let A : Relation (sort α) (sort β) = λ v. contains U (M s σ) (sort α) v.0 && contains U (M t σ) (sort β) v.1 in
        let whole : M (product s t α β) σ ≡ (power_sort (pair_sort (sort α) (sort β)), A) = simp words in
        part_value U names r (product s t α β) σ (pair_sort (sort α) (sort β)) f A is whole
        ∙ ap (truth U) (every_pair (sort α) (sort β) (λ v. implies (f v) (A v)));
  }

  pub relations_law : LawKeeps U names P law.MemberOfRelations
  relations_law = arrow op.Relations included (λ a b s t f. refl)
