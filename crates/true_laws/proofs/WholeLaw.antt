-- The law of membership in the whole of a type.
use Rattle.std.proofs.Common.{List, Some, [], ap, false, map, refl, subst, sym, true, ℕ, ◌&&◌, ◌∙◌, ◌∷◌, ◌≡◌}
use Rattle.std.specs.List.{AllByRecursion}
use Rattle.formula_core.proofs.Equations.{identifiers-Free, type_fold}
use Rattle.formula_core.proofs.SameFormulas.{same_formula_exact}
use Rattle.formula_core.proofs.Types.{type_induction}
use Rattle.formula_core.proofs.Weakening.{first_true, second_true}
use Rattle.formula_core.proofs.WholeSets.{value-Pair, value-Pow, whole_set-Bool, whole_set-Given, whole_set-Int, whole_set-Pair, whole_set-Pow}
use Rattle.formula_core.specs.Identifiers.{identifiers}
use Rattle.formula_core.specs.Same.{same_formula}
use Rattle.formula_core.specs.Typed.{Stands}
use Rattle.formula_core.specs.Types.{is_value_step, is_value_type}
use Rattle.formula_core.specs.Wellness.{type_of}
use Rattle.formula_core.specs.WholeSets.{whole_set}
use Rattle.formula_core.specs.declared.Formula.{Formula}
use Rattle.formula_core.specs.declared.Formula.TheVariants.{Node}
use Rattle.formula_core.specs.declared.Op.{Op}
use Rattle.formula_core.specs.declared.Op.TheVariants as op
use Rattle.formula_core.specs.declared.Ty.{Ty}
use Rattle.formula_core.specs.declared.Ty.TheOpen.{Truth as TruthF}
use Rattle.formula_core.specs.declared.Ty.TheVariants as ty
use Rattle.formula_core.specs.declared.ty.Ty.TheViews as of_type
use Rattle.well_defined.specs.Predicates.{top}
use Rattle.rule_table.specs.declared.law.Law.TheVariants as law
use Rattle.meanings.specs.Denotations.{Assignment, denotation}
use Rattle.meanings.specs.Interpretations.{NamesCarriers}
use Rattle.meanings.specs.Operations.{contains, implies, of_list}
use Rattle.meanings.specs.Universes.{Valuation, Universe}
use Rattle.meanings.specs.Values.{Sort, Denotation, Value, boolean_sort, carrier_sort, integer_sort, pair_sort, power_sort, sort}
use Rattle.meanings.proofs.Bools.{implies_from}
use Rattle.meanings.proofs.Casts.{cast_own}
use Rattle.meanings.proofs.Denotations.{denotation-Free, sort-Bool, sort-Given, sort-Int, sort-Pair, sort-Pow}
use Rattle.meanings.proofs.Fitting.{OfEach, named_parts}
use Rattle.meanings.proofs.Quantifiers.{every_holds}
use Rattle.meanings.proofs.Truths.{at_node}
use Rattle.true_laws.proofs.Words.{of_predicate, same_values, truth, with_value}
use Rattle.true_laws.proofs.LeftSides.{member_of}
use Rattle.true_laws.proofs.Forms.{if_tells}
use Rattle.true_laws.proofs.Places.{LawHolds}

module _ {carrier : List ℕ → Type 0} (U : Universe carrier) (names : Valuation carrier) where
  abbrev M : Formula → Assignment U → Denotation carrier
  M = denotation U names

  -- a value is in what an operator makes where it makes it true of all
  made : (o : Op) (ps : List Formula) (t : Ty) (s : Sort) → sort t ≡ s → (σ : Assignment U)
      → ((v : Value carrier s) → of_list U o (power_sort s) (map (λ f. M f σ) ps) v ≡ true)
      → (v : Value carrier (sort t)) → contains U (M (Node o ps (ty.Pow t)) σ) (sort t) v ≡ true
  made o ps t s is σ h =
      let P : Sort → Type 0 = λ s. (v : Value carrier s) → contains U (M (Node o ps (ty.Pow t)) σ) s v ≡ true in
      subst P (sym is) (λ v.
      (λ i. contains U (at_node U names o ps (ty.Pow t) (power_sort s) (sort-Pow t ∙ ap power_sort is) σ i) s v)
      ∙ (λ i. cast_own U (power_sort s) (of_list U o (power_sort s) (map (λ f. M f σ) ps)) i v) ∙ h v)

  not_truth : is_value_type ty.Truth ≡ false
  not_truth = type_fold is_value_step TruthF _ of_type.rolls-Truth

  -- each value is in the whole set of its type
  module _ (env : List (List ℕ × Ty)) (sets : NamesCarriers U env names) where
    abbrev IsWhole : Ty → Type 0
    IsWhole t = is_value_type t ≡ true → OfEach (Stands env) (whole_set t)
        → (σ : Assignment U) (v : Value carrier (sort t)) → contains U (M (whole_set t) σ) (sort t) v ≡ true

    given_case : (name : List ℕ) → IsWhole (ty.Given name)
    given_case name is named σ =
        let Q : Sort → Type 0 = λ s. (v : Value carrier s) → contains U (M (whole_set (ty.Given name)) σ) s v ≡ true in
        let stands = (subst (AllByRecursion (Stands env)) (ap identifiers (whole_set-Given name)
        ∙ identifiers-Free name (ty.Pow (ty.Given name))) named).0 in
        subst Q (sym (sort-Given name)) (λ v.
        (λ i. contains U (M (whole_set-Given name i) σ) (carrier_sort name) v)
        ∙ (λ i. contains U (denotation-Free U names name (ty.Pow (ty.Given name)) σ i) (carrier_sort name) v)
        ∙ (λ i. let s = (sort-Pow (ty.Given name) ∙ ap power_sort (sort-Given name)) i in
        contains U (s, names name s) (carrier_sort name) v)
        ∙ (λ i. cast_own U (power_sort (carrier_sort name)) (names name (power_sort (carrier_sort name))) i v)
        ∙ sets name stands v)

    power_case : (t : Ty) → IsWhole t → IsWhole (ty.Pow t)
    power_case t later is named σ v =
        let parts = named_parts (Stands env) op.PowerSet (whole_set t ∷ []) (ty.Pow (ty.Pow t))
        (subst (OfEach (Stands env)) (whole_set-Pow t) named) in
        let a : Sort = sort t in
        (λ i. contains U (M (whole_set-Pow t i) σ) (sort (ty.Pow t)) v)
        ∙ made op.PowerSet (whole_set t ∷ []) (ty.Pow t) (power_sort a) (sort-Pow t) σ (λ m.
        every_holds U a (λ x. implies (contains U (power_sort a, m) a x) (contains U (M (whole_set t) σ) a x)) (λ x.
        implies_from (contains U (power_sort a, m) a x) (contains U (M (whole_set t) σ) a x)
        (λ k. later (sym (value-Pow t) ∙ is) parts.0 σ x))) v

    pair_case : (t u : Ty) → IsWhole t → IsWhole u → IsWhole (ty.Pair t u)
    pair_case t u one two is named σ v =
        let parts = named_parts (Stands env) op.Product (whole_set t ∷ whole_set u ∷ []) (ty.Pow (ty.Pair t u))
        (subst (OfEach (Stands env)) (whole_set-Pair t u) named) in
        let both = sym (value-Pair t u) ∙ is in
        (λ i. contains U (M (whole_set-Pair t u i) σ) (sort (ty.Pair t u)) v)
        ∙ made op.Product (whole_set t ∷ whole_set u ∷ []) (ty.Pair t u) (pair_sort (sort t) (sort u)) (sort-Pair t u)
        σ (λ p.
        (λ i. one (first_true _ _ both) parts.0 σ p.0 i && contains U (M (whole_set u) σ) (sort u) p.1)
        ∙ two (second_true (is_value_type t) _ both) parts.1.0 σ p.1) v

    whole_holds : (t : Ty) → IsWhole t
    whole_holds = type_induction IsWhole
        (λ is named σ v. (λ i. contains U (M (whole_set-Int i) σ) (sort ty.Int) v)
        ∙ made op.Integers [] ty.Int integer_sort sort-Int σ (λ x. refl) v)
        (λ is named σ v. (λ i. contains U (M (whole_set-Bool i) σ) (sort ty.Bool) v)
        ∙ made op.Booleans [] ty.Bool boolean_sort sort-Bool σ (λ x. refl) v)
        given_case power_case pair_case
        (λ is named σ v. let k : false ≡ true = sym not_truth ∙ is in absurd cc)

-- this law alone asks what the names of carrier sets stand for
pub whole_law : {carrier : List ℕ → Type 0} → (U : Universe carrier) → LawHolds U law.MemberOfWhole
whole_law U env names sets h g types ready k =
    let M = denotation U names in
    let (e, t, n, there) = member_of types h ready.0 _ g k in
    let (same, made) = if_tells (same_formula t (whole_set (type_of e))) (Some top) g there in
    let t_is = same_formula_exact t (whole_set (type_of e)) same in
    let named = (named_parts (Stands env) op.Member (e ∷ t ∷ []) ty.Truth
    (subst (OfEach (Stands env)) n.is ready.1)).1.0 in
    let value = first_true (is_value_type (type_of e)) _ n.fits in
    let whole = whole_holds U names env sets (type_of e) value (subst (OfEach (Stands env)) t_is named) in
    same_values U names n.is made (λ σ. with_value U names e (sort (type_of e)) refl σ (λ v e_is.
    of_predicate U names op.Top [] σ ∙ ap (truth U) (sym (whole σ v))
    ∙ (λ i. truth U (contains U (M (sym t_is i) σ) (sym e_is i).0 (sym e_is i).1))
    ∙ sym (of_predicate U names op.Member (e ∷ t ∷ []) σ)))
