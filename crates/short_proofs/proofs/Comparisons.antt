-- Memberships in the natural numbers, read as comparisons.
use Rattle.std.proofs.Common.{◌≡◌, ◌∙◌, sym, ap, subst, refl, ℕ, ◌+◌, ◌≤◌, ℤ, pos, max, sum, Bool, true, false, ◌&&◌, List, [], ◌∷◌, ◌++◌, map, Option, Some, None, ◌⊎◌, inl, inr, ◌≢◌, arith}
use Rattle.std.specs.List.{AllByRecursion, list_all}
use Rattle.std.proofs.lemmas.List.Sums.{sum_by-cons}
use Rattle.std.specs.Option.{option_map_or, option_and_then, option_map}
use Rattle.std.specs.Prelude.{if◌then◌else◌, IsTrue}
use Rattle.formula_core.specs.declared.Formula.{Formula}
use Rattle.formula_core.specs.declared.Formula.TheOpen.{Int as IntF}
use Rattle.formula_core.specs.declared.Formula.TheVariants as formula
use Rattle.formula_core.specs.declared.Formula.TheViews.{outs-Node, rolls-Int}
use Rattle.formula_core.specs.declared.Op.{Op}
use Rattle.formula_core.specs.declared.Op.TheVariants as op
use Rattle.formula_core.specs.declared.Ty.{Ty}
use Rattle.formula_core.specs.declared.Ty.TheVariants as ty
use Rattle.formula_core.specs.Formulas.{joined}
use Rattle.formula_core.specs.Identifiers.{identifiers, carriers}
use Rattle.formula_core.specs.Same.{same_formula}
use Rattle.formula_core.specs.Sizes.{IsWithinLimits, formula_nodes, formula_nodes_step, formula_height, formula_height_step, greatest, has_types_within, has_types_within_step, is_type_within}
use Rattle.formula_core.specs.Typed.{Stands, IsPredicateIn}
use Rattle.formula_core.specs.Rows.{row_of}
use Rattle.formula_core.specs.TypeTable.{row_fits}
use Rattle.formula_core.specs.Types.{is_integer, is_truth, is_set_of, is_value_type, same_type}
use Rattle.formula_core.specs.Wellness.{type_of, is_well_in}
use Rattle.formula_core.proofs.Equations.{formula_fold, identifiers-Node, formula_nodes-Node, formula_height-Node, has_types_within-Node}
use Rattle.formula_core.proofs.Keeping.{carriers-Truth, identifiers-Int}
use Rattle.formula_core.proofs.SameFormulas.{same_formula_exact}
use Rattle.formula_core.proofs.Types.{same_type_exact}
use Rattle.formula_core.proofs.Weakening.{first_true, second_true, both_true}
use Rattle.formula_core.proofs.Wellness.{well-Int, well-Node}
use Rattle.well_defined.specs.Predicates.{predicate, at_most, member, zero}
use Rattle.well_defined.proofs.Types.{type-Int, type-Node, truth, integer, at_set}
use Rattle.rule_table.specs.ArithmeticLaws.{member_of_naturals, member_of_positive_naturals}
use Rattle.rule_table.specs.Shapes.{one, on_none_of, operands_at, operands, two_of, two_operands}
use Rattle.rule_table.specs.declared.kind.RuleKind.TheVariants as kind
use Rattle.rule_table.specs.Rows.{backward, forward, proves, adds, IsInstance}
use Rattle.sequent_core.proofs.Nodes.{all_both, all_first}
use Rattle.short_proofs.specs.Private.{law_of_reading}
use Rattle.short_proofs.specs.Sure.{as_comparison, number_set, natural_in}
use Rattle.short_proofs.proofs.Plain.{IsFit}

-- what is found is in the set
pub natural_is : (o : Op) (f e : Formula) → natural_in o f ≡ Some e → f ≡ member e (number_set o)
natural_is o f e h = go (two_operands op.Member f) h
  where
    chosen : (p : Formula × Formula) (b : Bool) → same_formula f (member p.0 (number_set o)) ≡ b → (if b then Some p.0 else None) ≡ Some e → f ≡ member e (number_set o)
    chosen p true s k = let same : p.0 ≡ e = cc in subst (λ x. f ≡ member x (number_set o)) same (same_formula_exact f (member p.0 (number_set o)) s)
    chosen p false s k = cc

    go : (q : Option (Formula × Formula)) → option_and_then (λ p. if same_formula f (member p.0 (number_set o)) then Some p.0 else None) q ≡ Some e → f ≡ member e (number_set o)
    go None k = cc
    go (Some p) k = chosen p (same_formula f (member p.0 (number_set o))) refl k

member_operands : (e s : Formula) → two_operands op.Member (member e s) ≡ Some (e, s)
member_operands e s = ap (λ x. option_and_then two_of (operands_at op.Member x)) (outs-Node op.Member (e ∷ s ∷ []) ty.Truth)

pub naturals_law : (e : Formula) → member_of_naturals (member e (number_set op.Naturals)) ≡ Some (at_most zero e)
naturals_law e =
    ap (option_and_then (λ x. option_and_then (on_none_of (Some (at_most zero x.0))) (operands op.Naturals x.1))) (member_operands e (number_set op.Naturals))
    ∙ ap (λ x. option_and_then (on_none_of (Some (at_most zero e))) (operands_at op.Naturals x)) (outs-Node op.Naturals [] (ty.Pow ty.Int))

pub positive_law : (e : Formula) → member_of_positive_naturals (member e (number_set op.PositiveNaturals)) ≡ Some (at_most one e)
positive_law e =
    ap (option_and_then (λ x. option_and_then (on_none_of (Some (at_most one x.0))) (operands op.PositiveNaturals x.1))) (member_operands e (number_set op.PositiveNaturals))
    ∙ ap (λ x. option_and_then (on_none_of (Some (at_most one e))) (operands_at op.PositiveNaturals x)) (outs-Node op.PositiveNaturals [] (ty.Pow ty.Int))

sum_two : (x y : ℕ) → sum (x ∷ y ∷ []) ≡ x + y
sum_two x y =
    let first = sum_by-cons (λ n. n) x (y ∷ []) in
    let second = sum_by-cons (λ n. n) y [] in
    omega (arith, first, second)

nodes-Int : (n : ℤ) → formula_nodes (formula.Int n) ≡ 1
nodes-Int n = formula_fold formula_nodes_step (IntF n) (formula.Int n) (rolls-Int n)

height-Int : (n : ℤ) → formula_height (formula.Int n) ≡ 1
height-Int n = formula_fold formula_height_step (IntF n) (formula.Int n) (rolls-Int n)

types-Int : (n : ℤ) → has_types_within 4096 (formula.Int n) ≡ true
types-Int n = formula_fold (has_types_within_step 4096) (IntF n) (formula.Int n) (rolls-Int n)

-- a comparison of a literal and a member of the natural numbers
module _ (env : List (List ℕ × Ty)) (o : Op) (c : ℕ) (e : Formula) (h : IsFit env (member e (number_set o))) where
  abbrev number : Formula
  number = formula.Int (pos c)

  abbrev All : List (List ℕ × Ty) → Type 0
  All = AllByRecursion (Stands env)

  parts_well : (list_all (λ f. is_well_in f []) (e ∷ number_set o ∷ []) && row_fits (row_of op.Member) (type_of e ∷ type_of (number_set o) ∷ []) ty.Truth) ≡ true
  parts_well = sym (well-Node op.Member (e ∷ number_set o ∷ []) ty.Truth []) ∙ h.0.0.well

  element_well : is_well_in e [] ≡ true
  element_well = first_true (is_well_in e []) (is_well_in (number_set o) [] && true) (first_true (list_all (λ f. is_well_in f []) (e ∷ number_set o ∷ [])) (row_fits (row_of op.Member) (type_of e ∷ type_of (number_set o) ∷ []) ty.Truth) parts_well)

  set_fits : is_set_of (type_of (number_set o)) (type_of e) ≡ true
  set_fits =
      second_true (is_value_type (type_of e)) (is_set_of (type_of (number_set o)) (type_of e))
      (first_true (is_value_type (type_of e) && is_set_of (type_of (number_set o)) (type_of e)) (is_truth ty.Truth)
      (second_true (list_all (λ f. is_well_in f []) (e ∷ number_set o ∷ [])) (row_fits (row_of op.Member) (type_of e ∷ type_of (number_set o) ∷ []) ty.Truth) parts_well))

  element_type : type_of e ≡ ty.Int
  element_type = sym (same_type_exact ty.Int (type_of e)
      (sym (at_set ty.Int (λ p. same_type p (type_of e))) ∙ ap (λ t. is_set_of t (type_of e)) (sym (type-Node o [] (ty.Pow ty.Int))) ∙ set_fits))

  read_well : is_well_in (at_most number e) [] ≡ true
  read_well =
      well-Node op.LessOrEqual (number ∷ e ∷ []) ty.Truth []
      ∙ both_true _ _ (both_true _ _ (well-Int (pos c) []) (both_true _ _ element_well refl))
      (both_true _ _ (both_true _ _ (ap is_integer (type-Int (pos c)) ∙ integer) (ap is_integer element_type ∙ integer)) truth)

  element_names : All (identifiers e)
  element_names =
      all_first (Stands env) (identifiers e) (joined (map identifiers (number_set o ∷ [])))
      (all_first (Stands env) (joined (map identifiers (e ∷ number_set o ∷ []))) (carriers ty.Truth)
      (subst All (identifiers-Node op.Member (e ∷ number_set o ∷ []) ty.Truth) h.0.0.names))

  read_names : All (identifiers (at_most number e))
  read_names =
      subst All (sym (identifiers-Node op.LessOrEqual (number ∷ e ∷ []) ty.Truth))
      (all_both (Stands env) (identifiers number ++ (identifiers e ++ [])) (carriers ty.Truth)
      (all_both (Stands env) (identifiers number) (identifiers e ++ []) (subst All (sym (identifiers-Int (pos c))) tt)
      (all_both (Stands env) (identifiers e) [] element_names tt))
      (subst All (sym carriers-Truth) tt))

  read_nodes : formula_nodes (at_most number e) ≤ 65536
  read_nodes =
      let old : formula_nodes (member e (number_set o)) ≡ (formula_nodes e + formula_nodes (number_set o)) + 1 = formula_nodes-Node op.Member (e ∷ number_set o ∷ []) ty.Truth ∙ ap (λ n. n + 1) (sum_two (formula_nodes e) (formula_nodes (number_set o))) in
      let new : formula_nodes (at_most number e) ≡ (formula_nodes number + formula_nodes e) + 1 = formula_nodes-Node op.LessOrEqual (number ∷ e ∷ []) ty.Truth ∙ ap (λ n. n + 1) (sum_two (formula_nodes number) (formula_nodes e)) in
      let n : formula_nodes number ≡ 1 = nodes-Int (pos c) in
      let s : formula_nodes (number_set o) ≡ 1 = formula_nodes-Node o [] (ty.Pow ty.Int) in
      let most : formula_nodes (member e (number_set o)) ≤ 65536 = h.1.0 in
      omega (arith, old, new, n, s, most)

  read_height : formula_height (at_most number e) ≤ 4096
  read_height =
      let old : formula_height (member e (number_set o)) ≡ max (formula_height e) (max (formula_height (number_set o)) 0) + 1 = formula_height-Node op.Member (e ∷ number_set o ∷ []) ty.Truth in
      let new : formula_height (at_most number e) ≡ max (formula_height number) (max (formula_height e) 0) + 1 = formula_height-Node op.LessOrEqual (number ∷ e ∷ []) ty.Truth in
      let n : formula_height number ≡ 1 = height-Int (pos c) in
      let s : formula_height (number_set o) ≡ 1 = formula_height-Node o [] (ty.Pow ty.Int) in
      let most : formula_height (member e (number_set o)) ≤ 4096 = h.1.1 in
      omega (arith, old, new, n, s, most)

  read_types : has_types_within 4096 (at_most number e) ≡ true
  read_types =
      let old : (is_type_within 4096 ty.Truth && (has_types_within 4096 e && (has_types_within 4096 (number_set o) && true))) ≡ true = sym (has_types_within-Node 4096 op.Member (e ∷ number_set o ∷ []) ty.Truth) ∙ h.1.2 in
      let tail : (has_types_within 4096 e && (has_types_within 4096 (number_set o) && true)) ≡ true = second_true _ _ old in
      has_types_within-Node 4096 op.LessOrEqual (number ∷ e ∷ []) ty.Truth
      ∙ both_true _ _ (first_true _ _ old) (both_true _ _ (types-Int (pos c)) (both_true _ _ (first_true _ _ tail) refl))

  pub read_fits : IsFit env (at_most number e)
  read_fits = ((record { well = read_well; names = read_names }, type-Node op.LessOrEqual (number ∷ e ∷ []) ty.Truth), (read_nodes, read_height, read_types))

-- a formula is read by a law, or is itself
pub record ReadsBy (env : List (List ℕ × Ty)) (law : ℕ) (f g : Formula) : Type 0 where
  pub goal : IsInstance (kind.RwGoal law []) (backward f (proves g ∷ []))
  pub hyp : IsInstance (kind.RwHyp law []) (forward (f ∷ []) (adds (g ∷ []) ∷ []))
  pub fits : IsFit env g

abbrev pub Reading : List (List ℕ × Ty) → ℕ → Formula → Formula → Type 0
Reading env law f g = ((law ≡ 0) × (g ≡ f)) ⊎ ((law ≢ 0) × ReadsBy env law f g)

by_naturals : (env : List (List ℕ × Ty)) (f e : Formula) → IsFit env f → f ≡ member e (number_set op.Naturals) → ReadsBy env 61 f (at_most zero e)
by_naturals env f e h is =
    let right : member_of_naturals f ≡ Some (at_most zero e) = ap member_of_naturals is ∙ naturals_law e in
    record {
      goal = ap (option_map (λ new. backward f (proves new ∷ []))) right;
      hyp = ap (option_map (λ new. forward (f ∷ []) (adds (new ∷ []) ∷ []))) right;
      fits = read_fits env op.Naturals 0 e (subst (IsFit env) is h);
    }

by_positive : (env : List (List ℕ × Ty)) (f e : Formula) → IsFit env f → f ≡ member e (number_set op.PositiveNaturals) → ReadsBy env 62 f (at_most one e)
by_positive env f e h is =
    let right : member_of_positive_naturals f ≡ Some (at_most one e) = ap member_of_positive_naturals is ∙ positive_law e in
    record {
      goal = ap (option_map (λ new. backward f (proves new ∷ []))) right;
      hyp = ap (option_map (λ new. forward (f ∷ []) (adds (new ∷ []) ∷ []))) right;
      fits = read_fits env op.PositiveNaturals 1 e (subst (IsFit env) is h);
    }

pub reading : (env : List (List ℕ × Ty)) (f : Formula) → IsFit env f → Reading env (law_of_reading f) f (as_comparison f)
reading env f h = first (natural_in op.Naturals f) refl
  where
    second : (q : Option Formula) → natural_in op.PositiveNaturals f ≡ q → Reading env (option_map_or (λ e. 62) q 0) f (option_map_or (at_most one) q f)
    second None e = inl (refl, refl)
    second (Some x) e = inr (λ e. absurd (omega (arith, e)), by_positive env f x h (natural_is op.PositiveNaturals f x e))

    first : (q : Option Formula) → natural_in op.Naturals f ≡ q
        → Reading env (option_map_or (λ e. 61) q (option_map_or (λ e. 62) (natural_in op.PositiveNaturals f) 0)) f (option_map_or (at_most zero) q (option_map_or (at_most one) (natural_in op.PositiveNaturals f) f))
    first None e = second (natural_in op.PositiveNaturals f) refl
    first (Some x) e = inr (λ e. absurd (omega (arith, e)), by_naturals env f x h (natural_is op.Naturals f x e))
