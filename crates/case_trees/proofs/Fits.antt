-- Parts of predicates of an environment, and what rules make of them: it is within the limits where the predicate has half
-- of the size that a rule allows.
use Rattle.std.proofs.Common.{◌≡◌, ◌∙◌, sym, ap, subst, refl, ℕ, ◌+◌, ◌≤◌, max, sum, true, ◌&&◌, List, [], ◌∷◌, ◌++◌, arith}
use Rattle.std.specs.List.{AllByRecursion, list_all}
use Rattle.std.specs.Prelude.{IsTrue, nat_le}
use Rattle.std.proofs.lemmas.List.Sums.{sum_by-cons}
use Rattle.formula_core.specs.declared.Formula.{Formula}
use Rattle.formula_core.specs.declared.Formula.TheVariants as formula
use Rattle.formula_core.specs.declared.Op.{Op}
use Rattle.formula_core.specs.declared.Op.TheVariants as op
use Rattle.formula_core.specs.declared.Ty.{Ty}
use Rattle.formula_core.specs.declared.Ty.TheOpen.{Truth as TruthF}
use Rattle.formula_core.specs.declared.Ty.TheVariants as ty
use Rattle.formula_core.specs.declared.Ty.TheViews.{rolls-Truth}
use Rattle.formula_core.specs.declared.row.Row.TheVariants as row
use Rattle.formula_core.specs.declared.row.BinaryRow.TheVariants as binary
use Rattle.formula_core.specs.Identifiers.{identifiers, carriers}
use Rattle.formula_core.specs.Rows.{row_of}
use Rattle.formula_core.specs.Sizes.{formula_nodes, formula_height, has_types_within, is_type_within, type_nodes_step}
use Rattle.formula_core.specs.Typed.{Stands, IsPredicateIn}
use Rattle.formula_core.specs.Types.{is_truth}
use Rattle.formula_core.specs.TypeTable.{row_fits}
use Rattle.formula_core.specs.Wellness.{type_of, is_well_in}
use Rattle.formula_core.proofs.Equations.{type_fold, identifiers-Node, formula_nodes-Node, formula_height-Node, has_types_within-Node}
use Rattle.formula_core.proofs.Keeping.{carriers-Truth}
use Rattle.formula_core.proofs.Weakening.{first_true, second_true, both_true}
use Rattle.formula_core.proofs.Wellness.{well-Node}
use Rattle.well_defined.specs.Predicates.{predicate, top}
use Rattle.well_defined.proofs.Types.{type-Node, truth, truth_exact}
use Rattle.rule_table.specs.Shapes.{negation, bottom}
use Rattle.sequent_core.proofs.Nodes.{all_both, all_first, all_last}
use Rattle.formula_readings.specs.Forms.{joins_two}
use Rattle.case_trees.proofs.Plain.{IsFit}
use Rattle.case_trees.specs.PrivateProofs.{IsPredicateWithin}

sum_one : (x : ℕ) → sum (x ∷ []) ≡ x
sum_one x = let first = sum_by-cons (λ n. n) x [] in omega (arith, first)

sum_two : (x y : ℕ) → sum (x ∷ y ∷ []) ≡ x + y
sum_two x y = let first = sum_by-cons (λ n. n) x (y ∷ []) in let second = sum_by-cons (λ n. n) y [] in omega (arith, first, second)

connective_row : (o : Op) → joins_two o ≡ true → row_of o ≡ row.Binary binary.Connective
connective_row op.And h = refl
connective_row op.Or h = refl
connective_row op.Implies h = refl
connective_row op.Equivalent h = refl
connective_row _ h = absurd (cc)

pub truth_within : is_type_within 4096 ty.Truth ≡ true
truth_within = ap (λ n. nat_le n 4096) (type_fold type_nodes_step TruthF ty.Truth rolls-Truth)

module _ (env : List (List ℕ × Ty)) where
  abbrev All : List (List ℕ × Ty) → Type 0
  All = AllByRecursion (Stands env)

  pub fit_within : (f : Formula) → IsPredicateWithin env 65536 4096 f → IsFit env f
  fit_within f h = (h.predicate, (h.nodes, h.height, h.types))

  -- the two operands of a connective
  pub record HasTwo (n m : ℕ) (p q : Formula) (t : Ty) : Type 0 where
    pub type : t ≡ ty.Truth
    pub left : IsPredicateIn env p
    pub right : IsPredicateIn env q
    pub nodes : formula_nodes p + formula_nodes q + 1 ≤ n
    pub height : max (formula_height p) (formula_height q) + 1 ≤ m
    pub left_types : IsTrue (has_types_within 4096 p)
    pub right_types : IsTrue (has_types_within 4096 q)

  pub two_within : (o : Op) (p q : Formula) (t : Ty) (n m : ℕ) → joins_two o ≡ true → IsPredicateWithin env n m (formula.Node o (p ∷ q ∷ []) t) → HasTwo n m p q t
  two_within o p q t n m j h =
      let well : (list_all (λ f. is_well_in f []) (p ∷ q ∷ []) && row_fits (row_of o) (type_of p ∷ type_of q ∷ []) t) ≡ true = sym (well-Node o (p ∷ q ∷ []) t []) ∙ h.predicate.0.well in
      let parts : (is_well_in p [] && (is_well_in q [] && true)) ≡ true = first_true _ _ well in
      let row : (is_truth (type_of p) && is_truth (type_of q) && is_truth t) ≡ true =
      sym (ap (λ r. row_fits r (type_of p ∷ type_of q ∷ []) t) (connective_row o j)) ∙ second_true (list_all (λ f. is_well_in f []) (p ∷ q ∷ [])) _ well in
      let two : (is_truth (type_of p) && is_truth (type_of q)) ≡ true = first_true _ _ row in
      let names : All ((identifiers p ++ (identifiers q ++ [])) ++ carriers t) = subst All (identifiers-Node o (p ∷ q ∷ []) t) h.predicate.0.names in
      let both : All (identifiers p ++ (identifiers q ++ [])) = all_first (Stands env) _ (carriers t) names in
      let types : (is_type_within 4096 t && (has_types_within 4096 p && (has_types_within 4096 q && true))) ≡ true = sym (has_types_within-Node 4096 o (p ∷ q ∷ []) t) ∙ h.types in
      let tail : (has_types_within 4096 p && (has_types_within 4096 q && true)) ≡ true = second_true _ _ types in
      let size = formula_nodes-Node o (p ∷ q ∷ []) t ∙ ap (λ k. k + 1) (sum_two (formula_nodes p) (formula_nodes q)) in
      let high : formula_height (formula.Node o (p ∷ q ∷ []) t) ≡ max (formula_height p) (max (formula_height q) 0) + 1 = formula_height-Node o (p ∷ q ∷ []) t in
      let most : formula_nodes (formula.Node o (p ∷ q ∷ []) t) ≤ n = h.nodes in
      let top : formula_height (formula.Node o (p ∷ q ∷ []) t) ≤ m = h.height in
      record {
        type = truth_exact t (second_true (is_truth (type_of p) && is_truth (type_of q)) _ row);
        left = (record { well = first_true _ _ parts; names = all_first (Stands env) (identifiers p) _ both }, truth_exact (type_of p) (first_true _ _ two));
        right = (
          record { well = first_true (is_well_in q []) true (second_true _ _ parts); names = all_first (Stands env) (identifiers q) [] (all_last (Stands env) (identifiers p) _ both) },
          truth_exact (type_of q) (second_true (is_truth (type_of p)) _ two),
        );
        nodes = omega (arith, size, most);
        height = omega (arith, high, top);
        left_types = first_true _ _ tail;
        right_types = first_true (has_types_within 4096 q) true (second_true _ _ tail);
      }

  -- a connective on two predicates
  pub made_two : (o : Op) (p q : Formula) (n m : ℕ) → joins_two o ≡ true → IsPredicateIn env p → IsPredicateIn env q → IsTrue (has_types_within 4096 p) → IsTrue (has_types_within 4096 q)
      → formula_nodes p + formula_nodes q + 1 ≤ n → max (formula_height p) (formula_height q) + 1 ≤ m → IsPredicateWithin env n m (predicate o (p ∷ q ∷ []))
  made_two o p q n m j hp hq tp tq few low =
      let size = formula_nodes-Node o (p ∷ q ∷ []) ty.Truth ∙ ap (λ k. k + 1) (sum_two (formula_nodes p) (formula_nodes q)) in
      let high : formula_height (predicate o (p ∷ q ∷ [])) ≡ max (formula_height p) (max (formula_height q) 0) + 1 = formula_height-Node o (p ∷ q ∷ []) ty.Truth in
      let row : row_fits (row_of o) (type_of p ∷ type_of q ∷ []) ty.Truth ≡ true =
      ap (λ r. row_fits r (type_of p ∷ type_of q ∷ []) ty.Truth) (connective_row o j) ∙ both_true _ _ (both_true _ _ (ap is_truth hp.1 ∙ truth) (ap is_truth hq.1 ∙ truth)) truth in
      record {
        predicate = (
          record {
            well = well-Node o (p ∷ q ∷ []) ty.Truth [] ∙ both_true _ _ (both_true _ _ hp.0.well (both_true _ _ hq.0.well refl)) row;
            names = subst All (sym (identifiers-Node o (p ∷ q ∷ []) ty.Truth))
                (all_both (Stands env) (identifiers p ++ (identifiers q ++ [])) (carriers ty.Truth) (all_both (Stands env) (identifiers p) (identifiers q ++ []) hp.0.names (all_both (Stands env) (identifiers q) [] hq.0.names tt))
                (subst All (sym carriers-Truth) tt));
          },
          type-Node o (p ∷ q ∷ []) ty.Truth,
        );
        nodes = omega (arith, size, few);
        height = omega (arith, high, low);
        types = has_types_within-Node 4096 o (p ∷ q ∷ []) ty.Truth ∙ both_true _ _ truth_within (both_true _ _ tp (both_true _ _ tq refl));
      }

  -- of half the size that a rule allows
  abbrev pub Half : Formula → Type 0
  Half = IsPredicateWithin env 32768 2048

  -- a predicate of the environment that is at most by one node larger
  pub record Near (p a : Formula) : Type 0 where
    pub predicate : IsPredicateIn env a
    pub nodes : formula_nodes a ≤ formula_nodes p + 1
    pub height : formula_height a ≤ formula_height p + 1
    pub types : IsTrue (has_types_within 4096 a)

  pub near_self : (p : Formula) → Half p → Near p p
  near_self p h = record { predicate = h.predicate; nodes = omega arith; height = omega arith; types = h.types }

  pub near_negation : (p : Formula) → Half p → Near p (negation p)
  near_negation p h =
      let size = formula_nodes-Node op.Not (p ∷ []) ty.Truth ∙ ap (λ k. k + 1) (sum_one (formula_nodes p)) in
      let high : formula_height (negation p) ≡ max (formula_height p) 0 + 1 = formula_height-Node op.Not (p ∷ []) ty.Truth in
      let row : row_fits (row_of op.Not) (type_of p ∷ []) ty.Truth ≡ true = both_true _ _ (ap is_truth h.predicate.1 ∙ truth) truth in
      record {
        predicate = (
          record {
            well = well-Node op.Not (p ∷ []) ty.Truth [] ∙ both_true _ _ (both_true _ _ h.predicate.0.well refl) row;
            names = subst All (sym (identifiers-Node op.Not (p ∷ []) ty.Truth))
                (all_both (Stands env) (identifiers p ++ []) (carriers ty.Truth) (all_both (Stands env) (identifiers p) [] h.predicate.0.names tt) (subst All (sym carriers-Truth) tt));
          },
          type-Node op.Not (p ∷ []) ty.Truth,
        );
        nodes = omega (arith, size);
        height = omega (arith, high);
        types = has_types_within-Node 4096 op.Not (p ∷ []) ty.Truth ∙ both_true _ _ truth_within (both_true _ _ h.types refl);
      }

  pub fit_near : (p a : Formula) → Half p → Near p a → IsFit env a
  fit_near p a h n =
      let few = h.nodes in
      let low = h.height in
      let most = n.nodes in
      let top = n.height in
      (n.predicate, (omega (arith, few, most), omega (arith, low, top), n.types))

  pub fit : (f : Formula) → Half f → IsFit env f
  fit f h = fit_near f f h (near_self f h)

  pub fit_negation : (p : Formula) → Half p → IsFit env (negation p)
  fit_negation p h = fit_near p (negation p) h (near_negation p h)

  pub turned : (n m : ℕ) (p q : Formula) (t : Ty) → HasTwo n m p q t → HasTwo n m q p t
  turned n m p q t two =
      let few = two.nodes in
      let low = two.height in
      record { type = two.type; left = two.right; right = two.left; nodes = omega (arith, few); height = omega (arith, low); left_types = two.right_types; right_types = two.left_types }

  -- a connective on what is near to the two operands of a connective
  pub fit_two : (o : Op) (p q a b : Formula) (t : Ty) → joins_two o ≡ true → HasTwo 32768 2048 p q t → Near p a → Near q b → IsFit env (predicate o (a ∷ b ∷ []))
  fit_two o p q a b t j two na nb =
      let few = two.nodes in
      let low = two.height in
      let left = na.nodes in
      let right = nb.nodes in
      let left_top = na.height in
      let right_top = nb.height in
      fit_within (predicate o (a ∷ b ∷ []))
      (made_two o a b 65536 4096 j na.predicate nb.predicate na.types nb.types (omega (arith, few, left, right)) (omega (arith, low, left_top, right_top)))

  -- an operator on nothing
  fit_constant : (o : Op) → row_fits (row_of o) [] ty.Truth ≡ true → IsFit env (predicate o [])
  fit_constant o row =
      let size = formula_nodes-Node o [] ty.Truth in
      let high : formula_height (predicate o []) ≡ 0 + 1 = formula_height-Node o [] ty.Truth in (
        (
          record {
            well = well-Node o [] ty.Truth [] ∙ both_true _ _ refl row;
            names = subst All (sym (identifiers-Node o [] ty.Truth)) (subst All (sym carriers-Truth) tt);
          },
          type-Node o [] ty.Truth,
        ),
        (omega (arith, size), omega (arith, high), has_types_within-Node 4096 o [] ty.Truth ∙ both_true _ _ truth_within refl),
      )

  pub fit_bottom : IsFit env bottom
  fit_bottom = fit_constant op.Bottom truth

  pub fit_top : IsFit env top
  fit_top = fit_constant op.Top truth

  half : (f : Formula) → IsFit env f → formula_nodes f ≤ 32768 → formula_height f ≤ 2048 → Half f
  half f h few low = record { predicate = h.0; nodes = few; height = low; types = h.1.2 }

  pub fit_denied_top : IsFit env (negation top)
  fit_denied_top =
      let size = formula_nodes-Node op.Top [] ty.Truth in
      let high : formula_height top ≡ 0 + 1 = formula_height-Node op.Top [] ty.Truth in
      fit_negation top (half top fit_top (omega (arith, size)) (omega (arith, high)))

  -- ⊤ and ⊥ have the type of truth
  pub constant_type : (o : Op) (t : Ty) → row_fits (row_of o) [] t ≡ is_truth t → Half (formula.Node o [] t) → t ≡ ty.Truth
  constant_type o t row h =
      let well : (list_all (λ f. is_well_in f []) [] && row_fits (row_of o) [] t) ≡ true = sym (well-Node o [] t []) ∙ h.predicate.0.well in
      truth_exact t (sym row ∙ second_true (list_all (λ f. is_well_in f []) []) _ well)

  -- the operand of a ¬, which is then its negation
  pub not_half : (p : Formula) (t : Ty) → Half (formula.Node op.Not (p ∷ []) t) → (t ≡ ty.Truth) × Half p
  not_half p t h =
      let well : (list_all (λ f. is_well_in f []) (p ∷ []) && row_fits (row_of op.Not) (type_of p ∷ []) t) ≡ true = sym (well-Node op.Not (p ∷ []) t []) ∙ h.predicate.0.well in
      let parts : (is_well_in p [] && true) ≡ true = first_true _ _ well in
      let row : (is_truth (type_of p) && is_truth t) ≡ true = second_true (list_all (λ f. is_well_in f []) (p ∷ [])) _ well in
      let names : All ((identifiers p ++ []) ++ carriers t) = subst All (identifiers-Node op.Not (p ∷ []) t) h.predicate.0.names in
      let types : (is_type_within 4096 t && (has_types_within 4096 p && true)) ≡ true = sym (has_types_within-Node 4096 op.Not (p ∷ []) t) ∙ h.types in
      let size = formula_nodes-Node op.Not (p ∷ []) t ∙ ap (λ k. k + 1) (sum_one (formula_nodes p)) in
      let high : formula_height (formula.Node op.Not (p ∷ []) t) ≡ max (formula_height p) 0 + 1 = formula_height-Node op.Not (p ∷ []) t in
      let most : formula_nodes (formula.Node op.Not (p ∷ []) t) ≤ 32768 = h.nodes in
      let top : formula_height (formula.Node op.Not (p ∷ []) t) ≤ 2048 = h.height in (
        truth_exact t (second_true (is_truth (type_of p)) _ row),
        record {
          predicate = (record { well = first_true (is_well_in p []) true parts; names = all_first (Stands env) (identifiers p) [] (all_first (Stands env) (identifiers p ++ []) (carriers t) names) }, truth_exact (type_of p) (first_true _ _ row));
          nodes = omega (arith, size, most);
          height = omega (arith, high, top);
          types = first_true (has_types_within 4096 p) true (second_true _ _ types);
        },
      )

  pub two_half : (o : Op) (p q : Formula) (t : Ty) → joins_two o ≡ true → Half (formula.Node o (p ∷ q ∷ []) t) → Half p × Half q
  two_half o p q t j h =
      let two = two_within o p q t 32768 2048 j h in
      let few = two.nodes in
      let low = two.height in (
        record { predicate = two.left; nodes = omega (arith, few); height = omega (arith, low); types = two.left_types },
        record { predicate = two.right; nodes = omega (arith, few); height = omega (arith, low); types = two.right_types },
      )
