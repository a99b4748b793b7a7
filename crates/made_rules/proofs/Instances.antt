-- What an instance of a row of logic leaves is typed, where its main formulas are.
use Rattle.std.proofs.Common.{◌≡◌, ◌∙◌, sym, ap, subst, refl, Bool, true, false, List, [], ◌∷◌, ◌++◌, map, fold, reverse, Option, Some, None, IfSome, IsTrue, if◌then◌else◌, append-nil}
use Rattle.std.specs.List.{AllByRecursion, IsDistinct}
use Rattle.formula_core.specs.declared.Binder.TheVariants as binder
use Rattle.formula_core.specs.declared.Op.TheVariants as op
use Rattle.formula_core.specs.declared.Ty.{Ty}
use Rattle.formula_core.specs.declared.Ty.TheVariants as ty
use Rattle.formula_core.specs.declared.Formula.{Formula}
use Rattle.formula_core.specs.declared.row.Row.TheVariants.{Nullary}
use Rattle.formula_core.specs.declared.row.NullaryRow.TheVariants as nullary
use Rattle.formula_core.specs.declared.row.UnaryRow.TheVariants as unary
use Rattle.formula_core.specs.declared.row.BinaryRow.TheVariants as binary
use Rattle.formula_core.specs.Env.{HasDistinctNames, type_in}
use Rattle.formula_core.specs.Formulas.{instantiated}
use Rattle.formula_core.specs.Identifiers.{identifiers}
use Rattle.formula_core.specs.Typed.{Stands, IsTypedIn, IsPredicateIn}
use Rattle.formula_core.specs.Types.{is_truth, is_boolean, same_type}
use Rattle.formula_core.specs.Wellness.{type_of, is_well, is_well_in}
use Rattle.formula_core.proofs.InstantiatedWell.{instantiated_is_well}
use Rattle.formula_core.proofs.Keeping.{all_more, instantiated_keeps}
use Rattle.formula_core.proofs.Schemes.{fits_exactly}
use Rattle.formula_core.proofs.Types.{same_type_exact}
use Rattle.formula_core.proofs.Weakening.{first_true, second_true}
use Rattle.well_defined.specs.Conditions.{wd_of}
use Rattle.well_defined.specs.Connectives.{conjoined, is_top}
use Rattle.well_defined.specs.Predicates.{top, implication}
use Rattle.well_defined.proofs.Connectives.{conjoined_keeps}
use Rattle.well_defined.proofs.Identifiers.{condition_keeps}
use Rattle.well_defined.proofs.Types.{truth_exact}
use Rattle.well_defined.proofs.Wellness.{wd_is_well, wd_is_predicate}
use Rattle.rule_table.specs.declared.rule.Antecedent.{Antecedent}
use Rattle.rule_table.specs.declared.rule.Body.{Body}
use Rattle.rule_table.specs.declared.rule.Main.{Main}
use Rattle.rule_table.specs.Rows.{proves, adds, assumes, after_condition, wd_of_all, and_r, and_l, or_r, or_l, imp_r, imp_l, mp, iff_r, iff_l, not_r, not_l, contra, have_types, all_l, ex_r, cut, cases, bool_cases, first, with_goal, with_hyp, with_chosen}
use Rattle.rule_table.specs.Rules.{antecedent_formulas}
use Rattle.rule_table.specs.Shapes.{negation, equal, bottom, true_value, false_value}
use Rattle.made_rules.proofs.Typed.{Env, Is}
use Rattle.made_rules.proofs.Fitting.{IsLeftIn}
use Rattle.made_rules.proofs.Forms.{retyped}
use Rattle.made_rules.proofs.Makers.{top_is, bottom_is, not_is, implies_is, connected_are, equal_is, true_is, false_is}
use Rattle.made_rules.proofs.OfLogic.{body_is}
use Rattle.made_rules.proofs.Operands.{on_one_if, on_two_if, under_binder_if, then_if, test_if}
use Rattle.made_rules.proofs.ValueTypes.{value-Bool}

no_names : HasDistinctNames []
unfolding IsDistinct
no_names = tt

pub boolean_exact : (t : Ty) → is_boolean t ≡ true → t ≡ ty.Bool
boolean_exact t h = ((fits_exactly (Nullary nullary.TruthValue) [] t).0 h).whole_is

pub at_some : {X : Type 0} (P : X → Type 0) (o : Option X) (x : X) → IfSome o P → o ≡ Some x → P x
at_some P None x h e = absurd (cc)
at_some P (Some y) x h e = let same : y ≡ x = cc in subst P same h

pub at_first : {X : Type 0} (P : X → Type 0) (xs : List X) (x : X) → AllByRecursion P xs → first xs ≡ Some x → P x
at_first P [] x h e = absurd (cc)
at_first P (y ∷ xs) x h e = let same : y ≡ x = cc in subst P same h.0

have_types_exact : (terms : List Formula) (types : List Ty) → have_types terms types ≡ true → map type_of terms ≡ types
have_types_exact [] [] h = refl
have_types_exact [] (t ∷ types) h = absurd (cc)
have_types_exact (e ∷ terms) [] h = absurd (cc)
have_types_exact (e ∷ terms) (t ∷ types) h =
    λ i. same_type_exact (type_of e) t (first_true _ _ h) i ∷ have_types_exact terms types (second_true (same_type (type_of e) t) _ h) i

module _ (env : Env) where
  abbrev Holds : Formula → Type 0
  Holds = Is env [] ty.Truth

  abbrev Left : Body → Type 0
  Left = IsLeftIn env

  pub predicate_is : (f : Formula) → IsPredicateIn env f → Holds f
  predicate_is f h = record { type = h.1; well = h.0.well; names = h.0.names }

  pub typed_is : (f : Formula) → IsTypedIn env f → Is env [] (type_of f) f
  typed_is f h = record { type = refl; well = h.well; names = h.names }

  pub is_typed : (t : Ty) (f : Formula) → Is env [] t f → IsTypedIn env f
  is_typed t f h = record { well = h.well; names = h.names }

  -- antecedents without names
  abbrev pub Plain : Antecedent → Type 0
  Plain a = (a.idents ≡ []) × AllByRecursion (IsTypedIn env) (antecedent_formulas a)

  pub plain_left : (b : Body) → AllByRecursion Plain b.antecedents → Left b
  plain_left b h = record {
    wide = env;
    within = λ x k. k;
    outside = λ x k e. k;
    formulas = all_more Plain (λ a. AllByRecursion (IsTypedIn env) (antecedent_formulas a)) (λ a k. k.1) b.antecedents h;
    distinct = all_more Plain (λ a. HasDistinctNames a.idents) (λ a k. subst HasDistinctNames (sym k.0) no_names) b.antecedents h;
    fresh = all_more Plain (λ a. AllByRecursion (λ x. type_in env x.0 ≡ None) a.idents)
        (λ a k. subst (AllByRecursion (λ x. type_in env x.0 ≡ None)) (sym k.0) tt) b.antecedents h;
  }

  pub goal_is : (t : Ty) (p : Formula) → Is env [] t p → Plain (proves p)
  goal_is t p h = (refl, (is_typed t p h, tt))

  pub hyp_is : (t : Ty) (p : Formula) → Is env [] t p → Plain (adds (p ∷ []))
  hyp_is t p h = (refl, (is_typed t p h, tt))

  hyps_are : (p q : Formula) → Holds p → Holds q → Plain (adds (p ∷ q ∷ []))
  hyps_are p q g h = (refl, (is_typed ty.Truth p g, (is_typed ty.Truth q h, tt)))

  assumed : (p q : Formula) → Holds p → Holds q → Plain (assumes p q)
  assumed p q g h = (refl, (is_typed ty.Truth p g, (is_typed ty.Truth q h, tt)))

  -- conditions
  pub condition_is : (f : Formula) → IsTypedIn env f → Holds (wd_of f)
  condition_is f h = record { type = wd_is_predicate f h.well; well = wd_is_well f h.well; names = condition_keeps (Stands env) f h.names }

  conditions_are : (terms : List Formula) (start : Formula) → AllByRecursion (IsTypedIn env) terms → Holds start → Holds (fold conjoined start (map wd_of terms))
  conditions_are [] start h k = k
  conditions_are (f ∷ terms) start h k =
      conditions_are terms (conjoined start (wd_of f)) h.1 (conjoined_keeps Holds (top_is env []) (connected_are env []) start (wd_of f) k (condition_is f h.0))

  pub after_is : (l : Formula) (rest : List Antecedent) → Holds l → AllByRecursion Plain rest → AllByRecursion Plain (after_condition l rest)
  after_is l rest h k = at (is_top l)
    where
      at : (c : Bool) → AllByRecursion Plain (if c then rest else proves l ∷ rest)
      at true = k
      at false = (goal_is ty.Truth l h, k)

  -- main formulas
  pub goal_row : (m : Main) (make : Formula → Option Body) → IfSome m.goal (IsPredicateIn env) → ((g : Formula) → Holds g → IfSome (make g) Left) → IfSome (with_goal m make) Left
  goal_row m make h k = then_if Left m.goal make (λ g e. k g (predicate_is g (at_some (IsPredicateIn env) m.goal g h e)))

  pub hyp_row : (m : Main) (make : Formula → Option Body) → AllByRecursion (IsPredicateIn env) m.hyps → ((f : Formula) → Holds f → IfSome (make f) Left) → IfSome (with_hyp m make) Left
  hyp_row m make h k = then_if Left (first m.hyps) make (λ f e. k f (predicate_is f (at_first (IsPredicateIn env) m.hyps f h e)))

  pub chosen_row : (m : Main) (make : Formula → Option Body) → IfSome m.chosen (IsTypedIn env) → ((f : Formula) → IsTypedIn env f → IfSome (make f) Left) → IfSome (with_chosen m make) Left
  chosen_row m make h k = then_if Left m.chosen make (λ f e. k f (at_some (IsTypedIn env) m.chosen f h e))

  -- connectives
  module _ (f : Formula) (h : Holds f) where
    pub and_r_is : IfSome (and_r f) Left
    and_r_is = on_two_if env [] Left ty.Truth f h op.And binary.Connective refl _ (λ p q w.
        plain_left _ (goal_is _ p w.left, (goal_is _ q w.right, tt)))

    pub and_l_is : IfSome (and_l f) Left
    and_l_is = on_two_if env [] Left ty.Truth f h op.And binary.Connective refl _ (λ p q w.
        plain_left _ (hyps_are p q w.left w.right, tt))

    pub or_r_is : IfSome (or_r f) Left
    or_r_is = on_two_if env [] Left ty.Truth f h op.Or binary.Connective refl _ (λ p q w.
        plain_left _ (assumed (negation p) q (not_is env [] p w.left) w.right, tt))

    pub or_l_is : IfSome (or_l f) Left
    or_l_is = on_two_if env [] Left ty.Truth f h op.Or binary.Connective refl _ (λ p q w.
        plain_left _ (hyp_is _ p w.left, (hyp_is _ q w.right, tt)))

    pub imp_r_is : IfSome (imp_r f) Left
    imp_r_is = on_two_if env [] Left ty.Truth f h op.Implies binary.Connective refl _ (λ p q w.
        plain_left _ (assumed p q w.left w.right, tt))

    pub imp_l_is : IfSome (imp_l f) Left
    imp_l_is = on_two_if env [] Left ty.Truth f h op.Implies binary.Connective refl _ (λ p q w.
        plain_left _ (goal_is _ p w.left, (hyp_is _ q w.right, tt)))

    pub mp_is : IfSome (mp f) Left
    mp_is = on_two_if env [] Left ty.Truth f h op.Implies binary.Connective refl _ (λ p q w.
        plain_left _ (hyp_is _ q w.right, tt))

    pub iff_r_is : IfSome (iff_r f) Left
    iff_r_is = on_two_if env [] Left ty.Truth f h op.Equivalent binary.Connective refl _ (λ p q w.
        plain_left _ (goal_is _ (implication p q) (implies_is env [] p q w.left w.right), (goal_is _ (implication q p) (implies_is env [] q p w.right w.left), tt)))

    pub iff_l_is : IfSome (iff_l f) Left
    iff_l_is = on_two_if env [] Left ty.Truth f h op.Equivalent binary.Connective refl _ (λ p q w.
        plain_left _ (hyps_are (implication p q) (implication q p) (implies_is env [] p q w.left w.right) (implies_is env [] q p w.right w.left), tt))

    pub not_r_is : IfSome (not_r f) Left
    not_r_is = on_one_if env [] Left ty.Truth f h op.Not unary.Negation refl _ (λ p w.
        plain_left _ (assumed p bottom w.part (bottom_is env []), tt))

    pub not_l_is : IfSome (not_l f) Left
    not_l_is = on_one_if env [] Left ty.Truth f h op.Not unary.Negation refl _ (λ p w.
        plain_left _ (goal_is _ p w.part, tt))

    pub contra_is : IfSome (contra f) Left
    contra_is = plain_left _ (assumed (negation f) bottom (not_is env [] f h) (bottom_is env []), tt)

    -- the body of a quantifier with terms
    module _ (terms : List Formula) (typed : AllByRecursion (IsTypedIn env) terms) where
      instantiated_body : (types : List Ty) (p : Formula) → Is env (reverse types ++ []) ty.Truth p → map type_of terms ≡ types → IsTypedIn env (instantiated terms 0 p)
      instantiated_body types p k e = record {
        well = instantiated_is_well terms p (all_more (IsTypedIn env) (λ f. IsTrue (is_well f)) (λ f t. t.well) terms typed)
            (ap (λ ts. is_well_in p (reverse ts)) e ∙ ap (is_well_in p) (sym (append-nil (reverse types))) ∙ k.well);
        names = instantiated_keeps (Stands env) terms (all_more (IsTypedIn env) (λ f. AllByRecursion (Stands env) (identifiers f)) (λ f t. t.names) terms typed) p 0 k.names;
      }

      pub all_l_is : IfSome (all_l terms f) Left
      all_l_is = under_binder_if env [] Left ty.Truth f h binder.ForAll _ (λ types p w.
          test_if Left (have_types terms types) _ (λ same.
          plain_left _ (after_is (wd_of_all terms) _ (conditions_are terms top typed (top_is env []))
          ((refl, (instantiated_body types p (body_is env [] binder.ForAll refl types p ty.Truth w) (have_types_exact terms types same), tt)), tt))))

      pub ex_r_is : IfSome (ex_r terms f) Left
      ex_r_is = under_binder_if env [] Left ty.Truth f h binder.Exists _ (λ types p w.
          test_if Left (have_types terms types) _ (λ same.
          plain_left _ (after_is (wd_of_all terms) _ (conditions_are terms top typed (top_is env []))
          ((refl, (instantiated_body types p (body_is env [] binder.Exists refl types p ty.Truth w) (have_types_exact terms types same), tt)), tt))))

  -- chosen formulas
  module _ (f : Formula) (h : IsTypedIn env f) where
    pub cut_is : IfSome (cut f) Left
    cut_is = test_if Left (is_truth (type_of f)) _ (λ t.
        let is : Holds f = retyped env [] _ ty.Truth f (truth_exact (type_of f) t) (typed_is f h) in
        plain_left _ (after_is (wd_of f) _ (condition_is f h) (goal_is _ f is, (hyp_is _ f is, tt))))

    pub cases_is : IfSome (cases f) Left
    cases_is = test_if Left (is_truth (type_of f)) _ (λ t.
        let is : Holds f = retyped env [] _ ty.Truth f (truth_exact (type_of f) t) (typed_is f h) in
        plain_left _ (after_is (wd_of f) _ (condition_is f h) (hyp_is _ f is, (hyp_is _ (negation f) (not_is env [] f is), tt))))

    pub bool_cases_is : IfSome (bool_cases f) Left
    bool_cases_is = test_if Left (is_boolean (type_of f)) _ (λ t.
        let is : Is env [] ty.Bool f = retyped env [] _ ty.Bool f (boolean_exact (type_of f) t) (typed_is f h) in
        plain_left _ (after_is (wd_of f) _ (condition_is f h) (
          hyp_is _ (equal f true_value) (equal_is env [] ty.Bool value-Bool f true_value is (true_is env [])),
          (hyp_is _ (equal f false_value) (equal_is env [] ty.Bool value-Bool f false_value is (false_is env [])), tt),
        )))
