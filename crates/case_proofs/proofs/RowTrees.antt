-- Each formula's rules are right, what its ways say is of half the size too, and refutations of its ways give one of it.
use Rattle.std.proofs.Common.{◌≡◌, ◌∙◌, sym, ap, subst, refl, ℕ, ◌+◌, ◌≤◌, Bool, true, false, List, [], ◌∷◌, ◌++◌, map, Some, arith}
use Rattle.std.specs.List.{AllByRecursion}
use Rattle.std.specs.Option.{option_and_then}
use Rattle.formula_core.specs.declared.Formula.{Formula, out-Formula}
use Rattle.formula_core.specs.declared.Formula.TheOpen.{Formula-F, Node as NodeF}
use Rattle.formula_core.specs.declared.Formula.TheVariants as formula
use Rattle.formula_core.specs.declared.Formula.TheViews.{roll-Formula, roll-out-Formula, rolls-Node}
use Rattle.formula_core.specs.declared.Op.{Op}
use Rattle.formula_core.specs.declared.Op.TheVariants as op
use Rattle.formula_core.specs.declared.Ty.{Ty}
use Rattle.well_defined.specs.Predicates.{conjunction, disjunction, implication}
use Rattle.formula_readings.specs.Forms.{joins_two}
use Rattle.rule_table.specs.Shapes.{one_of, on_one, two_of, on_two, operand, operands_at, two_operands, negation, equivalence, bottom}
use Rattle.rule_table.specs.LogicLaws.{double_negation, negated_and, negated_or, negated_implies, negated_equivalent}
use Rattle.sequent_core.specs.declared.tree.Tree.{Tree}
use Rattle.case_trees.proofs.Plain.{IsFit}
use Rattle.case_trees.specs.PrivateProofs.{Proves, Refutes}
use Rattle.case_trees.specs.Trees.{and_tree, or_tree, imp_tree, contra_tree, not_tree, denied_and_tree, denied_or_tree, denied_imp_tree, same_tree, differ_tree}
use Rattle.case_trees.proofs.Fits.{Half, HasTwo, two_within, two_half, not_half, near_self, near_negation, fit, fit_negation, fit_two, fit_bottom, turned}
use Rattle.case_trees.proofs.Refuting.{and_refutes, or_refutes, imp_refutes, law_refutes, contra_proves, not_proves, both_ways_refute, proves_more, negated_operand, made_conjunction, made_disjunction, made_equivalence}
use Rattle.case_trees.proofs.Sound.{and_sound, or_sound, imp_sound, law_sound, contra_sound, not_sound, both_ways_sound}
use Rattle.case_proofs.specs.PrivateRows.{OneIsSound, TwoIsSound, SoundAt, AreSound, one_at, two_at}
use Rattle.case_proofs.specs.PrivateSearch.{formula_of}
use Rattle.case_proofs.specs.PrivateWays.{Signed, signed, ways_of_two, ways_in, ways_at, ways}

pub is_node : (f : Formula) (o : Op) (parts : List Formula) (t : Ty) → out-Formula f ≡ NodeF o parts t → f ≡ formula.Node o parts t
is_node f o parts t k = sym (roll-out-Formula f) ∙ ap roll-Formula k ∙ rolls-Node o parts t

module _ (env : List (List ℕ × Ty)) where
  pub half_node : (f : Formula) (o : Op) (parts : List Formula) (t : Ty) → out-Formula f ≡ NodeF o parts t → Half env f → Half env (formula.Node o parts t)
  half_node f o parts t k h = subst (Half env) (is_node f o parts t k) h

  -- what each way says is of half the size
  abbrev pub WaysFit : List (List Signed) → Type 0
  WaysFit ws = AllByRecursion (AllByRecursion (λ x. Half env x.0)) ws

  pub ways_fit : (x : Signed) → Half env x.0 → WaysFit (ways x)
  ways_fit x h = go (out-Formula x.0) x.1 refl
    where
      one : (o : Op) (p : Formula) (t : Ty) (s : Bool) → out-Formula x.0 ≡ NodeF o (p ∷ []) t → WaysFit (ways_in o (p ∷ []) s)
      one op.Not p t s k = (((not_half env p t (half_node x.0 op.Not (p ∷ []) t k h)).1, tt), tt)
      one _ p t s k = tt

      two : (o : Op) (p q : Formula) (t : Ty) (s : Bool) → out-Formula x.0 ≡ NodeF o (p ∷ q ∷ []) t → WaysFit (ways_of_two o s p q)
      two op.And p q t true k = let both = two_half env op.And p q t refl (half_node x.0 op.And (p ∷ q ∷ []) t k h) in ((both.0, (both.1, tt)), tt)
      two op.And p q t false k = let both = two_half env op.And p q t refl (half_node x.0 op.And (p ∷ q ∷ []) t k h) in ((both.0, tt), ((both.1, tt), tt))
      two op.Or p q t true k = let both = two_half env op.Or p q t refl (half_node x.0 op.Or (p ∷ q ∷ []) t k h) in ((both.0, tt), ((both.1, tt), tt))
      two op.Or p q t false k = let both = two_half env op.Or p q t refl (half_node x.0 op.Or (p ∷ q ∷ []) t k h) in ((both.0, (both.1, tt)), tt)
      two op.Implies p q t true k = let both = two_half env op.Implies p q t refl (half_node x.0 op.Implies (p ∷ q ∷ []) t k h) in ((both.0, tt), ((both.1, tt), tt))
      two op.Implies p q t false k = let both = two_half env op.Implies p q t refl (half_node x.0 op.Implies (p ∷ q ∷ []) t k h) in ((both.0, (both.1, tt)), tt)
      two op.Equivalent p q t s k =
          let both = two_half env op.Equivalent p q t refl (half_node x.0 op.Equivalent (p ∷ q ∷ []) t k h) in ((both.0, (both.1, tt)), ((both.0, (both.1, tt)), tt))
      two _ p q t s k = tt

      go : (y : Formula-F Formula) (s : Bool) → out-Formula x.0 ≡ y → WaysFit (ways_at y s)
      go (NodeF o (p ∷ []) t) s k = one o p t s k
      go (NodeF o (p ∷ q ∷ []) t) s k = two o p q t s k
      go _ s k = tt

  -- a connective on two predicates
  record IsTwo (p q : Formula) : Type 0 where
    left : Half env p
    right : Half env q
    type : Ty
    two : HasTwo env 32768 2048 p q type

  is_two : (f : Formula) (o : Op) (p q : Formula) (t : Ty) → joins_two o ≡ true → out-Formula f ≡ NodeF o (p ∷ q ∷ []) t → Half env f → IsTwo p q
  is_two f o p q t j k h =
      let node = half_node f o (p ∷ q ∷ []) t k h in
      let halves = two_half env o p q t j node in
      record { left = halves.0; right = halves.1; type = t; two = two_within env o p q t 32768 2048 j node }

  -- at most eight rules more
  abbrev pub Extra : Formula → List Formula → ℕ → Tree → Type 0
  Extra f rest n t = (m : ℕ) × (m ≤ n + 8) × Refutes env (f ∷ rest) m t

  -- what is made of the two predicates is a predicate within the limits
  module _ (f p q : Formula) (h : Half env f) (is : IsTwo p q) where
    ff : IsFit env f
    ff = fit env f h

    fp : IsFit env p
    fp = fit env p is.left

    fq : IsFit env q
    fq = fit env q is.right

    denied : IsFit env (negation f)
    denied = fit_negation env f h

    not_p : IsFit env (negation p)
    not_p = fit_negation env p is.left

    not_q : IsFit env (negation q)
    not_q = fit_negation env q is.right

    either_not : IsFit env (disjunction (negation p) (negation q))
    either_not = fit_two env op.Or p q (negation p) (negation q) is.type refl is.two (near_negation env p is.left) (near_negation env q is.right)

    both_not : IsFit env (conjunction (negation p) (negation q))
    both_not = fit_two env op.And p q (negation p) (negation q) is.type refl is.two (near_negation env p is.left) (near_negation env q is.right)

    only_first : IsFit env (conjunction p (negation q))
    only_first = fit_two env op.And p q p (negation q) is.type refl is.two (near_self env p is.left) (near_negation env q is.right)

    over : IsFit env (implication p q)
    over = fit_two env op.Implies p q p q is.type refl is.two (near_self env p is.left) (near_self env q is.right)

    back : IsFit env (implication q p)
    back = fit_two env op.Implies q p q p is.type refl (turned env 32768 2048 p q is.type is.two) (near_self env q is.right) (near_self env p is.left)

    other : IsFit env (equivalence p (negation q))
    other = fit_two env op.Equivalent p q p (negation q) is.type refl is.two (near_self env p is.left) (near_negation env q is.right)

    over_not : IsFit env (implication p (negation q))
    over_not = fit_two env op.Implies p q p (negation q) is.type refl is.two (near_self env p is.left) (near_negation env q is.right)

    back_not : IsFit env (implication (negation q) p)
    back_not = fit_two env op.Implies q p (negation q) p is.type refl (turned env 32768 2048 p q is.type is.two) (near_negation env q is.right) (near_self env p is.left)

    -- each row's rules are right
    two_sound : (o : Op) (s : Bool) → TwoIsSound o s f p q
    two_sound op.And true = and_sound env f p q ff fp fq
    two_sound op.And false = (
      law_sound env 2 (negation f) (disjunction (negation p) (negation q)) denied either_not,
      or_sound env (disjunction (negation p) (negation q)) (negation p) (negation q) either_not not_p not_q,
    )
    two_sound op.Or true = or_sound env f p q ff fp fq
    two_sound op.Or false = (
      law_sound env 3 (negation f) (conjunction (negation p) (negation q)) denied both_not,
      and_sound env (conjunction (negation p) (negation q)) (negation p) (negation q) both_not not_p not_q,
    )
    two_sound op.Implies true = (imp_sound env f p q ff fp fq, contra_sound env p fp not_p (fit_bottom env))
    two_sound op.Implies false = (
      law_sound env 4 (negation f) (conjunction p (negation q)) denied only_first,
      and_sound env (conjunction p (negation q)) p (negation q) only_first fp not_q,
    )
    two_sound op.Equivalent true = (both_ways_sound env f p q ff fp fq not_p over back (fit_bottom env), contra_sound env q fq not_q (fit_bottom env))
    two_sound op.Equivalent false = (
      law_sound env 5 (negation f) (equivalence p (negation q)) denied other,
      both_ways_sound env (equivalence p (negation q)) p (negation q) other fp not_q not_p over_not back_not (fit_bottom env),
      not_sound env q fq not_q (fit_bottom env),
    )
    two_sound _ s = tt

    module _ (rest : List Formula) (n : ℕ) (t : Tree) where
      and_row : two_operands op.And f ≡ Some (p, q) → Refutes env (p ∷ q ∷ rest) n t → Extra f rest n (and_tree f p q t)
      and_row is r = (n + 1, omega arith, and_refutes env f p q rest n t is ff fp fq r)

      denied_or_row : two_operands op.Or f ≡ Some (p, q) → Refutes env (negation p ∷ negation q ∷ rest) n t → Extra (negation f) rest n (denied_or_tree f p q t)
      denied_or_row is r =
          let d = conjunction (negation p) (negation q) in
          let law : negated_or (negation f) ≡ Some d =
          ap (option_and_then (λ g. on_two op.Or g (λ a b. Some (conjunction (negation a) (negation b))))) (negated_operand f) ∙ ap (option_and_then (λ x. Some (conjunction (negation x.0) (negation x.1)))) is in
          (n + 1 + 1, omega arith, law_refutes env 3 (negation f) d rest (n + 1) _ law denied both_not (and_refutes env d (negation p) (negation q) rest n t (made_conjunction (negation p) (negation q)) both_not not_p not_q r))

      denied_imp_row : two_operands op.Implies f ≡ Some (p, q) → Refutes env (p ∷ negation q ∷ rest) n t → Extra (negation f) rest n (denied_imp_tree f p q t)
      denied_imp_row is r =
          let d = conjunction p (negation q) in
          let law : negated_implies (negation f) ≡ Some d =
          ap (option_and_then (λ g. on_two op.Implies g (λ a b. Some (conjunction a (negation b))))) (negated_operand f) ∙ ap (option_and_then (λ x. Some (conjunction x.0 (negation x.1)))) is in
          (n + 1 + 1, omega arith, law_refutes env 4 (negation f) d rest (n + 1) _ law denied only_first (and_refutes env d p (negation q) rest n t (made_conjunction p (negation q)) only_first fp not_q r))

      module _ (m : ℕ) (u : Tree) where
        or_row : two_operands op.Or f ≡ Some (p, q) → Refutes env (p ∷ rest) n t → Refutes env (q ∷ rest) m u → Extra f rest (n + m) (or_tree f p q t u)
        or_row is r w = (n + m + 1, omega arith, or_refutes env f p q rest n m t u is ff fp fq r w)

        imp_row : two_operands op.Implies f ≡ Some (p, q) → Refutes env (negation p ∷ rest) n t → Refutes env (q ∷ rest) m u → Extra f rest (n + m) (imp_tree f p q (contra_tree p t) u)
        imp_row is r w =
            (n + 1 + m + 1, omega arith, imp_refutes env f p q rest (n + 1) m (contra_tree p t) u is ff fp fq (contra_proves env p rest n t fp not_p (fit_bottom env) r) w)

        denied_and_row : two_operands op.And f ≡ Some (p, q) → Refutes env (negation p ∷ rest) n t → Refutes env (negation q ∷ rest) m u → Extra (negation f) rest (n + m) (denied_and_tree f p q t u)
        denied_and_row is r w =
            let d = disjunction (negation p) (negation q) in
            let law : negated_and (negation f) ≡ Some d =
            ap (option_and_then (λ g. on_two op.And g (λ a b. Some (disjunction (negation a) (negation b))))) (negated_operand f) ∙ ap (option_and_then (λ x. Some (disjunction (negation x.0) (negation x.1)))) is in (
              n + m + 1 + 1,
              omega arith,
              law_refutes env 2 (negation f) d rest (n + m + 1) _ law denied either_not (or_refutes env d (negation p) (negation q) rest n m t u (made_disjunction (negation p) (negation q)) either_not not_p not_q r w),
            )

        same_row : two_operands op.Equivalent f ≡ Some (p, q) → Refutes env (negation p ∷ negation q ∷ rest) n t → Refutes env (p ∷ q ∷ rest) m u → Extra f rest (n + m) (same_tree f p q t u)
        same_row is r w =
            let turned : Refutes env (negation q ∷ negation p ∷ rest) n t = proves_more env (negation p ∷ negation q ∷ rest) (negation q ∷ negation p ∷ rest) n t bottom (λ xs a. (a.1.0, (a.0, a.1.1))) r in
            let shown : Proves env (negation p ∷ rest) (n + 1) (contra_tree q t) q = contra_proves env q (negation p ∷ rest) n t fq not_q (fit_bottom env) turned in
            (n + 1 + m + 6, omega arith, both_ways_refute env f p q rest (n + 1) m (contra_tree q t) u is ff fp fq not_p over back (fit_bottom env) shown w)

        differ_row : two_operands op.Equivalent f ≡ Some (p, q) → Refutes env (negation p ∷ q ∷ rest) n t → Refutes env (p ∷ negation q ∷ rest) m u → Extra (negation f) rest (n + m) (differ_tree f p q t u)
        differ_row is r w =
            let d = equivalence p (negation q) in
            let law : negated_equivalent (negation f) ≡ Some d =
            ap (option_and_then (λ g. on_two op.Equivalent g (λ a b. Some (equivalence a (negation b))))) (negated_operand f) ∙ ap (option_and_then (λ x. Some (equivalence x.0 (negation x.1)))) is in
            let turned : Refutes env (q ∷ negation p ∷ rest) n t = proves_more env (negation p ∷ q ∷ rest) (q ∷ negation p ∷ rest) n t bottom (λ xs a. (a.1.0, (a.0, a.1.1))) r in
            let shown : Proves env (negation p ∷ rest) (n + 1) (not_tree q t) (negation q) = not_proves env q (negation p ∷ rest) n t fq not_q (fit_bottom env) turned in (
              n + 1 + m + 6 + 1,
              omega arith,
              law_refutes env 5 (negation f) d rest (n + 1 + m + 6) _ law denied other
                  (both_ways_refute env d p (negation q) rest (n + 1) m (not_tree q t) u (made_equivalence p (negation q)) other fp not_q not_p over_not back_not (fit_bottom env) shown w),
            )

  pub rules_sound : (f : Formula) (s : Bool) → Half env f → AreSound (signed f s)
  rules_sound f s h = go (out-Formula f) s refl
    where
      one : (o : Op) (p : Formula) (t : Ty) (s : Bool) → out-Formula f ≡ NodeF o (p ∷ []) t → OneIsSound o s f p
      one op.Not p t false k =
          let hp = (not_half env p t (half_node f op.Not (p ∷ []) t k h)).1 in
          law_sound env 1 (negation f) p (fit_negation env f h) (fit env p hp)
      one _ p t s k = tt

      two : (o : Op) (p q : Formula) (t : Ty) (s : Bool) → out-Formula f ≡ NodeF o (p ∷ q ∷ []) t → TwoIsSound o s f p q
      two op.And p q t s k = two_sound f p q h (is_two f op.And p q t refl k h) op.And s
      two op.Or p q t s k = two_sound f p q h (is_two f op.Or p q t refl k h) op.Or s
      two op.Implies p q t s k = two_sound f p q h (is_two f op.Implies p q t refl k h) op.Implies s
      two op.Equivalent p q t s k = two_sound f p q h (is_two f op.Equivalent p q t refl k h) op.Equivalent s
      two _ p q t s k = tt

      go : (y : Formula-F Formula) (s : Bool) → out-Formula f ≡ y → SoundAt y s f
      go (NodeF o (p ∷ []) t) s k = one o p t s k
      go (NodeF o (p ∷ q ∷ []) t) s k = two o p q t s k
      go _ s k = tt

  abbrev pub RowFits : Formula-F Formula → Signed → List (List Signed) → Type 0
  RowFits y x (way ∷ []) = (rest : List Formula) (n : ℕ) (t : Tree) → Refutes env (map formula_of way ++ rest) n t → Extra (formula_of x) rest n (one_at y x.1 x.0 t)
  RowFits y x (way ∷ other ∷ []) = (rest : List Formula) (n m : ℕ) (t u : Tree) → Refutes env (map formula_of way ++ rest) n t → Refutes env (map formula_of other ++ rest) m u
      → Extra (formula_of x) rest (n + m) (two_at y x.1 x.0 t u)
  RowFits y x _ = Unit {0}

  pub row_fits : (f : Formula) (s : Bool) → Half env f → RowFits (out-Formula f) (signed f s) (ways (signed f s))
  row_fits f s h = go (out-Formula f) s refl
    where
      operands_are : (o : Op) (p q : Formula) (t : Ty) → out-Formula f ≡ NodeF o (p ∷ q ∷ []) t → operands_at o (out-Formula f) ≡ operands_at o (NodeF o (p ∷ q ∷ []) t)
      operands_are o p q t k = ap (operands_at o) k

      one : (o : Op) (p : Formula) (t : Ty) (s : Bool) → out-Formula f ≡ NodeF o (p ∷ []) t → RowFits (NodeF o (p ∷ []) t) (signed f s) (ways_in o (p ∷ []) s)
      one op.Not p t true k =
          λ rest n tree r.
          let is : f ≡ negation p = is_node f op.Not (p ∷ []) t k ∙ ap (formula.Node op.Not (p ∷ [])) (not_half env p t (half_node f op.Not (p ∷ []) t k h)).0 in
          (n, omega arith, subst (λ g. Refutes env (g ∷ rest) n tree) (sym is) r)
      one op.Not p t false k =
          λ rest n tree r.
          let hp = (not_half env p t (half_node f op.Not (p ∷ []) t k h)).1 in
          let inner : operand op.Not f ≡ Some p = ap (λ x. option_and_then one_of (operands_at op.Not x)) k in
          let is : double_negation (negation f) ≡ Some p = ap (option_and_then (λ g. on_one op.Not g Some)) (negated_operand f) ∙ ap (option_and_then Some) inner in
          (n + 1, omega arith, law_refutes env 1 (negation f) p rest n tree is (fit_negation env f h) (fit env p hp) r)
      one _ p t s k = tt

      two : (o : Op) (p q : Formula) (t : Ty) (s : Bool) → out-Formula f ≡ NodeF o (p ∷ q ∷ []) t → RowFits (NodeF o (p ∷ q ∷ []) t) (signed f s) (ways_of_two o s p q)
      two op.And p q t true k = λ rest n tree r. and_row f p q h (is_two f op.And p q t refl k h) rest n tree (ap (option_and_then two_of) (operands_are op.And p q t k)) r
      two op.And p q t false k = λ rest n m tree other r w. denied_and_row f p q h (is_two f op.And p q t refl k h) rest n tree m other (ap (option_and_then two_of) (operands_are op.And p q t k)) r w
      two op.Or p q t true k = λ rest n m tree other r w. or_row f p q h (is_two f op.Or p q t refl k h) rest n tree m other (ap (option_and_then two_of) (operands_are op.Or p q t k)) r w
      two op.Or p q t false k = λ rest n tree r. denied_or_row f p q h (is_two f op.Or p q t refl k h) rest n tree (ap (option_and_then two_of) (operands_are op.Or p q t k)) r
      two op.Implies p q t true k = λ rest n m tree other r w. imp_row f p q h (is_two f op.Implies p q t refl k h) rest n tree m other (ap (option_and_then two_of) (operands_are op.Implies p q t k)) r w
      two op.Implies p q t false k = λ rest n tree r. denied_imp_row f p q h (is_two f op.Implies p q t refl k h) rest n tree (ap (option_and_then two_of) (operands_are op.Implies p q t k)) r
      two op.Equivalent p q t true k =
          λ rest n m tree other r w. same_row f p q h (is_two f op.Equivalent p q t refl k h) rest n tree m other (ap (option_and_then two_of) (operands_are op.Equivalent p q t k)) r w
      two op.Equivalent p q t false k =
          λ rest n m tree other r w. differ_row f p q h (is_two f op.Equivalent p q t refl k h) rest n tree m other (ap (option_and_then two_of) (operands_are op.Equivalent p q t k)) r w
      two _ p q t s k = tt

      go : (y : Formula-F Formula) (s : Bool) → out-Formula f ≡ y → RowFits y (signed f s) (ways_at y s)
      go (NodeF o (p ∷ []) t) s k = one o p t s k
      go (NodeF o (p ∷ q ∷ []) t) s k = two o p q t s k
      go _ s k = tt
