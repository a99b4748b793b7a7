-- The end of a branch: what is contradicted is refuted.
use Rattle.std.proofs.Common.{◌≡◌, ◌∙◌, sym, ap, subst, refl, ℕ, ◌≤◌, ◌<◌, Bool, true, false, not, ◌&&◌, ◌||◌, List, [], ◌∷◌, length, get_or, map, if◌then◌else◌, arith}
use Rattle.std.specs.List.{AllByRecursion}
use Rattle.std.specs.Prelude.{Contains}
use Rattle.formula_core.specs.declared.Formula.{Formula, out-Formula}
use Rattle.formula_core.specs.declared.Formula.TheOpen.{Formula-F, Node as NodeF}
use Rattle.formula_core.specs.declared.Formula.TheVariants as formula
use Rattle.formula_core.specs.declared.Op.{Op}
use Rattle.formula_core.specs.declared.Op.TheVariants as op
use Rattle.formula_core.specs.declared.Ty.{Ty}
use Rattle.formula_core.specs.Same.{same_formula}
use Rattle.formula_core.proofs.SameFormulas.{same_formula_exact}
use Rattle.formula_core.proofs.Weakening.{first_true, second_true}
use Rattle.well_defined.specs.Predicates.{top}
use Rattle.rule_table.specs.Shapes.{negation, bottom}
use Rattle.sequent_core.specs.declared.tree.Tree.{Tree}
use Rattle.case_trees.specs.PrivateProofs.{Refutes}
use Rattle.case_trees.specs.Trees.{bottom_tree, contr_tree, top_tree}
use Rattle.case_trees.proofs.Fits.{Half, fit, fit_negation, fit_bottom, fit_top, fit_denied_top, constant_type}
use Rattle.case_trees.proofs.Refuting.{HasAll, proves_more, bottom_refutes, top_refutes, contr_refutes}
use Rattle.case_trees.proofs.Sound.{bottom_sound, top_sound, contr_sound}
use Rattle.case_proofs.specs.PrivateRows.{EndIsSound, end_tree}
use Rattle.case_proofs.specs.PrivateSearch.{formula_of, AreHalfSize, AreHalfSizeSomewhere}
use Rattle.case_proofs.specs.PrivateWays.{Signed, absurd_constant, contradicts_at, is_absurd, same_sign, is_said, contradicts}
use Rattle.case_proofs.proofs.RowTrees.{is_node, half_node}
use Rattle.case_proofs.proofs.Steps.{some_power, parted, Says, back, Closes}

same_signs : (s t : Bool) → same_sign s t ≡ true → s ≡ t
same_signs true t e = sym e
same_signs false true e = absurd (cc)
same_signs false false e = refl

module _ (xs : List Formula) (f : Formula) (s : Bool) where
  -- what is said is there
  said_there : (ys : List Signed) → is_said ys s f ≡ true → AllByRecursion (Says xs) ys → Contains xs (if s then f else negation f)
  said_there [] e h = absurd (cc)
  said_there (y ∷ ys) e h = go (same_sign y.1 s && same_formula y.0 f) refl e (λ k. said_there ys k h.1)
    where
      go : (b : Bool) → (same_sign y.1 s && same_formula y.0 f) ≡ b → (b || is_said ys s f) ≡ true → (is_said ys s f ≡ true → Contains xs (if s then f else negation f))
          → Contains xs (if s then f else negation f)
      go true k e later =
          let one : Contains xs (if s then y.0 else negation y.0) = subst (λ b. Contains xs (if b then y.0 else negation y.0)) (same_signs y.1 s (first_true _ _ k)) h.0 in
          subst (λ g. Contains xs (if s then g else negation g)) (same_formula_exact y.0 f (second_true (same_sign y.1 s) _ k)) one
      go false k e later = later e

-- a formula that is there with both signs is there with its negation
both_signs : (xs : List Formula) (f : Formula) (s : Bool) → Contains xs (if s then f else negation f) → Contains xs (if not s then f else negation f) → HasAll xs (f ∷ negation f ∷ [])
both_signs xs f true a b = (a, (b, tt))
both_signs xs f false a b = (b, (a, tt))

module _ (env : List (List ℕ × Ty)) where
  -- of at most two rules
  abbrev Ended : List Formula → Tree → Type 0
  Ended hs t = (k : ℕ) × (k ≤ 2) × Refutes env hs k t

  absurd_ended : (f : Formula) (s : Bool) → Half env f → contradicts_at (out-Formula f) s ≡ true → Ended ((if s then f else negation f) ∷ []) (if s then bottom_tree else top_tree)
  absurd_ended f s h c = go (out-Formula f) s refl c
    where
      constant : (o : Op) (t : Ty) (s : Bool) → out-Formula f ≡ NodeF o [] t → absurd_constant o s ≡ true → Ended ((if s then f else negation f) ∷ []) (if s then bottom_tree else top_tree)
      constant op.Bottom t true k c =
          let is : f ≡ bottom = is_node f op.Bottom [] t k ∙ ap (formula.Node op.Bottom []) (constant_type env op.Bottom t refl (half_node env f op.Bottom [] t k h)) in
          (1, omega arith, subst (λ g. Refutes env (g ∷ []) 1 bottom_tree) (sym is) (bottom_refutes env [] (fit_bottom env)))
      constant op.Bottom t false k c = absurd (cc)
      constant op.Top t true k c = absurd (cc)
      constant op.Top t false k c =
          let is : f ≡ top = is_node f op.Top [] t k ∙ ap (formula.Node op.Top []) (constant_type env op.Top t refl (half_node env f op.Top [] t k h)) in
          (2, omega arith, subst (λ g. Refutes env (negation g ∷ []) 2 top_tree) (sym is) (top_refutes env [] (fit_top env) (fit_denied_top env)))
      constant _ t s k c = absurd (cc)

      go : (y : Formula-F Formula) (s : Bool) → out-Formula f ≡ y → contradicts_at y s ≡ true → Ended ((if s then f else negation f) ∷ []) (if s then bottom_tree else top_tree)
      go (NodeF o [] t) s k c = constant o t s k c
      go _ s k c = absurd (cc)

module _ (hyps : List Signed) (at : ℕ) (x : Signed) (lt : at < length hyps) (is : x ≡ get_or hyps at x) where
  half_at : (env : List (List ℕ × Ty)) → AreHalfSize env hyps → Half env x.0
  half_at env h = subst (λ y. Half env y.0) (sym is) (parted (λ y. Half env y.0) hyps at x lt h).0

  pub end_sound_at : AreHalfSizeSomewhere hyps → EndIsSound x
  end_sound_at h =
      let half = half_at h.0 h.1 in
      (bottom_sound h.0 (fit_bottom h.0), top_sound h.0 (fit_top h.0) (fit_denied_top h.0), contr_sound h.0 x.0 (fit h.0 x.0 half) (fit_negation h.0 x.0 half))

  there_at : (xs : List Formula) → AllByRecursion (Contains xs) (map formula_of hyps) → Contains xs (formula_of x)
  there_at xs a = subst (Says xs) (sym is) (parted (Says xs) hyps at x lt (back xs hyps a)).0

  ended_at : (env : List (List ℕ × Ty)) → AreHalfSize env hyps → contradicts hyps x ≡ true → Ended env (map formula_of hyps) (end_tree x)
  ended_at env h c = go (is_absurd x) refl c
    where
      go : (b : Bool) → is_absurd x ≡ b → (b || is_said hyps (not x.1) x.0) ≡ true → Ended env (map formula_of hyps) (if b then (if x.1 then bottom_tree else top_tree) else contr_tree x.0)
      go true k e =
          let t = if x.1 then bottom_tree else top_tree in
          let found = absurd_ended env x.0 x.1 (half_at env h) k in
          (found.0, found.1, proves_more env (formula_of x ∷ []) (map formula_of hyps) found.0 t bottom (λ xs a. (there_at xs a, tt)) found.2)
      go false k e =
          let half = half_at env h in (
            1,
            omega arith,
            proves_more env (x.0 ∷ negation x.0 ∷ []) (map formula_of hyps) 1 (contr_tree x.0) bottom
                (λ xs a. both_signs xs x.0 x.1 (there_at xs a) (said_there xs x.0 (not x.1) hyps e (back xs hyps a)))
                (contr_refutes env x.0 [] (fit env x.0 half) (fit_negation env x.0 half)),
          )

  pub end_closes : contradicts hyps x ≡ true → (fuel : ℕ) → Closes hyps fuel (end_tree x)
  end_closes c fuel env h =
      let found = ended_at env h c in
      let most = found.1 in
      let some = some_power fuel in
      record { size = found.0; few = omega (arith, most, some); refutes = found.2 }
