-- What truth and number are at each form that readings see into.
use Rattle.std.proofs.Common.{◌≡◌, ◌∙◌, ap, ℤ, Bool, [], ◌∷◌}
use Rattle.formula_core.specs.declared.Formula.{Formula}
use Rattle.formula_core.specs.declared.Formula.TheOpen.{Int as IntF, Node as NodeF}
use Rattle.formula_core.specs.declared.Formula.TheVariants.{Int, Node}
use Rattle.formula_core.specs.declared.Formula.TheViews.{rolls-Int, rolls-Node, outs-Node}
use Rattle.formula_core.specs.declared.Op.{Op}
use Rattle.formula_core.specs.declared.Ty.{Ty}
use Rattle.formula_core.proofs.Equations.{formula_para}
use Rattle.formula_readings.specs.Forms.{are_integers}
use Rattle.formula_readings.specs.Readings.{AtomValues, nullary_truth, unary_truth, binary_truth, truth_step, truth_by, unary_number, binary_number, number_step, number_by, compared, comparison, comparison_at, truth_in}

module _ (atom : Formula → Bool) where
  pub truth-none : (o : Op) (t : Ty) → truth_by atom (Node o [] t) ≡ nullary_truth o (atom (Node o [] t))
  truth-none o t = formula_para (truth_step atom) (NodeF o [] t) (Node o [] t) (rolls-Node o [] t)

  pub truth-one : (o : Op) (p : Formula) (t : Ty) → truth_by atom (Node o (p ∷ []) t) ≡ unary_truth o (atom (Node o (p ∷ []) t)) (truth_by atom p)
  truth-one o p t = formula_para (truth_step atom) (NodeF o (p ∷ []) t) (Node o (p ∷ []) t) (rolls-Node o (p ∷ []) t)

  pub truth-two : (o : Op) (p q : Formula) (t : Ty) → truth_by atom (Node o (p ∷ q ∷ []) t) ≡ binary_truth o (atom (Node o (p ∷ q ∷ []) t)) (truth_by atom p) (truth_by atom q)
  truth-two o p q t = formula_para (truth_step atom) (NodeF o (p ∷ q ∷ []) t) (Node o (p ∷ q ∷ []) t) (rolls-Node o (p ∷ q ∷ []) t)

module _ (atom : Formula → ℤ) where
  pub number-Int : (n : ℤ) → number_by atom (Int n) ≡ n
  number-Int n = formula_para (number_step atom) (IntF n) (Int n) (rolls-Int n)

  pub number-one : (o : Op) (e : Formula) (t : Ty) → number_by atom (Node o (e ∷ []) t) ≡ unary_number o (atom (Node o (e ∷ []) t)) (number_by atom e)
  number-one o e t = formula_para (number_step atom) (NodeF o (e ∷ []) t) (Node o (e ∷ []) t) (rolls-Node o (e ∷ []) t)

  pub number-two : (o : Op) (e f : Formula) (t : Ty) → number_by atom (Node o (e ∷ f ∷ []) t) ≡ binary_number o (atom (Node o (e ∷ f ∷ []) t)) (number_by atom e) (number_by atom f)
  number-two o e f t = formula_para (number_step atom) (NodeF o (e ∷ f ∷ []) t) (Node o (e ∷ f ∷ []) t) (rolls-Node o (e ∷ f ∷ []) t)

-- what a comparison says
pub compared-two : (v : AtomValues) (o : Op) (e f : Formula) (t : Ty)
    → comparison v (Node o (e ∷ f ∷ []) t) ≡ compared o (are_integers e f) (v.truth (Node o (e ∷ f ∷ []) t)) (number_by v.number e) (number_by v.number f)
compared-two v o e f t = ap (comparison_at v (v.truth (Node o (e ∷ f ∷ []) t))) (outs-Node o (e ∷ f ∷ []) t)

-- the truth of what is on two
pub truth_in-two : (v : AtomValues) (o : Op) (e f : Formula) (t : Ty)
    → truth_in v (Node o (e ∷ f ∷ []) t)
    ≡ binary_truth o (compared o (are_integers e f) (v.truth (Node o (e ∷ f ∷ []) t)) (number_by v.number e) (number_by v.number f)) (truth_in v e) (truth_in v f)
truth_in-two v o e f t = truth-two (comparison v) o e f t ∙ ap (λ a. binary_truth o a (truth_in v e) (truth_in v f)) (compared-two v o e f t)
