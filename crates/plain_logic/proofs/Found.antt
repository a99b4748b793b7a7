-- What is there where something is made of it.
use Rattle.std.proofs.Common.{◌≡◌, ◌∙◌, sym, ap, refl, Bool, true, false, ◌==◌, List, [], ◌∷◌, Option, Some, None, if◌then◌else◌}
use Rattle.std.specs.Option.{option_and_then}
use Rattle.formula_core.specs.declared.Op.{Op}
use Rattle.formula_core.specs.declared.Ty.{Ty}
use Rattle.formula_core.specs.declared.Ty.TheVariants as ty
use Rattle.formula_core.specs.declared.Formula.{Formula}
use Rattle.formula_core.specs.declared.Formula.TheOpen.{Formula-F, Int as IntF, Free as FreeF, Bound as BoundF, Node as NodeF, Bind as BindF}
use Rattle.formula_core.specs.declared.Formula.TheFolds.{fold-roll-Formula}
use Rattle.formula_core.specs.declared.Formula.TheVariants.{Node}
use Rattle.formula_core.specs.declared.Formula.TheViews.{out-Formula, roll-Formula, roll-out-Formula, rolls-Node, outs-Node}
use Rattle.formula_core.specs.Numbers.{number_of}
use Rattle.formula_core.specs.Same.{same_formula_step, same_formula}
use Rattle.formula_core.proofs.SameFormulas.{same_formula_exact}
use Rattle.formula_core.proofs.Weakening.{both_true}
use Rattle.formula_core.proofs.WholeSets.{same_type_refl}
use Rattle.rule_table.specs.Shapes.{operands_at, operands, one_of, two_of, operand, two_operands, on_one, on_two}

pub some : {X : Type 0} (x y : X) → Some x ≡ Some y → x ≡ y
some x y e = cc

pub found : {X Y : Type 0} (o : Option X) (make : X → Option Y) (y : Y) → option_and_then make o ≡ Some y → (x : X) × (o ≡ Some x) × (make x ≡ Some y)
found None make y e = absurd (cc)
found (Some x) make y e = (x, refl, e)

-- operators of one number are one
operator_exact : (a b : Op) → (number_of a == number_of b) ≡ true → a ≡ b
operator_exact a b h =
    let at : same_formula (Node a [] ty.Truth) (Node b [] ty.Truth) ≡ same_formula_step (NodeF a [] ty.Truth) (NodeF b [] ty.Truth) =
    ap (λ s. same_formula s (Node b [] ty.Truth)) (sym (rolls-Node a [] ty.Truth))
    ∙ ap (λ t. t (Node b [] ty.Truth)) (fold-roll-Formula (Formula → Bool) (λ s v. same_formula_step s (out-Formula v)) (NodeF a [] ty.Truth))
    ∙ ap (same_formula_step (NodeF a [] ty.Truth)) (outs-Node b [] ty.Truth) in
    let same : Node a [] ty.Truth ≡ Node b [] ty.Truth =
    same_formula_exact _ _ (at ∙ both_true _ _ (both_true _ _ h refl) (same_type_refl ty.Truth)) in
    let apart : NodeF a [] ty.Truth ≡ NodeF b [] ty.Truth = sym (outs-Node a [] ty.Truth) ∙ ap out-Formula same ∙ outs-Node b [] ty.Truth in
    cc

-- a formula with operands is the operator on them
pub operands_are : (o : Op) (f : Formula) (parts : List Formula) → operands o f ≡ Some parts → (u : Ty) × (f ≡ Node o parts u)
operands_are o f parts e = go (out-Formula f) refl e
  where
    chosen : (a : Op) (ps : List Formula) (t : Ty) (b : Bool) → (number_of a == number_of o) ≡ b → out-Formula f ≡ NodeF a ps t
        → (if b then Some ps else None) ≡ Some parts → (u : Ty) × (f ≡ Node o parts u)
    chosen a ps t true h k e = (t, sym (roll-out-Formula f) ∙ ap roll-Formula k ∙ rolls-Node a ps t ∙ (λ i. Node (operator_exact a o h i) (some ps parts e i) t))
    chosen a ps t false h k e = absurd (cc)

    go : (x : Formula-F Formula) → out-Formula f ≡ x → operands_at o x ≡ Some parts → (u : Ty) × (f ≡ Node o parts u)
    go (IntF n) k e = absurd (cc)
    go (FreeF n t) k e = absurd (cc)
    go (BoundF n t) k e = absurd (cc)
    go (NodeF a ps t) k e = chosen a ps t (number_of a == number_of o) refl k e
    go (BindF b ts ps t) k e = absurd (cc)

one_list : (ps : List Formula) (p : Formula) → one_of ps ≡ Some p → ps ≡ p ∷ []
one_list [] p e = absurd (cc)
one_list (q ∷ []) p e = ap (λ x. x ∷ []) (some q p e)
one_list (q ∷ r ∷ ps) p e = absurd (cc)

two_list : (ps : List Formula) (x : Formula × Formula) → two_of ps ≡ Some x → ps ≡ x.0 ∷ x.1 ∷ []
two_list [] x e = absurd (cc)
two_list (q ∷ []) x e = absurd (cc)
two_list (q ∷ r ∷ []) x e = let d : (q, r) ≡ x = some (q, r) x e in λ i. (d i).0 ∷ (d i).1 ∷ []
two_list (q ∷ r ∷ s ∷ ps) x e = absurd (cc)

pub one_is : (o : Op) (f p : Formula) → operand o f ≡ Some p → (u : Ty) × (f ≡ Node o (p ∷ []) u)
one_is o f p e =
    let x = found (operands o f) one_of p e in
    let y = operands_are o f x.0 x.1 in
    (y.0, y.1 ∙ ap (λ ps. Node o ps y.0) (one_list x.0 p x.2))

pub two_are : (o : Op) (f : Formula) (x : Formula × Formula) → two_operands o f ≡ Some x → (u : Ty) × (f ≡ Node o (x.0 ∷ x.1 ∷ []) u)
two_are o f x e =
    let y = found (operands o f) two_of x e in
    let z = operands_are o f y.0 y.1 in
    (z.0, z.1 ∙ ap (λ ps. Node o ps z.0) (two_list y.0 x y.2))

pub on_two_found : {X : Type 0} (o : Op) (f : Formula) (make : Formula → Formula → Option X) (y : X) → on_two o f make ≡ Some y
    → (x : Formula × Formula) × (two_operands o f ≡ Some x) × (make x.0 x.1 ≡ Some y)
on_two_found o f make y e = found (two_operands o f) (λ x. make x.0 x.1) y e

pub on_one_found : {X : Type 0} (o : Op) (f : Formula) (make : Formula → Option X) (y : X) → on_one o f make ≡ Some y
    → (p : Formula) × (operand o f ≡ Some p) × (make p ≡ Some y)
on_one_found o f make y e = found (operand o f) make y e
