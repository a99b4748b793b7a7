-- The equations of `wd_of`, one for each variant.
use Rattle.std.proofs.Common.{◌≡◌, ◌∙◌, ap, refl, ℕ, ℤ, List, [], ◌∷◌, map}
use Rattle.std.proofs.lemmas.List.{length-map}
use Rattle.formula_core.specs.declared.op.Op.{Op}
use Rattle.formula_core.specs.declared.op.Binder.{Binder}
use Rattle.formula_core.specs.declared.ty.Ty.{Ty}
use Rattle.formula_core.specs.declared.formula.Formula.{Formula}
use Rattle.formula_core.specs.declared.formula.Formula.TheOpen.{Int as IntF, Free as FreeF, Bound as BoundF, Node as NodeF, Bind as BindF}
use Rattle.formula_core.specs.declared.formula.Formula.TheVariants.{Int, Free, Bound, Node, Bind}
use Rattle.formula_core.specs.declared.formula.Formula.TheViews.{rolls-Int, rolls-Free, rolls-Bound, rolls-Node, rolls-Bind}
use Rattle.formula_core.proofs.Equations.{formula_para}
use Rattle.well_defined.specs.Predicates.{top}
use Rattle.well_defined.specs.Connectives.{conjoined}
use Rattle.well_defined.specs.Conditions.{own_condition, operands_condition, binder_condition, wd_step, wd_of}

pub wd-Int : (n : ℤ) → wd_of (Int n) ≡ top
wd-Int n = formula_para wd_step (IntF n) (Int n) (rolls-Int n)

pub wd-Free : (name : List ℕ) (t : Ty) → wd_of (Free name t) ≡ top
wd-Free name t = formula_para wd_step (FreeF name t) (Free name t) (rolls-Free name t)

pub wd-Bound : (i : ℕ) (t : Ty) → wd_of (Bound i t) ≡ top
wd-Bound i t = formula_para wd_step (BoundF i t) (Bound i t) (rolls-Bound i t)

results-beside : (g : Formula → Formula) (fs : List Formula) → map (λ (p : Formula × Formula). p.1) (map (λ f. (f, g f)) fs) ≡ map g fs
results-beside g [] = refl
results-beside g (f ∷ fs) = ap (λ gs. g f ∷ gs) (results-beside g fs)

parts-beside : (g : Formula → Formula) (fs : List Formula) → map (λ (p : Formula × Formula). p.0) (map (λ f. (f, g f)) fs) ≡ fs
parts-beside g [] = refl
parts-beside g (f ∷ fs) = ap (λ gs. f ∷ gs) (parts-beside g fs)

pub wd-Node : (op : Op) (parts : List Formula) (t : Ty) → wd_of (Node op parts t) ≡ conjoined (operands_condition op parts (map wd_of parts)) (own_condition op parts)
wd-Node op parts t =
    formula_para wd_step (NodeF op parts t) (Node op parts t) (rolls-Node op parts t)
    ∙ (λ i. conjoined (operands_condition op (parts-beside wd_of parts i) (results-beside wd_of parts i)) (own_condition op (parts-beside wd_of parts i)))

pub wd-Bind : (binder : Binder) (types : List Ty) (parts : List Formula) (t : Ty) → wd_of (Bind binder types parts t) ≡ binder_condition binder types parts (map wd_of parts)
wd-Bind binder types parts t =
    formula_para wd_step (BindF binder types parts t) (Bind binder types parts t) (rolls-Bind binder types parts t)
    ∙ (λ i. binder_condition binder types (parts-beside wd_of parts i) (results-beside wd_of parts i))

pub ruleset equations = (wd-Int, wd-Free, wd-Bound, wd-Node, wd-Bind)

pub ruleset lengths = (length-map)
