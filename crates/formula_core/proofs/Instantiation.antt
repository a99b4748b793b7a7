-- The equations of `instantiated`, one for each variant.
use Rattle.std.proofs.Common.{◌≡◌, ◌∙◌, sym, ap, refl, ℕ, ℤ, ◌+◌, List, [], ◌∷◌, length, map}
use Rattle.formula_core.specs.declared.op.Op.{Op}
use Rattle.formula_core.specs.declared.op.Binder.{Binder}
use Rattle.formula_core.specs.declared.ty.Ty.{Ty}
use Rattle.formula_core.specs.declared.formula.Formula.{Formula}
use Rattle.formula_core.specs.declared.formula.Formula.TheOpen.{Formula-F, Int as IntF, Free as FreeF, Bound as BoundF, Node as NodeF, Bind as BindF}
use Rattle.formula_core.specs.declared.formula.Formula.TheVariants.{Int, Free, Bound, Node, Bind}
use Rattle.formula_core.specs.declared.formula.Formula.TheViews.{roll-Formula, rolls-Int, rolls-Free, rolls-Bound, rolls-Node, rolls-Bind}
use Rattle.formula_core.specs.declared.formula.Formula.TheFolds.{map-Formula, fold-Formula, fold-roll-Formula}
use Rattle.formula_core.specs.Formulas.{instantiated_step, instantiated}

below-map : (g : Formula → ℕ → Formula) (d : ℕ) (fs : List Formula) → map (λ p. p d) (map g fs) ≡ map (λ f. g f d) fs
below-map g d [] = refl
below-map g d (f ∷ fs) = ap (λ gs. g f d ∷ gs) (below-map g d fs)

at : (terms : List Formula) (x : Formula-F Formula) (f : Formula) → roll-Formula x ≡ f → (d : ℕ)
    → instantiated terms d f ≡ instantiated_step terms (map-Formula Formula (ℕ → Formula) (fold-Formula (ℕ → Formula) (instantiated_step terms)) x) d
at terms x f e d = ap (instantiated terms d) (sym e) ∙ ap (λ g. g d) (fold-roll-Formula (ℕ → Formula) (instantiated_step terms) x)

pub instantiated-Int : (terms : List Formula) (d : ℕ) (n : ℤ) → instantiated terms d (Int n) ≡ Int n
instantiated-Int terms d n = at terms (IntF n) _ (rolls-Int n) d ∙ rolls-Int n

pub instantiated-Free : (terms : List Formula) (d : ℕ) (name : List ℕ) (t : Ty) → instantiated terms d (Free name t) ≡ Free name t
instantiated-Free terms d name t = at terms (FreeF name t) _ (rolls-Free name t) d ∙ rolls-Free name t

pub instantiated-Bound : (terms : List Formula) (d i : ℕ) (t : Ty) → instantiated terms d (Bound i t) ≡ instantiated_step terms (BoundF i t) d
instantiated-Bound terms d i t = at terms (BoundF i t) _ (rolls-Bound i t) d

pub instantiated-Node : (terms : List Formula) (d : ℕ) (op : Op) (parts : List Formula) (ty : Ty) → instantiated terms d (Node op parts ty) ≡ Node op (map (instantiated terms d) parts) ty
instantiated-Node terms d op parts ty =
    ap (instantiated terms d) (sym (rolls-Node op parts ty))
    ∙ ap (λ g. g d) (fold-roll-Formula (ℕ → Formula) (instantiated_step terms) (NodeF op parts ty))
    ∙ ap (λ ps. roll-Formula (NodeF op ps ty)) (below-map (fold-Formula (ℕ → Formula) (instantiated_step terms)) d parts)
    ∙ rolls-Node op (map (instantiated terms d) parts) ty

pub instantiated-Bind : (terms : List Formula) (d : ℕ) (binder : Binder) (types : List Ty) (parts : List Formula) (ty : Ty)
    → instantiated terms d (Bind binder types parts ty) ≡ Bind binder types (map (instantiated terms (d + length types)) parts) ty
instantiated-Bind terms d binder types parts ty =
    ap (instantiated terms d) (sym (rolls-Bind binder types parts ty))
    ∙ ap (λ g. g d) (fold-roll-Formula (ℕ → Formula) (instantiated_step terms) (BindF binder types parts ty))
    ∙ ap (λ ps. roll-Formula (BindF binder types ps ty)) (below-map (fold-Formula (ℕ → Formula) (instantiated_step terms)) (d + length types) parts)
    ∙ rolls-Bind binder types (map (instantiated terms (d + length types)) parts) ty
