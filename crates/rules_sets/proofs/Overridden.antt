-- What `replaced_over` is at each variant.
use Rattle.std.proofs.Common.{◌≡◌, ◌∙◌, sym, ap, ℕ, ℤ, List, map, Option, Some, None}
use Rattle.std.specs.Prelude.{unwrap_or}
use Rattle.formula_core.specs.declared.Op.{Op}
use Rattle.formula_core.specs.declared.Binder.{Binder}
use Rattle.formula_core.specs.declared.Ty.{Ty}
use Rattle.formula_core.specs.declared.Formula.{Formula}
use Rattle.formula_core.specs.declared.Formula.TheOpen.{Int as IntF, Free as FreeF, Bound as BoundF, Node as NodeF, Bind as BindF}
use Rattle.formula_core.specs.declared.Formula.TheVariants.{Int, Free, Bound, Node, Bind}
use Rattle.formula_core.specs.declared.Formula.TheViews.{rolls-Int, rolls-Free, rolls-Bound, rolls-Node, rolls-Bind}
use Rattle.formula_core.proofs.Equations.{formula_para}
use Rattle.rule_table.specs.Rewriting.{replaced_over_step, replaced_over, without_override}
use Rattle.rules_sets.proofs.Replacing.{results, parts}

over-Int : (z x : Formula) (n : ℤ) → replaced_over z x (Int n) ≡ Int n
over-Int z x n = formula_para (replaced_over_step z x) (IntF n) (Int n) (rolls-Int n)

over-Free : (z x : Formula) (y : List ℕ) (t : Ty) → replaced_over z x (Free y t) ≡ Free y t
over-Free z x y t = formula_para (replaced_over_step z x) (FreeF y t) (Free y t) (rolls-Free y t)

over-Bound : (z x : Formula) (i : ℕ) (t : Ty) → replaced_over z x (Bound i t) ≡ Bound i t
over-Bound z x i t = formula_para (replaced_over_step z x) (BoundF i t) (Bound i t) (rolls-Bound i t)

over-Node : (z x : Formula) (o : Op) (ps : List Formula) (t : Ty) → replaced_over z x (Node o ps t) ≡ unwrap_or (without_override z x (Node o ps t)) (Node o (map (replaced_over z x) ps) t)
over-Node z x o ps t = formula_para (replaced_over_step z x) (NodeF o ps t) (Node o ps t) (rolls-Node o ps t)
    ∙ (λ i. unwrap_or (without_override z x (Node o (parts (replaced_over z x) ps i) t)) (Node o (results (replaced_over z x) ps i) t))

over-Bind : (z x : Formula) (b : Binder) (ts : List Ty) (ps : List Formula) (t : Ty) → replaced_over z x (Bind b ts ps t) ≡ Bind b ts (map (replaced_over z x) ps) t
over-Bind z x b ts ps t = formula_para (replaced_over_step z x) (BindF b ts ps t) (Bind b ts ps t) (rolls-Bind b ts ps t)
    ∙ (λ i. Bind b ts (results (replaced_over z x) ps i) t)

pub at_Int : (z x f : Formula) (n : ℤ) → f ≡ Int n → replaced_over z x f ≡ f
at_Int z x f n e = ap (replaced_over z x) e ∙ over-Int z x n ∙ sym e

pub at_Free : (z x f : Formula) (y : List ℕ) (t : Ty) → f ≡ Free y t → replaced_over z x f ≡ f
at_Free z x f y t e = ap (replaced_over z x) e ∙ over-Free z x y t ∙ sym e

pub at_Bound : (z x f : Formula) (i : ℕ) (t : Ty) → f ≡ Bound i t → replaced_over z x f ≡ f
at_Bound z x f i t e = ap (replaced_over z x) e ∙ over-Bound z x i t ∙ sym e

-- at a node, by what is there without the override
at_Node : (z x f : Formula) (o : Op) (ps : List Formula) (t : Ty) (w : Option Formula) → f ≡ Node o ps t → w ≡ without_override z x f
    → replaced_over z x f ≡ unwrap_or w (Node o (map (replaced_over z x) ps) t)
at_Node z x f o ps t w e h = ap (replaced_over z x) e ∙ over-Node z x o ps t
    ∙ ap (λ v. unwrap_or v (Node o (map (replaced_over z x) ps) t)) (sym (h ∙ ap (without_override z x) e))

pub at_Some : (z x f g : Formula) (o : Op) (ps : List Formula) (t : Ty) → f ≡ Node o ps t → Some g ≡ without_override z x f → replaced_over z x f ≡ g
at_Some z x f g o ps t e h = at_Node z x f o ps t (Some g) e h

pub at_None : (z x f : Formula) (o : Op) (ps : List Formula) (t : Ty) → f ≡ Node o ps t → None ≡ without_override z x f
    → replaced_over z x f ≡ Node o (map (replaced_over z x) ps) t
at_None z x f o ps t e h = at_Node z x f o ps t None e h

pub at_Bind : (z x f : Formula) (b : Binder) (ts : List Ty) (ps : List Formula) (t : Ty) → f ≡ Bind b ts ps t → replaced_over z x f ≡ Bind b ts (map (replaced_over z x) ps) t
at_Bind z x f b ts ps t e = ap (replaced_over z x) e ∙ over-Bind z x b ts ps t
