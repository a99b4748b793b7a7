-- The numbers of a formula are those of its parts.
use Rattle.std.proofs.Common.{◌≡◌, ◌∙◌, sym, ap, subst, ℤ, ◌<◌, List, [], ◌∷◌, ◌++◌, map}
use Rattle.std.specs.Prelude.{◌^◌}
use Rattle.std.specs.Int.Signed.{mag}
use Rattle.std.specs.List.{AllByRecursion}
use Rattle.formula_core.specs.declared.op.Op.{Op}
use Rattle.formula_core.specs.declared.op.Binder.{Binder}
use Rattle.formula_core.specs.declared.ty.Ty.{Ty}
use Rattle.formula_core.specs.declared.formula.Formula.{Formula}
use Rattle.formula_core.specs.declared.formula.Formula.TheOpen.{Int as IntF, Node as NodeF, Bind as BindF}
use Rattle.formula_core.specs.declared.formula.Formula.TheVariants.{Int, Node, Bind}
use Rattle.formula_core.specs.declared.formula.Formula.TheViews.{rolls-Int, rolls-Node, rolls-Bind}
use Rattle.formula_core.specs.Formulas.{joined}
use Rattle.formula_core.proofs.Equations.{formula_fold}
use Rattle.formula_print.specs.Held.{literals_step, literals, HasNarrowNumbers}

pub literals-Int : (n : ℤ) → literals (Int n) ≡ n ∷ []
literals-Int n = formula_fold literals_step (IntF n) (Int n) (rolls-Int n)

pub literals-Node : (o : Op) (parts : List Formula) (t : Ty) → literals (Node o parts t) ≡ joined (map literals parts)
literals-Node o parts t = formula_fold literals_step (NodeF o parts t) (Node o parts t) (rolls-Node o parts t)

pub literals-Bind : (b : Binder) (types : List Ty) (parts : List Formula) (t : Ty) → literals (Bind b types parts t) ≡ joined (map literals parts)
literals-Bind b types parts t = formula_fold literals_step (BindF b types parts t) (Bind b types parts t) (rolls-Bind b types parts t)

abbrev AreNarrow : List ℤ → Type 0
AreNarrow ns = AllByRecursion (λ n. mag n < 2 ^ 127) ns

beside : (ns ms : List ℤ) → AreNarrow ns → AreNarrow ms → AreNarrow (ns ++ ms)
beside [] ms h k = k
beside (n ∷ ns) ms h k = (h.0, beside ns ms h.1 k)

all_narrow : (fs : List Formula) → AllByRecursion HasNarrowNumbers fs → AreNarrow (joined (map literals fs))
all_narrow [] h = tt
all_narrow (f ∷ fs) h = beside (literals f) (joined (map literals fs)) h.0 (all_narrow fs h.1)

pub narrow_node : (f : Formula) (o : Op) (parts : List Formula) (t : Ty) → f ≡ Node o parts t → AllByRecursion HasNarrowNumbers parts → HasNarrowNumbers f
narrow_node f o parts t e h = subst AreNarrow (sym (ap literals e ∙ literals-Node o parts t)) (all_narrow parts h)

pub narrow_bind : (f : Formula) (b : Binder) (types : List Ty) (parts : List Formula) (t : Ty) → f ≡ Bind b types parts t → AllByRecursion HasNarrowNumbers parts → HasNarrowNumbers f
narrow_bind f b types parts t e h = subst AreNarrow (sym (ap literals e ∙ literals-Bind b types parts t)) (all_narrow parts h)
