-- How large an instantiated formula is, variant by variant.
use Rattle.std.proofs.Common.{◌≡◌, ◌∙◌, sym, ap, refl, ℕ, ℤ, ◌+◌, ◌-◌, ◌^◌, ◌≤◌, ◌<◌, min, length, reverse, map, List, arith}
use Rattle.std.proofs.lemmas.Grind.{common_steps}
use Rattle.std.proofs.lemmas.Option.{slice_get_past}
use Rattle.std.proofs.lemmas.List.{length-reverse}
use Rattle.formula_core.specs.declared.Op.{Op}
use Rattle.formula_core.specs.declared.Binder.{Binder}
use Rattle.formula_core.specs.declared.Ty.{Ty}
use Rattle.formula_core.specs.declared.Formula.{Formula}
use Rattle.formula_core.specs.declared.Formula.TheOpen.{Bound as BoundF}
use Rattle.formula_core.specs.declared.Formula.TheVariants.{Int, Free, Bound, Node, Bind}
use Rattle.formula_core.specs.declared.Formula.TheViews.{rolls-Bound}
use Rattle.formula_core.specs.Formulas.{instantiated, instantiated_step}
use Rattle.formula_core.proofs.Instantiation.{instantiated-Int, instantiated-Free, instantiated-Bound, instantiated-Node, instantiated-Bind}
use Rattle.instance_size.specs.declared.extent.Extent.{Extent}
use Rattle.instance_size.specs.Extents.{extent_of}
use Rattle.instance_size.specs.Private.{above, extent_of_parts, leaf}
use Rattle.instance_size.proofs.Extents.{extent-Bind, extent-Bound, extent-Free, extent-Int, extent-Node}

-- an index that no term replaces
past : (terms : List Formula) (at depth : ℕ) (t : Ty) → depth ≤ at → length terms ≤ at - depth → instantiated_step terms (BoundF at t) depth ≡ Bound (at - length terms) t
past terms at depth t h k = grind (arith, common_steps, slice_get_past (reverse terms) (at - depth), length-reverse, rolls-Bound)

pub at_past : (terms : List Formula) (at depth : ℕ) (t : Ty) → depth ≤ at → length terms ≤ at - depth → leaf ≡ extent_of (instantiated_step terms (BoundF at t) depth)
at_past terms at depth t h k = sym (ap extent_of (past terms at depth t h k) ∙ extent-Bound (at - length terms) t)

-- an index is below 2 ^ 32, so a depth above isn't told from 2 ^ 32
pub at_capped : (terms : List Formula) (at c d : ℕ) (t : Ty) → at < 2 ^ 32 → c ≡ min d (2 ^ 32) → instantiated_step terms (BoundF at t) c ≡ instantiated_step terms (BoundF at t) d
at_capped terms at c d t h e = grind (arith, common_steps)

module _ (terms : List Formula) (d : ℕ) where
  abbrev extent : Formula → Extent
  extent f = extent_of (instantiated terms d f)

  pub at_Int : (f : Formula) (n : ℤ) → f ≡ Int n → leaf ≡ extent f
  at_Int f n e = sym (ap extent e ∙ ap extent_of (instantiated-Int terms d n) ∙ extent-Int n)

  pub at_Free : (f : Formula) (x : List ℕ) (t : Ty) → f ≡ Free x t → leaf ≡ extent f
  at_Free f x t e = sym (ap extent e ∙ ap extent_of (instantiated-Free terms d x t) ∙ extent-Free x t)

  pub at_Bound : (f : Formula) (i : ℕ) (t : Ty) → f ≡ Bound i t → extent_of (instantiated_step terms (BoundF i t) d) ≡ extent f
  at_Bound f i t e = sym (ap extent e ∙ ap extent_of (instantiated-Bound terms d i t))

  pub at_Node : (f : Formula) (o : Op) (ps : List Formula) (t : Ty) → f ≡ Node o ps t → above (extent_of_parts (map (instantiated terms d) ps)) ≡ extent f
  at_Node f o ps t e = sym (ap extent e ∙ ap extent_of (instantiated-Node terms d o ps t) ∙ extent-Node o (map (instantiated terms d) ps) t)

  pub at_Bind : (f : Formula) (b : Binder) (ts : List Ty) (ps : List Formula) (t : Ty) → f ≡ Bind b ts ps t → above (extent_of_parts (map (instantiated terms (d + length ts)) ps)) ≡ extent f
  at_Bind f b ts ps t e = sym (ap extent e ∙ ap extent_of (instantiated-Bind terms d b ts ps t) ∙ extent-Bind b ts (map (instantiated terms (d + length ts)) ps) t)
