-- How large a formula is after a replacement, at an occurrence and elsewhere at each variant.
use Rattle.std.proofs.Common.{◌≡◌, ◌∙◌, sym, ap, ℕ, ℤ, false, true, map, List}
use Rattle.formula_core.specs.declared.Op.{Op}
use Rattle.formula_core.specs.declared.Binder.{Binder}
use Rattle.formula_core.specs.declared.Ty.{Ty}
use Rattle.formula_core.specs.declared.Formula.{Formula}
use Rattle.formula_core.specs.declared.Formula.TheVariants.{Int, Free, Bound, Node, Bind}
use Rattle.formula_core.specs.Same.{same_formula}
use Rattle.rule_table.specs.Rewriting.{replaced}
use Rattle.rules_sets.proofs.Replacing as replacing
use Rattle.instance_size.specs.Extents.{extent_of}
use Rattle.instance_size.specs.Private.{above, extent_of_parts, leaf}
use Rattle.instance_size.proofs.Extents.{extent-Bind, extent-Bound, extent-Free, extent-Int, extent-Node}

module _ (old new f : Formula) where
  pub at_occurrence : same_formula f old ≡ true → extent_of new ≡ extent_of (replaced old new f)
  at_occurrence h = sym (ap extent_of (replacing.at_occurrence old new f h))

  pub at_Int : (n : ℤ) → f ≡ Int n → same_formula f old ≡ false → leaf ≡ extent_of (replaced old new f)
  at_Int n e h = sym (ap extent_of (replacing.at_Int old new f n e h ∙ e) ∙ extent-Int n)

  pub at_Free : (x : List ℕ) (t : Ty) → f ≡ Free x t → same_formula f old ≡ false → leaf ≡ extent_of (replaced old new f)
  at_Free x t e h = sym (ap extent_of (replacing.at_Free old new f x t e h ∙ e) ∙ extent-Free x t)

  pub at_Bound : (i : ℕ) (t : Ty) → f ≡ Bound i t → same_formula f old ≡ false → leaf ≡ extent_of (replaced old new f)
  at_Bound i t e h = sym (ap extent_of (replacing.at_Bound old new f i t e h ∙ e) ∙ extent-Bound i t)

  pub at_Node : (o : Op) (ps : List Formula) (t : Ty) → f ≡ Node o ps t → same_formula f old ≡ false → above (extent_of_parts (map (replaced old new) ps)) ≡ extent_of (replaced old new f)
  at_Node o ps t e h = sym (ap extent_of (replacing.at_Node old new f o ps t e h) ∙ extent-Node o (map (replaced old new) ps) t)

  pub at_Bind : (b : Binder) (ts : List Ty) (ps : List Formula) (t : Ty) → f ≡ Bind b ts ps t → same_formula f old ≡ false
      → above (extent_of_parts (map (replaced old new) ps)) ≡ extent_of (replaced old new f)
  at_Bind b ts ps t e h = sym (ap extent_of (replacing.at_Bind old new f b ts ps t e h) ∙ extent-Bind b ts (map (replaced old new) ps) t)
