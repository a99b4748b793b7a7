-- Extents of formulas, variant by variant.
use Rattle.std.proofs.Common.{◌≡◌, ◌∙◌, sym, ap, refl, ℕ, ℤ, ◌+◌, ◌-◌, ◌^◌, ◌<◌, ◌++◌, get_or, min, max, length, map, sum, take, List, [], ◌∷◌, arith}
use Rattle.std.proofs.lemmas.Grind.{common_steps}
use Rattle.std.proofs.lemmas.List.{take_more}
use Rattle.formula_core.specs.declared.Op.{Op}
use Rattle.formula_core.specs.declared.Binder.{Binder}
use Rattle.formula_core.specs.declared.Ty.{Ty}
use Rattle.formula_core.specs.declared.Formula.{Formula}
use Rattle.formula_core.specs.declared.Formula.TheVariants.{Int, Free, Bound, Node, Bind}
use Rattle.formula_core.specs.Sizes.{formula_height, formula_nodes, greatest}
use Rattle.formula_core.proofs.Equations.{formula_height-Bind, formula_height-Node, formula_nodes-Bind, formula_nodes-Node}
use Rattle.condition_size.specs.Sizes.{clamped}
use Rattle.condition_size.proofs.ConditionSizes.{nodes-Int, nodes-Free, nodes-Bound, height-Int, height-Free, height-Bound}
use Rattle.instance_size.specs.declared.extent.Extent.{Extent}
use Rattle.instance_size.specs.Extents.{extent_of}
use Rattle.instance_size.specs.Private.{above, side_by_side, extent_of_parts, leaf, no_parts}

abbrev made : ℕ → ℕ → Extent
made n h = record { nodes = n; height = h }

extent-of : (n m h k : ℕ) → n ≡ m → h ≡ k → made n h ≡ made m k
extent-of n m h k e f = λ i. made (e i) (f i)

pub extent-Int : (n : ℤ) → extent_of (Int n) ≡ leaf
extent-Int n = extent-of _ _ _ _ (ap clamped (nodes-Int n)) (ap clamped (height-Int n))

pub extent-Free : (x : List ℕ) (t : Ty) → extent_of (Free x t) ≡ leaf
extent-Free x t = extent-of _ _ _ _ (ap clamped (nodes-Free x t)) (ap clamped (height-Free x t))

pub extent-Bound : (i : ℕ) (t : Ty) → extent_of (Bound i t) ≡ leaf
extent-Bound i t = extent-of _ _ _ _ (ap clamped (nodes-Bound i t)) (ap clamped (height-Bound i t))

one_more : (m : ℕ) → clamped (m + 1) ≡ clamped (clamped m + 1)
one_more m = omega arith

pub extent-Node : (o : Op) (ps : List Formula) (t : Ty) → extent_of (Node o ps t) ≡ above (extent_of_parts ps)
extent-Node o ps t = extent-of _ _ _ _
    (ap clamped (formula_nodes-Node o ps t) ∙ one_more (sum (map formula_nodes ps))) (ap clamped (formula_height-Node o ps t) ∙ one_more (greatest (map formula_height ps)))

pub extent-Bind : (b : Binder) (ts : List Ty) (ps : List Formula) (t : Ty) → extent_of (Bind b ts ps t) ≡ above (extent_of_parts ps)
extent-Bind b ts ps t = extent-of _ _ _ _
    (ap clamped (formula_nodes-Bind b ts ps t) ∙ one_more (sum (map formula_nodes ps))) (ap clamped (formula_height-Bind b ts ps t) ∙ one_more (greatest (map formula_height ps)))

-- one more part

sum-more : (ns : List ℕ) (n : ℕ) → sum (ns ++ n ∷ []) ≡ sum ns + n
sum-more ns n = grind (arith, common_steps)

greatest-more : (ns : List ℕ) (n : ℕ) → greatest (ns ++ n ∷ []) ≡ max (greatest ns) n
greatest-more [] n = omega arith
greatest-more (m ∷ ns) n = ap (max m) (greatest-more ns n) ∙ later m (greatest ns) n where
  later : (a b c : ℕ) → max a (max b c) ≡ max (max a b) c
  later a b c = omega arith

map-more : {X Y : Type 0} (f : X → Y) (xs : List X) (x : X) → map f (xs ++ x ∷ []) ≡ map f xs ++ f x ∷ []
map-more f [] x = refl
map-more f (y ∷ xs) x = ap (λ ys. f y ∷ ys) (map-more f xs x)

nodes_beside : (a b : ℕ) → clamped (a + b) ≡ clamped (clamped a + clamped b)
nodes_beside a b = omega arith

height_beside : (a b : ℕ) → clamped (max a b) ≡ max (clamped a) (clamped b)
height_beside a b = omega arith

pub extent-more : (fs : List Formula) (f : Formula) → extent_of_parts (fs ++ f ∷ []) ≡ side_by_side (extent_of_parts fs) (extent_of f)
extent-more fs f = extent-of _ _ _ _
    (ap (λ ns. clamped (sum ns)) (map-more formula_nodes fs f) ∙ ap clamped (sum-more (map formula_nodes fs) (formula_nodes f)) ∙ nodes_beside (sum (map formula_nodes fs)) (formula_nodes f))
    (ap (λ ns. clamped (greatest ns)) (map-more formula_height fs f) ∙ ap clamped (greatest-more (map formula_height fs) (formula_height f)) ∙ height_beside (greatest (map formula_height fs)) (formula_height f))

-- one item more of those whose images are counted
pub one-more : (g : Formula → Formula) (items : List Formula) (i : ℕ) (f : Formula) → i < length items → f ≡ get_or items i f
    → side_by_side (extent_of_parts (map g (take i items))) (extent_of (g f)) ≡ extent_of_parts (map g (take (i + 1) items))
one-more g items i f h e = sym (
    ap (λ fs. extent_of_parts (map g fs)) (take_more items i f h ∙ ap (λ x. take i items ++ x ∷ []) (sym e))
    ∙ ap extent_of_parts (map-more g (take i items) f)
    ∙ extent-more (map g (take i items)) (g f)
    )

pub extent-both : (f g : Formula) → extent_of_parts (f ∷ g ∷ []) ≡ side_by_side (extent_of f) (extent_of g)
extent-both f g = extent-of _ _ _ _ (nodes_of_both (formula_nodes f) (formula_nodes g)) (height_of_both (formula_height f) (formula_height g)) where
  nodes_of_both : (a b : ℕ) → clamped (0 + a + b) ≡ clamped (clamped a + clamped b)
  nodes_of_both a b = omega arith

  height_of_both : (a b : ℕ) → clamped (max a (max b 0)) ≡ max (clamped a) (clamped b)
  height_of_both a b = omega arith
