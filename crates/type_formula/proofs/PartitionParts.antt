-- Equal core forms of partitions of equally many sets have equal sets.
use Rattle.std.proofs.Common.{◌≡◌, ◌∙◌, sym, ap, refl, ℕ, suc, List, [], ◌∷◌, length, map, arith, length-append}
use Rattle.formula_core.specs.declared.ty.Ty.{Ty}
use Rattle.formula_core.specs.declared.ty.Ty.TheVariants as ty
use Rattle.formula_core.specs.declared.op.Op.{Op}
use Rattle.formula_core.specs.declared.op.Op.TheVariants as op
use Rattle.formula_core.specs.declared.op.Binder.{Binder}
use Rattle.formula_core.specs.declared.formula.Formula.{Formula, out-Formula}
use Rattle.formula_core.specs.declared.formula.Formula.TheVariants.{Node, Bind, Free, Bound}
use Rattle.formula_core.specs.declared.formula.Formula.TheOpen.{Formula-F, Node as NodeF, Bind as BindF, Free as FreeF, Bound as BoundF}
use Rattle.formula_core.specs.declared.formula.Formula.TheViews.{outs-Node, outs-Bind, outs-Free, outs-Bound}
use Rattle.formula_core.specs.Wellness.{type_of}
use Rattle.type_formula.specs.Partition.{left_nested, union_of, set_equality, disjoint, all_disjoint, partition_of}

abbrev parts_in : Formula-F Formula → List Formula
parts_in (NodeF o parts t) = parts
parts_in (BindF b ts parts t) = parts
parts_in _ = []

abbrev type_in : Formula-F Formula → Ty → Ty
type_in (NodeF o parts t) u = t
type_in (BindF b ts parts t) u = t
type_in (FreeF x t) u = t
type_in (BoundF i t) u = t
type_in _ u = u

abbrev bound_in : Formula-F Formula → List Ty
bound_in (BindF b ts parts t) = ts
bound_in _ = []

pub same_parts : (o : Op) (fs gs : List Formula) (t u : Ty) → Node o fs t ≡ Node o gs u → fs ≡ gs
same_parts o fs gs t u e = ap parts_in (sym (outs-Node o fs t) ∙ ap out-Formula e ∙ outs-Node o gs u)

pub same_type_of : (o : Op) (fs gs : List Formula) (t u : Ty) → Node o fs t ≡ Node o gs u → t ≡ u
same_type_of o fs gs t u e = ap (λ y. type_in y t) (sym (outs-Node o fs t) ∙ ap out-Formula e ∙ outs-Node o gs u)

pub same_free : (x : List ℕ) (t u : Ty) → Free x t ≡ Free x u → t ≡ u
same_free x t u e = ap (λ y. type_in y t) (sym (outs-Free x t) ∙ ap out-Formula e ∙ outs-Free x u)

pub same_bound : (i : ℕ) (t u : Ty) → Bound i t ≡ Bound i u → t ≡ u
same_bound i t u e = ap (λ y. type_in y t) (sym (outs-Bound i t) ∙ ap out-Formula e ∙ outs-Bound i u)

module _ (b : Binder) (ts us : List Ty) (fs gs : List Formula) (t u : Ty) (e : Bind b ts fs t ≡ Bind b us gs u) where
  opened : BindF b ts fs t ≡ BindF b us gs u
  opened = sym (outs-Bind b ts fs t) ∙ ap out-Formula e ∙ outs-Bind b us gs u

  pub same_binder_parts : fs ≡ gs
  same_binder_parts = ap parts_in opened

  pub same_binder_type : t ≡ u
  same_binder_type = ap (λ y. type_in y t) opened

  pub same_bound_types : ts ≡ us
  same_bound_types = ap bound_in opened

abbrev head_or : Formula → List Formula → Formula
head_or f [] = f
head_or f (g ∷ gs) = g

abbrev tail_of : List Formula → List Formula
tail_of [] = []
tail_of (g ∷ gs) = gs

pub same_heads : (f g : Formula) (fs gs : List Formula) → f ∷ fs ≡ g ∷ gs → f ≡ g
same_heads f g fs gs e = ap (head_or f) e

pub same_tails : (f g : Formula) (fs gs : List Formula) → f ∷ fs ≡ g ∷ gs → fs ≡ gs
same_tails f g fs gs e = ap tail_of e

-- two parts
first_of_two : (o : Op) (a b c d : Formula) (t u : Ty) → Node o (a ∷ b ∷ []) t ≡ Node o (c ∷ d ∷ []) u → a ≡ c
first_of_two o a b c d t u e = same_heads a c (b ∷ []) (d ∷ []) (same_parts o (a ∷ b ∷ []) (c ∷ d ∷ []) t u e)

second_of_two : (o : Op) (a b c d : Formula) (t u : Ty) → Node o (a ∷ b ∷ []) t ≡ Node o (c ∷ d ∷ []) u → b ≡ d
second_of_two o a b c d t u e = same_heads b d [] [] (same_tails a c (b ∷ []) (d ∷ []) (same_parts o (a ∷ b ∷ []) (c ∷ d ∷ []) t u e))

chain_same : (o : Op) (t : Ty) (f g : Formula) (fs gs : List Formula) → length fs ≡ length gs → left_nested o t f fs ≡ left_nested o t g gs → (f ≡ g) × (fs ≡ gs)
chain_same o t f g [] [] l e = (e, refl)
chain_same o t f g [] (b ∷ gs) l e = cc
chain_same o t f g (a ∷ fs) [] l e = cc
chain_same o t f g (a ∷ fs) (b ∷ gs) l e =
    let long : length fs ≡ length gs = omega arith in
    let rest = chain_same o t (Node o (f ∷ a ∷ []) t) (Node o (g ∷ b ∷ []) t) fs gs long e in
    let here = second_of_two o f a g b t t rest.0 in
    (first_of_two o f a g b t t rest.0, λ i. here i ∷ rest.1 i)

union_same : (t : Ty) (fs gs : List Formula) → length fs ≡ length gs → union_of t fs ≡ union_of t gs → fs ≡ gs
union_same t [] [] l e = refl
union_same t [] (b ∷ gs) l e = cc
union_same t (a ∷ fs) [] l e = cc
union_same t (a ∷ fs) (b ∷ gs) l e =
    let long : length fs ≡ length gs = omega arith in
    let both = chain_same op.Union t a b fs gs long e in
    λ i. both.0 i ∷ both.1 i

length-map : (f : Formula → Formula) (xs : List Formula) → length (map f xs) ≡ length xs
length-map f [] = refl
length-map f (x ∷ xs) = ap suc (length-map f xs)

disjoint_long : (t u : Ty) (fs gs : List Formula) → length fs ≡ length gs → length (all_disjoint t fs) ≡ length (all_disjoint u gs)
disjoint_long t u [] [] l = refl
disjoint_long t u [] (b ∷ gs) l = cc
disjoint_long t u (a ∷ fs) [] l = cc
disjoint_long t u (a ∷ fs) (b ∷ gs) l =
    let long : length fs ≡ length gs = omega arith in
    let rest = disjoint_long t u fs gs long in
    let p = length-append (map (disjoint t a) fs) (all_disjoint t fs) in
    let q = length-append (map (disjoint u b) gs) (all_disjoint u gs) in
    let m = length-map (disjoint t a) fs in
    let n = length-map (disjoint u b) gs in
    omega arith

pub partition_same : (fs gs : List Formula) → length fs ≡ length gs → partition_of fs ≡ partition_of gs → fs ≡ gs
partition_same [] [] l e = refl
partition_same [] (b ∷ gs) l e = cc
partition_same (a ∷ fs) [] l e = cc
partition_same (a ∷ fs) (b ∷ gs) l e =
    let long : length fs ≡ length gs = omega arith in
    let both = chain_same op.And ty.Truth (set_equality a (union_of (type_of a) fs)) (set_equality b (union_of (type_of b) gs)) (all_disjoint (type_of a) fs) (all_disjoint (type_of b) gs) (disjoint_long (type_of a) (type_of b) fs gs long) e in
    let set = first_of_two op.Equal a (union_of (type_of a) fs) b (union_of (type_of b) gs) ty.Truth ty.Truth both.0 in
    let unions = second_of_two op.Equal a (union_of (type_of a) fs) b (union_of (type_of b) gs) ty.Truth ty.Truth both.0 in
    let parts = union_same (type_of b) fs gs long (ap (λ f. union_of (type_of f) fs) (sym set) ∙ unions) in
    λ i. set i ∷ parts i
