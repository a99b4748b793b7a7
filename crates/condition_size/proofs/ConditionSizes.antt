-- The sizes of conditions are those that the connectives give.
use Rattle.std.proofs.Common.{◌≡◌, ◌∙◌, sym, ap, refl, ℕ, ℤ, ◌+◌, max, sum, Bool, true, false, List, [], ◌∷◌, map, pos, Some, None, length, if◌then◌else◌, arith, Option, fold, ◌≤◌, ◌<◌, get_or, ◌-◌, ◌^◌, min}
use Rattle.std.proofs.lemmas.List.Sums.{sum_by-cons}
use Rattle.std.specs.Option.{option_map_or}
use Rattle.std.specs.List.{AllByRecursion}
use Rattle.formula_core.specs.declared.Op.{Op}
use Rattle.formula_core.specs.declared.Op.TheVariants as op
use Rattle.formula_core.specs.declared.Binder.{Binder}
use Rattle.formula_core.specs.declared.Binder.TheVariants as binder
use Rattle.formula_core.specs.declared.Ty.{Ty, roll-Ty}
use Rattle.formula_core.specs.declared.Ty.TheOpen.{Ty-F, Int as IntT, Bool as BoolT, Given as GivenT, Pow as PowT, Pair as PairT, Truth as TruthT}
use Rattle.formula_core.specs.declared.Ty.TheVariants as ty
use Rattle.formula_core.specs.declared.Ty.TheVariants.{Truth}
use Rattle.formula_core.specs.declared.Ty.TheViews.{rolls-Int as rolls-IntT, rolls-Bool, rolls-Given, rolls-Pow, rolls-Pair, rolls-Truth}
use Rattle.formula_core.specs.declared.Ty.TheFolds.{map-Ty, para-roll-Ty}
use Rattle.formula_core.specs.declared.Formula.{Formula}
use Rattle.formula_core.specs.declared.Formula.TheOpen.{Int as IntF, Free as FreeF, Bound as BoundF, Node as NodeF}
use Rattle.formula_core.specs.declared.Formula.TheVariants.{Int, Free, Bound, Node, Bind}
use Rattle.formula_core.specs.declared.Formula.TheViews.{outs-Int, outs-Free, outs-Bound, outs-Node, outs-Bind, rolls-Int, rolls-Free, rolls-Bound}
use Rattle.formula_core.specs.Sizes.{formula_nodes_step, formula_nodes, formula_height_step, formula_height, greatest}
use Rattle.formula_core.specs.Shifting.{shifted, raised}
use Rattle.formula_core.specs.Types.{relation}
use Rattle.formula_core.specs.Wellness.{type_of}
use Rattle.formula_core.specs.WholeSets.{whole_set_step, whole_set}
use Rattle.formula_core.proofs.Equations.{formula_fold, formula_nodes-Node, formula_nodes-Bind, formula_height-Node, formula_height-Bind}
use Rattle.formula_core.proofs.Induction.{formula_induction}
use Rattle.formula_core.proofs.Depths.{shifted-Int, shifted-Free, shifted-Bound, shifted-Node, shifted-Bind}
use Rattle.condition_size.specs.declared.size.Size.{Size}
use Rattle.well_defined.specs.Predicates.{finite, unequal, not_empty, zero, at_most, less, bounded, bound_x, member, applicable, domain, partial_functions, predicate, top, conjunction, implication, disjunction, quantified}
use Rattle.well_defined.specs.Connectives.{is_top_at, is_top, conjoined, implied, alternative, for_every}
use Rattle.well_defined.specs.Conditions.{second_guarded, wd_of, unary_condition, binary_condition, own_condition, operands_condition, quantified_condition, binder_condition}
use Rattle.condition_size.specs.Sizes.{clamped, size_of}
use Rattle.condition_size.specs.Private.{plain_size, top_size, leaf_size, above_size, joined_size, conjoined_size, implied_size, alternative_size, for_every_size, second_guarded_size, not_empty_size, bounded_size, unary_size, applied_size, binary_size, quantified_size, guarded_size}

-- formulas without parts

pub nodes-Int : (n : ℤ) → formula_nodes (Int n) ≡ 1
nodes-Int n = formula_fold formula_nodes_step (IntF n) _ (rolls-Int n)

pub nodes-Free : (x : List ℕ) (t : Ty) → formula_nodes (Free x t) ≡ 1
nodes-Free x t = formula_fold formula_nodes_step (FreeF x t) _ (rolls-Free x t)

pub nodes-Bound : (i : ℕ) (t : Ty) → formula_nodes (Bound i t) ≡ 1
nodes-Bound i t = formula_fold formula_nodes_step (BoundF i t) _ (rolls-Bound i t)

pub height-Int : (n : ℤ) → formula_height (Int n) ≡ 1
height-Int n = formula_fold formula_height_step (IntF n) _ (rolls-Int n)

pub height-Free : (x : List ℕ) (t : Ty) → formula_height (Free x t) ≡ 1
height-Free x t = formula_fold formula_height_step (FreeF x t) _ (rolls-Free x t)

pub height-Bound : (i : ℕ) (t : Ty) → formula_height (Bound i t) ≡ 1
height-Bound i t = formula_fold formula_height_step (BoundF i t) _ (rolls-Bound i t)

abbrev made : ℕ → ℕ → Bool → Size
made n h b = record { nodes = n; height = h; top = b }

record-of : (n m h k : ℕ) (b c : Bool) → n ≡ m → h ≡ k → b ≡ c → made n h b ≡ made m k c
record-of n m h k b c e f g = λ i. made (e i) (f i) (g i)

pub size-Int : (n : ℤ) → size_of (Int n) ≡ leaf_size
size-Int n = record-of _ _ _ _ _ _ (ap clamped (nodes-Int n)) (ap clamped (height-Int n)) (ap is_top_at (outs-Int n))

pub size-Free : (x : List ℕ) (t : Ty) → size_of (Free x t) ≡ leaf_size
size-Free x t = record-of _ _ _ _ _ _ (ap clamped (nodes-Free x t)) (ap clamped (height-Free x t)) (ap is_top_at (outs-Free x t))

pub size-Bound : (i : ℕ) (t : Ty) → size_of (Bound i t) ≡ leaf_size
size-Bound i t = record-of _ _ _ _ _ _ (ap clamped (nodes-Bound i t)) (ap clamped (height-Bound i t)) (ap is_top_at (outs-Bound i t))

pub size-top : size_of top ≡ top_size
size-top = record-of _ _ _ _ _ _ (ap clamped (formula_nodes-Node op.Top [] Truth)) (ap clamped (formula_height-Node op.Top [] Truth)) (ap is_top_at (outs-Node op.Top [] Truth))

-- an operator other than ⊤, and a binder

size-none : (o : Op) (t : Ty) → is_top_at (NodeF o [] t) ≡ false → size_of (Node o [] t) ≡ leaf_size
size-none o t h = record-of _ _ _ _ _ _ (ap clamped (formula_nodes-Node o [] t)) (ap clamped (formula_height-Node o [] t)) (ap is_top_at (outs-Node o [] t) ∙ h)

nodes_above : (m : ℕ) → clamped (0 + m + 1) ≡ clamped (clamped m + 1)
nodes_above m = omega arith

height_above : (h : ℕ) → clamped (max h 0 + 1) ≡ clamped (clamped h + 1)
height_above h = omega arith

size-one : (o : Op) (f : Formula) (t : Ty) → is_top_at (NodeF o (f ∷ []) t) ≡ false → size_of (Node o (f ∷ []) t) ≡ above_size (size_of f)
size-one o f t h = record-of _ _ _ _ _ _
    (ap clamped (formula_nodes-Node o (f ∷ []) t) ∙ nodes_above (formula_nodes f))
    (ap clamped (formula_height-Node o (f ∷ []) t) ∙ height_above (formula_height f)) (ap is_top_at (outs-Node o (f ∷ []) t) ∙ h)

size-under : (b : Binder) (ts : List Ty) (f : Formula) (t : Ty) → size_of (Bind b ts (f ∷ []) t) ≡ above_size (size_of f)
size-under b ts f t = record-of _ _ _ _ _ _
    (ap clamped (formula_nodes-Bind b ts (f ∷ []) t) ∙ nodes_above (formula_nodes f))
    (ap clamped (formula_height-Bind b ts (f ∷ []) t) ∙ height_above (formula_height f)) (ap is_top_at (outs-Bind b ts (f ∷ []) t))

nodes_joined : (m n : ℕ) → clamped (0 + m + n + 1) ≡ clamped (clamped m + clamped n + 1)
nodes_joined m n = omega arith

height_joined : (h k : ℕ) → clamped (max h (max k 0) + 1) ≡ clamped (max (clamped h) (clamped k) + 1)
height_joined h k = omega arith

size-two : (o : Op) (f g : Formula) (t : Ty) → is_top_at (NodeF o (f ∷ g ∷ []) t) ≡ false → size_of (Node o (f ∷ g ∷ []) t) ≡ joined_size (size_of f) (size_of g)
size-two o f g t h = record-of _ _ _ _ _ _
    (ap clamped (formula_nodes-Node o (f ∷ g ∷ []) t) ∙ nodes_joined (formula_nodes f) (formula_nodes g))
    (ap clamped (formula_height-Node o (f ∷ g ∷ []) t) ∙ height_joined (formula_height f) (formula_height g)) (ap is_top_at (outs-Node o (f ∷ g ∷ []) t) ∙ h)

-- connectives

module _ (f g : Formula) where
  at_conjoined : (b c : Bool) → size_of (if b then g else (if c then f else conjunction f g)) ≡ (if b then size_of g else (if c then size_of f else joined_size (size_of f) (size_of g)))
  at_conjoined true c = refl
  at_conjoined false true = refl
  at_conjoined false false = size-two op.And f g Truth refl

  pub size-conjoined : size_of (conjoined f g) ≡ conjoined_size (size_of f) (size_of g)
  size-conjoined = at_conjoined (is_top f) (is_top g)

  at_implied : (b c : Bool) → size_of (if c then top else (if b then g else implication f g)) ≡ (if c then top_size else (if b then size_of g else joined_size (size_of f) (size_of g)))
  at_implied b true = size-top
  at_implied true false = refl
  at_implied false false = size-two op.Implies f g Truth refl

  pub size-implied : size_of (implied f g) ≡ implied_size (size_of f) (size_of g)
  size-implied = at_implied (is_top f) (is_top g)

  at_alternative : (b c : Bool) → size_of (if b then top else (if c then top else disjunction f g)) ≡ (if b then top_size else (if c then top_size else joined_size (size_of f) (size_of g)))
  at_alternative true c = size-top
  at_alternative false true = size-top
  at_alternative false false = size-two op.Or f g Truth refl

  pub size-alternative : size_of (alternative f g) ≡ alternative_size (size_of f) (size_of g)
  size-alternative = at_alternative (is_top f) (is_top g)

at_for_every : (types : List Ty) (p : Formula) (b : Bool) → size_of (if b then top else quantified binder.ForAll types p) ≡ (if b then top_size else above_size (size_of p))
at_for_every types p true = size-top
at_for_every types p false = size-under binder.ForAll types p Truth

pub size-for_every : (types : List Ty) (p : Formula) → size_of (for_every types p) ≡ for_every_size (size_of p)
size-for_every types p = at_for_every types p (is_top p)

pub size-quantified : (b : Binder) (types : List Ty) (p : Formula) → size_of (quantified b types p) ≡ above_size (size_of p)
size-quantified b types p = size-under b types p Truth

pub size-guarded : (o : Op) (p l m : Formula) → size_of (second_guarded o p l m) ≡ second_guarded_size o (size_of p) (size_of l) (size_of m)
size-guarded op.And p l m = size-conjoined l (implied p m) ∙ ap (conjoined_size (size_of l)) (size-implied p m)
size-guarded op.Implies p l m = size-conjoined l (implied p m) ∙ ap (conjoined_size (size_of l)) (size-implied p m)
size-guarded op.Or p l m = size-conjoined l (alternative p m) ∙ ap (conjoined_size (size_of l)) (size-alternative p m)
size-guarded _ p l m = size-conjoined l m

-- whole sets, which are never ⊤

whole_at : (x : Ty-F Ty) (t : Ty) → roll-Ty x ≡ t → whole_set t ≡ whole_set_step (map-Ty Ty (Ty × Formula) (λ y. (y, whole_set y)) x)
whole_at x t e = ap whole_set (sym e) ∙ para-roll-Ty Formula whole_set_step x

plain-none : (o : Op) (t : Ty) → plain_size (Node o [] t) ≡ leaf_size
plain-none o t = record-of _ _ _ _ _ _ (ap clamped (formula_nodes-Node o [] t)) (ap clamped (formula_height-Node o [] t)) refl

plain-one : (o : Op) (f : Formula) (t : Ty) → plain_size (Node o (f ∷ []) t) ≡ above_size (plain_size f)
plain-one o f t = record-of _ _ _ _ _ _
    (ap clamped (formula_nodes-Node o (f ∷ []) t) ∙ nodes_above (formula_nodes f)) (ap clamped (formula_height-Node o (f ∷ []) t) ∙ height_above (formula_height f)) refl

plain-two : (o : Op) (f g : Formula) (t : Ty) → plain_size (Node o (f ∷ g ∷ []) t) ≡ joined_size (plain_size f) (plain_size g)
plain-two o f g t = record-of _ _ _ _ _ _
    (ap clamped (formula_nodes-Node o (f ∷ g ∷ []) t) ∙ nodes_joined (formula_nodes f) (formula_nodes g))
    (ap clamped (formula_height-Node o (f ∷ g ∷ []) t) ∙ height_joined (formula_height f) (formula_height g)) refl

pub whole-Int : plain_size (whole_set ty.Int) ≡ leaf_size
whole-Int = ap plain_size (whole_at IntT ty.Int rolls-IntT) ∙ plain-none op.Integers _

pub whole-Bool : plain_size (whole_set ty.Bool) ≡ leaf_size
whole-Bool = ap plain_size (whole_at BoolT ty.Bool rolls-Bool) ∙ plain-none op.Booleans _

pub whole-Given : (x : List ℕ) → plain_size (whole_set (ty.Given x)) ≡ leaf_size
whole-Given x = ap plain_size (whole_at (GivenT x) (ty.Given x) (rolls-Given x))
    ∙ record-of _ _ _ _ _ _ (ap clamped (nodes-Free x _)) (ap clamped (height-Free x _)) refl

pub whole-Truth : plain_size (whole_set ty.Truth) ≡ leaf_size
whole-Truth = ap plain_size (whole_at TruthT ty.Truth rolls-Truth) ∙ plain-none op.EmptySet _

pub whole-Pow : (t : Ty) → plain_size (whole_set (ty.Pow t)) ≡ above_size (plain_size (whole_set t))
whole-Pow t = ap plain_size (whole_at (PowT t) (ty.Pow t) (rolls-Pow t)) ∙ plain-one op.PowerSet (whole_set t) _

pub whole-Pair : (t u : Ty) → plain_size (whole_set (ty.Pair t u)) ≡ joined_size (plain_size (whole_set t)) (plain_size (whole_set u))
whole-Pair t u = ap plain_size (whole_at (PairT t u) (ty.Pair t u) (rolls-Pair t u)) ∙ plain-two op.Product (whole_set t) (whole_set u) _

-- a shifted formula is as large as the formula

sum-cons : (n : ℕ) (ns : List ℕ) → sum (n ∷ ns) ≡ n + sum ns
sum-cons n ns = sum_by-cons (λ k. k) n ns

module _ (by : ℕ) where
  abbrev KeepsNodes : Formula → Type 0
  KeepsNodes f = (d : ℕ) → formula_nodes (shifted by d f) ≡ formula_nodes f

  each_nodes : (fs : List Formula) (d : ℕ) → AllByRecursion KeepsNodes fs → sum (map formula_nodes (map (shifted by d) fs)) ≡ sum (map formula_nodes fs)
  each_nodes [] d h = refl
  each_nodes (f ∷ fs) d h = sum-cons (formula_nodes (shifted by d f)) (map formula_nodes (map (shifted by d) fs)) ∙ (λ i. h.0 d i + each_nodes fs d h.1 i) ∙ sym (sum-cons (formula_nodes f) (map formula_nodes fs))

  pub shifted_nodes : (f : Formula) (d : ℕ) → formula_nodes (shifted by d f) ≡ formula_nodes f
  shifted_nodes = formula_induction KeepsNodes
      (λ n d. ap formula_nodes (shifted-Int by d n))
      (λ x t d. ap formula_nodes (shifted-Free by d x t))
      (λ i t d. ap formula_nodes (shifted-Bound by d i t ∙ rolls-Bound (raised by d i) t) ∙ nodes-Bound (raised by d i) t ∙ sym (nodes-Bound i t))
      (λ o ps t h d. ap formula_nodes (shifted-Node by d o ps t) ∙ formula_nodes-Node o _ t ∙ ap (λ n. n + 1) (each_nodes ps d h) ∙ sym (formula_nodes-Node o ps t))
      (λ b ts ps t h d. ap formula_nodes (shifted-Bind by d b ts ps t) ∙ formula_nodes-Bind b ts _ t ∙ ap (λ n. n + 1) (each_nodes ps (d + length ts) h) ∙ sym (formula_nodes-Bind b ts ps t))

  abbrev KeepsHeight : Formula → Type 0
  KeepsHeight f = (d : ℕ) → formula_height (shifted by d f) ≡ formula_height f

  each_height : (fs : List Formula) (d : ℕ) → AllByRecursion KeepsHeight fs → greatest (map formula_height (map (shifted by d) fs)) ≡ greatest (map formula_height fs)
  each_height [] d h = refl
  each_height (f ∷ fs) d h = λ i. max (h.0 d i) (each_height fs d h.1 i)

  pub shifted_height : (f : Formula) (d : ℕ) → formula_height (shifted by d f) ≡ formula_height f
  shifted_height = formula_induction KeepsHeight
      (λ n d. ap formula_height (shifted-Int by d n))
      (λ x t d. ap formula_height (shifted-Free by d x t))
      (λ i t d. ap formula_height (shifted-Bound by d i t ∙ rolls-Bound (raised by d i) t) ∙ height-Bound (raised by d i) t ∙ sym (height-Bound i t))
      (λ o ps t h d. ap formula_height (shifted-Node by d o ps t) ∙ formula_height-Node o _ t ∙ ap (λ n. n + 1) (each_height ps d h) ∙ sym (formula_height-Node o ps t))
      (λ b ts ps t h d. ap formula_height (shifted-Bind by d b ts ps t) ∙ formula_height-Bind b ts _ t ∙ ap (λ n. n + 1) (each_height ps (d + length ts) h) ∙ sym (formula_height-Bind b ts ps t))

-- what a form itself asks

size-finite : (s : Formula) → size_of (finite s) ≡ above_size (size_of s)
size-finite s = size-one op.Finite s Truth refl

size-unequal : (e f : Formula) → size_of (unequal e f) ≡ above_size (joined_size (size_of e) (size_of f))
size-unequal e f = size-one op.Not (predicate op.Equal (e ∷ f ∷ [])) Truth refl ∙ ap above_size (size-two op.Equal e f Truth refl)

size-not_empty : (s : Formula) → size_of (not_empty s) ≡ not_empty_size (size_of s)
size-not_empty s = size-unequal s (Node op.EmptySet [] (type_of s)) ∙ ap (λ z. above_size (joined_size (size_of s) z)) (size-none op.EmptySet (type_of s) refl)

size-zero : size_of zero ≡ leaf_size
size-zero = size-Int (pos 0)

size-nonzero : (f : Formula) → size_of (unequal f zero) ≡ above_size (joined_size (size_of f) leaf_size)
size-nonzero f = size-unequal f zero ∙ ap (λ z. above_size (joined_size (size_of f) z)) size-zero

size-at_most : (e f : Formula) → size_of (at_most e f) ≡ joined_size (size_of e) (size_of f)
size-at_most e f = size-two op.LessOrEqual e f Truth refl

size-modulo : (e f : Formula) → size_of (conjunction (at_most zero e) (less zero f)) ≡ joined_size (joined_size leaf_size (size_of e)) (joined_size leaf_size (size_of f))
size-modulo e f = size-two op.And (at_most zero e) (less zero f) Truth refl
    ∙ (λ i. joined_size (size-at_most zero e i) (size-two op.Less zero f Truth refl i))
    ∙ (λ i. joined_size (joined_size (size-zero i) (size_of e)) (joined_size (size-zero i) (size_of f)))

size-power : (e f : Formula) → size_of (conjunction (at_most zero e) (at_most zero f)) ≡ joined_size (joined_size leaf_size (size_of e)) (joined_size leaf_size (size_of f))
size-power e f = size-two op.And (at_most zero e) (at_most zero f) Truth refl
    ∙ (λ i. joined_size (size-at_most zero e i) (size-at_most zero f i))
    ∙ (λ i. joined_size (joined_size (size-zero i) (size_of e)) (joined_size (size-zero i) (size_of f)))

size-bounded : (s p : Formula) → size_of (bounded s p) ≡ above_size (above_size (joined_size (joined_size leaf_size (size_of s)) (size_of p)))
size-bounded s p =
    let inner = member bound_x (shifted 2 0 s) in
    size-under binder.Exists _ (quantified binder.ForAll (ty.Int ∷ []) (implication inner p)) Truth
    ∙ ap above_size (size-under binder.ForAll _ (implication inner p) Truth)
    ∙ ap (λ z. above_size (above_size z)) (size-two op.Implies inner p Truth refl)
    ∙ ap (λ z. above_size (above_size (joined_size z (size_of p)))) (size-two op.Member bound_x (shifted 2 0 s) Truth refl)
    ∙ (λ i. above_size (above_size (joined_size (joined_size (size-Bound 0 ty.Int i) (size_of (shifted 2 0 s))) (size_of p))))
    ∙ (λ i. above_size (above_size (joined_size (joined_size leaf_size (made (clamped (shifted_nodes 2 s 0 i)) (clamped (shifted_height 2 s 0 i)) false)) (size_of p))))

size-order : (i j : ℕ) → size_of (at_most (Bound i ty.Int) (Bound j ty.Int)) ≡ joined_size leaf_size leaf_size
size-order i j = size-at_most (Bound i ty.Int) (Bound j ty.Int) ∙ (λ k. joined_size (size-Bound i ty.Int k) (size-Bound j ty.Int k))

size-extremum : (s : Formula) (i j : ℕ) → size_of (conjunction (not_empty s) (bounded s (at_most (Bound i ty.Int) (Bound j ty.Int)))) ≡ joined_size (not_empty_size (size_of s)) (bounded_size (size_of s))
size-extremum s i j =
    let order = at_most (Bound i ty.Int) (Bound j ty.Int) in
    size-two op.And (not_empty s) (bounded s order) Truth refl
    ∙ (λ k. joined_size (size-not_empty s k) (size-bounded s order k))
    ∙ ap (λ z. joined_size (not_empty_size (size_of s)) (above_size (above_size (joined_size (joined_size leaf_size (size_of s)) z)))) (size-order i j)

abbrev applicable_to : Formula → Formula → Ty × Ty → Formula
applicable_to f e r = conjunction (member e (domain f r.0)) (member f (partial_functions r.0 r.1))

size-applicable_to : (f e : Formula) (r : Ty × Ty)
    → size_of (applicable_to f e r) ≡ joined_size (joined_size (size_of e) (above_size (size_of f))) (joined_size (size_of f) (joined_size (plain_size (whole_set r.0)) (plain_size (whole_set r.1))))
size-applicable_to f e r =
    size-two op.And (member e (domain f r.0)) (member f (partial_functions r.0 r.1)) Truth refl
    ∙ (λ k. joined_size (size-two op.Member e (domain f r.0) Truth refl k) (size-two op.Member f (partial_functions r.0 r.1) Truth refl k))
    ∙ (λ k. joined_size (joined_size (size_of e) (size-one op.Domain f (ty.Pow r.0) refl k)) (joined_size (size_of f) (size-two op.PartialFunctions (whole_set r.0) (whole_set r.1) (ty.Pow (ty.Pow (ty.Pair r.0 r.1))) refl k)))

at_relation : (f e : Formula) (o : Option (Ty × Ty)) → size_of (option_map_or (applicable_to f e) o top)
    ≡ option_map_or (λ (r : Ty × Ty). joined_size (joined_size (size_of e) (above_size (size_of f))) (joined_size (size_of f) (joined_size (plain_size (whole_set r.0)) (plain_size (whole_set r.1))))) o top_size
at_relation f e None = size-top
at_relation f e (Some r) = size-applicable_to f e r

size-applicable : (f e : Formula) → size_of (applicable f e) ≡ applied_size f (size_of f) (size_of e)
size-applicable f e = at_relation f e (relation (type_of f))

size-unary : (o : Op) (s : Formula) → size_of (unary_condition o s) ≡ unary_size o (size_of s)
size-unary op.Cardinality s = size-finite s
size-unary op.Minimum s = size-extremum s 1 0
size-unary op.Maximum s = size-extremum s 0 1
size-unary op.GeneralIntersection s = size-not_empty s
size-unary _ s = size-top

size-binary : (o : Op) (e f : Formula) → size_of (binary_condition o e f) ≡ binary_size o e (size_of e) (size_of f)
size-binary op.Divide e f = size-nonzero f
size-binary op.Modulo e f = size-modulo e f
size-binary op.Power e f = size-power e f
size-binary op.Apply e f = size-applicable e f
size-binary _ e f = size-top

-- what an operator asks of its parts

first_alone : (l : Formula) → size_of (conjoined top l) ≡ size_of l
first_alone l = size-conjoined top l ∙ ap (λ z. conjoined_size z (size_of l)) size-top

abbrev asked : Op → List Formula → Formula
asked o ps = conjoined (operands_condition o ps (map wd_of ps)) (own_condition o ps)

pub asks_one : (o : Op) (ps : List Formula) (s : Formula) (a l : Size) → ps ≡ s ∷ [] → a ≡ size_of s → l ≡ size_of (wd_of s)
    → conjoined_size l (unary_size o a) ≡ size_of (asked o ps)
asks_one o ps s a l e f g =
    (λ i. conjoined_size (g i) (unary_size o (f i)))
    ∙ (λ i. conjoined_size (sym (first_alone (wd_of s)) i) (sym (size-unary o s) i))
    ∙ sym (size-conjoined (conjoined top (wd_of s)) (unary_condition o s))
    ∙ ap (λ ps. size_of (asked o ps)) (sym e)

pub asks_two : (o : Op) (ps : List Formula) (p q : Formula) (a b l m : Size) → ps ≡ p ∷ q ∷ [] → a ≡ size_of p → b ≡ size_of q → l ≡ size_of (wd_of p) → m ≡ size_of (wd_of q)
    → conjoined_size (second_guarded_size o a l m) (binary_size o p a b) ≡ size_of (asked o ps)
asks_two o ps p q a b l m e f g h k =
    (λ i. conjoined_size (second_guarded_size o (f i) (h i) (k i)) (binary_size o p (f i) (g i)))
    ∙ (λ i. conjoined_size (sym (size-guarded o p (wd_of p) (wd_of q)) i) (sym (size-binary o p q) i))
    ∙ sym (size-conjoined (second_guarded o p (wd_of p) (wd_of q)) (binary_condition o p q))
    ∙ ap (λ ps. size_of (asked o ps)) (sym e)

asks_each : (f : Formula) → conjoined_size (size_of f) top_size ≡ size_of (conjoined f top)
asks_each f = ap (conjoined_size (size_of f)) (sym size-top) ∙ sym (size-conjoined f top)

pub asks_all : (o : Op) (ps : List Formula) (a : Size) → (length ps ≡ 1 → ⊥) → (length ps ≡ 2 → ⊥) → a ≡ size_of (fold conjoined top (map wd_of ps))
    → conjoined_size a top_size ≡ size_of (asked o ps)
asks_all o [] a h k e = ap (λ z. conjoined_size z top_size) e ∙ asks_each top
asks_all o (s ∷ []) a h k e = absurd (h refl)
asks_all o (p ∷ q ∷ []) a h k e = absurd (k refl)
asks_all o (p ∷ q ∷ r ∷ ps) a h k e = ap (λ z. conjoined_size z top_size) e ∙ asks_each (fold conjoined top (map wd_of (p ∷ q ∷ r ∷ ps)))

-- what a binder asks

size-quantified_condition : (b : Binder) (types : List Ty) (p : Formula) → size_of (quantified_condition b types p) ≡ quantified_size b (size_of p)
size-quantified_condition binder.QuantifiedIntersection types p = size-quantified binder.Exists types p
size-quantified_condition _ types p = size-top

abbrev bound : Binder → List Ty → List Formula → Formula
bound b types ps = binder_condition b types ps (map wd_of ps)

pub binds_one : (b : Binder) (types : List Ty) (ps : List Formula) (p : Formula) (l : Size) → ps ≡ p ∷ [] → l ≡ size_of (wd_of p) → for_every_size l ≡ size_of (bound b types ps)
binds_one b types ps p l e f = ap for_every_size f ∙ sym (size-for_every types (wd_of p)) ∙ ap (λ ps. size_of (bound b types ps)) (sym e)

pub binds_two : (b : Binder) (types : List Ty) (ps : List Formula) (p q : Formula) (a l m : Size) → ps ≡ p ∷ q ∷ [] → a ≡ size_of p → l ≡ size_of (wd_of p) → m ≡ size_of (wd_of q)
    → guarded_size b a l m ≡ size_of (bound b types ps)
binds_two b types ps p q a l m e f g h =
    (λ i. guarded_size b (f i) (g i) (h i))
    ∙ (λ i. conjoined_size (for_every_size (conjoined_size (size_of (wd_of p)) (sym (size-implied p (wd_of q)) i))) (sym (size-quantified_condition b types p) i))
    ∙ (λ i. conjoined_size (for_every_size (sym (size-conjoined (wd_of p) (implied p (wd_of q))) i)) (size_of (quantified_condition b types p)))
    ∙ (λ i. conjoined_size (sym (size-for_every types (conjoined (wd_of p) (implied p (wd_of q)))) i) (size_of (quantified_condition b types p)))
    ∙ sym (size-conjoined (for_every types (conjoined (wd_of p) (implied p (wd_of q)))) (quantified_condition b types p))
    ∙ ap (λ ps. size_of (bound b types ps)) (sym e)

pub binds_none : (b : Binder) (types : List Ty) (ps : List Formula) → (length ps ≡ 1 → ⊥) → (length ps ≡ 2 → ⊥) → top_size ≡ size_of (bound b types ps)
binds_none b types [] h k = sym size-top
binds_none b types (s ∷ []) h k = absurd (h refl)
binds_none b types (p ∷ q ∷ []) h k = absurd (k refl)
binds_none b types (p ∷ q ∷ r ∷ ps) h k = sym size-top

pub one_item : {X : Type 0} → (xs : List X) (x : X) → 1 ≤ length xs → length xs < 2 → x ≡ get_or xs 0 x → xs ≡ x ∷ []
one_item [] x h k e = absurd (omega arith)
one_item (a ∷ []) x h k e = λ i. sym e i ∷ []
one_item (a ∷ b ∷ xs) x h k e = absurd (omega arith)

pub two_items : {X : Type 0} → (xs : List X) (x y : X) → 2 ≤ length xs → length xs < 3 → x ≡ get_or xs 0 x → y ≡ get_or xs 1 y → xs ≡ x ∷ y ∷ []
two_items [] x y h k e f = absurd (omega arith)
two_items (a ∷ []) x y h k e f = absurd (omega arith)
two_items (a ∷ b ∷ []) x y h k e f = λ i. sym e i ∷ sym f i ∷ []
two_items (a ∷ b ∷ d ∷ xs) x y h k e f = absurd (omega arith)

nodes_beside : (a b : ℕ) → clamped (clamped a + clamped b) ≡ clamped (0 + a + b)
nodes_beside a b = omega arith

height_beside : (a b : ℕ) → max (clamped a) (clamped b) ≡ clamped (max a (max b 0))
height_beside a b = omega arith

pub both_nodes : (ps : List Formula) (p q : Formula) (a b : Size) → ps ≡ p ∷ q ∷ [] → a ≡ size_of p → b ≡ size_of q → clamped (a.nodes + b.nodes) ≡ clamped (sum (map formula_nodes ps))
both_nodes ps p q a b e f g = (λ i. clamped ((f i).nodes + (g i).nodes)) ∙ nodes_beside (formula_nodes p) (formula_nodes q) ∙ ap (λ ps. clamped (sum (map formula_nodes ps))) (sym e)

pub both_heights : (ps : List Formula) (p q : Formula) (a b : Size) → ps ≡ p ∷ q ∷ [] → a ≡ size_of p → b ≡ size_of q → max a.height b.height ≡ clamped (greatest (map formula_height ps))
both_heights ps p q a b e f g = (λ i. max (f i).height (g i).height) ∙ height_beside (formula_height p) (formula_height q) ∙ ap (λ ps. clamped (greatest (map formula_height ps))) (sym e)

pub ruleset whole_sets = (whole-Int, whole-Bool, whole-Given, whole-Truth, whole-Pow, whole-Pair)

pub ruleset variants = (size-Int, size-Free, size-Bound, formula_nodes-Node, formula_nodes-Bind, formula_height-Node, formula_height-Bind, size-top)

pub ruleset connectives = (size-top, size-conjoined)
