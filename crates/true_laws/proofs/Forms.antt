-- What a formula is that a law or a kind of rule takes apart.
use Rattle.std.proofs.Common.{Bool, List, None, Option, Some, [], ap, false, refl, subst, true, ◌==◌, ◌∙◌, ◌∷◌, ◌≡◌}
use Rattle.std.specs.Option.{option_and_then, option_map}
use Rattle.std.specs.Prelude.{if◌then◌else◌}
use Rattle.formula_core.proofs.SameFormulas.{binder_exact, operator_exact}
use Rattle.formula_core.specs.Numbers.{binder_number_of, number_of}
use Rattle.formula_core.specs.Types.{members, relation}
use Rattle.formula_core.specs.Wellness.{type_of}
use Rattle.formula_core.specs.declared.Binder.{Binder}
use Rattle.formula_core.specs.declared.Formula.{Formula, out-Formula}
use Rattle.formula_core.specs.declared.Formula.TheOpen.{Bind as BindF, Formula-F, Node as NodeF}
use Rattle.formula_core.specs.declared.Formula.TheVariants.{Bind, Node}
use Rattle.formula_core.specs.declared.Op.{Op}
use Rattle.formula_core.specs.declared.Ty.{Ty}
use Rattle.formula_core.specs.declared.Ty.TheVariants as ty
use Rattle.formula_core.specs.declared.formula.Formula.TheViews.{roll-Formula, roll-out-Formula, rolls-Bind, rolls-Node}
use Rattle.rule_table.specs.Shapes.{bound_at, of_relation, of_set, on_none, on_none_of, on_one, on_two, one_bound, one_of, operand, operands, operands_at, parts_of_binder, two_bound, two_of, two_operands, under_binder, under_two}
use Rattle.meanings.proofs.Types.{relation_is, set_is}

-- what an optional value was made of
pub made_of : {A X : Type 0} → (make : A → Option X) (o : Option A) (x : X) → option_and_then make o ≡ Some x
    → (a : A) × (o ≡ Some a) × (make a ≡ Some x)
made_of make None x h = absurd cc
made_of make (Some a) x h = (a, refl, h)

pub mapped_of : {A X : Type 0} → (f : A → X) (o : Option A) (x : X) → option_map f o ≡ Some x
    → (a : A) × (o ≡ Some a) × (f a ≡ x)
mapped_of f None x h = absurd cc
mapped_of f (Some a) x h = (a, refl, cc)

pub if_tells : {X : Type 0} → (b : Bool) (o : Option X) (x : X) → (if b then o else None) ≡ Some x
    → (b ≡ true) × (o ≡ Some x)
if_tells true o x h = (refl, h)
if_tells false o x h = absurd cc

-- a node of an operator, and a binder
pub node_is : (o : Op) (f : Formula) (ps : List Formula) → operands o f ≡ Some ps → (t : Ty) × (f ≡ Node o ps t)
node_is o f ps h = subst (λ f. (t : Ty) × (f ≡ Node o ps t)) (roll-out-Formula f) (at (out-Formula f) h)
  where
    at : (x : Formula-F Formula) → operands_at o x ≡ Some ps → (t : Ty) × (roll-Formula x ≡ Node o ps t)
    at (NodeF a parts t) k =
        let (same, is) = if_tells (number_of a == number_of o) (Some parts) ps k in let e : parts ≡ ps = cc in
        (t, rolls-Node a parts t ∙ (λ i. Node (operator_exact a o same i) (e i) t))
    at _ k = absurd cc

binder_is : (b : Binder) (f : Formula) (x : List Ty × List Formula) → parts_of_binder b f ≡ Some x
    → (t : Ty) × (f ≡ Bind b x.0 x.1 t)
binder_is b f x h = subst (λ f. (t : Ty) × (f ≡ Bind b x.0 x.1 t)) (roll-out-Formula f) (at (out-Formula f) h)
  where
    at : (y : Formula-F Formula) → bound_at b y ≡ Some x → (t : Ty) × (roll-Formula y ≡ Bind b x.0 x.1 t)
    at (BindF a own parts t) k =
        let (same, is) = if_tells (binder_number_of a == binder_number_of b) (Some (own, parts)) x k in
        let e : (own, parts) ≡ x = cc in
        (t, rolls-Bind a own parts t ∙ (λ i. Bind (binder_exact a b same i) (e i).0 (e i).1 t))
    at _ k = absurd cc

one_is : (ps : List Formula) (p : Formula) → one_of ps ≡ Some p → ps ≡ p ∷ []
one_is (a ∷ []) p h = let e : a ≡ p = cc in λ i. e i ∷ []
one_is _ p h = absurd cc

pub two_is : (ps : List Formula) (x : Formula × Formula) → two_of ps ≡ Some x → ps ≡ x.0 ∷ x.1 ∷ []
two_is (a ∷ b ∷ []) x h = let e : (a, b) ≡ x = cc in λ i. (e i).0 ∷ (e i).1 ∷ []
two_is _ x h = absurd cc

module _ {X : Type 0} (result : X) where
  pub is_on_none : (o : Op) (f : Formula) (made : Option X) → on_none o f made ≡ Some result
      → (t : Ty) × (f ≡ Node o [] t) × (made ≡ Some result)
  is_on_none o f made h =
      let (ps, found, k) = made_of (on_none_of made) (operands o f) result h in
      let (t, is) = node_is o f ps found in none ps t is k
    where
      none : (ps : List Formula) (t : Ty) → f ≡ Node o ps t → on_none_of made ps ≡ Some result
          → (t : Ty) × (f ≡ Node o [] t) × (made ≡ Some result)
      none [] t is k = (t, is, k)
      none (p ∷ ps) t is k = absurd cc

  pub is_on_one : (o : Op) (f : Formula) (make : Formula → Option X) → on_one o f make ≡ Some result
      → (p : Formula) × (t : Ty) × (f ≡ Node o (p ∷ []) t) × (make p ≡ Some result)
  is_on_one o f make h =
      let (p, one, made) = made_of make (operand o f) result h in
      let (ps, found, k) = made_of one_of (operands o f) p one in
      let (t, is) = node_is o f ps found in
      (p, t, is ∙ ap (λ ps. Node o ps t) (one_is ps p k), made)

  pub is_on_two : (o : Op) (f : Formula) (make : Formula → Formula → Option X) → on_two o f make ≡ Some result
      → (p : Formula) × (q : Formula) × (t : Ty) × (f ≡ Node o (p ∷ q ∷ []) t) × (make p q ≡ Some result)
  is_on_two o f make h =
      let (x, two, made) = made_of (λ (x : Formula × Formula). make x.0 x.1) (two_operands o f) result h in
      let (ps, found, k) = made_of two_of (operands o f) x two in
      let (t, is) = node_is o f ps found in
      (x.0, x.1, t, is ∙ ap (λ ps. Node o ps t) (two_is ps x k), made)

  -- a binder with one part, and with two
  pub is_under : (b : Binder) (f : Formula) (make : List Ty → Formula → Option X) → under_binder b f make ≡ Some result
      → (own : List Ty) × (p : Formula) × (t : Ty) × (f ≡ Bind b own (p ∷ []) t) × (make own p ≡ Some result)
  is_under b f make h =
      let (x, one, made) = made_of (λ (x : List Ty × Formula). make x.0 x.1) (one_bound b f) result h in
      let (y, found, k) = made_of (λ (y : List Ty × List Formula). option_map (λ p. (y.0, p)) (one_of y.1))
      (parts_of_binder b f) x one in
      let (p, l, e) = mapped_of (λ p. (y.0, p)) (one_of y.1) x k in
      let (t, is) = binder_is b f y found in
      (x.0, x.1, t, is ∙ (λ i. Bind b (e i).0 (one_is y.1 p l i) t) ∙ (λ i. Bind b x.0 ((e i).1 ∷ []) t), made)

  pub is_under_two : (b : Binder) (f : Formula) (make : List Ty → Formula → Formula → Option X)
      → under_two b f make ≡ Some result
      → (own : List Ty) × (p : Formula) × (q : Formula) × (t : Ty) × (f ≡ Bind b own (p ∷ q ∷ []) t)
      × (make own p q ≡ Some result)
  is_under_two b f make h =
      let (x, two, made) = made_of (λ (x : List Ty × Formula × Formula). make x.0 x.1 x.2) (two_bound b f) result h in
      let (y, found, k) = made_of
      (λ (y : List Ty × List Formula). option_map (λ (p : Formula × Formula). (y.0, p.0, p.1)) (two_of y.1))
      (parts_of_binder b f) x two in
      let (p, l, e) = mapped_of (λ (p : Formula × Formula). (y.0, p.0, p.1)) (two_of y.1) x k in
      let (t, is) = binder_is b f y found in (
        x.0,
        x.1,
        x.2,
        t,
        is ∙ (λ i. Bind b (e i).0 (two_is y.1 p l i) t)
            ∙ (λ i. Bind b x.0 ((e i).1 ∷ (e i).2 ∷ []) t),
        made,
      )

-- the type of a set, and of a relation
pub is_of_set : {X : Type 0} → (f : Formula) (make : Ty → Option X) (x : X) → of_set f make ≡ Some x
    → (α : Ty) × (type_of f ≡ ty.Pow α) × (make α ≡ Some x)
is_of_set f make x h = let (α, is, made) = made_of make (members (type_of f)) x h in (α, set_is (type_of f) α is, made)

pub is_of_relation : {X : Type 0} → (f : Formula) (make : Ty → Ty → Option X) (x : X) → of_relation f make ≡ Some x
    → (α : Ty) × (β : Ty) × (type_of f ≡ ty.Pow (ty.Pair α β)) × (make α β ≡ Some x)
is_of_relation f make x h =
    let (t, is, made) = made_of (λ (t : Ty × Ty). make t.0 t.1) (relation (type_of f)) x h in
    (t.0, t.1, relation_is (type_of f) t is, made)
