-- The tests of sameness are exact.
use Rattle.std.proofs.Common.{◌≡◌, ◌∙◌, sym, ap, subst, refl, ℕ, ℤ, Bool, true, false, ◌&&◌, ◌==◌, ◌↔◌, IsTrue, List, [], ◌∷◌, map, Some, slice_get}
use Rattle.std.specs.Prelude.{bytes_eq}
use Rattle.std.specs.List.{AllByRecursion}
use Rattle.std.specs.Cmp.Lexicographic.{same_text}
use Rattle.std.proofs.lemmas.Bool.{eqb-true, eq-eqb}
use Rattle.std.proofs.lemmas.Bool.Decides.{Decides-int_eq}
use Rattle.std.proofs.lemmas.Cmp.{nat_list_eq_equiv, int_eq_equiv}
use Rattle.formula_core.specs.declared.op.Op.{Op}
use Rattle.formula_core.specs.declared.op.Op.TheVariants as op
use Rattle.formula_core.specs.declared.op.Binder.{Binder}
use Rattle.formula_core.specs.declared.op.Binder.TheVariants as binder
use Rattle.formula_core.specs.declared.op.TheConstants.{OPERATORS, BINDERS}
use Rattle.formula_core.specs.declared.ty.Ty.{Ty}
use Rattle.formula_core.specs.declared.formula.Formula.{Formula, out-Formula}
use Rattle.formula_core.specs.declared.formula.Formula.TheOpen.{Formula-F, Int as IntF, Free as FreeF, Bound as BoundF, Node as NodeF, Bind as BindF}
use Rattle.formula_core.specs.declared.formula.Formula.TheVariants.{Int, Free, Bound, Node, Bind}
use Rattle.formula_core.specs.declared.formula.Formula.TheViews.{roll-Formula, roll-out-Formula, rolls-Int, rolls-Free, rolls-Bound, rolls-Node, rolls-Bind, outs-Int, outs-Free, outs-Bound, outs-Node, outs-Bind}
use Rattle.formula_core.specs.declared.formula.Formula.TheFolds.{map-Formula, fold-roll-Formula}
use Rattle.formula_core.specs.declared.raw.Action.{Action}
use Rattle.formula_core.specs.declared.raw.Action.TheVariants.{Assign, ChooseIn, ChooseSuch}
use Rattle.formula_core.specs.Numbers.{number_of, binder_number_of}
use Rattle.formula_core.specs.Same.{all_pass, same_list, same_formula_step, same_formula, same_value, same_target, same_action, same_actions}
use Rattle.formula_core.specs.Types.{same_type}
use Rattle.formula_core.proofs.Induction.{formula_induction}
use Rattle.formula_core.proofs.Types.{same_type_exact}
use Rattle.formula_core.proofs.Weakening.{first_true, second_true, both_true}
use Rattle.formula_core.proofs.WholeSets.{same_type_refl}

pub operator_at : (o : Op) → slice_get OPERATORS (number_of o) ≡ Some o
operator_at op.Top = refl
operator_at _ = refl

pub binder_at : (b : Binder) → slice_get BINDERS (binder_number_of b) ≡ Some b
binder_at binder.ForAll = refl
binder_at _ = refl

pub operator_exact : (a b : Op) → (number_of a == number_of b) ≡ true → a ≡ b
operator_exact a b h =
    let e : Some a ≡ Some b = sym (operator_at a) ∙ ap (slice_get OPERATORS) (eqb-true (number_of a) (number_of b) h) ∙ operator_at b in cc

pub binder_exact : (a b : Binder) → (binder_number_of a == binder_number_of b) ≡ true → a ≡ b
binder_exact a b h =
    let e : Some a ≡ Some b = sym (binder_at a) ∙ ap (slice_get BINDERS) (eqb-true (binder_number_of a) (binder_number_of b) h) ∙ binder_at b in cc

name_exact : (x y : List ℕ) → bytes_eq x y ≡ true → x ≡ y
name_exact x y h = same_text x y (sym h)

name_same : (x : List ℕ) → bytes_eq x x ≡ true
name_same x = nat_list_eq_equiv.refl x

-- a test that is exact on elements is exact on lists
module _ {X : Type 0} (test : X → X → Bool) where
  list_exact : ((x y : X) → test x y ≡ true → x ≡ y) → (xs ys : List X) → same_list test xs ys ≡ true → xs ≡ ys
  list_exact exact [] [] h = refl
  list_exact exact [] (y ∷ ys) h = cc
  list_exact exact (x ∷ xs) [] h = cc
  list_exact exact (x ∷ xs) (y ∷ ys) h = λ i. exact x y (first_true (test x y) _ h) i ∷ list_exact exact xs ys (second_true (test x y) _ h) i

  list_same : ((x : X) → test x x ≡ true) → (xs : List X) → same_list test xs xs ≡ true
  list_same same [] = refl
  list_same same (x ∷ xs) = both_true _ _ (same x) (list_same same xs)

  -- what is true exactly where two values are the same is each exact test
  one_test : ((x y : X) → test x y ≡ true → x ≡ y) → ((x : X) → test x x ≡ true) → (b : Bool) (x y : X) → (IsTrue b ↔ (x ≡ y)) → b ≡ test x y
  one_test exact same b x y k = go b (test x y) refl refl
    where
      go : (c d : Bool) → b ≡ c → test x y ≡ d → b ≡ test x y
      go true true e f = e ∙ sym f
      go false false e f = e ∙ sym f
      go true false e f = let one : x ≡ y = k.0 e in let d : test x y ≡ true = subst (λ z. test x z ≡ true) one (same x) in cc
      go false true e f = let c : b ≡ true = k.1 (exact x y f) in cc

abbrev IsExact : Formula → Type 0
IsExact f = (g : Formula) → same_formula f g ≡ true → f ≡ g

parts_exact : (fs gs : List Formula) → AllByRecursion IsExact fs → all_pass (map same_formula fs) gs ≡ true → fs ≡ gs
parts_exact [] [] each h = refl
parts_exact [] (g ∷ gs) each h = cc
parts_exact (f ∷ fs) [] each h = cc
parts_exact (f ∷ fs) (g ∷ gs) each h = λ i. each.0 g (first_true (same_formula f g) _ h) i ∷ parts_exact fs gs each.1 (second_true (same_formula f g) _ h) i

abbrev Step : Formula-F Formula → Formula-F Formula → Bool
Step x = same_formula_step (map-Formula Formula (Formula → Bool) same_formula x)

at : (x : Formula-F Formula) (f : Formula) → roll-Formula x ≡ f → (g : Formula) → same_formula f g ≡ Step x (out-Formula g)
at x f e g = ap (λ s. same_formula s g) (sym e) ∙ ap (λ t. t g) (fold-roll-Formula (Formula → Bool) (λ s v. same_formula_step s (out-Formula v)) x)

opened : (x : Formula-F Formula) (f : Formula) → roll-Formula x ≡ f → ((y : Formula-F Formula) → Step x y ≡ true → x ≡ y) → IsExact f
opened x f e same g h = sym e ∙ ap roll-Formula (same (out-Formula g) (sym (at x f e g) ∙ h)) ∙ roll-out-Formula g

at_int : (n : ℤ) (y : Formula-F Formula) → Step (IntF n) y ≡ true → IntF n ≡ y
at_int n (IntF m) h = ap IntF ((Decides-int_eq n m).0 h)
at_int n (FreeF a t) h = cc
at_int n (BoundF a t) h = cc
at_int n (NodeF o ps t) h = cc
at_int n (BindF b ts ps t) h = cc

at_free : (name : List ℕ) (t : Ty) (y : Formula-F Formula) → Step (FreeF name t) y ≡ true → FreeF name t ≡ y
at_free name t (IntF m) h = cc
at_free name t (FreeF a u) h = λ i. FreeF (name_exact name a (first_true (bytes_eq name a) _ h) i) (same_type_exact t u (second_true (bytes_eq name a) _ h) i)
at_free name t (BoundF a u) h = cc
at_free name t (NodeF o ps u) h = cc
at_free name t (BindF b ts ps u) h = cc

at_bound : (k : ℕ) (t : Ty) (y : Formula-F Formula) → Step (BoundF k t) y ≡ true → BoundF k t ≡ y
at_bound k t (IntF m) h = cc
at_bound k t (FreeF a u) h = cc
at_bound k t (BoundF a u) h = λ i. BoundF (eqb-true k a (first_true (k == a) _ h) i) (same_type_exact t u (second_true (k == a) _ h) i)
at_bound k t (NodeF o ps u) h = cc
at_bound k t (BindF b ts ps u) h = cc

at_node : (a : Op) (fs : List Formula) (t : Ty) → AllByRecursion IsExact fs → (y : Formula-F Formula) → Step (NodeF a fs t) y ≡ true → NodeF a fs t ≡ y
at_node a fs t each (IntF m) h = cc
at_node a fs t each (FreeF n u) h = cc
at_node a fs t each (BoundF n u) h = cc
at_node a fs t each (NodeF b gs u) h =
    let parts : Bool = all_pass (map same_formula fs) gs in
    let front : (number_of a == number_of b && parts) ≡ true = first_true _ _ h in
    λ i. NodeF (operator_exact a b (first_true _ _ front) i) (parts_exact fs gs each (second_true (number_of a == number_of b) _ front) i)
    (same_type_exact t u (second_true (number_of a == number_of b && parts) _ h) i)
at_node a fs t each (BindF b ts gs u) h = cc

at_bind : (a : Binder) (ts : List Ty) (fs : List Formula) (t : Ty) → AllByRecursion IsExact fs → (y : Formula-F Formula) → Step (BindF a ts fs t) y ≡ true → BindF a ts fs t ≡ y
at_bind a ts fs t each (IntF m) h = cc
at_bind a ts fs t each (FreeF n u) h = cc
at_bind a ts fs t each (BoundF n u) h = cc
at_bind a ts fs t each (NodeF b gs u) h = cc
at_bind a ts fs t each (BindF b us gs u) h =
    let parts : Bool = all_pass (map same_formula fs) gs in
    let types : Bool = same_list same_type ts us in
    let three : (binder_number_of a == binder_number_of b && types && parts) ≡ true = first_true _ _ h in
    let two : (binder_number_of a == binder_number_of b && types) ≡ true = first_true _ _ three in
    λ i. BindF (binder_exact a b (first_true _ _ two) i) (list_exact same_type same_type_exact ts us (second_true (binder_number_of a == binder_number_of b) _ two) i)
    (parts_exact fs gs each (second_true (binder_number_of a == binder_number_of b && types) _ three) i)
    (same_type_exact t u (second_true (binder_number_of a == binder_number_of b && types && parts) _ h) i)

-- formulas that the test finds the same are the same
pub same_formula_exact : (f g : Formula) → same_formula f g ≡ true → f ≡ g
same_formula_exact = formula_induction IsExact
    (λ n. opened (IntF n) (Int n) (rolls-Int n) (at_int n))
    (λ name t. opened (FreeF name t) (Free name t) (rolls-Free name t) (at_free name t))
    (λ k t. opened (BoundF k t) (Bound k t) (rolls-Bound k t) (at_bound k t))
    (λ o fs t each. opened (NodeF o fs t) (Node o fs t) (rolls-Node o fs t) (at_node o fs t each))
    (λ b ts fs t each. opened (BindF b ts fs t) (Bind b ts fs t) (rolls-Bind b ts fs t) (at_bind b ts fs t each))

abbrev IsSame : Formula → Type 0
IsSame f = same_formula f f ≡ true

parts_same : (fs : List Formula) → AllByRecursion IsSame fs → all_pass (map same_formula fs) fs ≡ true
parts_same [] each = refl
parts_same (f ∷ fs) each = both_true _ _ each.0 (parts_same fs each.1)

same_at : (x : Formula-F Formula) (f : Formula) → roll-Formula x ≡ f → out-Formula f ≡ x → Step x x ≡ true → IsSame f
same_at x f e o h = at x f e f ∙ ap (Step x) o ∙ h

pub same_formula_refl : (f : Formula) → same_formula f f ≡ true
same_formula_refl = formula_induction IsSame
    (λ n. same_at (IntF n) (Int n) (rolls-Int n) (outs-Int n) (int_eq_equiv.refl n))
    (λ name t. same_at (FreeF name t) (Free name t) (rolls-Free name t) (outs-Free name t) (both_true _ _ (name_same name) (same_type_refl t)))
    (λ k t. same_at (BoundF k t) (Bound k t) (rolls-Bound k t) (outs-Bound k t) (both_true _ _ (eq-eqb k k refl) (same_type_refl t)))
    (λ o fs t each. same_at (NodeF o fs t) (Node o fs t) (rolls-Node o fs t) (outs-Node o fs t)
    (both_true _ _ (both_true _ _ (eq-eqb (number_of o) (number_of o) refl) (parts_same fs each)) (same_type_refl t)))
    (λ b ts fs t each. same_at (BindF b ts fs t) (Bind b ts fs t) (rolls-Bind b ts fs t) (outs-Bind b ts fs t)
    (both_true _ _ (both_true _ _ (both_true _ _ (eq-eqb (binder_number_of b) (binder_number_of b) refl) (list_same same_type same_type_refl ts)) (parts_same fs each)) (same_type_refl t)))

-- the code's answer is the test's
pub formula_test : (b : Bool) (f g : Formula) → (IsTrue b ↔ (f ≡ g)) → b ≡ same_formula f g
formula_test = one_test same_formula same_formula_exact same_formula_refl

value_exact : (p q : List ℕ × Formula) → same_value p q ≡ true → p ≡ q
value_exact p q h = λ i. (name_exact p.0 q.0 (first_true (bytes_eq p.0 q.0) _ h) i, same_formula_exact p.1 q.1 (second_true (bytes_eq p.0 q.0) _ h) i)

value_same : (p : List ℕ × Formula) → same_value p p ≡ true
value_same p = both_true _ _ (name_same p.0) (same_formula_refl p.1)

target_exact : (x y : List ℕ × Ty) → same_target x y ≡ true → x ≡ y
target_exact x y h = λ i. (name_exact x.0 y.0 (first_true (bytes_eq x.0 y.0) _ h) i, same_type_exact x.1 y.1 (second_true (bytes_eq x.0 y.0) _ h) i)

target_same : (x : List ℕ × Ty) → same_target x x ≡ true
target_same x = both_true _ _ (name_same x.0) (same_type_refl x.1)

-- actions that the test finds the same are the same
pub same_action_exact : (a b : Action) → same_action a b ≡ true → a ≡ b
same_action_exact (Assign ps) (Assign qs) h = ap Assign (list_exact same_value value_exact ps qs h)
same_action_exact (Assign ps) (ChooseIn y t) h = cc
same_action_exact (Assign ps) (ChooseSuch ys q) h = cc
same_action_exact (ChooseIn x s) (Assign qs) h = cc
same_action_exact (ChooseIn x s) (ChooseIn y t) h = λ i. ChooseIn (name_exact x y (first_true (bytes_eq x y) _ h) i) (same_formula_exact s t (second_true (bytes_eq x y) _ h) i)
same_action_exact (ChooseIn x s) (ChooseSuch ys q) h = cc
same_action_exact (ChooseSuch xs p) (Assign qs) h = cc
same_action_exact (ChooseSuch xs p) (ChooseIn y t) h = cc
same_action_exact (ChooseSuch xs p) (ChooseSuch ys q) h =
    λ i. ChooseSuch (list_exact same_target target_exact xs ys (first_true (same_list same_target xs ys) _ h) i) (same_formula_exact p q (second_true (same_list same_target xs ys) _ h) i)

pub same_action_refl : (a : Action) → same_action a a ≡ true
same_action_refl (Assign ps) = list_same same_value value_same ps
same_action_refl (ChooseIn x s) = both_true _ _ (name_same x) (same_formula_refl s)
same_action_refl (ChooseSuch xs p) = both_true _ _ (list_same same_target target_same xs) (same_formula_refl p)

pub action_test : (b : Bool) (x y : Action) → (IsTrue b ↔ (x ≡ y)) → b ≡ same_action x y
action_test = one_test same_action same_action_exact same_action_refl

-- lists of actions that the test finds the same are the same
pub same_actions_exact : (xs ys : List Action) → same_actions xs ys ≡ true → xs ≡ ys
same_actions_exact = list_exact same_action same_action_exact

pub actions_test : (b : Bool) (xs ys : List Action) → (IsTrue b ↔ (xs ≡ ys)) → b ≡ same_actions xs ys
actions_test = one_test same_actions same_actions_exact (list_same same_action same_action_refl)
