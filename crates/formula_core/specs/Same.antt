-- When formulas and actions are the same.
use Rattle.std.specs.Prelude.{ℕ, Bool, true, false, ◌&&◌, ◌==◌, List, [], ◌∷◌, bytes_eq}
use Rattle.std.specs.Ordering.{int_eq}
use Rattle.formula_core.specs.declared.ty.Ty.{Ty}
use Rattle.formula_core.specs.declared.formula.Formula.{Formula, out-Formula}
use Rattle.formula_core.specs.declared.formula.Formula.TheOpen.{Formula-F, Int, Free, Bound, Node, Bind}
use Rattle.formula_core.specs.declared.formula.Formula.TheFolds.{fold-Formula}
use Rattle.formula_core.specs.declared.raw.Action.{Action}
use Rattle.formula_core.specs.declared.raw.Action.TheVariants as action
use Rattle.formula_core.specs.Numbers.{number_of, binder_number_of}
use Rattle.formula_core.specs.Types.{same_type}

-- each test at its place
abbrev pub all_pass : {A : Type 0} → List (A → Bool) → List A → Bool
all_pass [] [] = true
all_pass (test ∷ tests) (x ∷ xs) = test x && all_pass tests xs
all_pass _ _ = false

abbrev pub same_list : {A : Type 0} → (A → A → Bool) → List A → List A → Bool
same_list same [] [] = true
same_list same (x ∷ xs) (y ∷ ys) = same x y && same_list same xs ys
same_list same _ _ = false

abbrev pub same_formula_step : Formula-F (Formula → Bool) → Formula-F Formula → Bool
same_formula_step (Int n) (Int m) = int_eq n m
same_formula_step (Free x t) (Free y u) = bytes_eq x y && same_type t u
same_formula_step (Bound i t) (Bound j u) = i == j && same_type t u
same_formula_step (Node o ps t) (Node p qs u) = number_of o == number_of p && all_pass ps qs && same_type t u
same_formula_step (Bind b ts ps t) (Bind c us qs u) = binder_number_of b == binder_number_of c && same_list same_type ts us && all_pass ps qs && same_type t u
same_formula_step _ _ = false

abbrev pub same_formula : Formula → Formula → Bool
same_formula = fold-Formula (Formula → Bool) (λ f g. same_formula_step f (out-Formula g))

abbrev pub same_value : List ℕ × Formula → List ℕ × Formula → Bool
same_value p q = bytes_eq p.0 q.0 && same_formula p.1 q.1

abbrev pub same_target : List ℕ × Ty → List ℕ × Ty → Bool
same_target p q = bytes_eq p.0 q.0 && same_type p.1 q.1

abbrev pub same_action : Action → Action → Bool
same_action (action.Assign ps) (action.Assign qs) = same_list same_value ps qs
same_action (action.ChooseIn x f) (action.ChooseIn y g) = bytes_eq x y && same_formula f g
same_action (action.ChooseSuch xs f) (action.ChooseSuch ys g) = same_list same_target xs ys && same_formula f g
same_action _ _ = false

abbrev pub same_actions : List Action → List Action → Bool
same_actions = same_list same_action
