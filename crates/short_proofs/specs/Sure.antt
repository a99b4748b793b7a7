-- The sequents that are proved at once.
use Rattle.std.specs.Prelude.{ℤ, pos, negsuc, List, [], ◌∷◌, Option, Some, None, is_some, Bool, false, not, ◌&&◌, ◌||◌, IsTrue, if◌then◌else◌}
use Rattle.std.specs.List.{AllByRecursion, list_any}
use Rattle.std.specs.Option.{option_map_or, option_and_then}
use Rattle.formula_core.specs.declared.Op.{Op}
use Rattle.formula_core.specs.declared.Op.TheVariants as op
use Rattle.formula_core.specs.declared.Ty.TheVariants as ty
use Rattle.formula_core.specs.declared.Formula.{Formula}
use Rattle.formula_core.specs.declared.Formula.TheVariants as formula
use Rattle.formula_core.specs.Same.{same_formula}
use Rattle.formula_core.specs.Sizes.{IsWithinLimits}
use Rattle.well_defined.specs.Predicates.{at_most, member, top, zero}
use Rattle.rule_table.specs.Linear.{has_linear_form, is_formula_among, is_positive_constant, linear_sum}
use Rattle.rule_table.specs.SetLaws.{member_of_whole}
use Rattle.rule_table.specs.Shapes.{bottom, equal, one, two_operands}
use Rattle.sequent_core.specs.declared.sequent.Sequent.{Sequent}

-- no formula of it and no type in one passes the limits of a rule's formulas
pub record IsSmallSequent (s : Sequent) : Type 0 where
  pub hyps : AllByRecursion IsWithinLimits s.hyps
  pub goal : IsWithinLimits s.goal

-- E = E
abbrev pub is_reflexive : Formula → Bool
is_reflexive g = option_map_or (λ p. same_formula g (equal p.0 p.0)) (two_operands op.Equal g) false

-- the goal is ⊤, ⊥ is a hypothesis, the goal is a hypothesis, or it is E = E, or E ∈ T with T the whole set of E's type
abbrev pub follows_by_logic : Sequent → Bool
follows_by_logic s =
    same_formula s.goal top || is_formula_among s.hyps bottom || is_formula_among s.hyps s.goal || is_reflexive s.goal
    || is_some (member_of_whole s.goal)

-- ℕ or ℕ1
abbrev pub number_set : Op → Formula
number_set o = formula.Node o [] (ty.Pow ty.Int)

-- E, where a formula is E ∈ ℕ, or E ∈ ℕ1
abbrev pub natural_in : Op → Formula → Option Formula
natural_in o f =
    option_and_then (λ p. if same_formula f (member p.0 (number_set o)) then Some p.0 else None) (two_operands op.Member f)

-- E ∈ ℕ read as 0 ≤ E, E ∈ ℕ1 as 1 ≤ E, and every other formula as itself
abbrev pub as_comparison : Formula → Formula
as_comparison f =
    option_map_or (at_most zero) (natural_in op.Naturals f)
    (option_map_or (at_most one) (natural_in op.PositiveNaturals f) f)

-- the goal's form and the multiplied hypotheses add up to a constant of at least 1
unfoldable pub is_linear_step : List ℤ → List Formula → Formula → Bool
is_linear_step ks hyps g = has_linear_form g hyps ks && is_positive_constant (linear_sum g hyps ks)

-- one hypothesis is used with the multiplier 1, or −1
abbrev pub follows_from : Formula → Formula → Bool
follows_from g h = is_linear_step (pos 1 ∷ []) (h ∷ []) g || is_linear_step (negsuc 0 ∷ []) (h ∷ []) g

-- the goal isn't ⊥, and it follows by one linear step, of no hypothesis or of one
abbrev pub follows_linearly : Sequent → Bool
follows_linearly s =
    not (same_formula s.goal bottom)
    && (is_linear_step [] [] (as_comparison s.goal)
    || list_any (λ h. follows_from (as_comparison s.goal) (as_comparison h)) s.hyps)

-- the sequents that are surely proved by logic, and those that are by arithmetic
pub record IsSureByLogic (s : Sequent) : Type 0 where
  pub small : IsSmallSequent s
  pub follows : IsTrue (follows_by_logic s)

pub record IsSureByArithmetic (s : Sequent) : Type 0 where
  pub small : IsSmallSequent s
  pub follows : IsTrue (follows_linearly s)
