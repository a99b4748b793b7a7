-- Plain rules: those of which each reading keeps the truth.
use Rattle.std.specs.Prelude.{ℕ, Bool, true, false, ◌&&◌, ◌||◌, List, [], ◌∷◌, Option}
use Rattle.std.specs.Option.{option_map_or}
use Rattle.formula_core.specs.declared.Op.TheVariants as op
use Rattle.formula_core.specs.declared.Formula.{Formula, out-Formula}
use Rattle.formula_core.specs.declared.Formula.TheOpen.{Formula-F, Node}
use Rattle.rule_table.specs.declared.kind.RuleKind.{RuleKind}
use Rattle.rule_table.specs.declared.kind.RuleKind.TheVariants as kind
use Rattle.rule_table.specs.declared.law.Law.{Law}
use Rattle.rule_table.specs.declared.law.Law.TheVariants as law
use Rattle.rule_table.specs.declared.rule.Rule.{Rule}
use Rattle.rule_table.specs.Shapes.{two_operands}
use Rattle.rule_table.specs.Rewriting.{law_of, part}
use Rattle.rule_table.specs.Rows.{first}
use Rattle.formula_readings.specs.Forms.{are_integers, adds_up, is_connected_at, is_comparison_at, is_arithmetic_at}

-- an equation of integers
abbrev pub is_of_integers : Formula → Bool
is_of_integers f = option_map_or (λ p. are_integers p.0 p.1) (two_operands op.Equal f) false

-- whether a law keeps the truth of this left side
abbrev pub keeps_truth : Law → Formula → Bool
keeps_truth law.DoubleNegation f = true
keeps_truth law.NegatedAnd f = true
keeps_truth law.NegatedOr f = true
keeps_truth law.NegatedImplies f = true
keeps_truth law.NegatedEquivalent f = true
keeps_truth law.EqualTurned f = is_of_integers f
keeps_truth law.NegatedLess f = true
keeps_truth law.NegatedAtMost f = true
keeps_truth law.EqualIntegers f = true
keeps_truth law.LessIsAtMost f = true
keeps_truth _ f = false

-- whether it keeps the number of this left side: a sum, a difference or a product that is computed
abbrev pub is_sum_at : Formula-F Formula → Bool
is_sum_at (Node o parts t) = adds_up o
is_sum_at _ = false

abbrev pub keeps_number : Law → Formula → Bool
keeps_number law.Computed f = is_sum_at (out-Formula f)
keeps_number _ f = false

-- the same at a place in an expression, and in a predicate: what encloses the place are forms that a reading sees into
abbrev pub keeps_number_at : Law → List ℕ → Formula → Bool
keeps_number_at l [] f = keeps_number l f
keeps_number_at l (i ∷ place) f =
    is_arithmetic_at (out-Formula f) && option_map_or (keeps_number_at l place) (part f i) false

abbrev pub keeps_truth_at : Law → List ℕ → Formula → Bool
keeps_truth_at l [] f = keeps_truth l f
keeps_truth_at l (i ∷ place) f =
    (is_connected_at (out-Formula f) && option_map_or (keeps_truth_at l place) (part f i) false)
    || (is_comparison_at (out-Formula f) && option_map_or (keeps_number_at l place) (part f i) false)

abbrev pub rewrites_plainly : ℕ → List ℕ → Option Formula → Bool
rewrites_plainly law place f = option_map_or (λ l. option_map_or (keeps_truth_at l place) f false) (law_of law) false

-- whether a kind is plain with this goal and these hypotheses
abbrev pub is_plain_kind : RuleKind → Option Formula → List Formula → Bool
is_plain_kind kind.Hyp goal hyps = true
is_plain_kind kind.Top goal hyps = true
is_plain_kind kind.Bot goal hyps = true
is_plain_kind kind.Contr goal hyps = true
is_plain_kind kind.AndR goal hyps = true
is_plain_kind kind.AndL goal hyps = true
is_plain_kind kind.OrR goal hyps = true
is_plain_kind kind.OrL goal hyps = true
is_plain_kind kind.ImpR goal hyps = true
is_plain_kind kind.ImpL goal hyps = true
is_plain_kind kind.Mp goal hyps = true
is_plain_kind kind.IffR goal hyps = true
is_plain_kind kind.IffL goal hyps = true
is_plain_kind kind.NotR goal hyps = true
is_plain_kind kind.NotL goal hyps = true
is_plain_kind kind.Contra goal hyps = true
is_plain_kind kind.Cut goal hyps = true
is_plain_kind kind.Cases goal hyps = true
is_plain_kind kind.EqRefl goal hyps = option_map_or is_of_integers goal false
is_plain_kind (kind.RwGoal law place) goal hyps = rewrites_plainly law place goal
is_plain_kind (kind.RwHyp law place) goal hyps = rewrites_plainly law place (first hyps)
is_plain_kind (kind.Linear ks) goal hyps = true
is_plain_kind _ goal hyps = false

abbrev pub is_plain_rule : Rule → Bool
is_plain_rule r = is_plain_kind r.kind r.needed_goal r.needed_hyps
