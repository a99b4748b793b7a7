-- What a kind of rule has of its own.
use Rattle.std.specs.Prelude.{ℕ, ℤ, Bool, true, false, List, []}
use Rattle.rule_table.specs.declared.kind.RuleKind.{RuleKind}
use Rattle.rule_table.specs.declared.kind.RuleKind.TheVariants as kind

-- the number of the law of a kind that rewrites
abbrev pub law_in : RuleKind → ℕ
law_in (kind.RwGoal law place) = law
law_in (kind.RwHyp law place) = law
law_in _ = 0

-- the place at which a kind rewrites
abbrev pub place_in : RuleKind → List ℕ
place_in (kind.RwGoal law place) = place
place_in (kind.RwHyp law place) = place
place_in _ = []

-- the multipliers of a sum of hypotheses
abbrev pub multipliers_in : RuleKind → List ℤ
multipliers_in (kind.Linear multipliers) = multipliers
multipliers_in _ = []

-- a review, which proves nothing
abbrev pub is_review : RuleKind → Bool
is_review kind.Review = true
is_review _ = false
