-- What the code keeps on the way to a leaf.
use Rattle.std.specs.Prelude.{◌≡◌, ⊤, List, Option, Some, None, Result, Ok, Err}
use Rattle.std.specs.List.{AllByRecursion}
use Rattle.formula_core.specs.Env.{HasDistinctNames}
use Rattle.rule_table.specs.declared.rule.Antecedent.{Antecedent}
use Rattle.rule_table.specs.declared.rule.Rule.{Rule}
use Rattle.sequent_core.specs.declared.sequent.Sequent.{Sequent}
use Rattle.proof_steps.specs.declared.steps.StepFault.{StepFault}
use Rattle.proof_steps.specs.declared.steps.StepFault.TheVariants.{NoLeaf, NoFit, TreeFull, OutOfMemory}
use Rattle.proof_steps.specs.Places.{AppliesTo}

-- no antecedent adds a name twice
abbrev pub HaveDistinctIdentifiers : List Antecedent → Type 0
HaveDistinctIdentifiers antecedents = AllByRecursion (λ a. HasDistinctNames a.idents) antecedents

-- what is told of a rule that is tried at a leaf with this sequent, if there is one
abbrev pub TellsFit : Option Sequent → Rule → Result ⊤ StepFault → Type 0
TellsFit None r told = told ≡ Err NoLeaf
TellsFit (Some at) r (Ok done) = AppliesTo r at
TellsFit (Some at) r (Err NoLeaf) = ⊥
TellsFit (Some at) r (Err NoFit) = AppliesTo r at → ⊥
TellsFit (Some at) r (Err TreeFull) = ⊥
TellsFit (Some at) r (Err OutOfMemory) = ⊤
