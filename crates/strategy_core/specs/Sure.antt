-- The sequents that the automatic prover is sure to prove.
use Rattle.std.specs.Prelude.{◌⊎◌, ℕ}
use Rattle.sequent_core.specs.declared.sequent.Sequent.{Sequent}
use Rattle.short_proofs.specs.Sure.{IsSureByLogic, IsSureByArithmetic}
use Rattle.case_proofs.specs.Cases.{IsSureByCases}

-- at once, by logic or by arithmetic
abbrev pub IsSureAtOnce : Sequent → Type 0
IsSureAtOnce s = IsSureByLogic s ⊎ IsSureByArithmetic s

-- at once, or by cases within so many rules
abbrev pub IsSure : ℕ → Sequent → Type 0
IsSure budget s = IsSureAtOnce s ⊎ IsSureByCases budget s
