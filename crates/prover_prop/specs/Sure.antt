-- The sequents that the prover by logic is sure to prove.
use Rattle.std.specs.Prelude.{◌⊎◌, ℕ}
use Rattle.sequent_core.specs.declared.sequent.Sequent.{Sequent}
use Rattle.short_proofs.specs.Sure.{IsSureByLogic}
use Rattle.case_proofs.specs.Cases.{IsSureByCases}

-- at once, or by cases within so many rules
abbrev pub IsSurePropositionally : ℕ → Sequent → Type 0
IsSurePropositionally budget s = IsSureByLogic s ⊎ IsSureByCases budget s
