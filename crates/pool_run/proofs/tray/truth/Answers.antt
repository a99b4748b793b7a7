use Rattle.std.proofs.Common.{rules, ◌≡◌, List, ℕ, [], sym, subst}
use Rattle.formula_core.specs.declared.Formula.{Formula}
use Rattle.formula_core.specs.declared.Formula.TheVariants.{Node}
use Rattle.formula_core.specs.declared.Op.TheVariants.{Top}
use Rattle.formula_core.specs.declared.Ty.{Ty}
use Rattle.formula_core.specs.declared.Ty.TheVariants.{Truth}
use Rattle.sequent_core.specs.Sequents.{IsSequent}
use Rattle.pool_run.proofs.Trays.{truth_is_sequent}
use Rattle.pool_run.proofs.tray.truth.Goals as goal

pub returns : goal.returns
returns c =
    let env : c.new-2.result ≡ [] = search rules in
    let hyps : c.of-2.result ≡ [] = search rules in
    let parts : c.of.result ≡ [] = search rules in
    subst (λ (z : List (List ℕ × Ty) × List Formula × List Formula). IsSequent (record { env = z.0; hyps = z.1; goal = Node Top z.2 Truth })) (λ i. (sym env i, sym hyps i, sym parts i)) truth_is_sequent
