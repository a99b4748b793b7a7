use Rattle.std.proofs.Common.{◌≡◌, ◌*◌, List, length}
use Rattle.core_steps.specs.Run.{Exchange}
use Rattle.rodin_cli.specs.Script.{AreTurns}
use Rattle.rodin_cli.specs.PrivateSession.{Extends}
use Rattle.rodin_cli.proofs.round.turns.Given as goal

abbrev pub invariant-loop-turn : goal.invariant-loop-turn
invariant-loop-turn g l =
    (turns : List Exchange) × AreTurns (g.P.Prover.answers l.prover) (g.P.Prover.sure l.prover) turns × Extends l.initial.session turns l.session
    × (length turns ≡ 2 * l._turn)
