use Rattle.std.proofs.Common.{List}
use Rattle.core_steps.specs.Run.{Exchange}
use Rattle.rodin_cli.specs.Script.{AreEdits}
use Rattle.rodin_cli.specs.PrivateSession.{Extends}
use Rattle.rodin_cli.proofs.round.edit_all.Given as goal

abbrev pub invariant-loop-name : goal.invariant-loop-name
invariant-loop-name g l = (edits : List Exchange) × AreEdits l.yielded edits × Extends l.initial.session edits l.session
