-- how many of those so far are discharged
use Rattle.std.proofs.Common.{◌≡◌, take}
use Rattle.rodin_cli.specs.Demo.{discharged_in}
use Rattle.rodin_cli.proofs.demo.discharged_in.Given as goal

abbrev pub invariant-loop-status : goal.invariant-loop-status
invariant-loop-status l = l.count ≡ discharged_in (take l.status-index l.shown)
