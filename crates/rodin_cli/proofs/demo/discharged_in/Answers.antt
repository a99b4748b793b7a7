use Rattle.std.proofs.Common.{take, arith}
use Rattle.std.proofs.lemmas.List.{length-take-le}
use Rattle.rodin_cli.proofs.Rounds.{few_discharged}
use Rattle.rodin_cli.proofs.demo.discharged_in.Goals as goal

pub overflow_add-count : goal.overflow_add-count
overflow_add-count c =
    let so_far = take c.loop-status.status-index c.args.shown.now in
    omega (arith, c.loop-status.invariant, few_discharged so_far, length-take-le c.loop-status.status-index c.args.shown.now (omega (arith, c.loop-status-test.true)))
