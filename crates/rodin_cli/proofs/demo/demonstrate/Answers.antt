use Rattle.rodin_cli.proofs.Known.{Appends-nothing}
use Rattle.rodin_cli.proofs.Rounds.{demo_ran_out_at_once}
use Rattle.rodin_cli.proofs.demo.demonstrate.Goals as goal

pub returns : goal.returns
returns g c =
    demo_ran_out_at_once (g.P.Prover.answers c.args.prover.now) (g.P.Prover.sure c.args.prover.now) c.args.seeded.seed c.args.seeded.n _ c.no_part.result
    c.no_part.ensures.status c.no_part.ensures.nothing (Appends-nothing _)
