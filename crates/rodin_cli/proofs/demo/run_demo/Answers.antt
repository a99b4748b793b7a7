use Rattle.rodin_cli.proofs.Rounds.{demo_rose, demo_without_rise}
use Rattle.rodin_cli.proofs.demo.run_demo.Goals as goal

pub returns-clause-write_fault : goal.returns-clause-write_fault
returns-clause-write_fault g c = demo_rose (g.P.Prover.answers c.args.prover.now) (g.P.Prover.sure c.args.prover.now) c.args.seed c.args.n _ c.demonstrate.result c.demonstrate.ensures

pub returns-clause-without_faults : goal.returns-clause-without_faults
returns-clause-without_faults g c =
    demo_without_rise (g.P.Prover.answers c.args.prover.now) (g.P.Prover.sure c.args.prover.now) c.args.seed c.args.n _ c.demonstrate.result c.demonstrate.ensures
