use Rattle.rodin_cli.proofs.Answering.{check_ended, check_read_fault, check_write_fault, check_unfailed}
use Rattle.rodin_cli.proofs.check.run_check.Goals as goal

pub returns-clause-ended : goal.returns-clause-ended
returns-clause-ended g c = check_ended (g.P.Prover.answers c.args.prover.now) (g.P.Prover.sure c.args.prover.now) _ _ c.check_source.result c.check_source.ensures

pub returns-clause-read_fault : goal.returns-clause-read_fault
returns-clause-read_fault g c = check_read_fault (g.P.Prover.answers c.args.prover.now) (g.P.Prover.sure c.args.prover.now) _ _ c.check_source.result c.check_source.ensures

pub returns-clause-write_fault : goal.returns-clause-write_fault
returns-clause-write_fault g c = check_write_fault (g.P.Prover.answers c.args.prover.now) (g.P.Prover.sure c.args.prover.now) _ _ c.check_source.result c.check_source.ensures

pub returns-clause-without_faults : goal.returns-clause-without_faults
returns-clause-without_faults g c = check_unfailed (g.P.Prover.answers c.args.prover.now) (g.P.Prover.sure c.args.prover.now) _ _ c.check_source.result c.check_source.ensures
