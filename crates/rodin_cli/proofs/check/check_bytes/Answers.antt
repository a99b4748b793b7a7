use Rattle.std.proofs.Common.{ap, Err}
use Rattle.rodin_cli.specs.Check.{want_of_memory}
use Rattle.rodin_cli.proofs.Sessions.{Keeps-same}
use Rattle.rodin_cli.proofs.Answering.{comes_of_refusal, ran_out_at_once}
use Rattle.rodin_cli.proofs.check.check_bytes.Goals as goal

pub returns-in-Err-Fault : goal.returns-in-Err-Fault
returns-in-Err-Fault g c =
    let made = c.in-Err-Fault.ensures.fault c.in-Err-Fault.fault (ap Err c.in-Err-Fault.field-0-is) in
    comes_of_refusal (g.P.Prover.answers c.args.prover.now) (g.P.Prover.sure c.args.prover.now) c.args.bytes.now _ c.refuse.result c.in-Err-Fault.fault made c.refuse.ensures

pub returns-in-Err-OutOfMemory : goal.returns-in-Err-OutOfMemory
returns-in-Err-OutOfMemory g c =
    want_of_memory (ran_out_at_once (g.P.Prover.answers c.args.prover.now) (g.P.Prover.sure c.args.prover.now) c.args.bytes.now _ c.no_part.result
    c.no_part.ensures.status c.no_part.ensures.nothing (Keeps-same _))
