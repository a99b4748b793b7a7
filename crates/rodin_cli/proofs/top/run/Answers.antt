use Rattle.std.proofs.Common.{arith}
use Rattle.rodin_cli.specs.declared.command.Command.TheVariants.{Check, Session, Demo}
use Rattle.rodin_cli.proofs.Answering.{check_not_2}
use Rattle.rodin_cli.proofs.Words.{check_or_demo, check_or_session, session_or_demo, one_demo, one_session}
use Rattle.rodin_cli.proofs.Rounds.{demo_not_2, demo_not_3, same_demo, not_other}
use Rattle.rodin_cli.proofs.Conversing.{same_session, session_not_2}
use Rattle.rodin_cli.proofs.top.run.Goals as goal

-- `check`

pub returns-in-Some-Check-clause-checked : goal.returns-in-Some-Check-clause-checked
returns-in-Some-Check-clause-checked g c _ = rw c.with_disk.ensures c.run_check.ensures.checked

pub returns-in-Some-Check-clause-demonstrated : goal.returns-in-Some-Check-clause-demonstrated
returns-in-Some-Check-clause-demonstrated g c seed n demo = absurd (check_or_demo c.args.words.now seed n (rw c.in-Some-Check.field-0-is at c.in-Some-Check.ensures) demo)

pub returns-in-Some-Check-clause-usage : goal.returns-in-Some-Check-clause-usage
returns-in-Some-Check-clause-usage g c none = absurd (none Check (rw c.in-Some-Check.field-0-is at c.in-Some-Check.ensures))

pub returns-in-Some-Check-clause-words : goal.returns-in-Some-Check-clause-words
returns-in-Some-Check-clause-words g c = (
  rw c.with_disk.ensures (λ e. absurd (check_not_2 (g.P.Prover.answers c.args.tools.now.prover.now) (g.P.Prover.sure c.args.tools.now.prover.now) _ _ c.run_check.result c.run_check.ensures.checked e)),
  λ none. absurd (none Check (rw c.in-Some-Check.field-0-is at c.in-Some-Check.ensures)),
)

pub returns-in-Some-Check-clause-untouched : goal.returns-in-Some-Check-clause-untouched
returns-in-Some-Check-clause-untouched g c other _ = absurd (other (rw c.in-Some-Check.field-0-is at c.in-Some-Check.ensures))

pub returns-in-Some-Check-clause-ended : goal.returns-in-Some-Check-clause-ended
returns-in-Some-Check-clause-ended g c _ = rw c.with_disk.ensures c.run_check.ensures.ended

pub returns-in-Some-Check-clause-read_fault : goal.returns-in-Some-Check-clause-read_fault
returns-in-Some-Check-clause-read_fault g c = rw c.with_disk.ensures c.run_check.ensures.read_fault

pub returns-in-Some-Check-clause-write_fault : goal.returns-in-Some-Check-clause-write_fault
returns-in-Some-Check-clause-write_fault g c = rw c.with_disk.ensures c.run_check.ensures.write_fault

pub returns-in-Some-Check-clause-without_faults : goal.returns-in-Some-Check-clause-without_faults
returns-in-Some-Check-clause-without_faults g c _ = rw c.with_disk.ensures c.run_check.ensures.without_faults

pub returns-in-Some-Check-clause-demo_without_faults : goal.returns-in-Some-Check-clause-demo_without_faults
returns-in-Some-Check-clause-demo_without_faults g c seed n demo = absurd (check_or_demo c.args.words.now seed n (rw c.in-Some-Check.field-0-is at c.in-Some-Check.ensures) demo)

pub returns-in-Some-Check-clause-session : goal.returns-in-Some-Check-clause-session
returns-in-Some-Check-clause-session g c workers is = absurd (check_or_session c.args.words.now workers (rw c.in-Some-Check.field-0-is at c.in-Some-Check.ensures) is)

pub returns-in-Some-Check-clause-disk_fault : goal.returns-in-Some-Check-clause-disk_fault
returns-in-Some-Check-clause-disk_fault g c workers is = absurd (check_or_session c.args.words.now workers (rw c.in-Some-Check.field-0-is at c.in-Some-Check.ensures) is)

pub returns-in-Some-Check-clause-session_unhindered : goal.returns-in-Some-Check-clause-session_unhindered
returns-in-Some-Check-clause-session_unhindered g c workers is = absurd (check_or_session c.args.words.now workers (rw c.in-Some-Check.field-0-is at c.in-Some-Check.ensures) is)

pub returns-in-Some-Check-clause-at_any_moment : goal.returns-in-Some-Check-clause-at_any_moment
returns-in-Some-Check-clause-at_any_moment g c workers is = absurd (check_or_session c.args.words.now workers (rw c.in-Some-Check.field-0-is at c.in-Some-Check.ensures) is)

-- `session`

pub run_session-requires-clause-workers : goal.run_session-requires-clause-workers
run_session-requires-clause-workers g c _ _ = (rw c.in-Some-Session.field-0-is at c.in-Some-Session.ensures).workers_is.1

pub returns-in-Some-Session-clause-checked : goal.returns-in-Some-Session-clause-checked
returns-in-Some-Session-clause-checked g c check = absurd (check_or_session c.args.words.now c.in-Some-Session.workers check (rw c.in-Some-Session.field-0-is at c.in-Some-Session.ensures))

pub returns-in-Some-Session-clause-session : goal.returns-in-Some-Session-clause-session
returns-in-Some-Session-clause-session g c workers is =
    rw c.of_session.ensures
    (same_session c.in-Some-Session.workers workers (one_session c.args.words.now c.in-Some-Session.workers workers (rw c.in-Some-Session.field-0-is at c.in-Some-Session.ensures) is) _ _ _ _ _ _ _ _ c.run_session.ensures.session)

pub returns-in-Some-Session-clause-demonstrated : goal.returns-in-Some-Session-clause-demonstrated
returns-in-Some-Session-clause-demonstrated g c seed n demo = absurd (session_or_demo c.args.words.now c.in-Some-Session.workers seed n (rw c.in-Some-Session.field-0-is at c.in-Some-Session.ensures) demo)

pub returns-in-Some-Session-clause-usage : goal.returns-in-Some-Session-clause-usage
returns-in-Some-Session-clause-usage g c none = absurd (none (Session c.in-Some-Session.workers) (rw c.in-Some-Session.field-0-is at c.in-Some-Session.ensures))

pub returns-in-Some-Session-clause-words : goal.returns-in-Some-Session-clause-words
returns-in-Some-Session-clause-words g c = (
  rw c.of_session.ensures (λ e. absurd (session_not_2 c.run_session.result.status c.run_session.ensures.known e)),
  λ none. absurd (none (Session c.in-Some-Session.workers) (rw c.in-Some-Session.field-0-is at c.in-Some-Session.ensures)),
)

pub returns-in-Some-Session-clause-untouched : goal.returns-in-Some-Session-clause-untouched
returns-in-Some-Session-clause-untouched g c _ other = absurd (other c.in-Some-Session.workers (rw c.in-Some-Session.field-0-is at c.in-Some-Session.ensures))

pub returns-in-Some-Session-clause-disk : goal.returns-in-Some-Session-clause-disk
returns-in-Some-Session-clause-disk g c other = absurd (other c.in-Some-Session.workers (rw c.in-Some-Session.field-0-is at c.in-Some-Session.ensures))

pub returns-in-Some-Session-clause-ended : goal.returns-in-Some-Session-clause-ended
returns-in-Some-Session-clause-ended g c check = absurd (check_or_session c.args.words.now c.in-Some-Session.workers check (rw c.in-Some-Session.field-0-is at c.in-Some-Session.ensures))

pub returns-in-Some-Session-clause-read_fault : goal.returns-in-Some-Session-clause-read_fault
returns-in-Some-Session-clause-read_fault g c = rw c.of_session.ensures c.run_session.ensures.read_fault

pub returns-in-Some-Session-clause-write_fault : goal.returns-in-Some-Session-clause-write_fault
returns-in-Some-Session-clause-write_fault g c = rw c.of_session.ensures c.run_session.ensures.write_fault

pub returns-in-Some-Session-clause-disk_fault : goal.returns-in-Some-Session-clause-disk_fault
returns-in-Some-Session-clause-disk_fault g c workers is = rw c.of_session.ensures c.run_session.ensures.disk_fault

pub returns-in-Some-Session-clause-session_unhindered : goal.returns-in-Some-Session-clause-session_unhindered
returns-in-Some-Session-clause-session_unhindered g c workers is = rw c.of_session.ensures c.run_session.ensures.unhindered

pub returns-in-Some-Session-clause-at_any_moment : goal.returns-in-Some-Session-clause-at_any_moment
returns-in-Some-Session-clause-at_any_moment g c workers is = rw c.of_session.ensures c.run_session.ensures.any_moment

pub returns-in-Some-Session-clause-without_faults : goal.returns-in-Some-Session-clause-without_faults
returns-in-Some-Session-clause-without_faults g c check = absurd (check_or_session c.args.words.now c.in-Some-Session.workers check (rw c.in-Some-Session.field-0-is at c.in-Some-Session.ensures))

pub returns-in-Some-Session-clause-demo_without_faults : goal.returns-in-Some-Session-clause-demo_without_faults
returns-in-Some-Session-clause-demo_without_faults g c seed n demo = absurd (session_or_demo c.args.words.now c.in-Some-Session.workers seed n (rw c.in-Some-Session.field-0-is at c.in-Some-Session.ensures) demo)

-- `demo`

pub run_demo-requires-clause-some : goal.run_demo-requires-clause-some
run_demo-requires-clause-some g c = (rw c.in-Some-Demo.field-0-is at c.in-Some-Demo.ensures).n_is.1

pub run_demo-requires-clause-few : goal.run_demo-requires-clause-few
run_demo-requires-clause-few g c = (rw c.in-Some-Demo.field-0-is at c.in-Some-Demo.ensures).n_is.2

pub returns-in-Some-Demo-clause-checked : goal.returns-in-Some-Demo-clause-checked
returns-in-Some-Demo-clause-checked g c check =
    absurd (check_or_demo c.args.words.now c.in-Some-Demo.seed c.in-Some-Demo.n check (rw c.in-Some-Demo.field-0-is at c.in-Some-Demo.ensures))

pub returns-in-Some-Demo-clause-demonstrated : goal.returns-in-Some-Demo-clause-demonstrated
returns-in-Some-Demo-clause-demonstrated g c seed n demo =
    let one = one_demo c.args.words.now c.in-Some-Demo.seed c.in-Some-Demo.n seed n (rw c.in-Some-Demo.field-0-is at c.in-Some-Demo.ensures) demo in
    rw c.with_disk-in-Some-Demo.ensures
    (same_demo (g.P.Prover.answers c.args.tools.now.prover.now) (g.P.Prover.sure c.args.tools.now.prover.now) c.in-Some-Demo.seed c.in-Some-Demo.n seed n one.0 one.1 _ c.run_demo.result c.run_demo.ensures.demonstrated)

pub returns-in-Some-Demo-clause-usage : goal.returns-in-Some-Demo-clause-usage
returns-in-Some-Demo-clause-usage g c none = absurd (none (Demo c.in-Some-Demo.seed c.in-Some-Demo.n) (rw c.in-Some-Demo.field-0-is at c.in-Some-Demo.ensures))

pub returns-in-Some-Demo-clause-words : goal.returns-in-Some-Demo-clause-words
returns-in-Some-Demo-clause-words g c = (
  rw c.with_disk-in-Some-Demo.ensures (λ e.
      absurd (demo_not_2 (g.P.Prover.answers c.args.tools.now.prover.now) (g.P.Prover.sure c.args.tools.now.prover.now) c.in-Some-Demo.seed c.in-Some-Demo.n _ c.run_demo.result c.run_demo.ensures.demonstrated e)),
  λ none. absurd (none (Demo c.in-Some-Demo.seed c.in-Some-Demo.n) (rw c.in-Some-Demo.field-0-is at c.in-Some-Demo.ensures)),
)

pub returns-in-Some-Demo-clause-ended : goal.returns-in-Some-Demo-clause-ended
returns-in-Some-Demo-clause-ended g c check =
    absurd (check_or_demo c.args.words.now c.in-Some-Demo.seed c.in-Some-Demo.n check (rw c.in-Some-Demo.field-0-is at c.in-Some-Demo.ensures))

pub returns-in-Some-Demo-clause-read_fault : goal.returns-in-Some-Demo-clause-read_fault
returns-in-Some-Demo-clause-read_fault g c =
    rw c.with_disk-in-Some-Demo.ensures (λ e.
    absurd (demo_not_3 (g.P.Prover.answers c.args.tools.now.prover.now) (g.P.Prover.sure c.args.tools.now.prover.now) c.in-Some-Demo.seed c.in-Some-Demo.n _ c.run_demo.result c.run_demo.ensures.demonstrated e))

pub returns-in-Some-Demo-clause-write_fault : goal.returns-in-Some-Demo-clause-write_fault
returns-in-Some-Demo-clause-write_fault g c = rw c.with_disk-in-Some-Demo.ensures c.run_demo.ensures.write_fault

pub returns-in-Some-Demo-clause-without_faults : goal.returns-in-Some-Demo-clause-without_faults
returns-in-Some-Demo-clause-without_faults g c check =
    absurd (check_or_demo c.args.words.now c.in-Some-Demo.seed c.in-Some-Demo.n check (rw c.in-Some-Demo.field-0-is at c.in-Some-Demo.ensures))

pub returns-in-Some-Demo-clause-demo_without_faults : goal.returns-in-Some-Demo-clause-demo_without_faults
returns-in-Some-Demo-clause-demo_without_faults g c seed n demo = rw c.with_disk-in-Some-Demo.ensures c.run_demo.ensures.without_faults

pub returns-in-Some-Demo-clause-session : goal.returns-in-Some-Demo-clause-session
returns-in-Some-Demo-clause-session g c workers is = absurd (session_or_demo c.args.words.now workers c.in-Some-Demo.seed c.in-Some-Demo.n is (rw c.in-Some-Demo.field-0-is at c.in-Some-Demo.ensures))

pub returns-in-Some-Demo-clause-disk_fault : goal.returns-in-Some-Demo-clause-disk_fault
returns-in-Some-Demo-clause-disk_fault g c workers is = absurd (session_or_demo c.args.words.now workers c.in-Some-Demo.seed c.in-Some-Demo.n is (rw c.in-Some-Demo.field-0-is at c.in-Some-Demo.ensures))

pub returns-in-Some-Demo-clause-session_unhindered : goal.returns-in-Some-Demo-clause-session_unhindered
returns-in-Some-Demo-clause-session_unhindered g c workers is = absurd (session_or_demo c.args.words.now workers c.in-Some-Demo.seed c.in-Some-Demo.n is (rw c.in-Some-Demo.field-0-is at c.in-Some-Demo.ensures))

pub returns-in-Some-Demo-clause-at_any_moment : goal.returns-in-Some-Demo-clause-at_any_moment
returns-in-Some-Demo-clause-at_any_moment g c workers is = absurd (session_or_demo c.args.words.now workers c.in-Some-Demo.seed c.in-Some-Demo.n is (rw c.in-Some-Demo.field-0-is at c.in-Some-Demo.ensures))

-- words of no form

pub returns-in-None-clause-checked : goal.returns-in-None-clause-checked
returns-in-None-clause-checked g c check = absurd (c.in-None.ensures Check check)

pub returns-in-None-clause-demonstrated : goal.returns-in-None-clause-demonstrated
returns-in-None-clause-demonstrated g c seed n demo = absurd (c.in-None.ensures (Demo seed n) demo)

pub returns-in-None-clause-usage : goal.returns-in-None-clause-usage
returns-in-None-clause-usage g c _ = rw c.with_disk-in-None.ensures c.ends_with_line.ensures

pub returns-in-None-clause-words : goal.returns-in-None-clause-words
returns-in-None-clause-words g c = ((λ _. c.in-None.ensures), (λ _. rw c.with_disk-in-None.ensures c.ends_with_line.ensures.status_is))

pub returns-in-None-clause-ended : goal.returns-in-None-clause-ended
returns-in-None-clause-ended g c check = absurd (c.in-None.ensures Check check)

pub returns-in-None-clause-without_faults : goal.returns-in-None-clause-without_faults
returns-in-None-clause-without_faults g c check = absurd (c.in-None.ensures Check check)

pub returns-in-None-clause-demo_without_faults : goal.returns-in-None-clause-demo_without_faults
returns-in-None-clause-demo_without_faults g c seed n demo = absurd (c.in-None.ensures (Demo seed n) demo)

pub returns-in-None-clause-read_fault : goal.returns-in-None-clause-read_fault
returns-in-None-clause-read_fault g c = rw c.with_disk-in-None.ensures (λ e. absurd (not_other c.ends_with_line.result.status 2 _ c.ends_with_line.ensures.status_is e (omega arith)))

pub returns-in-None-clause-write_fault : goal.returns-in-None-clause-write_fault
returns-in-None-clause-write_fault g c = rw c.with_disk-in-None.ensures (λ e. absurd (not_other c.ends_with_line.result.status 2 _ c.ends_with_line.ensures.status_is e (omega arith)))

pub returns-in-None-clause-session : goal.returns-in-None-clause-session
returns-in-None-clause-session g c workers is = absurd (c.in-None.ensures (Session workers) is)

pub returns-in-None-clause-disk_fault : goal.returns-in-None-clause-disk_fault
returns-in-None-clause-disk_fault g c workers is = absurd (c.in-None.ensures (Session workers) is)

pub returns-in-None-clause-session_unhindered : goal.returns-in-None-clause-session_unhindered
returns-in-None-clause-session_unhindered g c workers is = absurd (c.in-None.ensures (Session workers) is)

pub returns-in-None-clause-at_any_moment : goal.returns-in-None-clause-at_any_moment
returns-in-None-clause-at_any_moment g c workers is = absurd (c.in-None.ensures (Session workers) is)
