use Rattle.session_ends.proofs.Causes.{known, read_fault, write_fault, disk_fault}
use Rattle.session_ends.proofs.Unhindered.{completes}
use Rattle.session_ends.proofs.Throughout.{at_any_moment}
use Rattle.project_session.proofs.session.run_session.Goals as goal

pub returns-clause-known : goal.returns-clause-known
returns-clause-known g c = known g.D.Disk.told g.D.Disk.bytes_of g.D.Disk.images g.D.Disk.clock g.D.Disk.moments g.D.Disk.faults _ _ c.args.workers c.args.disk c.open_and_run.result.disk _ _ _ _ _ _ c.open_and_run.ensures

pub returns-clause-read_fault : goal.returns-clause-read_fault
returns-clause-read_fault g c = read_fault g.D.Disk.told g.D.Disk.bytes_of g.D.Disk.images g.D.Disk.clock g.D.Disk.moments g.D.Disk.faults _ _ c.args.workers c.args.disk c.open_and_run.result.disk _ _ _ _ _ _ c.open_and_run.ensures

pub returns-clause-write_fault : goal.returns-clause-write_fault
returns-clause-write_fault g c = write_fault g.D.Disk.told g.D.Disk.bytes_of g.D.Disk.images g.D.Disk.clock g.D.Disk.moments g.D.Disk.faults _ _ c.args.workers c.args.disk c.open_and_run.result.disk _ _ _ _ _ _ c.open_and_run.ensures

pub returns-clause-disk_fault : goal.returns-clause-disk_fault
returns-clause-disk_fault g c = disk_fault g.D.Disk.told g.D.Disk.bytes_of g.D.Disk.images g.D.Disk.clock g.D.Disk.moments g.D.Disk.faults _ _ c.args.workers c.args.disk c.open_and_run.result.disk _ _ _ _ _ _ c.open_and_run.ensures

pub returns-clause-unhindered : goal.returns-clause-unhindered
returns-clause-unhindered g c told free = completes g.D.Disk.told g.D.Disk.bytes_of g.D.Disk.images g.D.Disk.clock g.D.Disk.moments g.D.Disk.faults _ _ c.args.workers c.args.disk c.open_and_run.result.disk _ _ _ _ _ _ told free c.open_and_run.ensures

pub returns-clause-any_moment : goal.returns-clause-any_moment
returns-clause-any_moment g c told = at_any_moment g.D.Disk.told g.D.Disk.bytes_of g.D.Disk.images g.D.Disk.clock g.D.Disk.moments g.D.Disk.faults _ _ c.args.workers c.args.disk c.open_and_run.result.disk _ _ _ _ _ _ told c.open_and_run.ensures
