use Rattle.session_ends.proofs.Openings.{opens, refuses}
use Rattle.session_ends.proofs.ending.open_store.Goals as goal

pub returns-clause-opens : goal.returns-clause-opens
returns-clause-opens g c =
    opens g.D.Disk.told g.D.Disk.bytes_of g.D.Disk.images g.D.Disk.clock g.D.Disk.moments g.D.Disk.faults c.args.disk c.start.result c.start.ensures.opened c.start.ensures.exactly c.start.ensures.fits c.start.ensures.count

pub returns-clause-refuses : goal.returns-clause-refuses
returns-clause-refuses g c =
    refuses g.D.Disk.told g.D.Disk.bytes_of g.D.Disk.images g.D.Disk.clock g.D.Disk.moments g.D.Disk.faults c.args.disk g.met.D.Disk.counts_now
    c.start.result c.start.ensures.opened c.start.ensures.exactly c.start.ensures.any_moment c.start.ensures.fault
