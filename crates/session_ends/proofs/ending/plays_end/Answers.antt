use Rattle.session_ends.proofs.Whole.{plays_end}
use Rattle.session_ends.proofs.ending.plays_end.Goals as goal

pub returns : goal.returns
returns g c =
    plays_end g.D.Disk.told g.D.Disk.bytes_of g.D.Disk.images g.D.Disk.clock g.D.Disk.moments g.D.Disk.faults _ _ (record { one = c.one_answer.ensures; orderly = c.stays_orderly.ensures })
    c.enters_all.ensures c.tells_the_rebuilt.ensures c.one_history.ensures c.complete_when_idle.ensures
