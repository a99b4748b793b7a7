use Rattle.project_store.proofs.Stood.{stood_since}
use Rattle.session_ends.proofs.Whole.{moved}
use Rattle.session_ends.proofs.ending.end_played.Goals as goal

pub returns : goal.returns
returns g c workers first source before lost old opens opening same played =
    moved g.D.Disk.told g.D.Disk.bytes_of g.D.Disk.images g.D.Disk.clock g.D.Disk.moments g.D.Disk.faults _ _ workers old _ _ _ _ _ _ _ _ _ _
    c.close_session.ensures.disk c.close_session.ensures.status c.close_session.ensures.history c.close_session.ensures.last
    (c.plays_end.ensures workers first c.args.store source before _ _ lost _ _ c.args.ending old opens same c.close_session.ensures.facts c.close_session.ensures.rests
    (λ t. stood_since g.D.Disk.clock g.D.Disk.moments _ _ _ g.D.Disk.images old (opening t) c.args.store (c.close_session.ensures.any_moment c.requires t)) played
    c.close_session.ensures.written c.close_session.ensures.later)
