use Rattle.std.proofs.Common.{inl, inr, refl, sym, subst}
use Rattle.session_ends.specs.Sessions.{Refuses}
use Rattle.project_session.proofs.session.open_and_run.Goals as goal

pub returns-in-Ok : goal.returns-in-Ok
returns-in-Ok g c = inr (c.run_opened.ensures c.args.disk c.in-Ok.ensures.opens c.requires.opening)

pub returns-in-Err : goal.returns-in-Err
returns-in-Err g c = inl (record {
  fault = c.in-Err.fault;
  refuses = subst (λ d. Refuses g.D.Disk.told g.D.Disk.bytes_of g.D.Disk.images g.D.Disk.clock g.D.Disk.moments g.D.Disk.faults c.args.disk d c.in-Err.fault) (sym c.refuse.ensures.disk) c.in-Err.ensures.refuses;
  nothing = c.refuse.ensures.nothing;
  unread = refl;
  ends = c.refuse.ensures.ends;
})
