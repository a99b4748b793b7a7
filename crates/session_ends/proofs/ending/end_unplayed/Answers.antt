use Rattle.std.proofs.Common.{◌≡◌, ◌∙◌, ap, subst}
use Rattle.std.specs.Option.{option_map}
use Rattle.session_streams.specs.Streams.{writing}
use Rattle.session_streams.specs.declared.ReadEnd.TheVariants.{OutOfMemory}
use Rattle.session_talk.specs.declared.Ending.TheVariants.{Read}
use Rattle.session_ends.specs.Private.{status_at, ending_line}
use Rattle.session_ends.specs.Written.{WritesOrFails}
use Rattle.project_store.proofs.Stood.{stood_since}
use Rattle.session_ends.proofs.Whole.{moved, nothing_played}
use Rattle.session_ends.proofs.ending.end_unplayed.Goals as goal

pub returns : goal.returns
returns g c workers old left lost opens opening =
    let before = g.O.Sink.written c.args.output.now in
    let after = g.O.Sink.written c.close_session.new.output in
    let f = g.O.Sink.faults c.args.output.now in
    let h = g.O.Sink.faults c.close_session.new.output in
    let status : c.close_session.result.status ≡ 9 = c.close_session.ensures.status ∙ ap (λ k. status_at (Read OutOfMemory) (option_map (λ z. z.fault) k)) c.requires.begun.2 in
    moved g.D.Disk.told g.D.Disk.bytes_of g.D.Disk.images g.D.Disk.clock g.D.Disk.moments g.D.Disk.faults _ _ workers old _ _ _ _ _ _ _ _ _ _
    c.close_session.ensures.disk status c.close_session.ensures.history c.close_session.ensures.last
    (nothing_played g.D.Disk.told g.D.Disk.bytes_of g.D.Disk.images g.D.Disk.clock g.D.Disk.moments g.D.Disk.faults _ _ workers c.args.store c.close_session.ensures.facts c.close_session.ensures.rests
    c.requires.begun.0 c.requires.begun.1 c.requires.begun.2 left lost before after f h
    (subst (λ k. WritesOrFails (writing before after f h) (ending_line (Read OutOfMemory) (option_map (λ z. z.fault) k))) c.requires.begun.2 c.close_session.ensures.written)
    c.close_session.ensures.later old opens
    (λ t. stood_since g.D.Disk.clock g.D.Disk.moments _ _ _ g.D.Disk.images old (opening t) c.args.store (c.close_session.ensures.any_moment c.requires.known t)))
