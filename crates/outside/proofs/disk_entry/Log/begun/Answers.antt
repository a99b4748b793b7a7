use Rattle.std.proofs.Common.{◌≡◌, ◌∙◌, sym, length, vec_len, arith, rules}
use Rattle.std.proofs.lemmas.Bool.{false≢true}
use Rattle.outside.proofs.Stops.{without_sync, with_call, no_call}
use Rattle.outside.proofs.disk_entry.Log.begun.Goals as goal
use Rattle.outside.proofs.disk_entry.Log.begun.Goals.{in-Synced, in_default, else-count-gt0-via-then-count-gt0+else-matches, else-count-gt0-via-else-count-gt0}

pub returns-then-matches-clause-calls : goal.returns-then-matches-clause-calls
returns-then-matches-clause-calls c =
    let log = c.args.self.now in
    let size : vec_len log.entries ≡ length log.entries.items = search rules in
    elim c.match-matches.branch [
      | in-Synced w ↦ without_sync log.written.items log.entries.items c.args.call c.index.result.now c.if-count-gt0.true (omega (arith, size, c.if-call-kept.false, c.len-kept.ensures)) c.index.ensures w.in-Synced.side w.in-Synced.is
      | in_default w ↦ absurd (false≢true (sym w.matches-is ∙ c.if-matches.true))
    ]

pub returns-clause-calls : goal.returns-clause-calls
returns-clause-calls c =
    let log = c.args.self.now in
    let size : vec_len log.entries ≡ length log.entries.items = search rules in
    elim c.else-count-gt0.branch [
      | else-count-gt0-via-then-count-gt0+else-matches w ↦ with_call log.written.items log.entries.items c.args.call w.index.result.now w.if-count-gt0.true (omega (arith, size, c.if-call-kept.false, c.len-kept.ensures)) w.index.ensures (λ side is. elim w.match-matches.branch [ in-Synced v ↦ false≢true (sym w.if-matches.false ∙ v.matches-is) | in_default v ↦ v.in_default.not-Synced side is ])
      | else-count-gt0-via-else-count-gt0 w ↦ no_call log.written.items log.entries.items c.args.call (omega (arith, w.if-count-gt0.false))
    ]
