use Rattle.std.proofs.Common.{◌<◌, length, subst, sym, ap, ◌∙◌}
use Rattle.std.specs.Prelude.{MatchOption}
use Rattle.session_lines.specs.Commands.{given}
use Rattle.session_lines.specs.Private.{Unread, IsFirstLine, left_behind, edit_seen, unread}
use Rattle.session_lines.specs.Reading.{Fed, IsSameReading, GivesCommand}
use Rattle.session_lines.proofs.Readings.{fewer_left, line_read}
use Rattle.session_lines.proofs.input.Input.read.Goals as goal

pub returns-clause-given : goal.returns-clause-given
returns-clause-given c =
    let old : Fed = record { left = c.self.inside.lines.left; ended = c.self.inside.lines.ended; edit = edit_seen c.self.inside.edit } in
    let new : Fed = record { left = c.skip.new.self.left; ended = c.skip.new.self.ended; edit = edit_seen c.given.new.edit } in
    let first = subst (λ (f : Fed). IsFirstLine (unread f) c.args.found) (sym c.self.view_is) c.requires in
    let read = line_read old c.args.found c.in_ok-command.command (edit_seen c.given.new.edit) first
    (c.in_ok-command.ensures.given ∙ ap (λ l. given l (edit_seen c.self.inside.edit)) c.line.ensures) in
    let moved = subst (λ (u : Unread). let n : Fed = record { left = u.left; ended = u.ended; edit = edit_seen c.given.new.edit } in
    MatchOption c.in_ok-command.command (IsSameReading old n) (λ command. GivesCommand old command n)) (sym c.skip.ensures) read in
    subst (λ (f : Fed). MatchOption c.in_ok-command.command (IsSameReading f new) (λ command. GivesCommand f command new)) c.self.view_is moved

pub returns-clause-less : goal.returns-clause-less
returns-clause-less c =
    let old : Fed = record { left = c.self.inside.lines.left; ended = c.self.inside.lines.ended; edit = edit_seen c.self.inside.edit } in
    let first = subst (λ (f : Fed). IsFirstLine (unread f) c.args.found) (sym c.self.view_is) c.requires in
    subst (λ (u : Unread). length u.left < length c.args.self.now.left) (sym c.skip.ensures)
    (subst (λ (f : Fed). length (left_behind c.self.inside.lines.left c.args.found) < length f.left) c.self.view_is (fewer_left old c.args.found first))
