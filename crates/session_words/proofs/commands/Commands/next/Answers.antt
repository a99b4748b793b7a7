use Rattle.std.proofs.Common.{sym, subst}
use Rattle.std.specs.Prelude.{MatchOption}
use Rattle.session_words.specs.Reading.{Left, GivesLine, GivesNoLine}
use Rattle.session_words.proofs.Readings.{gives}
use Rattle.session_words.proofs.commands.Commands.next.Goals as goal

pub returns-clause-given : goal.returns-clause-given
returns-clause-given c =
    subst (λ (new : Left). MatchOption c.in_ok-line.line (GivesNoLine c.args.self.now new) (λ line. GivesLine c.args.self.now line new)) (sym c.let_go.ensures)
    (gives c.args.self.now c.hold.new.self c.in_ok-line.line c.in_ok-hold.ensures.held c.in_ok-line.ensures)
