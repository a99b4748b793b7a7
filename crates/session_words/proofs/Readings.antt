-- What the calls of a reader do, one after another.
use Rattle.std.proofs.Common.{◌≡◌, ℕ, Bool, List, [], ◌∷◌, ◌++◌, refl, sym, ap, ◌∙◌, true, false}
use Rattle.std.specs.Prelude.{Option, Some, None, MatchOption}
use Rattle.std.specs.Option.{is_some, option_to_list}
use Rattle.session_lines.specs.declared.command.Command.{Command}
use Rattle.session_lines.specs.Reading.{Fed, MayCome, commands_with, IsSameReading, GivesCommand, GivesNone}
use Rattle.session_words.specs.declared.line.Line.{Line}
use Rattle.session_words.specs.Private.{IsLineOf}
use Rattle.session_words.specs.Reading.{Left, commands_left, KeepsLines, GivesLine, GivesNoLine}

pub kept : (a : Left) → KeepsLines a a
kept a = record { ended = refl; commands = λ more e may. refl }

abbrev pub left_of : Option Command → Fed → Left
left_of held fed = record { held = held; fed = fed }

abbrev pub Held : Left → Left → Type 0
Held a b = MatchOption b.held (GivesNoLine a b) (λ command. KeepsLines a b)

-- a command is held already
pub holds_already : (a : Left) → is_some a.held ≡ true → Held a a
holds_already a some = by a.held some where
  by : (o : Option Command) → is_some o ≡ true → MatchOption o (GivesNoLine a a) (λ command. KeepsLines a a)
  by None is = cc
  by (Some command) is = kept a

reads : (a b : Fed) (read : Option Command) → MatchOption read (GivesNone a b) (λ command. GivesCommand a command b) →
    MatchOption read (GivesNoLine (left_of None a) (left_of read b)) (λ command. KeepsLines (left_of None a) (left_of read b))
reads a b None given = record { none = given.none; keeps = record { ended = given.same.ended; commands = given.same.commands } }
reads a b (Some command) given = record { ended = given.ended; commands = given.commands }

-- a command is read and held, or none is whole
pub holds : (held : Option Command) (a b : Fed) (read : Option Command) → is_some held ≡ false → MatchOption read (GivesNone a b) (λ command. GivesCommand a command b) →
    MatchOption read (GivesNoLine (left_of held a) (left_of read b)) (λ command. KeepsLines (left_of held a) (left_of read b))
holds None a b read none given = reads a b read given
holds (Some command) a b read none given = cc

-- where memory ran out, the same command comes next
pub holds_none : (held : Option Command) (a b : Fed) → IsSameReading a b → KeepsLines (left_of held a) (left_of held b)
holds_none held a b same = record { ended = same.ended; commands = λ more e may. ap (λ cs. option_to_list held ++ cs) (same.commands more e may) }

-- in each case the lines are kept
pub keeps_held : (a b : Left) → Held a b → KeepsLines a b
keeps_held a b = by b.held where
  by : (o : Option Command) → MatchOption o (GivesNoLine a b) (λ command. KeepsLines a b) → KeepsLines a b
  by None none = none.keeps
  by (Some command) keeps = keeps

-- the line of the command that is held
gives_by : (a : Left) (b : Fed) (held : Option Command) (line : Option Line) → MatchOption held (GivesNoLine a (left_of held b)) (λ command. KeepsLines a (left_of held b)) →
    IsLineOf held line → MatchOption line (GivesNoLine a (left_of None b)) (λ line. GivesLine a line (left_of None b))
gives_by a b None None none says = none
gives_by a b None (Some line) none says = absurd says
gives_by a b (Some command) None keeps says = absurd says
gives_by a b (Some command) (Some line) keeps says = record { ended = keeps.ended; command = command; line_is = says; commands = keeps.commands }

pub gives : (a b : Left) (line : Option Line) → Held a b → IsLineOf b.held line →
    MatchOption line (GivesNoLine a (record b { held = None })) (λ line. GivesLine a line (record b { held = None }))
gives a b line = gives_by a b.fed b.held line
