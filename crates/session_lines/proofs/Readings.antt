-- What the calls of a reader do, one after another.
use Rattle.std.proofs.Common.{◌≡◌, ◌≢◌, ℕ, ◌+◌, zero, suc, ◌-◌, ◌<◌, Bool, true, false, List, [], ◌∷◌, ◌++◌, length, take, drop, refl, sym, ap, ◌∙◌, subst, arith}
use Rattle.std.proofs.lemmas.List.{length-drop}
use Rattle.std.specs.Prelude.{Option, Some, None, MatchOption}
use Rattle.session_lines.specs.declared.command.Command.{Command}
use Rattle.session_lines.specs.declared.command.Command.TheVariants.{CutEdit}
use Rattle.session_lines.specs.declared.lines.Found.{Found}
use Rattle.session_lines.specs.declared.lines.Found.TheVariants.{Ended, Last}
use Rattle.session_lines.specs.Commands.{EditSoFar, Given, given, with_first, text_lines, commands_of}
use Rattle.session_lines.specs.Private.{Unread, IsFirstLine, HasNoLine, line_at, left_behind, unread}
use Rattle.session_lines.specs.Reading.{Fed, MayCome, commands_with, IsSameReading, GivesCommand, GivesNone}
use Rattle.session_lines.proofs.Cuts.{first_comes, none_comes}

pub same_reading : (a : Fed) → IsSameReading a a
same_reading a = record { ended = refl; commands = λ more e may. refl }

moves_on : (a b : Fed) (more : List ℕ) (e : Bool) → b.ended ≡ a.ended → MayCome a.ended more e → MayCome b.ended more e
moves_on a b more e same may is = may (sym same ∙ is)

pub same_then : (a b c : Fed) → IsSameReading a b → IsSameReading b c → IsSameReading a c
same_then a b c p q = record { ended = q.ended ∙ p.ended; commands = λ more e may. p.commands more e may ∙ q.commands more e (moves_on a b more e p.ended may) }

same_gives : (a b c : Fed) (command : Command) → IsSameReading a b → GivesCommand b command c → GivesCommand a command c
same_gives a b c command p q = record { ended = q.ended ∙ p.ended; commands = λ more e may. p.commands more e may ∙ q.commands more e (moves_on a b more e p.ended may) }

same_none : (a b c : Fed) → IsSameReading a b → GivesNone b c → GivesNone a c
same_none a b c p q = record {
  none = p.commands [] a.ended (λ is. (refl, is)) ∙ ap (commands_with b []) (sym p.ended) ∙ q.none;
  same = same_then a b c p q.same;
}

pub then_read : (a b c : Fed) (r : Option Command) → IsSameReading a b →
    MatchOption r (GivesNone b c) (λ command. GivesCommand b command c) → MatchOption r (GivesNone a c) (λ command. GivesCommand a command c)
then_read a b c None same m = same_none a b c same m
then_read a b c (Some command) same m = same_gives a b c command same m

-- A LINE

-- behind the first line
abbrev behind_line : Fed → Found → Option EditSoFar → Fed
behind_line a found edit = record { left = left_behind a.left found; ended = a.ended; edit = edit }

line_comes : (a : Fed) (found : Found) → IsFirstLine (unread a) found → (more : List ℕ) (e : Bool) → MayCome a.ended more e →
    commands_with a more e ≡ with_first (given (line_at a.left found) a.edit).command (commands_with (behind_line a found (given (line_at a.left found) a.edit).edit) more e)
line_comes a found first more e may = ap (λ ls. commands_of e ls a.edit) (first_comes a.left a.ended found first more e may)

pub line_read : (a : Fed) (found : Found) (r : Option Command) (edit : Option EditSoFar) → IsFirstLine (unread a) found →
    record { command = r; edit = edit } ≡ given (line_at a.left found) a.edit →
    MatchOption r (IsSameReading a (behind_line a found edit)) (λ command. GivesCommand a command (behind_line a found edit))
line_read a found None edit first is = record {
  ended = refl;
  commands = λ more e may. line_comes a found first more e may ∙ ap (λ (g : Given). with_first g.command (commands_with (behind_line a found g.edit) more e)) (sym is);
}
line_read a found (Some command) edit first is = record {
  ended = refl;
  commands = λ more e may. line_comes a found first more e may ∙ ap (λ (g : Given). with_first g.command (commands_with (behind_line a found g.edit) more e)) (sym is);
}

pub fewer_left : (a : Fed) (found : Found) → IsFirstLine (unread a) found → length (left_behind a.left found) < length a.left
fewer_left a (Ended at) first = omega (arith, first.0, length-drop (at + 1) a.left)
fewer_left a Last first = by a.left first.1 where
  by : (left : List ℕ) → left ≢ [] → 0 < length left
  by [] some = absurd (some refl)
  by (b ∷ left) some = omega arith

-- THE END

pub none_left : (a : Fed) → HasNoLine (unread a) → commands_with a [] a.ended ≡ commands_of a.ended [] a.edit
none_left a none = ap (λ ls. commands_of a.ended ls a.edit) (none_comes a.left a.ended none)

rests : (a : Fed) → HasNoLine (unread a) → commands_of a.ended [] a.edit ≡ [] → GivesNone a a
rests a none nothing = record { none = none_left a none ∙ nothing; same = same_reading a }

pub rests_open : (a : Fed) → HasNoLine (unread a) → a.ended ≡ false → GivesNone a a
rests_open a none is_open = rests a none (ap (λ e. commands_of e [] a.edit) is_open ∙ by a.edit) where
  by : (edit : Option EditSoFar) → commands_of false [] edit ≡ []
  by None = refl
  by (Some edit) = refl

pub rests_closed : (a : Fed) → HasNoLine (unread a) → a.edit ≡ None → GivesNone a a
rests_closed a none closed = rests a none (ap (commands_of a.ended []) closed)

pub cuts : (a : Fed) (edit : EditSoFar) → HasNoLine (unread a) → a.ended ≡ true → a.edit ≡ Some edit →
    GivesCommand a CutEdit (record { left = a.left; ended = a.ended; edit = None })
cuts a edit none ended is_open = record {
  ended = refl;
  commands = λ more e may. let m = may ended in
      ap (λ l. commands_with a l e) m.0 ∙ ap (commands_with a []) (m.1 ∙ sym ended) ∙ none_left a none
      ∙ ap (λ t. commands_of t [] a.edit) ended ∙ ap (commands_of true []) is_open
      ∙ ap (λ l. CutEdit ∷ l) (sym (ap (λ l. commands_with (record { left = a.left; ended = a.ended; edit = None }) l e) m.0
      ∙ ap (commands_with (record { left = a.left; ended = a.ended; edit = None }) []) (m.1 ∙ sym ended)
      ∙ ap (λ ls. commands_of a.ended ls None) (none_comes a.left a.ended none)));
}
