-- What calls of a reader have read, whatever comes.
use Rattle.std.proofs.Common.{◌≡◌, ℕ, Bool, true, false, List, [], ◌∷◌, ◌++◌, refl, sym, ap, ◌∙◌, subst, append_assoc}
use Rattle.std.proofs.lemmas.List.{append-nil}
use Rattle.std.specs.List.{AllZip}
use Rattle.std.specs.Option.{option_to_list}
use Rattle.session_lines.specs.declared.command.Command.{Command}
use Rattle.session_lines.specs.Commands.{text_lines, commands_of, commands_in}
use Rattle.session_lines.specs.Reading.{MayCome}
use Rattle.session_words.specs.declared.line.Line.{Line}
use Rattle.session_words.specs.Lines.{IsLine, AreLines}
use Rattle.session_words.specs.Reading.{Left, commands_left, KeepsLines, GivesLine, GivesNoLine, ReadsLines, begins, is_fed, ends, gives, keeps}

-- the commands of the lines that were given, and what is left, are those of the bytes that were fed, whatever comes
pub record HasRead (bytes : List ℕ) (lines : List Line) (left : Left) : Type 0 where
  pub commands : List Command
  pub say : AllZip IsLine commands lines
  pub same : (more : List ℕ) (ended : Bool) → MayCome left.fed.ended more ended → commands_in (bytes ++ more) ended ≡ commands ++ commands_left left more ended

one_more : (cs : List Command) (ls : List Line) (c : Command) (l : Line) → AllZip IsLine cs ls → IsLine c l → AllZip IsLine (cs ++ c ∷ []) (ls ++ l ∷ [])
one_more [] [] c l h x = (x, tt)
one_more [] (k ∷ ls) c l h x = absurd h
one_more (b ∷ cs) [] c l h x = absurd h
one_more (b ∷ cs) (k ∷ ls) c l h x = (h.0, one_more cs ls c l h.1 x)

still_open : (ended : Bool) (more : List ℕ) (e : Bool) → ended ≡ false → MayCome ended more e
still_open ended more e goes_on is = let no_end : true ≡ false = sym is ∙ goes_on in cc

fed_more : (bytes piece : List ℕ) (lines : List Line) (old : Left) → old.fed.ended ≡ false → HasRead bytes lines old →
    HasRead (bytes ++ piece) lines (record old { fed = record old.fed { left = old.fed.left ++ piece } })
fed_more bytes piece lines old goes_on r = record {
  commands = r.commands;
  say = r.say;
  same = λ more e may.
      ap (λ l. commands_in l e) (append_assoc bytes piece more)
      ∙ r.same (piece ++ more) e (still_open old.fed.ended (piece ++ more) e goes_on)
      ∙ ap (λ l. r.commands ++ (option_to_list old.held ++ commands_of e (text_lines l e) old.fed.edit)) (sym (append_assoc old.fed.left piece more));
}

given_one : (bytes : List ℕ) (lines : List Line) (line : Line) (old new : Left) → GivesLine old line new → HasRead bytes lines old → HasRead bytes (lines ++ line ∷ []) new
given_one bytes lines line old new g r = record {
  commands = r.commands ++ g.command ∷ [];
  say = one_more r.commands lines g.command line r.say g.line_is;
  same = λ more e may.
      r.same more e (λ h. may (g.ended ∙ h))
      ∙ ap (λ cs. r.commands ++ cs) (g.commands more e (λ h. may (g.ended ∙ h)))
      ∙ sym (append_assoc r.commands (g.command ∷ []) (commands_left new more e));
}

kept_all : (bytes : List ℕ) (lines : List Line) (old new : Left) → KeepsLines old new → HasRead bytes lines old → HasRead bytes lines new
kept_all bytes lines old new k r = record {
  commands = r.commands;
  say = r.say;
  same = λ more e may. r.same more e (λ h. may (k.ended ∙ h)) ∙ ap (λ cs. r.commands ++ cs) (k.commands more e (λ h. may (k.ended ∙ h)));
}

pub has_read : {bytes : List ℕ} {lines : List Line} {left : Left} → ReadsLines bytes lines left → HasRead bytes lines left
has_read begins = record { commands = []; say = tt; same = λ more e may. refl }
has_read (is_fed {bytes} {lines} {old} piece before goes_on) = fed_more bytes piece lines old goes_on (has_read before)
has_read (ends before) = let r = has_read before in record { commands = r.commands; say = r.say; same = λ more e may. r.same more e (λ h. may refl) }
has_read (gives {bytes} {lines} {old} line new before given) = given_one bytes lines line old new given (has_read before)
has_read (keeps {bytes} {lines} {old} new before kept) = kept_all bytes lines old new kept (has_read before)

-- where no line is left, those that were given are the lines of the bytes
pub all_given : (bytes : List ℕ) (lines : List Line) (left new : Left) → ReadsLines bytes lines left → GivesNoLine left new → AreLines bytes left.fed.ended lines
all_given bytes lines left new reads none =
    let r : HasRead bytes lines left = has_read reads in
    let whole : commands_in bytes left.fed.ended ≡ r.commands =
    ap (λ l. commands_in l left.fed.ended) (sym (append-nil bytes)) ∙ r.same [] left.fed.ended (λ h. (refl, h))
    ∙ ap (λ cs. r.commands ++ cs) none.none ∙ append-nil r.commands in
    subst (λ cs. AllZip IsLine cs lines) (sym whole) r.say
