-- An edit is cut off only where the input ended.
use Rattle.std.proofs.Common.{◌≡◌, sym, subst, refl, ℕ, Bool, true, false, List, [], ◌∷◌, ◌++◌}
use Rattle.std.specs.Prelude.{Option, Some, None, nat_lt, length, codes, bytes_eq, if◌then◌else◌}
use Rattle.std.specs.List.{AllByRecursion}
use Rattle.core_steps.proofs.Alls.{all_last}
use Rattle.session_lines.specs.declared.Command.{Command}
use Rattle.session_lines.specs.declared.Command.TheVariants as command
use Rattle.session_lines.specs.Commands.{EditSoFar, Given, is_skipped, edited_word, opened_or_line, given, with_first, commands_of, commands_in, text_lines}
use Rattle.session_lines.specs.Words.{after_blanks}
use Rattle.session_words.specs.declared.Line.TheVariants.{CutEdit}
use Rattle.session_words.specs.Lines.{IsLine}
use Rattle.session_streams.specs.Reads.{IsNextLine}
use Rattle.session_ends.proofs.Users.{IsSaid, edited_said, line_said}

abbrev IsPlain : Command → Type 0
IsPlain command.CutEdit = ⊥
IsPlain c = Unit {0}

-- a plain command says no cut edit
not_cut : (c : Command) → IsPlain c → IsLine c CutEdit → ⊥
not_cut (command.Line bytes) plain is = line_said bytes CutEdit is
not_cut command.LineTooLong plain is = cc
not_cut (command.Edit word text) plain is = subst IsSaid (sym is) (edited_said word text)
not_cut command.CutEdit plain is = plain

abbrev IsPlainIf : Option Command → Type 0
IsPlainIf None = Unit {0}
IsPlainIf (Some c) = IsPlain c

abbrev GivesPlain : Given → Type 0
GivesPlain g = IsPlainIf g.command

if_plain : (b : Bool) (x y : Given) → GivesPlain x → GivesPlain y → GivesPlain (if b then x else y)
if_plain true x y p q = p
if_plain false x y p q = q

opened_plain : (line : List ℕ) (word : Option (List ℕ)) → GivesPlain (opened_or_line line word)
opened_plain line None = tt
opened_plain line (Some word) = tt

given_plain : (line : List ℕ) (edit : Option EditSoFar) → GivesPlain (given line edit)
given_plain line None =
    if_plain (is_skipped line) _ _ tt (if_plain (nat_lt 4096 (length line)) _ _ tt (opened_plain line (edited_word (after_blanks line))))
given_plain line (Some edit) = if_plain (bytes_eq line (codes ".")) _ _ tt tt

first_plain : (first : Option Command) (commands : List Command) → IsPlainIf first → AllByRecursion IsPlain commands → AllByRecursion IsPlain (with_first first commands)
first_plain None commands p all = all
first_plain (Some c) commands p all = (p, all)

-- while the input may go on all commands are plain
all_plain : (lines : List (List ℕ)) (edit : Option EditSoFar) → AllByRecursion IsPlain (commands_of false lines edit)
all_plain [] None = tt
all_plain [] (Some edit) = tt
all_plain (line ∷ lines) edit = first_plain (given line edit).command _ (given_plain line edit) (all_plain lines (given line edit).edit)

pub cut_at_end : (bytes : List ℕ) (ended : Bool) (before left : List Command) → commands_in bytes ended ≡ before ++ left → IsNextLine left CutEdit → ended ≡ true
cut_at_end bytes true before left is next = refl
cut_at_end bytes false before left is (c, rest, cons, says) =
    let all : AllByRecursion IsPlain (before ++ left) = subst (AllByRecursion IsPlain) is (all_plain (text_lines bytes false) None) in
    let last : AllByRecursion IsPlain (c ∷ rest) = subst (AllByRecursion IsPlain) cons (all_last IsPlain before left all) in
    absurd (not_cut c last.0 says)
