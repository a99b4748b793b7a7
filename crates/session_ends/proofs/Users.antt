-- What the lines of an input say: neither a take nor a finish, and none of them a cut edit.
use Rattle.std.proofs.Common.{inl, inr, sym, subst, ℕ, Bool, true, false, List, [], ◌∷◌}
use Rattle.std.specs.Prelude.{Option, Some, None, not, nat_lt, length, if◌then◌else◌}
use Rattle.std.specs.List.{AllByRecursion, AllZip}
use Rattle.std.specs.Option.{option_map}
use Rattle.std.specs.Str.{is_utf8}
use Rattle.formula_core.specs.Names.{is_name, is_identifier}
use Rattle.core_steps.specs.declared.Event.TheVariants.{Edit, Delete, Build, Step, Prune, Purge, Ask}
use Rattle.core_steps.specs.declared.Question.TheVariants as ask
use Rattle.session_lines.specs.declared.Command.{Command}
use Rattle.session_lines.specs.declared.Command.TheVariants as command
use Rattle.session_lines.specs.Commands.{only_word}
use Rattle.session_lines.specs.Words.{after_blanks, first_word}
use Rattle.step_items.specs.declared.Item.{Item}
use Rattle.step_items.specs.Items.{behind_first}
use Rattle.session_words.specs.declared.Line.{Line}
use Rattle.session_words.specs.declared.Line.TheVariants.{One, Auto, Wait, Refused, Quit, CutEdit}
use Rattle.session_words.specs.declared.LineFault.TheVariants.{BadName, TextTooLong, NotText}
use Rattle.session_words.specs.declared.said.Said.{Said}
use Rattle.session_words.specs.declared.said.Said.TheVariants.{AtOnce, OfItems}
use Rattle.session_words.specs.declared.Verb.{Verb}
use Rattle.session_words.specs.declared.Verb.TheVariants as verb
use Rattle.session_words.specs.Lines.{IsLine, edited}
use Rattle.session_words.specs.Says.{verb_named, or_bad, alone, only_po, only_path, node_words, po_of, deleted, shown_at, no_hint, step_of, spoken, said, Means}
use Rattle.session_run.specs.OneHistory.{IsUsersEvent, IsUsersLine}

-- THE WORDS OF A LINE

-- neither a take, a finish nor a cut edit
abbrev pub IsSaid : Line → Type 0
IsSaid (One event) = IsUsersEvent event
IsSaid CutEdit = ⊥
IsSaid line = Unit {0}

or_bad_said : {X : Type 0} (f : X → Line) → ((x : X) → IsSaid (f x)) → (o : Option X) → IsSaid (or_bad (option_map f o))
or_bad_said f each None = tt
or_bad_said f each (Some x) = each x

alone_said : (line : Line) (words : List ℕ) → IsSaid line → IsSaid (alone line words)
alone_said line [] users = users
alone_said line (c ∷ words) users = tt

if_said : (b : Bool) (x y : Line) → IsSaid x → IsSaid y → IsSaid (if b then x else y)
if_said true x y p q = p
if_said false x y p q = q

deleted_said : (word : List ℕ) → IsSaid (deleted word)
deleted_said word = if_said (is_name word) (One (Delete word)) (Refused BadName) tt tt

shown_said : (words name : List ℕ) → IsSaid (shown_at words name)
shown_said [] name = tt
shown_said (c ∷ words) name = or_bad_said (λ path. One (Ask (ask.Show name (Some path)))) (λ path. tt) (only_path (c ∷ words))

-- what is said is a user's line, or a step
abbrev AreSaid : Said → Type 0
AreSaid (AtOnce it) = IsSaid it
AreSaid (OfItems name path kind items) = Unit {0}

step_said : (a b : Option (List ℕ)) (c : Option ℕ) (d : Option (List Item)) → AreSaid (step_of a b c d)
step_said None b c d = tt
step_said (Some a) None c d = tt
step_said (Some a) (Some b) None d = tt
step_said (Some a) (Some b) (Some c) None = tt
step_said (Some a) (Some b) (Some c) (Some d) = tt

spoken_said : (v : Option Verb) (words : List ℕ) → AreSaid (spoken v words)
spoken_said None words = tt
spoken_said (Some verb.Delete) words = or_bad_said deleted deleted_said (only_word words)
spoken_said (Some verb.Build) words = alone_said (One Build) words tt
spoken_said (Some verb.Status) words = alone_said (One (Ask ask.Statuses)) words tt
spoken_said (Some verb.Faults) words = alone_said (One (Ask ask.Faults)) words tt
spoken_said (Some verb.Show) words = or_bad_said (shown_at (behind_first words)) (shown_said (behind_first words)) (po_of (first_word words))
spoken_said (Some verb.Tree) words = or_bad_said (λ name. One (Ask (ask.TreeOf name))) (λ name. tt) (only_po words)
spoken_said (Some verb.Follows) words = or_bad_said (λ name. One (Ask (ask.Follows name))) (λ name. tt) (only_po words)
spoken_said (Some verb.Step) words = step_said _ _ _ _
spoken_said (Some verb.Prune) words = or_bad_said (λ node. One (Prune node.0 node.1)) (λ node. tt) (node_words words)
spoken_said (Some verb.Review) words = or_bad_said (λ node. One (Step node.0 node.1 23 no_hint)) (λ node. tt) (node_words words)
spoken_said (Some verb.Auto) words = or_bad_said Auto (λ name. tt) (only_po words)
spoken_said (Some verb.Wait) words = alone_said Wait words tt
spoken_said (Some verb.Purge) words = alone_said (One Purge) words tt
spoken_said (Some verb.Digest) words = alone_said (One (Ask ask.Digest)) words tt
spoken_said (Some verb.Quit) words = alone_said Quit words tt

means_said : (it : Said) (line : Line) → AreSaid it → Means it line → IsSaid line
means_said (AtOnce one) line users is = subst IsSaid (sym is) users
means_said (OfItems name path kind items) line users (inl (hint, has, is)) = subst IsSaid (sym is) tt
means_said (OfItems name path kind items) line users (inr (none, is)) = subst IsSaid (sym is) tt

pub edited_said : (word text : List ℕ) → IsSaid (edited word text)
edited_said word text =
    if_said (not (is_identifier word)) (Refused BadName) _ tt
    (if_said (nat_lt 65536 (length text)) (Refused TextTooLong) _ tt
    (if_said (not (is_utf8 text)) (Refused NotText) (One (Edit word text)) tt tt))

pub line_said : (bytes : List ℕ) (line : Line) → IsLine (command.Line bytes) line → IsSaid line
line_said bytes line is = means_said (said bytes) line (spoken_said (verb_named (first_word (after_blanks bytes))) (behind_first (after_blanks bytes))) is

-- LINES OF A USER

is_users : (line : Line) → IsSaid line → IsUsersLine line
is_users (One event) is = is
is_users CutEdit is = absurd is
is_users line is = tt

pub line_users : (c : Command) (line : Line) → IsLine c line → IsUsersLine line
line_users (command.Line bytes) line is = is_users line (line_said bytes line is)
line_users command.LineTooLong line is = subst IsUsersLine (sym is) tt
line_users (command.Edit word text) line is = subst IsUsersLine (sym is) (is_users (edited word text) (edited_said word text))
line_users command.CutEdit line is = subst IsUsersLine (sym is) tt

pub lines_users : (commands : List Command) (lines : List Line) → AllZip IsLine commands lines → AllByRecursion IsUsersLine lines
lines_users [] [] all = tt
lines_users [] (line ∷ lines) all = absurd all
lines_users (c ∷ commands) [] all = absurd all
lines_users (c ∷ commands) (line ∷ lines) all = (line_users c line all.0, lines_users commands lines all.1)
