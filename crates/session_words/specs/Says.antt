-- What a line of words says.
use Rattle.std.specs.Prelude.{◌≡◌, ◌⊎◌, ℕ, ◌&&◌, List, [], ◌∷◌, map, Option, Some, None, bytes_eq, if◌then◌else◌}
use Rattle.std.specs.Option.{option_map, option_and_then}
use Rattle.std.specs.Str.{is_utf8}
use Rattle.formula_core.specs.Names.{is_name}
use Rattle.formula_core.specs.Texts.{is_po_name}
use Rattle.sequent_core.specs.declared.hint.Hint.{Hint}
use Rattle.session_lines.specs.Commands.{only_word}
use Rattle.session_lines.specs.Words.{after_blanks, first_word}
use Rattle.core_steps.specs.declared.Event.TheVariants.{Delete, Build, Step, Prune, Purge, Ask}
use Rattle.core_steps.specs.declared.Question.TheVariants as ask
use Rattle.step_items.specs.declared.item.Item.{Item}
use Rattle.step_items.specs.Hints.{IsHint}
use Rattle.step_items.specs.Items.{behind_first, written_items}
use Rattle.step_items.specs.Paths.{path_of}
use Rattle.rule_words.specs.RuleWords.{rule_named}
use Rattle.session_words.specs.declared.line.Line.{Line}
use Rattle.session_words.specs.declared.line.Line.TheVariants.{One, Auto, Wait, Refused, Quit}
use Rattle.session_words.specs.declared.line.LineFault.TheVariants.{BadCommand, BadName}
use Rattle.session_words.specs.declared.said.Said.{Said}
use Rattle.session_words.specs.declared.said.Said.TheVariants.{AtOnce, OfItems}
use Rattle.session_words.specs.declared.verbs.Verb.{Verb}
use Rattle.session_words.specs.declared.verbs.Verb.TheVariants as verb
use Rattle.session_words.specs.declared.verbs.TheConstants.{VERBS}

abbrev pub verbs : List (List ℕ × Verb)
verbs = map (λ row. (row.0.now, row.1)) VERBS

-- the command beside a word
abbrev pub verb_beside : List (List ℕ × Verb) → List ℕ → Option Verb
verb_beside [] word = None
verb_beside (row ∷ table) word = if bytes_eq row.0 word then Some row.1 else verb_beside table word

-- the command that the word names
abbrev pub verb_named : List ℕ → Option Verb
verb_named word = verb_beside verbs word

abbrev pub bad_command : Line
bad_command = Refused BadCommand

abbrev pub or_bad : Option Line → Line
or_bad (Some line) = line
or_bad None = bad_command

-- the line, where nothing follows
abbrev pub alone : Line → List ℕ → Line
alone line [] = line
alone line (c ∷ words) = bad_command

-- the word, where it is an obligation's name
abbrev pub po_of : List ℕ → Option (List ℕ)
po_of word = if is_utf8 word && is_po_name word then Some word else None

-- an obligation's name, and nothing more
abbrev pub only_po : List ℕ → Option (List ℕ)
only_po words = option_and_then po_of (only_word words)

-- a path, and nothing more
abbrev pub only_path : List ℕ → Option (List ℕ)
only_path words = option_and_then path_of (only_word words)

-- an obligation's name and a path, and nothing more
abbrev pub node_words : List ℕ → Option (List ℕ × List ℕ)
node_words words = option_and_then (λ name. option_map (λ path. (name, path)) (only_path (behind_first words))) (po_of (first_word words))

-- a component's name
abbrev pub deleted : List ℕ → Line
deleted word = if is_name word then One (Delete word) else Refused BadName

-- an obligation's name, and a path where a word follows
abbrev pub shown_at : List ℕ → List ℕ → Line
shown_at [] name = One (Ask (ask.Show name None))
shown_at (c ∷ words) name = or_bad (option_map (λ path. One (Ask (ask.Show name (Some path)))) (only_path (c ∷ words)))

abbrev pub shown : List ℕ → Line
shown words = or_bad (option_map (shown_at (behind_first words)) (po_of (first_word words)))

-- nothing beside a rule's kind
abbrev pub no_hint : Hint
no_hint = record { hyps = []; multipliers = []; names = []; terms = []; law = 0; place = [] }

-- a step, where each part of it is read
abbrev pub step_of : Option (List ℕ) → Option (List ℕ) → Option ℕ → Option (List Item) → Said
step_of (Some name) (Some path) (Some kind) (Some items) = OfItems name path kind items
step_of _ _ _ _ = AtOnce bad_command

-- an obligation's name, a path, the word of a rule, and items
abbrev pub stepped : List ℕ → Said
stepped words =
    let path = behind_first words in
    let kind = behind_first path in
    step_of (po_of (first_word words)) (path_of (first_word path)) (rule_named (first_word kind)) (written_items (behind_first kind))

-- a command by its word and what follows
abbrev pub spoken : Option Verb → List ℕ → Said
spoken None words = AtOnce bad_command
spoken (Some verb.Delete) words = AtOnce (or_bad (option_map deleted (only_word words)))
spoken (Some verb.Build) words = AtOnce (alone (One Build) words)
spoken (Some verb.Status) words = AtOnce (alone (One (Ask ask.Statuses)) words)
spoken (Some verb.Faults) words = AtOnce (alone (One (Ask ask.Faults)) words)
spoken (Some verb.Show) words = AtOnce (shown words)
spoken (Some verb.Tree) words = AtOnce (or_bad (option_map (λ name. One (Ask (ask.TreeOf name))) (only_po words)))
spoken (Some verb.Follows) words = AtOnce (or_bad (option_map (λ name. One (Ask (ask.Follows name))) (only_po words)))
spoken (Some verb.Step) words = stepped words
spoken (Some verb.Prune) words = AtOnce (or_bad (option_map (λ node. One (Prune node.0 node.1)) (node_words words)))
spoken (Some verb.Review) words = AtOnce (or_bad (option_map (λ node. One (Step node.0 node.1 23 no_hint)) (node_words words)))
spoken (Some verb.Auto) words = AtOnce (or_bad (option_map Auto (only_po words)))
spoken (Some verb.Wait) words = AtOnce (alone Wait words)
spoken (Some verb.Purge) words = AtOnce (alone (One Purge) words)
spoken (Some verb.Digest) words = AtOnce (alone (One (Ask ask.Digest)) words)
spoken (Some verb.Quit) words = AtOnce (alone Quit words)

-- what the bytes of a line say, before formulas are read
abbrev pub said : List ℕ → Said
said bytes = spoken (verb_named (first_word (after_blanks bytes))) (behind_first (after_blanks bytes))

-- A step is the event with the hint of its items. Where they give none, as where a formula isn't read, it is refused.
abbrev pub Means : Said → Line → Type 0
Means (AtOnce it) line = line ≡ it
Means (OfItems name path kind items) line =
    ((hint : Hint) × IsHint items hint × (line ≡ One (Step name path kind hint)))
    ⊎ (((hint : Hint) → IsHint items hint → ⊥) × (line ≡ bad_command))

-- The bytes of a line, which isn't skipped and is no edit, say this.
abbrev pub Says : List ℕ → Line → Type 0
Says bytes line = Means (said bytes) line
