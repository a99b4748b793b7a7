-- What a line says, by what was read of it.
use Rattle.std.proofs.Common.{◌≡◌, ℕ, List, refl, sym, ap, ◌∙◌, subst}
use Rattle.std.specs.Prelude.{Result, IfOk}
use Rattle.session_lines.specs.declared.command.Command.{Command}
use Rattle.session_lines.specs.declared.command.Command.TheVariants as command
use Rattle.step_items.specs.declared.item.Item.{Item}
use Rattle.session_words.specs.declared.line.Line.{Line}
use Rattle.session_words.specs.declared.said.Said.{Said}
use Rattle.session_words.specs.declared.said.Said.TheVariants.{AtOnce, OfItems}
use Rattle.session_words.specs.Says.{said, Says, Means}
use Rattle.session_words.specs.Lines.{edited, IsLine}

-- a line at once
at_once : (line : Line) → Means (AtOnce line) line
at_once line = refl

pub means_at_once : (s : Said) (line : Line) → s ≡ AtOnce line → Means s line
means_at_once s line is = subst (λ s. Means s line) (sym is) (at_once line)

-- a step by its items
pub means_step : {E : Type 0} (s : Said) (name path : List ℕ) (kind : ℕ) (items : List Item) (answer : Result Line E) →
    s ≡ OfItems name path kind items → IfOk answer (λ line. Means (OfItems name path kind items) line) → IfOk answer (λ line. Means s line)
means_step s name path kind items answer is given = subst (λ s. IfOk answer (λ line. Means s line)) (sym is) given

pub means_items : {E : Type 0} (name path : List ℕ) (kind : ℕ) (seen items : List Item) (answer : Result Line E) →
    seen ≡ items → IfOk answer (λ line. Means (OfItems name path kind seen) line) → IfOk answer (λ line. Means (OfItems name path kind items) line)
means_items name path kind seen items answer same given = subst (λ xs. IfOk answer (λ line. Means (OfItems name path kind xs) line)) same given

-- what the bytes of a line say
pub says : {E : Type 0} (bytes : List ℕ) (s : Said) (answer : Result Line E) → s ≡ said bytes → IfOk answer (λ line. Means s line) → IfOk answer (λ line. Says bytes line)
says bytes s answer is given = subst (λ s. IfOk answer (λ line. Means s line)) is given

-- the line of a command
pub of_line : {E : Type 0} (c : Command) (bytes seen : List ℕ) (answer : Result Line E) → c ≡ command.Line bytes → seen ≡ bytes →
    IfOk answer (λ line. Says seen line) → IfOk answer (λ line. IsLine c line)
of_line c bytes seen answer is same given =
    subst (λ c. IfOk answer (λ line. IsLine c line)) (sym is) (subst (λ b. IfOk answer (λ line. Says b line)) same given)

pub of_edit : {E : Type 0} (c : Command) (word text word_seen text_seen : List ℕ) (answer : Result Line E) → c ≡ command.Edit word text →
    word_seen ≡ word → text_seen ≡ text → IfOk answer (λ line. line ≡ edited word_seen text_seen) → IfOk answer (λ line. IsLine c line)
of_edit c word text word_seen text_seen answer is one two given =
    subst (λ c. IfOk answer (λ line. IsLine c line)) (sym is)
    (subst (λ w. IfOk answer (λ line. line ≡ edited w text)) one (subst (λ t. IfOk answer (λ line. line ≡ edited word_seen t)) two given))
