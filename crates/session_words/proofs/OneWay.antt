-- A command says one thing, and commands one list of lines.
use Rattle.std.proofs.Common.{◌≡◌, inl, inr, List, [], ◌∷◌, refl, ap, sym, ◌∙◌}
use Rattle.std.specs.List.{AllZip}
use Rattle.sequent_core.specs.declared.hint.Hint.{Hint}
use Rattle.session_lines.specs.declared.command.Command.{Command}
use Rattle.session_lines.specs.declared.command.Command.TheVariants as command
use Rattle.core_steps.specs.declared.Event.TheVariants.{Step}
use Rattle.step_items.specs.declared.item.Item.{Item}
use Rattle.step_items.specs.Hints.{IsHint}
use Rattle.session_words.specs.declared.line.Line.{Line}
use Rattle.session_words.specs.declared.line.Line.TheVariants.{One}
use Rattle.session_words.specs.declared.said.Said.{Said}
use Rattle.session_words.specs.declared.said.Said.TheVariants.{AtOnce, OfItems}
use Rattle.session_words.specs.Says.{said, Means}
use Rattle.session_words.specs.Lines.{IsLine}

module _ (one_hint : (items : List Item) (a b : Hint) → IsHint items a → IsHint items b → a ≡ b) where
  one_meaning : (s : Said) (a b : Line) → Means s a → Means s b → a ≡ b
  one_meaning (AtOnce it) a b x y = x ∙ sym y
  one_meaning (OfItems name path kind items) a b (inl x) (inl y) =
      x.2 ∙ ap (λ hint. One (Step name path kind hint)) (one_hint items x.0 y.0 x.1 y.1) ∙ sym y.2
  one_meaning (OfItems name path kind items) a b (inl x) (inr y) = absurd (y.0 x.0 x.1)
  one_meaning (OfItems name path kind items) a b (inr x) (inl y) = absurd (x.0 y.0 y.1)
  one_meaning (OfItems name path kind items) a b (inr x) (inr y) = x.1 ∙ sym y.1

  pub one_line : (c : Command) (a b : Line) → IsLine c a → IsLine c b → a ≡ b
  one_line (command.Line bytes) a b x y = one_meaning (said bytes) a b x y
  one_line command.LineTooLong a b x y = x ∙ sym y
  one_line (command.Edit word text) a b x y = x ∙ sym y
  one_line command.CutEdit a b x y = x ∙ sym y

  pub one_list : (cs : List Command) (a b : List Line) → AllZip IsLine cs a → AllZip IsLine cs b → a ≡ b
  one_list [] [] [] x y = refl
  one_list [] [] (l ∷ b) x y = absurd y
  one_list [] (k ∷ a) b x y = absurd x
  one_list (c ∷ cs) [] b x y = absurd x
  one_list (c ∷ cs) (k ∷ a) [] x y = absurd y
  one_list (c ∷ cs) (k ∷ a) (l ∷ b) x y = ap (λ z. z ∷ a) (one_line c k l x.0 y.0) ∙ ap (λ zs. l ∷ zs) (one_list cs a b x.1 y.1)
