use Rattle.std.proofs.Common.{◌≡◌, ◌∙◌, ◌∷◌, ◌++◌, [], ap, subst}
use Rattle.component_text.specs.PrivateReading.{AddsNames}
use Rattle.component_text.proofs.Components.{some_names_none, some_names_read}
use Rattle.component_text.proofs.parse.some_names.Goals as goal

pub returns-in_default : goal.returns-in_default
returns-in_default c = some_names_none c.args.cursor.now c.name.new.self (rw c.in_default.is at c.in_ok-first.ensures)

pub returns : goal.returns
returns c =
    let one = rw c.in-Some.is at c.in_ok-first.ensures in
    let front : c.push.new.self.items ≡ c.in-Some.first ∷ [] = c.in_ok-push.ensures.items ∙ ap (λ xs. xs ++ c.in-Some.first ∷ []) c.new-names.ensures.items in
    rw c.of.ensures
    (some_names_read c.args.cursor.now c.name.new.self c.add_names.new.cursor c.in-Some.first c.add_names.new.names.items one
    (subst (λ ys. AddsNames ys c.add_names.new.names.items c.name.new.self c.add_names.new.cursor) front c.in_ok-add_names.ensures))
