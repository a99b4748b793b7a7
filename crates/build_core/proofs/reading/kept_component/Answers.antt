use Rattle.std.proofs.Common.{◌∙◌, sym, ap}
use Rattle.std.specs.Arc.{arc_value}
use Rattle.std.specs.Option.{option_copied}
use Rattle.build_core.proofs.Listed.{read_again}
use Rattle.build_core.proofs.reading.kept_component.Goals as goal

pub share-requires : goal.share-requires
share-requires c = (c.requires.indexed.place c.args.name.now c.in-Some.place.now (sym c.get.ensures.value ∙ ap option_copied c.in-Some.is)).0

pub returns-in_ok-component-in-Some : goal.returns-in_ok-component-in-Some
returns-in_ok-component-in-Some c =
    read_again c.args.before.now.texts.now.entries c.args.before.now.components.now c.args.before.now.index.now.entries c.requires c.args.name.now c.args.text.now c.in-Some.place.now
    (arc_value c.in_ok-component-in-Some.component) (sym c.is_unchanged.ensures ∙ c.if-not-is_unchanged.false) (sym c.get.ensures.value ∙ ap option_copied c.in-Some.is) c.in_ok-component-in-Some.ensures
