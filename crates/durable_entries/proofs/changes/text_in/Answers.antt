use Rattle.std.proofs.Common.{◌∙◌, sym, ap}
use Rattle.std.specs.FinMap.{find, get-entries}
use Rattle.core_steps.specs.Durable.{text_cmp}
use Rattle.durable_entries.proofs.Walking.{lookup_find}
use Rattle.durable_entries.proofs.changes.text_in.Goals as goal

pub returns : goal.returns
returns c = c.get.ensures.value ∙ lookup_find c.args.name.now c.texts.result.now.entries ∙ ap (find text_cmp c.args.name.now) (sym c.texts.ensures) ∙ sym (get-entries c.args.built.now c.args.name.now)
