use Rattle.std.proofs.Common.{◌≡◌, ◌++◌, ◌∷◌}
use Rattle.std.specs.Prelude.{string_bytes}
use Rattle.formula_core.proofs.Texts.{event_part_is_po_name}
use Rattle.formula_core.proofs.text.PoName.of_event_part.Goals as goal

pub invariant_of-result : goal.invariant_of-result
invariant_of-result c =
    let is : string_bytes c.add_part-3.new.text ≡ c.args.component.now ++ 47 ∷ c.args.event.now ++ 47 ∷ c.args.part.now ++ 47 ∷ c.args.kind.now =
    cc (
      c.in_ok-text.ensures.ok,
      c.as_text.ensures.text,
      c.as_text-2.ensures.text,
      c.in_ok-add_part.ensures,
      c.in_ok-add_part-2.ensures,
      c.in_ok-add_part-3.ensures,
    ) in
    rw is (event_part_is_po_name c.args.component.now c.args.event.now c.args.part.now c.args.kind.now c.as_text.ensures.name c.as_text-2.ensures.name c.requires.part c.requires.kind)
