use Rattle.std.proofs.Common.{◌≡◌, ◌++◌, ◌∷◌}
use Rattle.std.specs.Prelude.{string_bytes}
use Rattle.formula_core.proofs.Texts.{labelled_is_po_name}
use Rattle.formula_core.proofs.text.PoName.of_labelled.Goals as goal

pub invariant_of-result : goal.invariant_of-result
invariant_of-result c =
    let is : string_bytes c.add_part-2.new.text ≡ c.args.component.now ++ 47 ∷ c.args.label.now ++ 47 ∷ c.args.kind.now =
    cc (
      c.in_ok-text.ensures.ok,
      c.as_text.ensures.text,
      c.as_text-2.ensures.text,
      c.in_ok-add_part.ensures,
      c.in_ok-add_part-2.ensures,
    ) in
    rw is (labelled_is_po_name c.args.component.now c.args.label.now c.args.kind.now c.as_text.ensures.name c.as_text-2.ensures.label c.requires)
