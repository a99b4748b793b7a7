use Rattle.std.proofs.Common.{◌≡◌, ◌++◌, ◌∷◌}
use Rattle.std.specs.Prelude.{string_bytes}
use Rattle.formula_core.proofs.Texts.{component_is_po_name}
use Rattle.formula_core.proofs.text.PoName.of_component.Goals as goal

pub invariant_of-result : goal.invariant_of-result
invariant_of-result c =
    let is : string_bytes c.add_part.new.text ≡ c.args.component.now ++ 47 ∷ c.args.kind.now =
    cc (
      c.in_ok-text.ensures.ok,
      c.as_text.ensures.text,
      c.in_ok-add_part.ensures,
    ) in
    rw is (component_is_po_name c.args.component.now c.args.kind.now c.as_text.ensures.name c.requires)
