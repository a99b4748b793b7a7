use Rattle.std.proofs.Common.{◌≡◌, ◌∙◌, ◌++◌, ap, sym, subst, OnOk}
use Rattle.std.specs.Map.{keys_of}
use Rattle.po_rules.specs.Parts.{new_values}
use Rattle.model_core.specs.Borrowed.{texts}
use Rattle.po_refine.proofs.Named.{targets_named}
use Rattle.po_refine.proofs.targets.add_targets.Goals as goal

pub returns-in-ChooseSuch : goal.returns-in-ChooseSuch
returns-in-ChooseSuch c =
    subst (λ names. OnOk c.add_typed.result (texts c.add_typed.new.found.items ≡ texts c.args.found.now.items ++ names))
    (ap keys_of c.items-in-ChooseSuch.ensures ∙ targets_named c.in-ChooseSuch.targets c.in-ChooseSuch.field-1 ∙ ap (λ a. keys_of (new_values a)) (sym c.in-ChooseSuch.is))
    c.add_typed.ensures
