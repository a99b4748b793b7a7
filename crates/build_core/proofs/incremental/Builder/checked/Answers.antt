use Rattle.std.proofs.Common.{◌∙◌, sym, ap, Some}
use Rattle.std.specs.Prelude.{Ok}
use Rattle.std.specs.Option.{option_copied}
use Rattle.build_core.proofs.Nothing.{faulted_unchecked, absent_unchecked}
use Rattle.build_core.proofs.incremental.Builder.checked.Goals as goal

pub returns-in-Some-Ok-clause-checked : goal.returns-in-Some-Ok-clause-checked
returns-in-Some-Ok-clause-checked c =
    rw (← c.self.view_is) (c.self.invariant.judged.verdicts.sound c.args.name.now (Ok c.in-Some-Ok.checked)
    (sym c.get.ensures ∙ ap option_copied c.in-Some-Ok.is ∙ ap (λ x. Some x) c.in-Some-Ok.field-0-is))

pub returns-in-Some-Err-clause-none : goal.returns-in-Some-Err-clause-none
returns-in-Some-Err-clause-none c =
    rw (← c.self.view_is) (faulted_unchecked c.self.inside.texts.entries c.self.inside.outcomes c.self.invariant.judged c.args.name.now c.in-Some-Err.field-0-0
    (sym c.get.ensures ∙ ap option_copied c.in-Some-Err.is ∙ ap (λ x. Some x) c.in-Some-Err.field-0-is))

pub returns-in-None-clause-none : goal.returns-in-None-clause-none
returns-in-None-clause-none c =
    rw (← c.self.view_is) (absent_unchecked c.self.inside.texts.entries c.self.inside.outcomes c.self.invariant.judged c.args.name.now (sym c.get.ensures ∙ ap option_copied c.in-None.is))
