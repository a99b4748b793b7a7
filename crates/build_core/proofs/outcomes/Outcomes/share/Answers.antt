use Rattle.std.proofs.Common.{◌∙◌, sym, ap, Some}
use Rattle.std.specs.Arc.{arc_value}
use Rattle.std.specs.Option.{option_copied, option_map}
use Rattle.build_core.proofs.Taken.{found_mapped}
use Rattle.build_core.proofs.outcomes.Outcomes.share.Goals as goal

pub returns-in_ok-try_clone-in-Some : goal.returns-in_ok-try_clone-in-Some
returns-in_ok-try_clone-in-Some c =
    rw (← c.self.view_is) (ap (λ x. Some x) c.in_ok-try_clone-in-Some.ensures ∙ ap (option_map arc_value) (sym (ap option_copied c.in-Some.is) ∙ c.get.ensures.value)
    ∙ sym (found_mapped arc_value c.self.inside.shared.entries c.args.name.now))

pub returns-in-None : goal.returns-in-None
returns-in-None c =
    rw (← c.self.view_is) (ap (option_map arc_value) (sym (ap option_copied c.in-None.is) ∙ c.get.ensures.value) ∙ sym (found_mapped arc_value c.self.inside.shared.entries c.args.name.now))
