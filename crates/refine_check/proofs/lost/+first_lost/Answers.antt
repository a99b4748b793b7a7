use Rattle.std.proofs.Common.{rules, ◌∙◌, ap}
use Rattle.model_core.specs.Borrowed.{texts}
use Rattle.refine_check.proofs.Sets.{cut}
use Rattle.refine_check.proofs.lost.+first_lost.Goals as goal

pub first_lost-returns-in_ok-second-in-Binding-clause-bound : goal.first_lost-returns-in_ok-second-in-Binding-clause-bound
first_lost-returns-in_ok-second-in-Binding-clause-bound t c =
    ap texts c.truncate.ensures.items
    ∙ cut c.first_lost_in_types.new.bound.items c.first_lost_in_all-in-Binding.new.bound.items _ c.len-depth.result
    (c.in_ok-second-in-Binding.ensures.bound ∙ c.in_ok-add_bound-in-Binding.ensures) (search rules)
    ∙ c.in_ok-first-in-Binding.ensures.bound
